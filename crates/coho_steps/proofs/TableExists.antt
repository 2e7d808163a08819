-- A consistent presentation has the multiplication table of its group.
use Rattle.std.proofs.Common.{◌≡◌, ◌∙◌, ℕ, ◌+◌, ◌*◌, ◌/◌, ◌%◌, ◌^◌, ◌<◌, get_or, None, refl, sym, ap, subst}
use Rattle.std.proofs.Common.{arith}
use Rattle.std.proofs.lemmas.Nat.{div-mul-add, mod-mul-add}
use Rattle.group_table.specs.Groups.{IsGroup}
use Rattle.group_table.specs.Tables.{GroupTable, IsTable, IsGroupTable, order, order_is, product, product_is}
use Rattle.linear_algebra.specs.Modular.{IsSmallPrime}
use Rattle.linear_algebra.proofs.Tables.{entry-table, length-table, table as values}
use Rattle.power_commutator.specs.Claims.{GroupClaims, table}
use Rattle.power_commutator.specs.Presentations.{Presentation, IsPresentation, first_fault}
use Rattle.power_commutator.proofs.Result.{claims}
use Rattle.pc_group.specs.GroupOf.{IsGroupOf}
use Rattle.pc_group.proofs.GroupTables.{group-same}
use Rattle.p_groups.specs.PGroups.{PGroup}
use Rattle.coho_steps.specs.Groups.{IsTableOf}

module _ (P : Presentation) (C : GroupClaims P) where
  abbrev size : ℕ
  size = P.prime ^ P.gens

  entry-at : ℕ → ℕ
  entry-at k = table P (k / size) (k % size)

  G : GroupTable
  G = record { p = P.prime; n = P.gens; entries = values (size * size) entry-at }

  order-of : order G ≡ size
  unfolding G
  order-of = order_is G

  place-below : (a b : ℕ) → a < size → b < size → a * size + b < size * size
  place-below a b l m = grind arith

  quotient : (a b : ℕ) → b < size → (a * size + b) / size ≡ a
  quotient a b l = div-mul-add a size b l

  remainder : (a b : ℕ) → b < size → (a * size + b) % size ≡ b
  remainder a b l = mod-mul-add a size b l

  product-of : (a b : ℕ) → a < size → b < size → product G a b ≡ table P a b
  unfolding G entry-at
  product-of a b l m =
      product_is G a b
      ∙ ap (λ n. get_or G.entries (a * n + b) 0) order-of
      ∙ entry-table (size * size) entry-at (a * size + b) (place-below a b l m)
      ∙ ap (λ k. table P k ((a * size + b) % size)) (quotient a b m)
      ∙ ap (table P a) (remainder a b m)

  is-group : IsGroupTable G
  is-group = subst (λ m. IsGroup m (product G)) (sym order-of)
      (group-same size (table P) (product G) product-of C.table-group)

  is-table : IsTable G
  unfolding G
  is-table = record {
    size = length-table (size * size) entry-at ∙ sym (ap (λ m. m * m) order-of);
    closed = is-group.closed;
  }

  is-group-of : IsGroupOf P G
  unfolding G
  is-group-of = record {
    prime-is = refl;
    rank-is = refl;
    group = is-group;
    product-is = λ a b h k. let e = order-of in product-of a b (omega (arith, e, h)) (omega (arith, e, k));
  }

pub table_exists : (P : Presentation) → IsSmallPrime P.prime → 1 < P.prime → IsPresentation P
    → first_fault P ≡ None → (G : PGroup) × IsTableOf P G
unfolding G
table_exists P prime above valid none =
    let C = claims P above valid none in (
      record { table = G P C; law = record { law = is-group P C; prime = prime } },
      record { table = is-table P C; group = is-group-of P C },
    )
