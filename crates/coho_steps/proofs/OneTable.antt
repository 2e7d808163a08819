-- A presentation has one group table.
use Rattle.std.proofs.Common.{◌≡◌, ℕ, ◌+◌, ◌*◌, ◌/◌, ◌%◌, ◌^◌, ◌<◌, get_or, sym, ◌∙◌, ap, subst, arith}
use Rattle.std.proofs.Math.Nat.{div-lt_iff_lt-mul, mod-lt}
use Rattle.std.proofs.lemmas.Nat.{div-add-mod'}
use Rattle.std.proofs.lemmas.Grind.{same_number_lists}
use Rattle.group_table.specs.Tables.{order, order_is, product, product_is}
use Rattle.power_commutator.specs.Presentations.{Presentation}
use Rattle.p_groups.specs.PGroups.{PGroup}
use Rattle.p_groups.proofs.SameTables.{same_table}
use Rattle.coho_steps.specs.Groups.{IsTableOf}

module _ (P : Presentation) (G H : PGroup) (g : IsTableOf P G) (h : IsTableOf P H) where
  same_prime : G.table.p ≡ H.table.p
  same_prime = g.group.prime-is ∙ sym h.group.prime-is

  same_rank : G.table.n ≡ H.table.n
  same_rank = g.group.rank-is ∙ sym h.group.rank-is

  same_order : order G.table ≡ order H.table
  same_order = order_is G.table ∙ ap (λ p. p ^ G.table.n) same_prime ∙ ap (λ n. H.table.p ^ n) same_rank
      ∙ sym (order_is H.table)

  same_product : (a b : ℕ) → a < order G.table → b < order G.table → product G.table a b ≡ product H.table a b
  same_product a b l m = g.group.product-is a b l m
      ∙ sym (h.group.product-is a b (subst (λ n. a < n) same_order l) (subst (λ n. b < n) same_order m))

  at : (a b : ℕ) → a < order G.table → b < order G.table
      → get_or G.table.entries (a * order G.table + b) 0 ≡ get_or H.table.entries (a * order G.table + b) 0
  at a b l m = sym (product_is G.table a b) ∙ same_product a b l m ∙ product_is H.table a b
      ∙ ap (λ n. get_or H.table.entries (a * n + b) 0) (sym same_order)

  same_entry : (i : ℕ) → i < order G.table * order G.table
      → get_or G.table.entries i 0 ≡ get_or H.table.entries i 0
  same_entry i l =
      let above : 0 < order G.table = grind arith in
      subst (λ k. get_or G.table.entries k 0 ≡ get_or H.table.entries k 0) (div-add-mod' i (order G.table))
      (at (i / order G.table) (i % order G.table) ((div-lt_iff_lt-mul above).1 l) (mod-lt i above))

  same_entries : G.table.entries ≡ H.table.entries
  same_entries = same_number_lists G.table.entries H.table.entries
      (g.table.size ∙ ap (λ n. n * n) same_order ∙ sym h.table.size)
      (λ i l. same_entry i (subst (λ n. i < n) g.table.size l))

  -- so there is one table, and one p-group
  pub one_table : G ≡ H
  one_table = same_table G H
      (ap (λ p. record { p = p; n = G.table.n; entries = G.table.entries }) same_prime
      ∙ ap (λ n. record { p = H.table.p; n = n; entries = G.table.entries }) same_rank
      ∙ ap (λ e. record { p = H.table.p; n = H.table.n; entries = e }) same_entries)
