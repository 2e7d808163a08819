-- The embedding of a subgroup is a homomorphism, and the subgroup lists its values by number.
use Rattle.std.proofs.Common.{◌≡◌, ℕ, ◌<◌, ◌^◌, length, get_or, inl, inr, refl, ap, ap₂, sym, ◌∙◌}
use Rattle.std.proofs.Math.Nat.{mod-eq_of_lt}
use mathlib.Core.Path.{subst, fun_ext}
use Rattle.group_table.specs.Tables.{GroupTable, order, product, order_is}
use Rattle.group_table.specs.Prime.{prime_value}
use Rattle.group_table.specs.declared.Prime.{Prime}
use Rattle.group_table.specs.declared.Prime.TheVariants.{P2, P3, P5, P7}
use Rattle.linear_algebra.specs.Modular.{IsSmallPrime}
use Rattle.linear_algebra.proofs.Fields.{field_of_prime}
use Rattle.linear_algebra.proofs.Residues.{below-path}
use Rattle.group_modules.specs.Field.{Below}
use Rattle.p_groups.specs.PGroups.{PGroup, group}
use Rattle.p_groups.proofs.SameTables.{same_table}
use Rattle.elementary_subgroups.specs.Bases.{embed, NumberedSubgroup, IsSubgroupOf}
use Rattle.elementary_subgroups.specs.OwnGroups.{elementary_group, IsOwnGroup}
use Rattle.elementary_subgroups.proofs.GroupLaws.{law_of}
use Rattle.elementary_subgroups.proofs.Numbering.{image_at}
use Rattle.elementary_subgroups.proofs.OwnGroup.{own_is, images-own_order}
use Rattle.chain_maps_along.specs.Along.{IsHomomorphism}
use Rattle.chain_lift.specs.Embeddings.{elementary, elementary_over, element_of, embedding}
use Rattle.chain_lift.specs.EmbeddingRows.{listed, AreImages}

-- the prime with this number
prime-of : (p : ℕ) → IsSmallPrime p → (x : Prime) × (p ≡ prime_value x)
prime-of p (inl e) = (P2, e)
prime-of p (inr (inl e)) = (P3, e)
prime-of p (inr (inr (inl e))) = (P5, e)
prime-of p (inr (inr (inr e))) = (P7, e)

-- the group is that of the numbers under the sum of digits
pub elementary-table : (G : PGroup) (s : ℕ) → (elementary G s).table ≡ elementary_group G.table.p s
unfolding elementary_over
elementary-table G s = refl

-- a p-group with this table is this group
pub elementary-is : (G H : PGroup) (s : ℕ) → H.table ≡ elementary_group G.table.p s → H ≡ elementary G s
elementary-is G H s e = same_table H (elementary G s) (e ∙ sym (elementary-table G s))

module _ (G : PGroup) (s : NumberedSubgroup) (S : IsSubgroupOf G.table s) where
  abbrev E : PGroup
  E = elementary G (length s.basis)

  own : IsOwnGroup G.table s E.table
  unfolding elementary_over
  own = own_is (law_of G.table G.law.law) (prime-of G.table.p G.law.prime).0
      (prime-of G.table.p G.law.prime).1
      (field_of_prime G.table.p G.law.prime).above_one s S

  inside : (e : Below (order E.table)) → embed G.table s.basis e.0 < order G.table
  inside e = S.elementary.elements (embed G.table s.basis e.0) (own.within e.0 e.1)

  -- nothing is reduced modulo the order
  pub embedded : (e : Below (order E.table)) → (embedding G s.basis e).0 ≡ embed G.table s.basis e.0
  embedded e = mod-eq_of_lt (inside e)

  pub homomorphism : IsHomomorphism (group E) (group G) (embedding G s.basis)
  homomorphism g h = below-path (embedding G s.basis ((group E).mul g h))
      ((group G).mul (embedding G s.basis g) (embedding G s.basis h))
      (embedded ((group E).mul g h) ∙ own.products g.0 h.0 g.1 h.1
      ∙ ap₂ (product G.table) (sym (embedded g)) (sym (embedded h)))

  listed-at : (e : Below (order E.table)) → get_or s.images e.0 0 ≡ embed G.table s.basis e.0
  unfolding elementary_over
  listed-at e = image_at s S.numbered e.0 (subst (λ n. e.0 < n) (order_is E.table) e.1)

  pub listed-is : listed E G s.images ≡ embedding G s.basis
  listed-is = fun_ext (λ e. ap (element_of G) (listed-at e))

  pub images-are : AreImages E G s.images
  images-are = record {
    same_prime = own.same_prime;
    count = images-own_order s E.table S.numbered own;
    inside = λ e l. let k : e < order E.table = subst (λ n. e < n) (images-own_order s E.table S.numbered own)
        l in
        subst (λ n. n < order G.table) (sym (listed-at (e, k))) (inside (e, k));
  }
