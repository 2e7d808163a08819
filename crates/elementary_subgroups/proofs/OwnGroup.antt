-- The elementary abelian group of rank r is the group of each subgroup of rank r in its own numbering.
use Rattle.std.proofs.Common.{◌≡◌, ℕ, zero, suc, ◌<◌, ◌*◌, ◌^◌, ◌≤◌, List, [], ◌∷◌, inl, inr, refl, ap, sym}
use Rattle.std.proofs.Common.{◌∙◌, subst, arith, length, map}
use Rattle.std.proofs.Math.Nat.{pow-zero, pow-suc, mul-le-mul_left}
use Rattle.group_table.specs.Tables.{GroupTable, order, product, order_is}
use Rattle.group_table.specs.declared.Prime.{Prime}
use Rattle.group_table.specs.Prime.{prime_value}
use Rattle.elementary_subgroups.specs.Sets.{IsIn, IsSet, IsAscending}
use Rattle.elementary_subgroups.specs.Cliques.{AreElements}
use Rattle.elementary_subgroups.specs.Bases.{embed, size, numbers, numbering, NumberedSubgroup, IsNumbered}
use Rattle.elementary_subgroups.specs.Bases.{IsSubgroupOf}
use Rattle.elementary_subgroups.specs.OwnGroups.{elementary_group, IsOwnGroup}
use Rattle.elementary_subgroups.proofs.GroupLaws.{HasGroupLaw}
use Rattle.elementary_subgroups.proofs.Members.{from_numbers, numbers_ascending}
use Rattle.elementary_subgroups.proofs.Lists.{from_map, length_map, length_numbers}
use Rattle.elementary_subgroups.proofs.Numbering.{numbering_elements, images_length}
use Rattle.elementary_subgroups.proofs.Counting.{Differs, at_most}
use Rattle.elementary_subgroups.proofs.Span.{IsIndependentKind, embed-digit_sum}
use Rattle.elementary_subgroups.proofs.ElementaryGroups.{elementary_product}
use Rattle.elementary_subgroups.proofs.GreedyBases.{BasisFacts, basis_of_subgroup, kind_of, embed_member}

below_power : (p k : ℕ) → 1 < p → k < p ^ k
below_power p zero h = rw (pow-zero p) (omega arith)
below_power p (suc k) h = let r = below_power p k h in rw (pow-suc p k) (twice (p ^ k) p k r h)
  where
    twice : (a p k : ℕ) → k < a → 1 < p → suc k < a * p
    twice a p k r h = let m : a * 2 ≤ a * p = mul-le-mul_left a h in omega arith

differ_map : (f : ℕ → ℕ) (xs : List ℕ) → IsSet xs →
    ((x y : ℕ) → IsIn x xs → IsIn y xs → f x ≡ f y → x ≡ y) → IsAscending Differs (map f xs)
differ_map f [] s h = tt
differ_map f (x ∷ xs) s h = (
  (λ y k e. let r = from_map f y xs k in
      let q : x ≡ r.0 = h x r.0 (inl refl) (inr r.1) (e ∙ sym r.2) in
      let l : x < r.0 = s.0 r.0 r.1 in omega arith),
  differ_map f xs s.1 (λ y z k m. h y z (inr k) (inr m)),
)

-- the numbers of the subgroup are the elements of its own group
pub images-own_order : {G : GroupTable} (s : NumberedSubgroup) (E : GroupTable) → IsNumbered G s →
    IsOwnGroup G s E → length s.images ≡ order E
images-own_order {G} s E N O =
    images_length s N ∙ ap (λ w. w ^ length s.basis) (sym O.same_prime) ∙ ap (λ w. E.p ^ w) (sym O.rank_is)
    ∙ sym (order_is E)

module _ {G : GroupTable} (L : HasGroupLaw G) (q : Prime) (pe : G.p ≡ prime_value q) (z : 1 < G.p)
    (s : NumberedSubgroup) (S : IsSubgroupOf G s) where
  facts : BasisFacts G s.members s.members [] s.basis
  facts = basis_of_subgroup L q pe z s.members S.elementary s.basis S.numbered.basis_is

  kind : IsIndependentKind G s.basis
  kind = kind_of s.members S.elementary s.basis facts.members

  elements : AreElements G s.basis
  elements x k = S.elementary.elements x (facts.members x k)

  bound : (e : ℕ) → e < order (elementary_group G.p (length s.basis)) → e < size G s.basis
  bound e h = subst (λ w. e < w) (order_is (elementary_group G.p (length s.basis))) h

  back : (e : ℕ) → e < size G s.basis → e < order (elementary_group G.p (length s.basis))
  back e h = subst (λ w. e < w) (sym (order_is (elementary_group G.p (length s.basis)))) h

  product_is_sum : (a b : ℕ) → a < order (elementary_group G.p (length s.basis)) →
      b < order (elementary_group G.p (length s.basis)) →
      embed G s.basis (product (elementary_group G.p (length s.basis)) a b)
      ≡ product G (embed G s.basis a) (embed G s.basis b)
  product_is_sum a b h k =
      ap (embed G s.basis) (elementary_product G.p (length s.basis) a b (bound a h) (bound b k))
      ∙ embed-digit_sum L (omega arith) s.basis kind a b

  pub own_is : IsOwnGroup G s (elementary_group G.p (length s.basis))
  own_is = record {
    same_prime = refl;
    rank_is = refl;
    products = product_is_sum;
    one_to_one = λ e f h k. facts.one_to_one e f (bound e h) (bound f k);
    within = λ e h. embed_member s.members S.elementary s.basis facts.members e;
    onto = λ x h. let r = facts.covers x h in (r.0, back r.0 r.1, r.2);
  }

  -- the subgroup has no more numbers than the group
  pub own_small : size G s.basis ≤ order G
  own_small =
      let n = size G s.basis in
      let d : IsAscending Differs (numbering G s.basis) =
      differ_map (embed G s.basis) (numbers n) (numbers_ascending n)
      (λ x y h k. facts.one_to_one x y (from_numbers n x h) (from_numbers n y k)) in
      let m = at_most (order G) (numbering G s.basis) d (numbering_elements L s.basis elements) in
      let l : length (numbering G s.basis) ≡ n =
      length_map (embed G s.basis) (numbers n) ∙ length_numbers n in
      omega (arith, m, l)

  pub own_rank : length s.basis < size G s.basis
  own_rank = below_power G.p (length s.basis) z
