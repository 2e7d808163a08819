-- The first subgroup and degree whose dimension is above the limit are one.
use Rattle.std.proofs.Common.{◌≡◌, ◌∙◌, ℕ, suc, ◌<◌, min, List, [], ◌∷◌, ◌++◌, inl, inr, length, refl, sym}
use Rattle.std.proofs.Common.{ap, subst, arith}
use Rattle.p_groups.specs.PGroups.{PGroup}
use Rattle.elementary_subgroups.specs.Bases.{NumberedSubgroup}
use Rattle.elementary_subgroups.specs.Sets.{IsIn}
use Rattle.elementary_subgroups.proofs.Members.{in_right}
use Rattle.elementary_subgroups.proofs.NumberedLists.{subgroups_are_one}
use Rattle.chain_lift.specs.Embeddings.{elementary}
use Rattle.coho_report.specs.Limits.{dimension, HasSmallStages, IsFirstLarge, IsSmall, AreSmall}
use Rattle.coho_report.specs.Limits.{IsFirstLargeSubgroup}

-- the first members without a property are at one place
first-split : {X : Type 0} (P : X → Type 0) (xs ys zs us : List X) (x y : X) → xs ++ x ∷ zs ≡ ys ++ y ∷ us
    → ((z : X) → IsIn z xs → P z) → ((z : X) → IsIn z ys → P z) → (P x → ⊥) → (P y → ⊥)
    → (length xs ≡ length ys) × (x ≡ y)
first-split P [] [] zs us x y e f g a b = (refl, (let same : x ≡ y = cc in same))
first-split P [] (w ∷ ys) zs us x y e f g a b = let same : w ≡ x = cc in
    absurd (a (subst P same (g w (inl refl))))
first-split P (w ∷ xs) [] zs us x y e f g a b = let same : w ≡ y = cc in
    absurd (b (subst P same (f w (inl refl))))
first-split P (w ∷ xs) (v ∷ ys) zs us x y e f g a b =
    let rest : xs ++ x ∷ zs ≡ ys ++ y ∷ us = cc in
    let r = first-split P xs ys zs us x y rest (λ z h. f z (inr h)) (λ z h. g z (inr h)) a b in
    (ap suc r.0, r.1)

not_small : (E : PGroup) (n limit d X : ℕ) → IsFirstLarge E n limit d X → HasSmallStages E n limit → ⊥
not_small E n limit d X large small =
    let here = small d large.from large.to in
    let is = large.is in
    let above = large.above in
    absurd (omega (arith, here, is, above))

not_less : (E : PGroup) (n limit d X e Y : ℕ) → IsFirstLarge E n limit d X → IsFirstLarge E n limit e Y
    → d < e → ⊥
not_less E n limit d X e Y a b less =
    let here = b.first d a.from less in
    let is = a.is in
    let above = a.above in
    absurd (omega (arith, here, is, above))

one_degree : (E : PGroup) (n limit d X e Y : ℕ) → IsFirstLarge E n limit d X → IsFirstLarge E n limit e Y
    → (d ≡ e) × (X ≡ Y)
one_degree E n limit d X e Y a b =
    let left = not_less E n limit d X e Y a b in
    let right = not_less E n limit e Y d X b a in
    let same : d ≡ e = grind (arith, left, right) in
    (same, a.is ∙ ap (dimension E) same ∙ sym b.is)

module _ (G : PGroup) (n limit : ℕ) where
  pub one_subgroup : (i d X j e Y : ℕ) → IsFirstLargeSubgroup G n limit i d X
      → IsFirstLargeSubgroup G n limit j e Y → (i ≡ j) × (d ≡ e) × (X ≡ Y)
  one_subgroup i d X j e Y a b =
      let lists = subgroups_are_one G.table (a.before ++ a.subgroup ∷ a.after)
      (b.before ++ b.subgroup ∷ b.after) a.listed b.listed in
      let r = first-split (IsSmall G n limit) a.before b.before a.after b.after a.subgroup b.subgroup lists
      a.small b.small (not_small (elementary G (length a.subgroup.basis)) n limit d X a.large)
      (not_small (elementary G (length b.subgroup.basis)) n limit e Y b.large) in
      let degrees = one_degree (elementary G (length b.subgroup.basis)) n limit d X e Y
      (subst (λ (s : NumberedSubgroup). IsFirstLarge (elementary G (length s.basis)) n limit d X) r.1 a.large)
      b.large in
      (a.number_is ∙ ap (λ k. min (suc k) 4294967295) r.0 ∙ sym b.number_is, degrees.0, degrees.1)

  -- where the stages of all subgroups are small, there is none
  pub none_large : (i d X : ℕ) → AreSmall G n limit → IsFirstLargeSubgroup G n limit i d X → ⊥
  none_large i d X small a = not_small (elementary G (length a.subgroup.basis)) n limit d X a.large
      (small (a.before ++ a.subgroup ∷ a.after) a.listed a.subgroup
      (in_right a.subgroup a.before (a.subgroup ∷ a.after) (inl refl)))
