-- The subgroups of a list, one after the other.
use Rattle.std.proofs.Common.{◌≡◌, ◌∙◌, ℕ, zero, suc, ◌+◌, min, List, [], ◌∷◌, ◌++◌, ◌⊎◌, inl, inr, length}
use Rattle.std.proofs.Common.{take, drop, refl, sym, ap, subst, arith, Some}
use Rattle.std.specs.Prelude.{slice_get, slice_index_or}
use Rattle.p_groups.specs.PGroups.{PGroup}
use Rattle.elementary_subgroups.specs.Bases.{NumberedSubgroup, IsSubgroupList, IsSubgroupOf}
use Rattle.elementary_subgroups.specs.Sets.{IsIn}
use Rattle.elementary_subgroups.proofs.Members.{in_append}
use Rattle.elementary_subgroups.proofs.NumberedLists.{subgroup_in}
use Rattle.min_res.specs.declared.fault.ResFault.{ResFault}
use Rattle.min_res.specs.declared.fault.ResFault.TheVariants as fault
use Rattle.chain_lift.specs.Embeddings.{elementary}
use Rattle.coho_report.specs.Limits.{IsSmall}
use Rattle.coho_report.specs.Refusals.{IsRefusal, IsStageRefusal, of_subgroup}
use Rattle.coho_report.proofs.LineLists.{get-take}

module _ {X : Type 0} where
  pub get-in : (xs : List X) (i : ℕ) (x : X) → slice_get xs i ≡ Some x → IsIn x xs
  get-in [] i x e = absurd (cc)
  get-in (y ∷ ys) zero x e = inl (cc)
  get-in (y ∷ ys) (suc i) x e = inr (get-in ys i x e)

  pub get-at : (xs : List X) (i : ℕ) (x d : X) → slice_get xs i ≡ Some x → slice_index_or xs i d ≡ x
  get-at [] i x d e = absurd (cc)
  get-at (y ∷ ys) zero x d e = cc
  get-at (y ∷ ys) (suc i) x d e = get-at ys i x d e

  -- the members before i, that at i, and those after it
  pub get-parts : (xs : List X) (i : ℕ) (x : X) → slice_get xs i ≡ Some x
      → xs ≡ take i xs ++ x ∷ drop (suc i) xs
  get-parts [] i x e = absurd (cc)
  get-parts (y ∷ ys) zero x e = let same : y ≡ x = cc in ap (λ z. z ∷ ys) same
  get-parts (y ∷ ys) (suc i) x e = ap (λ zs. y ∷ zs) (get-parts ys i x e)

  pub get-before : (xs : List X) (i : ℕ) (x : X) → slice_get xs i ≡ Some x → length (take i xs) ≡ i
  get-before [] i x e = absurd (cc)
  get-before (y ∷ ys) zero x e = refl
  get-before (y ∷ ys) (suc i) x e = ap suc (get-before ys i x e)

  -- what holds of the members of a list and of one more
  pub in-last : (P : X → Type 0) (xs : List X) (x : X) → ((y : X) → IsIn y xs → P y) → P x → (y : X)
      → IsIn y (xs ++ x ∷ []) → P y
  in-last P xs x each here y h = go (in_append y xs (x ∷ []) h)
    where
      go : IsIn y xs ⊎ IsIn y (x ∷ []) → P y
      go (inl k) = each y k
      go (inr (inl e)) = subst P (sym e) here
      go (inr (inr none)) = absurd none

  pub in-next : (P : X → Type 0) (xs : List X) (i : ℕ) (x : X) → slice_get xs i ≡ Some x
      → ((y : X) → IsIn y (take i xs) → P y) → P x → (y : X) → IsIn y (take (i + 1) xs) → P y
  in-next P xs i x e each here y h =
      let next : i + 1 ≡ suc i = omega arith in
      in-last P (take i xs) x each here y
      (subst (IsIn y) (ap (λ n. take n xs) next ∙ get-take xs i x e) h)

module _ (G : PGroup) (ss : List NumberedSubgroup) (i : ℕ) (s : NumberedSubgroup)
    (L : IsSubgroupList G.table ss) (at : slice_get ss i ≡ Some s) where
  pub listed_at : IsSubgroupOf G.table s
  listed_at = subgroup_in G.table ss s L (get-in ss i s at)

  -- a fault of its stages is that of the first subgroup whose stages are too large
  pub refused_at : (n limit : ℕ) (e : ResFault)
      → ((t : NumberedSubgroup) → IsIn t (take i ss) → IsSmall G n limit t)
      → IsStageRefusal (elementary G (length s.basis)) n limit e
      → IsRefusal G n limit (of_subgroup (min (suc i) 4294967295) e)
  refused_at n limit (fault.TooLarge d X) small large = record {
    before = take i ss;
    subgroup = s;
    after = drop (suc i) ss;
    listed = subst (IsSubgroupList G.table) (get-parts ss i s at) L;
    number_is = ap (λ k. min (suc k) 4294967295) (sym (get-before ss i s at));
    small = small;
    large = large;
  }
  refused_at n limit fault.Memory small large = tt
