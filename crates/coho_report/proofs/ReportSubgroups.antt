-- Each subgroup of the list has what is told of it; and the stages over the subgroups are small, or there is
-- a first one that is not.
use Rattle.std.proofs.Common.{◌≡◌, ◌⊎◌, inl, inr, ℕ, zero, suc, ◌<◌, ◌≤◌, min, List, [], ◌∷◌, ◌++◌, length}
use Rattle.std.proofs.Common.{refl, sym, ap, subst, arith, append_assoc}
use Rattle.std.specs.List.{AllByRecursion as Each}
use Rattle.std.proofs.lemmas.Bool.{cases_lt}
use Rattle.p_groups.specs.PGroups.{PGroup, largest_residue, group}
use Rattle.p_groups.proofs.Fields.{field}
use Rattle.linear_algebra.specs.Residues.{residue}
use Rattle.group_algebra.specs.Coordinates.{layer_coordinates}
use Rattle.elementary_subgroups.specs.Bases.{NumberedSubgroup, IsSubgroupList}
use Rattle.elementary_subgroups.specs.Sets.{IsIn}
use Rattle.elementary_subgroups.proofs.NumberedLists.{subgroups_are_one}
use Rattle.graded_polynomials.specs.Polynomials.{Polynomial, Term}
use Rattle.graded_algebra.specs.Algebras.{Generator, degrees}
use Rattle.graded_algebra.specs.Presentations.{IsNormalForm}
use Rattle.graded_algebra.specs.Vectors.{Vector}
use Rattle.cohomology_algebra.proofs.Ring.{graded, ring-claims}
use Rattle.min_res.specs.Stages.{stage_rows, rank_of}
use Rattle.min_res.proofs.StageRows.{stage_rows_are}
use Rattle.chain_lift.specs.Embeddings.{elementary}
use Rattle.ring_present.specs.Rings.{cohomology, dual_basis, IsPresentation}
use Rattle.coho_report.specs.Limits.{dimension, HasSmallStages, IsFirstLarge, IsSmall, AreSmall}
use Rattle.coho_report.specs.Limits.{IsFirstLargeSubgroup}
use Rattle.coho_report.specs.Related.{AreRelated}
use Rattle.coho_report.specs.Subgroups.{restricted, IsImage, IsToldOf}
use Rattle.coho_report.specs.Values.{SubgroupValue}
use Rattle.coho_report.proofs.Images.{restricted_past}
use Rattle.coho_report.proofs.NormalForms.{normal_form_of_value}
use Rattle.coho_report.proofs.OwnRings.{positive_degrees}
use Rattle.coho_report.proofs.SubgroupLists.{in-last}
use Rattle.coho_report.proofs.SubgroupsExist.{subgroups_exist}

-- each class of degree 1 to n is the value of a normal form
form_exists : (E : PGroup) (n : ℕ) (gs : List (Generator (Vector (largest_residue E)))) (rs : List Polynomial)
    → IsPresentation E n gs rs → (d : ℕ) → d ≤ n → (v : Vector (largest_residue E))
    → ((i : ℕ) → rank_of E d ≤ i → v i ≡ residue (largest_residue E) 0)
    → (f : List Term) × IsNormalForm (largest_residue E) (cohomology E) gs d v f
form_exists E n gs rs P d to v of =
    let q = largest_residue E in
    let claims = ring-claims q (group E) (layer_coordinates E) (stage_rows E) (field E) (stage_rows_are E) n
    gs rs (record { generators_are = P.generators_are; relations_are = P.relations_are }) in
    normal_form_of_value q (field E)
    (graded q (group E) (layer_coordinates E) (stage_rows E) (field E) (stage_rows_are E)) gs
    (positive_degrees q (cohomology E) (dual_basis E) n gs P.generators_are) d v of
    (claims.classes.onto d to v of)

module _ (G : PGroup) (n : ℕ) (presented : (E : PGroup)
    → (gs : List (Generator (Vector (largest_residue E)))) × (rs : List Polynomial)
    × IsPresentation E n gs rs)
  where
    abbrev OfGroup : Type 0
    OfGroup = Generator (Vector (largest_residue G))

    pub image_exists : (basis : List ℕ) (own : List OfGroup) (rs : List Polynomial)
        → IsPresentation (elementary G (length basis)) n own rs → (g : OfGroup)
        → g.degree ≤ n → (f : Polynomial) × IsImage G basis own g f
    image_exists basis own rs P g to =
        let v = restricted G basis g.degree g.class in
        let form = form_exists (elementary G (length basis)) n own rs P g.degree to v
        (restricted_past G basis g.degree g.class) in (
          record { degree = g.degree; terms = form.0 },
          record { degree_is = refl; form = form.1 },
        )

    images_exist : (basis : List ℕ) (own : List OfGroup) (rs : List Polynomial)
        → IsPresentation (elementary G (length basis)) n own rs
        → (gs : List OfGroup) → Each (λ g. (1 ≤ g.degree) × (g.degree ≤ n)) gs
        → (fs : List Polynomial) × AreRelated (IsImage G basis own) gs fs
    images_exist basis own rs P [] within = ([], tt)
    images_exist basis own rs P (g ∷ gs) within =
        let first = image_exists basis own rs P g within.0.1 in
        let rest = images_exist basis own rs P gs within.1 in
        (first.0 ∷ rest.0, (first.1, rest.1))

    told_exists : (gs : List OfGroup)
        → Each (λ g. (1 ≤ g.degree) × (g.degree ≤ n)) gs → (s : NumberedSubgroup)
        → (v : SubgroupValue) × IsToldOf G n gs s v
    told_exists gs within s =
        let own = presented (elementary G (length s.basis)) in
        let images = images_exist s.basis own.0 own.1 own.2 gs within in (
          record { basis = s.basis; generators = degrees own.0; images = images.0 },
          record {
            basis_is = refl;
            own = own.0;
            relations = own.1;
            presentation = own.2;
            generators_are = refl;
            images_are = images.1;
          },
        )

    pub all_told : (gs : List OfGroup)
        → Each (λ g. (1 ≤ g.degree) × (g.degree ≤ n)) gs → (ss : List NumberedSubgroup)
        → (vs : List SubgroupValue) × AreRelated (IsToldOf G n gs) ss vs
    all_told gs within [] = ([], tt)
    all_told gs within (s ∷ ss) =
        let first = told_exists gs within s in
        let rest = all_told gs within ss in
        (first.0 ∷ rest.0, (first.1, rest.1))

-- the stages of a group through degree n are small, or there is a first one that is not
small_or_first : (E : PGroup) (n limit : ℕ)
    → HasSmallStages E n limit ⊎ ((d : ℕ) × (X : ℕ) × IsFirstLarge E n limit d X)
small_or_first E zero limit = inl (λ d from to. absurd (omega (arith, from, to)))
small_or_first E (suc n) limit = go (small_or_first E n limit) (cases_lt limit (dimension E (suc n)))
  where
    top : HasSmallStages E n limit → dimension E (suc n) ≤ limit → HasSmallStages E (suc n) limit
    top small here d from to = last (cases_lt n d)
      where
        last : (n < d) ⊎ (d ≤ n) → dimension E d ≤ limit
        last (inl above) = let same : suc n ≡ d = omega (arith, above, to) in
            subst (λ d. dimension E d ≤ limit) same here
        last (inr low) = small d from low

    go : HasSmallStages E n limit ⊎ ((d : ℕ) × (X : ℕ) × IsFirstLarge E n limit d X)
        → (limit < dimension E (suc n)) ⊎ (dimension E (suc n) ≤ limit)
        → HasSmallStages E (suc n) limit ⊎ ((d : ℕ) × (X : ℕ) × IsFirstLarge E (suc n) limit d X)
    go (inr r) c = inr (
      r.0,
      r.1,
      record {
        from = r.2.from;
        to = (let to = r.2.to in omega (arith, to));
        is = r.2.is;
        above = r.2.above;
        first = r.2.first;
      },
    )
    go (inl small) (inl above) = inr (
      suc n,
      dimension E (suc n),
      record {
        from = omega arith;
        to = omega arith;
        is = refl;
        above = above;
        first = λ c from less. small c from (omega (arith, less));
      },
    )
    go (inl small) (inr here) = inl (top small here)

module _ (G : PGroup) (n limit : ℕ) where
  -- the subgroups after some that are small
  abbrev FirstAfter : List NumberedSubgroup → List NumberedSubgroup → Type 0
  FirstAfter before ss = ((s : NumberedSubgroup) → IsIn s (before ++ ss) → IsSmall G n limit s)
      ⊎ ((i : ℕ) × (d : ℕ) × (X : ℕ) × IsFirstLargeSubgroup G n limit i d X)

  append_nil : (xs : List NumberedSubgroup) → xs ++ [] ≡ xs
  append_nil [] = refl
  append_nil (x ∷ xs) = ap (λ ys. x ∷ ys) (append_nil xs)

  first_after : (before ss : List NumberedSubgroup) → IsSubgroupList G.table (before ++ ss)
      → ((s : NumberedSubgroup) → IsIn s before → IsSmall G n limit s) → FirstAfter before ss
  first_after before [] L small = inl (subst
      (λ ss. (s : NumberedSubgroup) → IsIn s ss → IsSmall G n limit s) (sym (append_nil before)) small)
  first_after before (s ∷ ss) L small = go (small_or_first (elementary G (length s.basis)) n limit)
      (λ here. first_after (before ++ s ∷ []) ss (subst (IsSubgroupList G.table)
      (sym (append_assoc before (s ∷ []) ss)) L) (in-last (IsSmall G n limit) before s small here))
    where
      go : IsSmall G n limit s
          ⊎ ((d : ℕ) × (X : ℕ) × IsFirstLarge (elementary G (length s.basis)) n limit d X)
          → (IsSmall G n limit s → FirstAfter (before ++ s ∷ []) ss) → FirstAfter before (s ∷ ss)
      go (inl here) rest = subst (λ all. ((t : NumberedSubgroup) → IsIn t all → IsSmall G n limit t)
          ⊎ ((i : ℕ) × (d : ℕ) × (X : ℕ) × IsFirstLargeSubgroup G n limit i d X))
          (append_assoc before (s ∷ []) ss) (rest here)
      go (inr large) rest = inr (
        min (suc (length before)) 4294967295,
        large.0,
        large.1,
        record {
          before = before;
          subgroup = s;
          after = ss;
          listed = L;
          number_is = refl;
          small = small;
          large = large.2;
        },
      )

  -- the stages of all listed subgroups are small, or there is a first one whose stages are not
  pub small_or_first_subgroup : AreSmall G n limit
      ⊎ ((i : ℕ) × (d : ℕ) × (X : ℕ) × IsFirstLargeSubgroup G n limit i d X)
  small_or_first_subgroup =
      let list = subgroups_exist G.table G.law.law in
      go list (first_after [] list.0 list.1 (λ s h. absurd h))
    where
      go : (list : (ss : List NumberedSubgroup) × IsSubgroupList G.table ss) → FirstAfter [] list.0
          → AreSmall G n limit ⊎ ((i : ℕ) × (d : ℕ) × (X : ℕ) × IsFirstLargeSubgroup G n limit i d X)
      go list (inl small) = inl (λ ss L s h. small s
          (subst (IsIn s) (subgroups_are_one G.table ss list.0 L list.1) h))
      go list (inr first) = inr first
