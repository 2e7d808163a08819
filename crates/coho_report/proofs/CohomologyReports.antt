-- A report is that of the cohomology ring of the bar complex, with restrictions of cocycles, and with
-- parameters by cocycles.
use Rattle.std.specs.Prelude.{◌≡◌, ◌↔◌, ℕ, suc, ◌≤◌, true, Option, Some, None, List, [], ◌∷◌, refl}
use Rattle.std.proofs.Common.{inl, inr, arith, ap, sym, subst}
use Rattle.std.specs.List.{range_with_len}
use Rattle.std.proofs.lemmas.Bool.{leb-true, le-leb}
use Rattle.p_groups.specs.PGroups.{PGroup, largest_residue}
use Rattle.elementary_subgroups.specs.Bases.{NumberedSubgroup, IsSubgroupList, IsSubgroupOf}
use Rattle.elementary_subgroups.specs.Sets.{IsIn}
use Rattle.elementary_subgroups.proofs.NumberedLists.{subgroup_in}
use Rattle.graded_polynomials.specs.Polynomials.{Polynomial}
use Rattle.graded_algebra.specs.Algebras.{Generator}
use Rattle.graded_algebra.specs.Vectors.{Vector}
use Rattle.group_cocycles.specs.Dimensions.{IsDimension}
use Rattle.group_cocycles.specs.Rings.{cocycles_of}
use Rattle.ring_present.proofs.Cohomology.{cohomology-ring}
use Rattle.coho_report.specs.Related.{AreRelated}
use Rattle.coho_report.specs.Subgroups.{IsToldOf}
use Rattle.coho_report.specs.Reports.{IsReport}
use Rattle.coho_report.specs.Values.{ReportValue, SubgroupValue}
use Rattle.coho_report.specs.Verdicts.{bound_of, is_complete}
use Rattle.coho_report.specs.Cohomology.{AreRestrictions, IsCohomologyReport}
use Rattle.coho_report.proofs.Dimensions.{ranks-are-dimensions}
use Rattle.coho_report.proofs.ParameterCocycles.{parameters-by-cocycles}
use Rattle.coho_report.proofs.RestrictedCocycles.{told-restrictions}
use Rattle.coho_report.proofs.SubgroupRings.{own-rings, rings_of, subgroups-same}

-- a verdict is complete exactly where there are parameters whose bound is at most the degree
verdict-is : (d n : ℕ) (found : Option (List Polynomial)) → d ≡ n
    → (is_complete d found ≡ true) ↔ ((fs : List Polynomial) × (found ≡ Some fs) × (bound_of fs ≤ n))
verdict-is d n None same = ((λ e. absurd (cc)), (λ h. let e = h.1 in absurd (cc)))
verdict-is d n (Some fs) same = (
  (λ e. (fs, refl, (let l = leb-true (bound_of fs) d e in omega (arith, l, same)))),
  (λ h.
      let e : fs ≡ h.0 = cc (h.1) in
      let b : bound_of fs ≡ bound_of h.0 = ap bound_of e in
      let l = h.2 in
      le-leb (bound_of fs) d (omega (arith, l, b, same))),
)

module _ (G : PGroup) (n : ℕ) where
  abbrev Class : Type 0
  Class = Vector (largest_residue G)

  all-told : (gs : List (Generator Class)) (ss : List NumberedSubgroup) (vs : List SubgroupValue)
      → ((s : NumberedSubgroup) → IsIn s ss → IsSubgroupOf G.table s)
      → (r : AreRelated (IsToldOf G n gs) ss vs)
      → AreRelated (AreRestrictions G (cocycles_of G gs)) (rings_of G n gs ss vs r) vs
  all-told gs [] [] h r = r
  all-told gs [] (v ∷ vs) h r = absurd r
  all-told gs (s ∷ ss) [] h r = absurd r
  all-told gs (s ∷ ss) (v ∷ vs) h r = (
    told-restrictions G s (h s (inl refl)) n gs v r.0,
    all-told gs ss vs (λ t i. h t (inr i)) r.1,
  )

  pub cohomology-report : (r : ReportValue) → IsReport G n r → IsCohomologyReport G n r
  cohomology-report r R =
      let listed : (s : NumberedSubgroup) → IsIn s R.subgroups → IsSubgroupOf G.table s
      = λ s i. subgroup_in G.table R.subgroups s R.subgroups_are i in
      record {
        prime_is = R.prime;
        order_is = R.order_is;
        degree_is = R.degree;
        ranks = subst (AreRelated (IsDimension G) (range_with_len 0 (suc n))) (sym R.ranks)
            (ranks-are-dimensions G (suc n));
        generators = R.generators;
        degrees_are = R.degrees_are;
        ring = record {
          presentation = R.presentation;
          ring = cohomology-ring G n R.generators r.relations R.presentation;
        };
        subgroups = rings_of G n R.generators R.subgroups r.subgroups R.told;
        subgroups_are = subst (IsSubgroupList G.table)
            (sym (subgroups-same G n R.generators R.subgroups r.subgroups R.told)) R.subgroups_are;
        own_rings = own-rings G n R.generators R.subgroups r.subgroups R.told;
        restrictions = all-told R.generators R.subgroups r.subgroups listed R.told;
        parameters = parameters-by-cocycles G n R.generators R.subgroups r.subgroups R.told listed
            r.parameters R.parameters;
        verdict = verdict-is r.degree n r.parameters R.degree;
      }
