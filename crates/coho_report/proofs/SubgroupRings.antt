-- The subgroups of a report with their own rings.
use Rattle.std.proofs.Common.{◌≡◌, inl, inr, ℕ, zero, suc, List, [], ◌∷◌, length, map, Some, refl, ap}
use Rattle.std.specs.Prelude.{slice_get}
use Rattle.std.specs.List.{AllByRecursion as Each}
use Rattle.p_groups.specs.PGroups.{PGroup, largest_residue}
use Rattle.elementary_subgroups.specs.Bases.{NumberedSubgroup}
use Rattle.elementary_subgroups.specs.Sets.{IsIn}
use Rattle.graded_algebra.specs.Algebras.{Generator}
use Rattle.graded_algebra.specs.Vectors.{Vector}
use Rattle.ring_present.proofs.Cohomology.{cohomology-ring}
use Rattle.coho_report.specs.Cohomology.{SubgroupRing, IsNamedRing, own_group}
use Rattle.coho_report.specs.Related.{AreRelated}
use Rattle.coho_report.specs.Subgroups.{IsToldOf}
use Rattle.coho_report.specs.Values.{SubgroupValue}

module _ (G : PGroup) (n : ℕ) (gs : List (Generator (Vector (largest_residue G)))) where
  -- a subgroup with the ring that is told of it
  abbrev pub ring_of : (s : NumberedSubgroup) (v : SubgroupValue) → IsToldOf G n gs s v → SubgroupRing G
  ring_of s v T = record { subgroup = s; generators = T.own; relations = T.relations }

  abbrev pub rings_of : (ss : List NumberedSubgroup) (vs : List SubgroupValue)
      → AreRelated (IsToldOf G n gs) ss vs → List (SubgroupRing G)
  rings_of [] vs r = []
  rings_of (s ∷ ss) [] r = []
  rings_of (s ∷ ss) (v ∷ vs) r = ring_of s v r.0 ∷ rings_of ss vs r.1

  -- what holds of each subgroup of the list, and what is told of it, holds of each of them
  pub each-ring : (P : SubgroupRing G → Type 0) (ss : List NumberedSubgroup) (vs : List SubgroupValue)
      (r : AreRelated (IsToldOf G n gs) ss vs)
      → ((s : NumberedSubgroup) → IsIn s ss → (v : SubgroupValue) (T : IsToldOf G n gs s v) (j : ℕ)
      → slice_get vs j ≡ Some v → P (ring_of s v T))
      → Each P (rings_of ss vs r)
  each-ring P [] vs r h = tt
  each-ring P (s ∷ ss) [] r h = tt
  each-ring P (s ∷ ss) (v ∷ vs) r h = (
    h s (inl refl) v r.0 zero refl,
    each-ring P ss vs r.1 (λ t i w T j e. h t (inr i) w T (suc j) e),
  )

  pub subgroups-same : (ss : List NumberedSubgroup) (vs : List SubgroupValue)
      (r : AreRelated (IsToldOf G n gs) ss vs)
      → map (λ (s : SubgroupRing G). s.subgroup) (rings_of ss vs r) ≡ ss
  subgroups-same [] vs r = refl
  subgroups-same (s ∷ ss) [] r = absurd r
  subgroups-same (s ∷ ss) (v ∷ vs) r = ap (λ ts. s ∷ ts) (subgroups-same ss vs r.1)

  pub ranks-same : (ss : List NumberedSubgroup) (vs : List SubgroupValue)
      (r : AreRelated (IsToldOf G n gs) ss vs)
      → map (λ (v : SubgroupValue). length v.basis) vs
      ≡ map (λ (s : SubgroupRing G). length s.subgroup.basis) (rings_of ss vs r)
  ranks-same [] [] r = refl
  ranks-same [] (v ∷ vs) r = absurd r
  ranks-same (s ∷ ss) [] r = absurd r
  ranks-same (s ∷ ss) (v ∷ vs) r =
      let head = ap (λ (b : List ℕ). length b) r.0.basis_is in
      let tail = ranks-same ss vs r.1 in
      λ i. head i ∷ tail i

  -- their rings are those of their bar complexes
  pub own-rings : (ss : List NumberedSubgroup) (vs : List SubgroupValue)
      (r : AreRelated (IsToldOf G n gs) ss vs)
      → Each (λ s. IsNamedRing (own_group G s) n s.generators s.relations) (rings_of ss vs r)
  own-rings ss vs r = each-ring (λ s. IsNamedRing (own_group G s) n s.generators s.relations) ss vs r
      (λ s i v T j e. record {
        presentation = T.presentation;
        ring = cohomology-ring (own_group G (ring_of s v T)) n T.own T.relations T.presentation;
      })
