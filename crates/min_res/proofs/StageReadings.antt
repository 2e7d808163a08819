-- What the values of a stage above degree 0 are.
use Rattle.std.proofs.Common.{◌≡◌, ℕ, suc, ◌-◌, ◌*◌, ◌<◌, ◌≤◌, List, arith, ap, ap₂, sym, ◌∙◌, refl}
use Rattle.std.specs.Prelude.{Some, unwrap_or, []}
use mathlib.Core.Path.{subst}
use Rattle.group_table.specs.Tables.{order}
use Rattle.resolution_stages.specs.Chain.{section_row}
use Rattle.fp_rows.specs.Values.{MatrixValue}
use Rattle.p_groups.specs.PGroups.{PGroup, largest_residue}
use Rattle.p_groups.proofs.Fields.{residues}
use Rattle.min_res.specs.Stages.{rank_of}
use Rattle.min_res.specs.Values.{BoundaryValue, StageValue, boundary_of, no_rows}
use Rattle.min_res.specs.Defined.{InK, σ, IsBoundaryAt, IsStageAt}
use Rattle.min_res.proofs.StageLaws.{section-is}

module _ (G : PGroup) (d : ℕ) (s : StageValue) (L : IsStageAt G (suc d) s) where
  pub above-zero : 0 < s.degree
  above-zero = let e : s.degree ≡ suc d = L.degree_is in omega (arith, e)

  pub boundary-at : IsBoundaryAt G d (boundary_of s)
  boundary-at = go (L.boundary_is d refl)
    where
      go : (B : BoundaryValue) × (s.boundary ≡ Some B) × IsBoundaryAt G d B → IsBoundaryAt G d (boundary_of s)
      go (B, e, I) = subst (λ b. IsBoundaryAt G d
          (unwrap_or b (record { source = no_rows; positions = []; matrix = no_rows; sections = no_rows })))
          (sym e) I

  pub source-width : (boundary_of s).source.width ≡ order G.table * rank_of G d
  source-width = ap (λ (m : MatrixValue). m.width) boundary-at.source_is

  pub prime : s.kernel.p ≡ G.table.p
  prime = ap (λ (m : MatrixValue). m.p) L.kernel_is

  pub width : s.kernel.width ≡ order G.table * rank_of G (suc d)
  width = ap (λ (m : MatrixValue). m.width) L.kernel_is

  pub section-value : (x : List ℕ) → InK G d x
      → section_row s.kernel.p s.kernel.width (boundary_of s).source.rows
      (boundary_of s).sections.rows x ≡ σ G d x
  section-value x k = ap₂ (λ (p w : ℕ). section_row p w (boundary_of s).source.rows
      (boundary_of s).sections.rows x) (prime ∙ sym (residues G)) width
      ∙ ap₂ (λ (a b : List (List ℕ)). section_row (suc (largest_residue G))
      (order G.table * rank_of G (suc d)) a b x) (ap (λ (m : MatrixValue). m.rows) boundary-at.source_is)
      (ap (λ (m : MatrixValue). m.rows) boundary-at.sections_are)
      ∙ sym ((section-is G d).by_table x k)

-- a stage by an equal value, at its own degree and at the degree after the one before
pub own-degree : (G : PGroup) (d : ℕ) (s s' : StageValue) → s ≡ s' → IsStageAt G d s' → IsStageAt G s.degree s
own-degree G d s s' e L = subst (λ k. IsStageAt G k s) (sym M.degree_is) M
  where
    M : IsStageAt G d s
    M = subst (λ x. IsStageAt G d x) (sym e) L

pub after-one : (G : PGroup) (d : ℕ) (s s' : StageValue) → 1 ≤ d → s ≡ s' → IsStageAt G d s'
    → IsStageAt G (suc (d - 1)) s
after-one G d s s' l e L = subst (λ k. IsStageAt G k s) (let z : d ≡ suc (d - 1) = omega (arith, l) in z)
    (subst (λ x. IsStageAt G d x) (sym e) L)
