-- The stage that is made of parts.
use Rattle.std.proofs.Common.{◌≡◌, ℕ, suc, ◌+◌, ◌*◌, ◌<◌, ◌≤◌, ◌^◌, List, length, refl, arith, ap, sym, ◌∙◌}
use Rattle.std.specs.Prelude.{Some}
use mathlib.Core.Path.{subst}
use Rattle.std.proofs.lemmas.List.{length-map}
use Rattle.linear_algebra.specs.Choices.{rows_at}
use Rattle.linear_algebra.specs.Kernels.{unit_row}
use Rattle.linear_algebra.specs.Rows.{row}
use Rattle.resolution_stages.specs.Checks.{StageParts, chosen_row}
use Rattle.resolution_stages.specs.Chain.{parts_of}
use Rattle.resolution_stages.specs.Computed.{IsMatrixOf}
use Rattle.fp_rows.specs.Values.{MatrixValue}
use Rattle.p_groups.specs.PGroups.{PGroup, largest_residue, group, order_of}
use Rattle.group_algebra.specs.Coordinates.{layer_coordinates, row_of}
use Rattle.min_res.specs.Stages.{stage_rows, rank_of}
use Rattle.min_res.specs.Values.{BoundaryValue, StageValue}
use Rattle.min_res.specs.Defined.{IsBoundaryAt, IsStageAt}
use Rattle.min_res.specs.RecordChecks.{MayFollow, boundary_at, new_boundary, list_before}
use Rattle.min_res.specs.Candidates.{IsBoundaryBy, IsCandidate, kept_parts, kernel_by}
use Rattle.min_res.proofs.MapRows.{map-by, HoldsValues}

module _ (G : PGroup) (d : ℕ) (Q : StageParts) where
  abbrev IsMatrix' : List (List ℕ) → Type 0
  IsMatrix' M = IsMatrixOf (layer_coordinates G (length Q.positions)) (layer_coordinates G (rank_of G d))
      (new_boundary G d Q) M

  matrix-at : (M : List (List ℕ)) → HoldsValues G (rank_of G d) (rows_at (list_before G d Q) Q.positions) M
      → IsMatrix' M
  matrix-at M h = record {
    count = h.count ∙ ap (λ m. order_of G * m) count;
    each = λ j l. h.each j (subst (λ m. j < order_of G * m) (sym count) l)
        ∙ map-by G (rank_of G d) (length Q.positions) chosen count
        (chosen_row (largest_residue G) (group G) (layer_coordinates G) (rank_of G d) (list_before G d Q) Q)
        (λ i. refl) (unit_row (order_of G * length chosen) j)
        ∙ ap (λ m. row_of G (rank_of G d) (boundary_at G d Q (unit_row (order_of G * m) j))) count;
  }
    where
      chosen : List (List ℕ)
      chosen = rows_at (list_before G d Q) Q.positions

      count : length chosen ≡ length Q.positions
      count = length-map Q.positions (row (list_before G d Q))

  -- the values at the unit rows of the map by the chosen rows are the matrix of the boundary
  pub matrix-by : (b : ℕ) (E : List (List ℕ)) (xs : List ℕ) (M : List (List ℕ)) → b ≡ rank_of G d
      → E ≡ list_before G d Q → xs ≡ Q.positions → HoldsValues G b (rows_at E xs) M → IsMatrix' M
  matrix-by b E xs M eb eE ex h = matrix-at M
      (subst (λ (x : List ℕ). HoldsValues G (rank_of G d) (rows_at (list_before G d Q) x) M) ex
      (subst (λ (E : List (List ℕ)). HoldsValues G (rank_of G d) (rows_at E xs) M) eE
      (subst (λ (b : ℕ). HoldsValues G b (rows_at E xs) M) eb h)))

  module _ (B : BoundaryValue) (kernel : MatrixValue) (I : IsBoundaryBy G d Q B)
      (K : kernel ≡ kernel_by G Q) where
    -- what is kept is what was given
    pub kept : kept_parts B kernel ≡ Q
    kept = made I.positions_are (ap (λ (m : MatrixValue). m.rows) K)
        (ap (λ (m : MatrixValue). m.rows) I.sections_are)
      where
        made : {x : List ℕ} {y z : List (List ℕ)} → B.positions ≡ x → kernel.rows ≡ y → B.sections.rows ≡ z
            → kept_parts B kernel ≡ record { positions = x; kernel = y; sections = z }
        made p q r = λ i. record { positions = p i; kernel = q i; sections = r i }

    pub candidate : MayFollow G d Q → order_of G * length Q.positions ≤ 2 ^ 28 → IsCandidate G d B kernel
    candidate F small = record {
      may_follow = subst (λ (R : StageParts). MayFollow G d R) (sym kept) F;
      boundary_is = subst (λ (R : StageParts). IsBoundaryBy G d R B) (sym kept) I;
      kernel_is = subst (λ (R : StageParts). kernel ≡ kernel_by G R) (sym kept) K;
      small = subst (λ (x : List ℕ). order_of G * length x ≤ 2 ^ 28) (sym I.positions_are) small;
    }

-- the stage with the parts of the defined one
stage-with : (G : PGroup) (d : ℕ) (s : StageValue) (B : BoundaryValue)
    → IsBoundaryBy G d (parts_of (stage_rows G) d) B → s.kernel ≡ kernel_by G (parts_of (stage_rows G) d)
    → s.degree ≡ d + 1 → s.rank ≡ length B.positions → s.boundary ≡ Some B → IsStageAt G (suc d) s
stage-with G d s B I K degree rank boundary = record {
  degree_is = degree ∙ (let z : d + 1 ≡ suc d = omega arith in z);
  rank_is = rank ∙ ap (λ (x : List ℕ). length x) I.positions_are;
  kernel_is = K;
  none_at_zero = λ e. absurd (omega (arith, e));
  boundary_is = λ c e. (
    B,
    boundary,
    subst (λ k. IsBoundaryAt G k B) (let z : d ≡ c = omega (arith, e) in z) boundary-at,
  );
}
  where
    boundary-at : IsBoundaryAt G d B
    boundary-at = record {
      source_is = I.source_is;
      positions_are = I.positions_are;
      matrix_prime = I.matrix_prime;
      matrix_width = I.matrix_width;
      matrix_is = I.matrix_is;
      sections_are = I.sections_are;
    }

pub stage-of : (G : PGroup) (d : ℕ) (Q : StageParts) (s : StageValue) (B : BoundaryValue)
    → Q ≡ parts_of (stage_rows G) d → IsBoundaryBy G d Q B → s.kernel ≡ kernel_by G Q → s.degree ≡ d + 1
    → s.rank ≡ length B.positions → s.boundary ≡ Some B → IsStageAt G (suc d) s
stage-of G d Q s B e I K degree rank boundary =
    stage-with G d s B (subst (λ (R : StageParts). IsBoundaryBy G d R B) e I)
    (subst (λ (R : StageParts). s.kernel ≡ kernel_by G R) e K) degree rank boundary
