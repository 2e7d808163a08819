-- The six checks row by row are those that decide, and parts that pass are those of the next stage.
use Rattle.std.proofs.Common.{◌≡◌, ℕ, ◌+◌, ◌*◌, ◌<◌, ◌≤◌, List, length, arith, sym}
use mathlib.Core.Path.{subst}
use Rattle.linear_algebra.specs.Rows.{IsEchelon}
use Rattle.resolution_stages.specs.Checks.{StageParts, IsNextStage}
use Rattle.resolution_stages.specs.Chain.{parts_of}
use Rattle.resolution_stages.proofs.CheckClaims.{checks-next, next-checks}
use Rattle.fp_rows.specs.ReducedRows.{IsReducedRow, IsFirstBadRow}
use Rattle.p_groups.specs.PGroups.{PGroup, largest_residue, group, order_of}
use Rattle.p_groups.proofs.Fields.{field}
use Rattle.group_algebra.specs.Coordinates.{layer_coordinates}
use Rattle.min_res.specs.Stages.{stage_rows, rank_of}
use Rattle.min_res.specs.RecordChecks.{MayFollow, Passes, HoldsAt, AllHold, row_count}
use Rattle.min_res.specs.RecordChecks.{IsFirstFailure, list_before}
use Rattle.min_res.specs.declared.check.Check.{Check}
use Rattle.min_res.specs.declared.check.Check.TheVariants as check
use Rattle.min_res.proofs.StageLaws.{submodule-list, parts-are, parts-one}
use Rattle.min_res.proofs.Candidates.{reduced}
use Rattle.min_res.proofs.CheckOrder.{none-before}

-- a list of reduced rows is a reduced echelon list
echelon-of : (rows : List (List ℕ)) → ((k : ℕ) → k < length rows → IsReducedRow rows k) → IsEchelon rows
echelon-of rows h = record {
  not_zero = λ i l. (h i l).not_zero;
  ascending = λ i k m l. (h k l).after_earlier i m;
  monic = λ i l. (h i l).monic;
  cleared = λ i k l m d. (h k m).zero_at_others i l d;
}

module _ (G : PGroup) (d : ℕ) (Q : StageParts) where
  pub passes-all : AllHold G d Q → Passes G d Q
  passes-all h = record {
    echelon = echelon-of Q.kernel (λ k l. h check.ReducedKernel k l);
    kernel_to_zero = λ k l. h check.KernelToZero k l;
    sections_to_rows = λ k l. h check.SectionsToRows k l;
    zero_at_pivots = λ k i l m. h check.ZeroAtPivots k l i m;
    kernel_minimal = λ k l i. h check.MinimalKernel k l i;
    sections_before = λ k l no i g. h check.LaterPositions k l no i g;
  }

  pub all-passes : Passes G d Q → AllHold G d Q
  all-passes P check.ReducedKernel k l = reduced Q.kernel k P.echelon l
  all-passes P check.KernelToZero k l = P.kernel_to_zero k l
  all-passes P check.SectionsToRows k l = P.sections_to_rows k l
  all-passes P check.ZeroAtPivots k l = λ i m. P.zero_at_pivots k i l m
  all-passes P check.MinimalKernel k l = λ i. P.kernel_minimal k l i
  all-passes P check.LaterPositions k l = λ no i g. P.sections_before k l no i g

  module _ (F : MayFollow G d Q) where
    -- what passes is the next stage
    pub passed : Passes G d Q → Q ≡ parts_of (stage_rows G) d
    passed P = parts-one G d Q (checks-next (largest_residue G) (field G) (group G) (layer_coordinates G)
        (rank_of G d) (list_before G d Q) (submodule-list G d) Q F.0 F.1 P)

    -- and the next stage passes
    pub passes : Q ≡ parts_of (stage_rows G) d → Passes G d Q
    passes e = (next-checks (largest_residue G) (field G) (group G) (layer_coordinates G)
        (rank_of G d) (list_before G d Q) (submodule-list G d) Q F.0 next).1
      where
        next : IsNextStage (largest_residue G) (group G) (layer_coordinates G) (rank_of G d)
            ((stage_rows G).kernel d) Q
        next = subst (λ (R : StageParts). IsNextStage (largest_residue G) (group G) (layer_coordinates G)
            (rank_of G d) ((stage_rows G).kernel d) R) (sym e) (parts-are G d)

    in-kernel : length Q.kernel ≤ order_of G * length Q.positions
    in-kernel = let e : length Q.kernel + length (list_before G d Q) ≡ order_of G * length Q.positions = F.1
        in
        omega (arith, e)

    in-list : length (list_before G d Q) ≤ order_of G * length Q.positions
    in-list = let e : length Q.kernel + length (list_before G d Q) ≡ order_of G * length Q.positions = F.1 in
        omega (arith, e)

    -- a check has no more rows than the new free module has places
    pub few-rows : (c : Check) → row_count G d Q c ≤ order_of G * length Q.positions
    few-rows check.ReducedKernel = in-kernel
    few-rows check.KernelToZero = in-kernel
    few-rows check.MinimalKernel = in-kernel
    few-rows check.SectionsToRows = in-list
    few-rows check.ZeroAtPivots = in-list
    few-rows check.LaterPositions = in-list

  -- the first bad row of the kernel
  pub first-bad : (rows : List (List ℕ)) (k : ℕ) → rows ≡ Q.kernel → IsFirstBadRow rows k
      → IsFirstFailure G d Q check.ReducedKernel k
  first-bad rows k e B = go (subst (λ (x : List (List ℕ)). IsFirstBadRow x k) e B)
    where
      go : IsFirstBadRow Q.kernel k → IsFirstFailure G d Q check.ReducedKernel k
      go b = record {
        inside = b.inside;
        checks_before = λ c l. none-before (λ (x : Check). (i : ℕ) → i < row_count G d Q x
            → HoldsAt G d Q x i) c l;
        rows_before = b.good_before;
        fails = b.bad_here;
      }
