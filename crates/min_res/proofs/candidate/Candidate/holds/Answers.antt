use Rattle.std.proofs.Common.{◌≡◌, ◌↔◌, ◌<◌, IsTrue, List, ℕ, length, ap, sym, ◌∙◌, arith}
use mathlib.Core.Path.{subst}
use Rattle.std.proofs.lemmas.Bool.{lt-ltb}
use Rattle.linear_algebra.specs.Rows.{entry, row, pivot}
use Rattle.group_modules.specs.Field.{Below}
use Rattle.min_res.specs.RecordChecks.{HasSumZero}
use Rattle.min_res.specs.declared.check.Check.{Check}
use Rattle.min_res.specs.Held.{Holds, rows_of}
use Rattle.min_res.proofs.Candidates.{reduced}
use Rattle.min_res.proofs.candidate.Candidate.holds.Goals as goal

pub returns-in-ReducedKernel-clause-holds : goal.returns-in-ReducedKernel-clause-holds
returns-in-ReducedKernel-clause-holds c =
    let s = c.args.self.now in
    let inside : c.args.k < length s.kernel.now.rows =
    subst (λ (x : Check). c.args.k < rows_of s x) c.in-ReducedKernel.is c.requires.inside in (
      λ t. subst (λ (x : Check). Holds s x c.args.k) (sym c.in-ReducedKernel.is)
          (reduced s.kernel.now.rows c.args.k c.rows.ensures.echelon inside),
      λ h. lt-ltb c.args.k c.rows.result (omega (arith, inside, c.rows.ensures.count)),
    )

pub returns-in-KernelToZero-clause-holds : goal.returns-in-KernelToZero-clause-holds
returns-in-KernelToZero-clause-holds c =
    subst (λ (x : Check). IsTrue c.kernel_to_zero.result ↔ Holds c.args.self.now x c.args.k)
    (sym c.in-KernelToZero.is) c.kernel_to_zero.ensures.holds

pub returns-in-SectionsToRows-clause-holds : goal.returns-in-SectionsToRows-clause-holds
returns-in-SectionsToRows-clause-holds c =
    subst (λ (x : Check). IsTrue c.section_to_row.result ↔ Holds c.args.self.now x c.args.k)
    (sym c.in-SectionsToRows.is) c.section_to_row.ensures.holds

pub returns-in-ZeroAtPivots-clause-holds : goal.returns-in-ZeroAtPivots-clause-holds
returns-in-ZeroAtPivots-clause-holds c =
    let s = c.args.self.now in
    subst (λ (x : Check). IsTrue c.is_zero_at_pivots.result ↔ Holds s x c.args.k) (sym c.in-ZeroAtPivots.is)
    (subst (λ (x : List ℕ). IsTrue c.is_zero_at_pivots.result
    ↔ ((i : ℕ) → i < length s.kernel.now.rows → entry x (pivot (row s.kernel.now.rows i)) ≡ 0))
    c.section_row.ensures.entries c.is_zero_at_pivots.ensures)

pub returns-in-MinimalKernel-clause-holds : goal.returns-in-MinimalKernel-clause-holds
returns-in-MinimalKernel-clause-holds c =
    let s = c.args.self.now in
    let m : c.len.result ≡ length s.boundary.now.positions =
    c.len.ensures ∙ ap (λ (x : List ℕ). length x) c.positions.ensures in
    subst (λ (x : Check). IsTrue c.are_sums_zero.result ↔ Holds s x c.args.k) (sym c.in-MinimalKernel.is)
    (subst (λ (n : ℕ). IsTrue c.are_sums_zero.result
    ↔ ((i : Below n) → HasSumZero s.algebra.now n (row s.kernel.now.rows c.args.k) i)) m
    (subst (λ (x : List ℕ). IsTrue c.are_sums_zero.result
    ↔ ((i : Below c.len.result) → HasSumZero s.algebra.now c.len.result x i)) c.row.ensures.entries
    c.are_sums_zero.ensures))

pub returns-in-LaterPositions-clause-holds : goal.returns-in-LaterPositions-clause-holds
returns-in-LaterPositions-clause-holds c =
    subst (λ (x : Check). IsTrue c.later_positions.result ↔ Holds c.args.self.now x c.args.k)
    (sym c.in-LaterPositions.is) c.later_positions.ensures
