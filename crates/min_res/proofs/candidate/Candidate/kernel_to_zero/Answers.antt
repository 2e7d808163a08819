use Rattle.std.proofs.Common.{◌≡◌, List, ℕ, sym, ◌∙◌}
use mathlib.Core.Path.{subst}
use Rattle.linear_algebra.specs.Rows.{row}
use Rattle.fp_rows.specs.Parts.{IsZero}
use Rattle.fp_rows.specs.Refs.{entries_of}
use Rattle.group_algebra.specs.Coordinates.{row_of}
use Rattle.min_res.specs.Stages.{rank_of}
use Rattle.min_res.specs.RecordChecks.{boundary_at}
use Rattle.min_res.specs.Held.{parts_of_candidate}
use Rattle.min_res.proofs.Candidates.{kernel-row, row-zero, value-row-of, written}
use Rattle.min_res.proofs.candidate.Candidate.kernel_to_zero.Goals as goal

pub returns-clause-value : goal.returns-clause-value
returns-clause-value c =
    let s = c.args.self.now in let I = c.requires.fits.candidate in
    value-row-of s.algebra.now s.last.now.degree s.boundary.now s.kernel.now I
    (entries_of c.row.result) (row s.kernel.now.rows c.args.k) c.args.value.now c.write_value.new.out
    c.row.ensures.entries
    (kernel-row s.algebra.now s.last.now.degree s.boundary.now s.kernel.now I c.args.k c.requires.inside)
    c.requires.value c.write_value.ensures.prime c.write_value.ensures.value

pub returns-clause-holds : goal.returns-clause-holds
returns-clause-holds c =
    let s = c.args.self.now in let I = c.requires.fits.candidate in
    let w : entries_of c.view.result ≡ row_of s.algebra.now (rank_of s.algebra.now s.last.now.degree)
    (boundary_at s.algebra.now s.last.now.degree (parts_of_candidate s) (row s.kernel.now.rows c.args.k))
    = c.view.ensures.entries ∙ written s.algebra.now s.last.now.degree s.boundary.now s.kernel.now I
    (entries_of c.row.result) (row s.kernel.now.rows c.args.k) c.write_value.new.out.entries
    c.row.ensures.entries
    (kernel-row s.algebra.now s.last.now.degree s.boundary.now s.kernel.now I c.args.k c.requires.inside)
    c.write_value.ensures.value in
    let z = row-zero s.algebra.now (rank_of s.algebra.now s.last.now.degree)
    (boundary_at s.algebra.now s.last.now.degree (parts_of_candidate s) (row s.kernel.now.rows c.args.k)) in (
      λ t. z.0 (subst (λ (x : List ℕ). IsZero x) w (c.is_zero.ensures.0 t)),
      λ h. c.is_zero.ensures.1 (subst (λ (x : List ℕ). IsZero x) (sym w) (z.1 h)),
    )
