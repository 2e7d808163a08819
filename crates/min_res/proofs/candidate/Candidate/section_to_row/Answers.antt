use Rattle.std.proofs.Common.{◌≡◌, List, ℕ, length, ap, sym, ◌∙◌}
use Rattle.linear_algebra.specs.Rows.{row}
use Rattle.fp_rows.specs.Refs.{entries_of}
use Rattle.fp_rows.specs.Values.{MatrixValue}
use Rattle.group_algebra.specs.Coordinates.{row_of}
use Rattle.min_res.specs.Candidates.{IsValueRow}
use Rattle.min_res.specs.Stages.{rank_of, stage_rows}
use Rattle.min_res.specs.RecordChecks.{boundary_at}
use Rattle.min_res.specs.Held.{parts_of_candidate}
use Rattle.min_res.proofs.Candidates.{section-row, list-row, row-same, value-row-of, written}
use Rattle.min_res.proofs.candidate.Candidate.section_to_row.Goals as goal

pub are_equal-requires : goal.are_equal-requires
are_equal-requires c =
    let s = c.args.self.now in let I = c.requires.fits.candidate in
    let before : entries_of c.row.result
    ≡ row ((stage_rows s.algebra.now).kernel s.last.now.degree) c.args.k =
    c.row.ensures.entries
    ∙ ap (λ (m : MatrixValue). row m.rows c.args.k) (c.kernel.ensures ∙ c.requires.fits.last_is.kernel_is) in
    let V : IsValueRow s.algebra.now s.last.now.degree c.write_value.new.out =
    value-row-of s.algebra.now s.last.now.degree s.boundary.now s.kernel.now I
    (entries_of c.section_row.result) (row s.boundary.now.sections.rows c.args.k) c.args.value.now
    c.write_value.new.out c.section_row.ensures.entries
    (section-row s.algebra.now s.last.now.degree s.boundary.now s.kernel.now I c.args.k c.requires.inside)
    c.requires.value c.write_value.ensures.prime c.write_value.ensures.value in
    ap (λ (x : List ℕ). length x) c.view.ensures.entries ∙ V.count
    ∙ sym (ap (λ (x : List ℕ). length x) before
    ∙ (list-row s.algebra.now s.last.now.degree s.boundary.now s.kernel.now I c.args.k
    c.requires.inside).length_is)

pub returns-clause-value : goal.returns-clause-value
returns-clause-value c =
    let s = c.args.self.now in let I = c.requires.fits.candidate in
    value-row-of s.algebra.now s.last.now.degree s.boundary.now s.kernel.now I
    (entries_of c.section_row.result) (row s.boundary.now.sections.rows c.args.k) c.args.value.now
    c.write_value.new.out c.section_row.ensures.entries
    (section-row s.algebra.now s.last.now.degree s.boundary.now s.kernel.now I c.args.k c.requires.inside)
    c.requires.value c.write_value.ensures.prime c.write_value.ensures.value

pub returns-clause-holds : goal.returns-clause-holds
returns-clause-holds c =
    let s = c.args.self.now in let I = c.requires.fits.candidate in
    let before : entries_of c.row.result
    ≡ row ((stage_rows s.algebra.now).kernel s.last.now.degree) c.args.k =
    c.row.ensures.entries
    ∙ ap (λ (m : MatrixValue). row m.rows c.args.k) (c.kernel.ensures ∙ c.requires.fits.last_is.kernel_is) in
    let value : entries_of c.view.result ≡ row_of s.algebra.now (rank_of s.algebra.now s.last.now.degree)
    (boundary_at s.algebra.now s.last.now.degree (parts_of_candidate s)
    (row s.boundary.now.sections.rows c.args.k)) =
    c.view.ensures.entries ∙ written s.algebra.now s.last.now.degree s.boundary.now s.kernel.now I
    (entries_of c.section_row.result) (row s.boundary.now.sections.rows c.args.k)
    c.write_value.new.out.entries
    c.section_row.ensures.entries
    (section-row s.algebra.now s.last.now.degree s.boundary.now s.kernel.now I c.args.k c.requires.inside)
    c.write_value.ensures.value in
    let z = row-same s.algebra.now (rank_of s.algebra.now s.last.now.degree)
    (boundary_at s.algebra.now s.last.now.degree (parts_of_candidate s)
    (row s.boundary.now.sections.rows c.args.k))
    (row ((stage_rows s.algebra.now).kernel s.last.now.degree) c.args.k)
    (list-row s.algebra.now s.last.now.degree s.boundary.now s.kernel.now I c.args.k c.requires.inside) in (
      λ t. z.0 (sym value ∙ c.are_equal.ensures.0 t ∙ before),
      λ h. c.are_equal.ensures.1 (value ∙ z.1 h ∙ sym before),
    )
