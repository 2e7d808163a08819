use Rattle.std.proofs.Common.{◌≡◌, ap, sym, ◌∙◌, Bool, true, false}
use Rattle.std.specs.Prelude.{not}
use Rattle.linear_algebra.specs.Rows.{row}
use Rattle.fp_rows.specs.Refs.{entries_of}
use Rattle.min_res.proofs.Candidates.{lacks-same, later-same}
use Rattle.min_res.proofs.candidate.Candidate.later_positions.Goals as goal

pub returns-then-not-lacks : goal.returns-then-not-lacks
returns-then-not-lacks c =
    let s = c.args.self.now in
    let L = lacks-same c.positions-positions.result.now s.boundary.now.positions c.args.k c.lacks.result
    c.positions-positions.ensures c.lacks.ensures in (
      λ t no. let e : true ≡ false = sym (L.1 no) ∙ c.if-not-lacks.true in absurd (cc),
      λ h. ap (λ (b : Bool). not b) c.if-not-lacks.true,
    )

pub returns-else-not-lacks : goal.returns-else-not-lacks
returns-else-not-lacks c =
    let s = c.args.self.now in
    let L = lacks-same c.positions-positions.result.now s.boundary.now.positions c.args.k c.lacks.result
    c.positions-positions.ensures c.lacks.ensures in
    let A = later-same s.algebra.now c.positions-positions.result.now s.boundary.now.positions
    (entries_of c.section_row-section.result) (row s.boundary.now.sections.rows c.args.k) c.args.k
    c.are_later_sums_zero.result c.positions-positions.ensures c.section_row-section.ensures.entries
    c.are_later_sums_zero.ensures in
    (λ t no. A.0 t, λ h. A.1 (h (L.0 c.if-not-lacks.false)))
