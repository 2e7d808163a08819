use Rattle.std.proofs.Common.{◌<◌, ◌-◌, ap, sym, ◌∙◌, arith}
use Rattle.stage_file.proofs.Rows.{position-count, position-of, number-of}
use Rattle.stage_file.proofs.stage_ref.StageRefStageParts.position.Goals as goal

pub number_at-number-requires : goal.number_at-number-requires
number_at-number-requires c =
    omega (
      arith,
      c.args.self.now.are_views.position_size,
      c.requires,
      position-count c.args.self.now.rank
          c.args.self.now.positions.now,
    )

pub overflow_sub-result : goal.overflow_sub-result
overflow_sub-result c =
    let l : c.args.i < c.args.self.now.rank
    = omega (arith, c.requires, position-count c.args.self.now.rank c.args.self.now.positions.now) in
    omega (
      arith,
      c.args.self.now.are_views.counted_from_one c.args.i l,
      number-of c.args.self.now.rank
          c.args.self.now.positions.now c.args.i l,
      c.from.ensures,
      c.number_at-number.ensures,
    )

pub returns : goal.returns
returns c =
    let l : c.args.i < c.args.self.now.rank
    = omega (arith, c.requires, position-count c.args.self.now.rank c.args.self.now.positions.now) in
    ap (λ n. n - 1) (c.from.ensures ∙ c.number_at-number.ensures)
    ∙ sym (position-of c.args.self.now.rank c.args.self.now.positions.now c.args.i l)
