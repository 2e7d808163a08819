use Rattle.std.proofs.Common.{◌*◌, ◌^◌, ◌≤◌, arith, ap}
use Rattle.p_groups.specs.PGroups.{order_of}
use Rattle.fp_rows.specs.Values.{MatrixValue}
use Rattle.min_res.specs.Stages.{rank_of}
use Rattle.min_res.specs.Values.{StageValue}
use Rattle.cohomology_degree.proofs.Ranks.{rank-few}
use Rattle.cohomology_degree.proofs.next.rank.Goals as goal

pub returns-clause-few : goal.returns-clause-few
returns-clause-few c =
    let G = c.args.res.now.group in
    let s = c.stage_at.ensures.stage in
    let w = ap (λ (m : MatrixValue). m.width) s.kernel_is in
    let small : order_of G * rank_of G c.args.d ≤ 2 ^ 28 = omega (arith, w, c.stage_at.ensures.small) in
    let few = rank-few G c.args.d c.requires.low small in
    let same = ap (λ (s : StageValue). s.rank) c.deref.ensures in
    omega (arith, few, same, s.rank_is, c.rank.ensures)
