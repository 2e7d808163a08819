use Rattle.std.proofs.Common.{◌≡◌, ◌<◌, ◌++◌, length, map, take, get_or, arith, ap, sym, ◌∙◌}
use Rattle.group_table.specs.Tables.{order}
use Rattle.linear_algebra.proofs.Residues.{below-path}
use Rattle.radical_layers.specs.Moves.{move_row, moves_by}
use Rattle.p_groups.specs.PGroups.{PGroup, group}
use Rattle.group_algebra.specs.Coordinates.{free_module, sum_coordinates}
use Rattle.group_algebra.proofs.MoveLists.{moves-step, moves-end}
use Rattle.group_algebra.proofs.powers.moves_of.Goals as goal

pub loop-s-preserved : goal.loop-s-preserved
loop-s-preserved c =
    let G : PGroup = c.args.group.now in
    let b : get_or c.args.elements.now c.loop-s.s-index 0 < order G.table =
    c.requires.elements c.loop-s.s-index 0 c.loop-s-test.true in
    record {
      prime = c.in_ok-push_moves.ensures.kept.0 ∙ c.loop-s.invariant.prime;
      width = c.in_ok-push_moves.ensures.kept.1 ∙ c.loop-s.invariant.width;
      rows = λ gs n. moves-step (group G) (free_module G 1) (sum_coordinates G) gs c.args.elements.now
          c.loop-s.s-index c.args.list.now.rows c.loop-s.m.rows _ n c.loop-s-test.true b
          (c.loop-s.invariant.rows gs n)
          (λ g e. c.in_ok-push_moves.ensures.moves b
          ∙ ap (λ h. c.loop-s.m.rows ++ map (move_row (group G) (free_module G 1) (sum_coordinates G) h)
          c.args.list.now.rows) (below-path (_, b) g (sym e)));
    }

pub returns-clause-moves : goal.returns-clause-moves
returns-clause-moves c gs n =
    let G : PGroup = c.args.group.now in
    c.loop-s.invariant.rows gs n
    ∙ ap (λ m. moves_by (group G) (free_module G 1) (sum_coordinates G) (take m gs) c.args.list.now.rows)
    (let z : c.loop-s.s-index ≡ length c.args.elements.now = omega arith in z)
    ∙ moves-end (group G) (free_module G 1) (sum_coordinates G) gs c.args.elements.now c.args.list.now.rows n
