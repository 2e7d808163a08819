use Rattle.std.proofs.Common.{◌≡◌, ◌<◌, length, get_or, arith, ap, ◌∙◌}
use Rattle.std.proofs.lemmas.List.{get_or_default, length-map}
use Rattle.linear_algebra.specs.Rows.{row, pivot}
use Rattle.fp_rows.proofs.ListLemmas.{kept_pivot}
use Rattle.fp_rows.proofs.basis.Echelon.pivot.Goals as goal

pub returns-clause-inside : goal.returns-clause-inside
returns-clause-inside c = let l : c.args.i < length c.self.inside.matrix.rows =
    rw (← c.self.view_is) at c.requires in
    let q : get_or c.self.inside.pivots.items c.args.i 0 ≡ pivot
    (row c.self.inside.matrix.rows c.args.i) =
    kept_pivot c.self.inside.matrix.rows c.self.inside.pivots.items c.args.i
    c.self.invariant.pivots_are l in
    let z : pivot (row c.self.inside.matrix.rows c.args.i) < c.self.inside.matrix.width =
    (let n = c.self.invariant.echelon.not_zero c.args.i l in let w =
    (c.self.invariant.matrix c.args.i l).length_is in omega (arith, n, w)) in
    let m : c.args.i < length c.self.inside.pivots.items =
    (let n = ap length c.self.invariant.pivots_are in omega (
      arith,
      l,
      n,
      length-map c.self.inside.matrix.rows pivot,
    )) in
    let r : c.index.result.now ≡ get_or c.self.inside.pivots.items c.args.i 0 = c.index.ensures
    ∙ get_or_default c.self.inside.pivots.items c.args.i c.index.result.now 0 m in
    rw (← c.self.view_is) (omega (arith, r, q, z))
