use Rattle.std.proofs.Common.{◌≡◌, ◌<◌, ◌+◌, length, get_or, arith, ap, sym, ◌∙◌}
use mathlib.Core.Path.{subst}
use Rattle.group_table.specs.Tables.{GroupTable, order, product}
use Rattle.p_groups.specs.PGroups.{order_of}
use Rattle.bar_eval.specs.Comparison.{tuple_of}
use Rattle.bar_eval.proofs.FaceLists.{joined-last, in-pieces, all-pieces, face-is}
use Rattle.bar_eval.proofs.faces.face.Goals as goal

pub returns-then-i-tuple-clause-face : goal.returns-then-i-tuple-clause-face
returns-then-i-tuple-clause-face c d e =
    ap (tuple_of c.args.group.now d) (c.in_ok-face.ensures.items
    ∙ sym (joined-last (product c.args.group.now.table) c.args.i c.args.tuple.now
    (let h : c.args.i + 1 ≡ length c.args.tuple.now = c.if-i-tuple.true in omega (arith, h))))
    ∙ face-is c.args.group.now d c.args.i c.args.tuple.now c.requires.elements e

pub returns-clause-face : goal.returns-clause-face
returns-clause-face c d e =
    ap (tuple_of c.args.group.now d) (in-pieces (product c.args.group.now.table) c.args.i c.args.tuple.now
    c.in_ok-face.face.items c.push.new.self.items c.extend_from_slice.new.self.items c.mul.result
    (omega (arith, c.requires.inside, c.if-i-tuple.false)) c.in_ok-face.ensures.items
    (c.mul.ensures.value ∙ ap (λ (T : GroupTable). product T (get_or c.args.tuple.now c.args.i 0)
    (get_or c.args.tuple.now (c.args.i + 1) 0)) c.as_group.ensures) c.in_ok-push.ensures.items
    c.in_ok-extend_from_slice.ensures.items)
    ∙ face-is c.args.group.now d c.args.i c.args.tuple.now c.requires.elements e

pub returns-clause-elements : goal.returns-clause-elements
returns-clause-elements c = all-pieces (λ x. x < order_of c.args.group.now) c.args.tuple.now
    c.in_ok-face.face.items c.push.new.self.items c.extend_from_slice.new.self.items c.mul.result c.args.i _ _
    c.requires.elements
    (subst (λ (T : GroupTable). c.mul.result < order T) c.as_group.ensures c.mul.ensures.below)
    c.in_ok-face.ensures.items c.in_ok-push.ensures.items c.in_ok-extend_from_slice.ensures.items
