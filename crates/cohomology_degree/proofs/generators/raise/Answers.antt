use Rattle.std.proofs.Common.{◌≡◌, ◌+◌, ◌<◌, ◌≤◌, length, take, arith, ap, sym, ◌∙◌}
use Rattle.std.proofs.lemmas.List.{take_all, take_more_set}
use Rattle.std.proofs.lemmas.List.Elements.{All-push, All-same}
use Rattle.chain_lift.specs.Values.{LiftValue}
use Rattle.cohomology_degree.proofs.Lists.{length-kept, kept-at, kept-set}
use Rattle.cohomology_degree.proofs.generators.raise.Goals as goal

pub overflow_sub-d : goal.overflow_sub-d
overflow_sub-d c =
    let x = c.lift-item.result in
    let n : length c.loop-lift.lifts ≡ length c.args.lifts.now = length-kept _ _ c.loop-lift.invariant.kept in
    let l : c.loop-lift.lift-index < length c.args.lifts.now = omega (arith, n) in
    let a = c.requires.degrees c.loop-lift.lift-index x l in
    let b = ap (λ (y : LiftValue). y.degree)
    (kept-at c.loop-lift.lifts c.args.lifts.now c.loop-lift.invariant.kept c.loop-lift.lift-index x x
    (omega arith)) in
    omega (arith, a, b, c.degree.ensures)

pub extend_to-requires-clause-within : goal.extend_to-requires-clause-within
extend_to-requires-clause-within c =
    let x = c.lift-item.result in
    let n : length c.loop-lift.lifts ≡ length c.args.lifts.now = length-kept _ _ c.loop-lift.invariant.kept in
    let l : c.loop-lift.lift-index < length c.args.lifts.now = omega (arith, n) in
    let a = c.requires.degrees c.loop-lift.lift-index x l in
    let b = ap (λ (y : LiftValue). y.degree)
    (kept-at c.loop-lift.lifts c.args.lifts.now c.loop-lift.invariant.kept c.loop-lift.lift-index x x
    (omega arith)) in
    omega (arith, a, b, c.degree.ensures, c.requires.within)

pub extend_to-requires-clause-group : goal.extend_to-requires-clause-group
extend_to-requires-clause-group c =
    let x = c.lift-item.result in
    let n : length c.loop-lift.lifts ≡ length c.args.lifts.now = length-kept _ _ c.loop-lift.invariant.kept in
    let l : c.loop-lift.lift-index < length c.args.lifts.now = omega (arith, n) in
    sym (ap (λ (y : LiftValue). y.group)
    (kept-at c.loop-lift.lifts c.args.lifts.now c.loop-lift.invariant.kept c.loop-lift.lift-index x x
    (omega arith))
    ∙ c.requires.groups c.loop-lift.lift-index x l)

pub loop-lift-preserved : goal.loop-lift-preserved
loop-lift-preserved c =
    let x = c.lift-item.result in
    let new = c.extend_to.new.self in
    let n : length c.loop-lift.lifts ≡ length c.args.lifts.now = length-kept _ _ c.loop-lift.invariant.kept in
    let l : c.loop-lift.lift-index < length c.loop-lift.lifts = omega arith in
    let k : c.loop-lift.lift-index < length c.args.lifts.now = omega (arith, n) in
    let a = c.requires.degrees c.loop-lift.lift-index x k in
    let b = ap (λ (y : LiftValue). y.degree)
    (kept-at c.loop-lift.lifts c.args.lifts.now c.loop-lift.invariant.kept c.loop-lift.lift-index x x l)
    in
    let d = ap (λ (y : LiftValue). y.degree) c.in_ok-extend_to.ensures.reached in
    let h = ap (λ (y : LiftValue). y.height) c.in_ok-extend_to.ensures.reached in
    record {
      kept = kept-set c.loop-lift.lifts c.loop-lift.lift-index new x l
          (ap (λ (y : LiftValue). record y { height = 0 }) c.in_ok-extend_to.ensures.reached)
          ∙ c.loop-lift.invariant.kept;
      raised = All-same (λ (y : LiftValue). c.args.d ≤ y.degree + y.height) _ _
          (take_more_set c.loop-lift.lifts c.loop-lift.lift-index new l)
          (All-push (λ (y : LiftValue). c.args.d ≤ y.degree + y.height)
          (take c.loop-lift.lift-index c.loop-lift.lifts) new c.loop-lift.invariant.raised
          (omega (arith, a, b, d, h, c.degree.ensures)));
    }

pub returns-clause-raised : goal.returns-clause-raised
returns-clause-raised c = All-same (λ (y : LiftValue). c.args.d ≤ y.degree + y.height) _ _
    (sym (take_all c.loop-lift.lift-index c.loop-lift.lifts (omega arith))) c.loop-lift.invariant.raised
