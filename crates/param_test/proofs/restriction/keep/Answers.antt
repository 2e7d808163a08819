use Rattle.std.proofs.Common.{refl, ◌∙◌}
use Rattle.param_test.proofs.Keeping.{kept-over, kept-scalar, kept-monomial, kept-dropped, kept-added}
use Rattle.param_test.proofs.restriction.keep.Goals as goal
use Rattle.param_test.proofs.restriction.keep.Goals.{in-Some+in_ok-add_term-in-Some+in-Heap-1}
use Rattle.param_test.proofs.restriction.keep.Goals.{in-Some+in_ok-add_term-in-Some+in-Inline-1, in-None}

pub add_term-requires-clause-over : goal.add_term-requires-clause-over
add_term-requires-clause-over c =
    kept-over c.args.gens.now c.args.ring.now c.args.f.now c.loop-i.i c.requires.ring c.requires.over
    c.loop-i.out c.loop-i.invariant

pub add_term-requires-clause-below : goal.add_term-requires-clause-below
add_term-requires-clause-below c =
    kept-scalar c.args.gens.now c.args.ring.now c.args.f.now c.loop-i.i c.requires.ring c.requires.over
    c.coefficient.result c.mono.result.now c.coefficient.ensures c.mono.ensures

pub add_term-requires-clause-monomial : goal.add_term-requires-clause-monomial
add_term-requires-clause-monomial c =
    let h = rw c.in-Some.is at c.in_ok-m.ensures.some in
    kept-monomial c.args.gens.now c.args.ring.now c.args.f.now c.loop-i.i c.requires.ring c.requires.over
    c.coefficient.result c.mono.result.now
    c.coefficient.ensures c.mono.ensures c.loop-i.out c.loop-i.invariant c.in-Some.m h.0 h.1

pub loop-i-preserved : goal.loop-i-preserved
loop-i-preserved c = elim c.match-branch-2.branch [
  | in-Some+in_ok-add_term-in-Some+in-Heap-1 w ↦
      let h = rw w.in-Some.is at c.in_ok-m.ensures.some in
      w.out-is ∙ kept-added c.args.gens.now c.args.f.now c.loop-i.out c.loop-i.i w.coefficient.result
      c.mono.result.now w.coefficient.ensures c.mono.ensures
      c.loop-i.invariant c.args.ring.now w.in-Some.m w.add_term.new.self c.requires.ring c.requires.over h.0
      h.1 w.in_ok-add_term-in-Some.ensures.ok
  | in-Some+in_ok-add_term-in-Some+in-Inline-1 w ↦
      let h = rw w.in-Some.is at c.in_ok-m.ensures.some in
      w.out-is ∙ kept-added c.args.gens.now c.args.f.now c.loop-i.out c.loop-i.i w.coefficient.result
      c.mono.result.now w.coefficient.ensures c.mono.ensures
      c.loop-i.invariant c.args.ring.now w.in-Some.m w.add_term.new.self c.requires.ring c.requires.over h.0
      h.1 w.in_ok-add_term-in-Some.ensures.ok
  | in-None w ↦
      w.out-is ∙ kept-dropped c.args.gens.now c.args.f.now c.loop-i.out c.loop-i.i c.mono.result.now
      c.mono.ensures c.loop-i.invariant
      ((rw w.in-None.is at c.in_ok-m.ensures.none) refl)
]
