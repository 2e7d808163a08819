use Rattle.std.proofs.Common.{◌≡◌, ◌+◌, length, arith, ap, sym, subst, ◌∙◌}
use Rattle.graded_polynomials.specs.Monomials.{exponent}
use Rattle.gc_poly.specs.Generators.{greatest}
use Rattle.param_test.proofs.Taking.{IsTaken, taken-more, taken-left, taken-none, taken-inside, taken-is}
use Rattle.param_test.proofs.restriction.restrict.Goals as goal
use Rattle.param_test.proofs.restriction.restrict.Goals.{then-degree-unit+in_ok-push}
use Rattle.param_test.proofs.restriction.restrict.Goals.{else-degree-unit+else-e-ne0}

pub returns-then-e-ne0-clause-none : goal.returns-then-e-ne0-clause-none
returns-then-e-ne0-clause-none c = λ _.
    taken-none (greatest c.args.gens.now) c.args.gens.now.degrees c.args.m.now c.loop-i.i c.degree.result
    c.exponent-e.result c.loop-i.exponents.items
    (omega arith) c.degree.ensures.value c.exponent-e.ensures c.loop-i.invariant c.unit_degree-unit.result
    c.unit_degree-unit.ensures.value
    c.if-degree-unit.false c.if-e-ne0.true

pub loop-i-preserved : goal.loop-i-preserved
loop-i-preserved c = elim c.if-degree-unit.branch [
  | then-degree-unit+in_ok-push w ↦
      subst (IsTaken (greatest c.args.gens.now) c.args.gens.now.degrees c.args.m.now (c.loop-i.i + 1))
      (sym (ap (λ v. v.items) w.exponents-is ∙ w.in_ok-push.ensures.items))
      (taken-more (greatest c.args.gens.now) c.args.gens.now.degrees c.args.m.now c.loop-i.i c.degree.result
      c.exponent-e.result c.loop-i.exponents.items
      (omega arith) c.degree.ensures.value c.exponent-e.ensures c.loop-i.invariant c.unit_degree-unit.result
      c.unit_degree-unit.ensures.value w.if-degree-unit.true)
  | else-degree-unit+else-e-ne0 w ↦
      subst (IsTaken (greatest c.args.gens.now) c.args.gens.now.degrees c.args.m.now (c.loop-i.i + 1))
      (sym (ap (λ v. v.items) w.exponents-is))
      (taken-left (greatest c.args.gens.now) c.args.gens.now.degrees c.args.m.now c.loop-i.i c.degree.result
      c.exponent-e.result c.loop-i.exponents.items
      (omega arith) c.degree.ensures.value c.exponent-e.ensures c.loop-i.invariant c.unit_degree-unit.result
      c.unit_degree-unit.ensures.value w.if-degree-unit.false w.if-e-ne0.false)
]

pub returns-clause-some : goal.returns-clause-some
returns-clause-some c =
    let e : c.loop-i.i ≡ length c.args.gens.now.degrees = omega arith in (
      taken-inside (greatest c.args.gens.now) c.args.gens.now.degrees c.args.m.now c.loop-i.i
          c.loop-i.exponents.items e c.loop-i.invariant,
      taken-is (greatest c.args.gens.now) c.args.gens.now.degrees c.args.m.now c.loop-i.i
          c.loop-i.exponents.items e c.loop-i.invariant
          c.in_ok-of.field-0 c.requires.within c.requires.trimmed c.in_ok-of.ensures.trimmed
          (λ k. c.in_ok-of.ensures.exponents k ∙ ap (λ ys. exponent ys k) c.deref.ensures.value),
    )
