-- Each term of the multiple is added.
use Rattle.std.proofs.Common.{arith, ◌*◌, ◌%◌, ◌∙◌, refl}
use Rattle.gc_poly.proofs.SumLemmas.{small-product, coefficient-at, monomial-at, step-multiple}
use Rattle.gc_poly.proofs.sums.add_multiple.Goals as goal

pub overflow_mul-coefficient : goal.overflow_mul-coefficient
overflow_mul-coefficient c =
    omega (
      arith,
      small-product c.args.c c.coefficient.result c.requires.small
          (omega (
            arith,
            coefficient-at c.args.gens.now c.args.f.now c.loop-i.i c.coefficient.result
                c.requires.over (omega arith) c.coefficient.ensures,
          )),
    )

pub add_term-requires-clause-monomial : goal.add_term-requires-clause-monomial
add_term-requires-clause-monomial c =
    monomial-at c.args.gens.now c.args.f.now c.loop-i.i c.loop-i.out.degree c.mono.result.now c.requires.over
    (c.loop-i.invariant.degree_is ∙ c.requires.degrees) c.mono.ensures

pub loop-i-preserved : goal.loop-i-preserved
loop-i-preserved c =
    step-multiple c.args.gens.now c.args.out.now.degree c.args.out.now.terms c.args.c c.coefficient.result
    (c.args.c * c.coefficient.result % c.modulus-p.result) c.loop-i.i c.modulus-p.result
    c.mono.result.now c.args.f.now.terms c.loop-i.out c.add_term.new.self
    c.coefficient.ensures c.mono.ensures c.modulus-p.ensures.value c.modulus-p.ensures.low refl
    c.loop-i.invariant c.in_ok-add_term.ensures.ok
