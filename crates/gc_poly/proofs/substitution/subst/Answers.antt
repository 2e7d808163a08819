use Rattle.std.proofs.Common.{arith, sym, ◌∙◌, refl}
use Rattle.graded_algebra.specs.Algebras.{evaluate}
use Rattle.gc_poly.specs.Generators.{greatest}
use Rattle.gc_poly.specs.Substitution.{polynomials, standing}
use Rattle.gc_poly.proofs.SumLemmas.{coefficient-at, monomial-at}
use Rattle.gc_poly.proofs.Substituting.{as-many, image-degree, term-step}
use Rattle.gc_poly.proofs.Writing.{within-length}
use Rattle.gc_poly.proofs.substitution.subst.Goals as goal

pub image_of-requires-clause-within : goal.image_of-requires-clause-within
image_of-requires-clause-within c =
    omega (
      arith,
      as-many c.args.images.now c.args.from.now.degrees c.requires.images.degrees_are,
      within-length c.args.from.now.degrees c.mono.result.now
          (monomial-at c.args.from.now c.args.f.now c.loop-i.i c.args.f.now.degree c.mono.result.now
          c.requires.over refl c.mono.ensures).within,
    )

pub image_of-requires-clause-small : goal.image_of-requires-clause-small
image_of-requires-clause-small c =
    omega (
      arith,
      image-degree c.args.from.now c.args.images.now c.args.f.now c.loop-i.i c.mono.result.now
          c.requires.images.degrees_are c.requires.over c.mono.ensures,
    )

pub add_multiple-requires-clause-degrees : goal.add_multiple-requires-clause-degrees
add_multiple-requires-clause-degrees c =
    c.loop-i.invariant.degree_is ∙ sym (c.in_ok-image.ensures.degree_is
    ∙ image-degree c.args.from.now c.args.images.now c.args.f.now c.loop-i.i c.mono.result.now
    c.requires.images.degrees_are c.requires.over c.mono.ensures)

pub add_multiple-requires-clause-small : goal.add_multiple-requires-clause-small
add_multiple-requires-clause-small c = omega (
  arith,
  coefficient-at c.args.from.now c.args.f.now c.loop-i.i c.coefficient.result c.requires.over
      (omega arith) c.coefficient.ensures,
)

pub loop-i-preserved : goal.loop-i-preserved
loop-i-preserved c =
    term-step c.args.to.now (evaluate (polynomials (greatest c.args.to.now) c.args.to.now.degrees)
    (standing c.args.images.now)) c.args.f.now.degree _ c.coefficient.result c.loop-i.i c.mono.result.now
    c.args.f.now.terms c.loop-i.out c.in_ok-image.image c.add_multiple.new.out
    c.coefficient.ensures c.mono.ensures c.loop-i.invariant c.in_ok-image.ensures c.in_ok-add_multiple.ensures
