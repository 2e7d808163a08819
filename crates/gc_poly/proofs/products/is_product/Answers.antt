use Rattle.std.proofs.Common.{◌-◌, ◌≡◌, arith, ap, sym, ◌∙◌}
use Rattle.graded_polynomials.specs.Monomials.{fits, joined}
use Rattle.graded_polynomials.proofs.Exponents.{exponent-joined}
use Rattle.gc_poly.proofs.Joining.{fits-two, fits-all, fits-not}
use Rattle.gc_poly.proofs.products.is_product.Goals as goal

pub returns-then-modulus-eq2 : goal.returns-then-modulus-eq2
returns-then-modulus-eq2 c = let m = joined c.args.a.now c.args.b.now in
    let e : c.args.gens.now.prime - 1 ≡ 1 = omega arith in
    sym (ap (λ q. fits q c.args.gens.now.degrees m) e ∙ fits-two c.args.gens.now.degrees m)

pub returns-then-exponent-gt1 : goal.returns-then-exponent-gt1
returns-then-exponent-gt1 c =
    sym (fits-not (c.args.gens.now.prime - 1) c.args.gens.now.degrees
    (joined c.args.a.now c.args.b.now) c.loop-i.i (λ e. c.if-modulus-eq2.false (omega (arith, e)))
    (omega arith)
    (omega arith) (omega (arith, exponent-joined c.args.a.now c.args.b.now c.loop-i.i)))

pub returns : goal.returns
returns c =
    sym (fits-all (c.args.gens.now.prime - 1) c.args.gens.now.degrees (joined c.args.a.now c.args.b.now)
    (λ k l o. omega (
      arith,
      exponent-joined c.args.a.now c.args.b.now k,
      c.loop-i.invariant k (omega arith) o,
    )))
