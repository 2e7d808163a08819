use Rattle.std.proofs.Common.{◌≡◌, ◌-◌, ◌^◌, length, min, drop, arith, ap, sym, ◌∙◌}
use Rattle.graded_polynomials.specs.AllMonomials.{all_monomials}
use Rattle.gc_poly.proofs.Counting.{counts-powers, number-of}
use Rattle.gc_poly.proofs.enumeration.count_monomials.Goals as goal

pub loop-i-preserved : goal.loop-i-preserved
loop-i-preserved c =
    counts-powers (c.args.gens.now.prime - 1) c.args.gens.now.degrees c.loop-i.counts
    c.count_powers.new.counts (c.loop-i.i - 1) c.loop-i.i c.degree-degree.result (omega arith)
    (omega arith)
    c.degree-degree.ensures.value (omega arith)
    (sym c.if-is_exterior.ensures) c.if-is_exterior.array_long c.loop-i.invariant
    c.count_powers.ensures

pub returns : goal.returns
returns c =
    let z : c.loop-i.i ≡ 0 = omega arith in
    number-of (c.args.gens.now.prime - 1) c.args.gens.now.degrees c.args.d _ c.len-i.ensures.valid
    (c.loop-i.invariant c.args.d (omega arith)
    ∙ ap (λ i. min (length (all_monomials (c.args.gens.now.prime - 1)
    (drop i c.args.gens.now.degrees) c.args.d)) (2 ^ 64 - 1)) z)
