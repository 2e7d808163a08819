use Rattle.std.proofs.Common.{◌-◌, arith}
use Rattle.sample_groups.specs.Products.{direct_product}
use Rattle.sample_groups.proofs.Agreement.{all_agree}
use Rattle.sample_groups.proofs.ProductWords.{product_valid}
use Rattle.sample_groups.proofs.products.direct_product.Goals as goal

pub set_powers-requires-clause-valid : goal.set_powers-requires-clause-valid
set_powers-requires-clause-valid c = product_valid c.args.p.now c.args.q.now c.gens.ensures.valid
    c.gens-2.ensures.valid (omega (arith, c.gens.ensures.prime)) c.requires.prime

pub set_row-requires-clause-valid : goal.set_row-requires-clause-valid
set_row-requires-clause-valid c = product_valid c.args.p.now c.args.q.now c.gens.ensures.valid
    c.gens-2.ensures.valid (omega (arith, c.gens.ensures.prime)) c.requires.prime

pub returns : goal.returns
returns c =
    let V = product_valid c.args.p.now c.args.q.now c.gens.ensures.valid
    c.gens-2.ensures.valid (omega (arith, c.gens.ensures.prime)) c.requires.prime in
    all_agree (direct_product c.args.p.now c.args.q.now) V c.loop-j.made (c.loop-j.j - 1)
    (omega (arith, c.loop-j-test.false, c.gens.ensures.value, c.gens-2.ensures.value)) c.loop-j.invariant
