use Rattle.std.proofs.Common.{arith, refl}
use Rattle.group_table.specs.Prime.{prime_value}
use Rattle.param_test.proofs.Packing.{written-start, written-more, written-all, below-at}
use Rattle.param_test.proofs.combos.packed.Goals as goal

pub loop-i-init : goal.loop-i-init
loop-i-init c = written-start (prime_value c.args.p) c.args.entries.now c.in_ok-row.row c.in_ok-row.ensures

pub set-requires-clause-inside : goal.set-requires-clause-inside
set-requires-clause-inside c = omega (arith, c.loop-i.invariant.size)

pub set-requires-clause-below : goal.set-requires-clause-below
set-requires-clause-below c =
    let l = below-at (prime_value c.args.p) c.args.entries.now c.loop-i.i c.requires (omega arith) in
    omega (arith, l, c.loop-i.invariant.prime)

pub loop-i-preserved : goal.loop-i-preserved
loop-i-preserved c = written-more (prime_value c.args.p) c.args.entries.now c.loop-i.i _ c.loop-i.row
    c.set.new.self (omega arith) refl c.set.ensures c.loop-i.invariant

pub returns : goal.returns
returns c = written-all (prime_value c.args.p) c.args.entries.now c.loop-i.i c.loop-i.row (omega arith)
    c.loop-i.invariant
