-- A power of the prime is not 0.
use Rattle.std.proofs.Common.{arith}
use Rattle.pc_group.proofs.Powers.{pow-some}
use Rattle.pc_group.proofs.word_numbers.power_number.Goals as goal

pub returns-else-j-gt0-clause-below : goal.returns-else-j-gt0-clause-below
returns-else-j-gt0-clause-below c = let s = c.prime.ensures.prime in
    pow-some c.args.p.now.prime c.args.p.now.gens (omega (arith, s))
