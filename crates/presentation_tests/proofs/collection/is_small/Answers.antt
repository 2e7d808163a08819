-- The greatest powers that are at most 256.
use Rattle.std.proofs.Common.{ap, lit<, lit≤}
use Rattle.std.proofs.lemmas.Bool.{leb-true}
use Rattle.group_table.specs.Prime.{prime_value}
use Rattle.pc_group.proofs.Powers.{part-small}
use Rattle.presentation_tests.proofs.collection.is_small.Goals as goal

pub returns-in-P3 : goal.returns-in-P3
returns-in-P3 c h =
    part-small 3 (prime_value c.args.prime) c.args.gens 5 (ap prime_value c.in-P3.is) (lit< tt)
    (leb-true c.args.gens 5 h) (lit≤ tt)

pub returns-in-P5 : goal.returns-in-P5
returns-in-P5 c h =
    part-small 5 (prime_value c.args.prime) c.args.gens 3 (ap prime_value c.in-P5.is) (lit< tt)
    (leb-true c.args.gens 3 h) (lit≤ tt)

pub returns-in-P7 : goal.returns-in-P7
returns-in-P7 c h =
    part-small 7 (prime_value c.args.prime) c.args.gens 2 (ap prime_value c.in-P7.is) (lit< tt)
    (leb-true c.args.gens 2 h) (lit≤ tt)
