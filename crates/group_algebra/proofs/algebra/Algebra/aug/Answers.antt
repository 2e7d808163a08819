use Rattle.std.proofs.Common.{◌≤◌, ◌*◌, ◌∙◌, arith}
use Rattle.std.proofs.Math.Nat.{mul-le-mul_left}
use Rattle.group_table.specs.Tables.{order}
use Rattle.fp_rows.specs.Refs.{entries_of}
use Rattle.group_algebra.proofs.LayerSizes.{sum-at-place}
use Rattle.group_algebra.proofs.algebra.Algebra.aug.Goals as goal

pub get-requires : goal.get-requires
get-requires c =
    let some : 1 ≤ order c.args.self.now.table = c.args.self.now.law.law.some in
    let long : c.args.rank * 1 ≤ c.args.rank * order c.args.self.now.table =
    mul-le-mul_left c.args.rank some in
    omega (arith, c.requires.length, c.requires.block, long)

pub returns-clause-value : goal.returns-clause-value
returns-clause-value c b = c.get.ensures.value
    ∙ sum-at-place c.args.self.now c.args.rank c.args.block (entries_of c.args.v) b
    (record {
      length_is = c.requires.length;
      below = λ j l. rw (← c.requires.modulus) (c.args.v.below j (rw c.requires.length l));
    })
