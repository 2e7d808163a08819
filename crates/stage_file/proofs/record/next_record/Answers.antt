use Rattle.std.proofs.Common.{arith}
use Rattle.stage_file.proofs.Honest.{is-verdict}
use Rattle.stage_file.proofs.record.next_record.Goals as goal

pub returns-clause-verdict : goal.returns-clause-verdict
returns-clause-verdict c G d low H = is-verdict G d c.args.shape.now c.args.bytes.now low H
    (λ i. omega (arith, c.type_inv.bytes i))
