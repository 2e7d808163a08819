use Rattle.std.proofs.Common.{◌==◌, arith}
use Rattle.pc_text.proofs.CutLemmas.{split_none, split_first}
use Rattle.pc_text.proofs.cuts.first_part.Goals as goal

pub returns-then-at-bytes-clause-parts : goal.returns-then-at-bytes-clause-parts
returns-then-at-bytes-clause-parts c = split_first
    (λ x. x == c.args.b) c.args.bytes.now c.first-at.result c.first-at.ensures c.if-at-bytes.true

pub returns-else-at-bytes-clause-parts : goal.returns-else-at-bytes-clause-parts
returns-else-at-bytes-clause-parts c = split_none (λ x. x == c.args.b) c.args.bytes.now
    (omega (arith, c.first-at.ensures))
