use Rattle.std.proofs.Common.{◌∙◌, ap}
use Rattle.group_table.specs.Prime.{prime_value}
use Rattle.pc_text.proofs.WriterLemmas.{head_from}
use Rattle.pc_text.proofs.writer.head.Goals as goal

pub returns : goal.returns
returns c =
    head_from c.value-p.result (prime_value c.args.prime) c.args.gens c.into_bytes.result.items
    (ap (λ v. v.items) c.into_bytes.ensures.value ∙ c.in_ok-head.ensures.ok) c.value-p.ensures
