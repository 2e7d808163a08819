use Rattle.std.proofs.Common.{◌≡◌, ap, ◌∙◌, sym, Some, List, ℕ}
use Rattle.std.proofs.lemmas.Result.{IfOk-weaker}
use Rattle.p_groups.specs.PGroups.{PGroup, order_of}
use Rattle.min_res.specs.Defined.{IsStageAt}
use Rattle.min_res.specs.Stages.{stage_rows}
use Rattle.stage_records.specs.Records.{record_at, record_of_width}
use Rattle.stage_file.specs.Written.{parts_of_stage}
use Rattle.stage_file.proofs.Stages.{some-sizes, record-of-stage}
use Rattle.stage_file.proofs.writing.write_record.Goals as goal

pub record_of-requires : goal.record_of-requires
record_of-requires c = some-sizes c.args.s.now c.requires.from c.requires.to c.requires.small c.requires.stage

pub returns : goal.returns
returns c =
    IfOk-weaker c.record_of.result
    (λ bytes. bytes.items ≡ record_of_width c.args.s.now.kernel.width c.args.s.now.degree
    (parts_of_stage c.args.s.now))
    (λ bytes. (G : PGroup) → IsStageAt G c.args.s.now.degree c.args.s.now
    → record_at (order_of G) (stage_rows G) c.args.s.now.degree ≡ Some bytes.items)
    (λ bytes e G I. record-of-stage c.args.s.now c.requires.from c.requires.small G I
    ∙ ap (λ (x : List ℕ). Some x) (sym e)) c.record_of.ensures
