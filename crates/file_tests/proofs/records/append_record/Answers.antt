use Rattle.min_res.proofs.StageReadings.{own-degree}
use Rattle.file_tests.proofs.records.append_record.Goals as goal

pub write_record-requires-clause-stage : goal.write_record-requires-clause-stage
write_record-requires-clause-stage g c = record {
  group = c.args.r.now.group;
  is_stage = own-degree c.args.r.now.group c.last.result c.deref-4.result.now
      c.stage_at-stage.result.now.value
      c.deref-4.ensures c.stage_at-stage.ensures.stage;
}
