use Rattle.std.proofs.Common.{sym, ◌∙◌, arith}
use Rattle.group_table.specs.Prime.{prime_value}
use Rattle.stage_file.proofs.Rows.{views-made, whole-made}
use Rattle.stage_file.proofs.record.read_parts.Goals as goal

pub invariant_of-result : goal.invariant_of-result
invariant_of-result c = record {
  are_views = views-made (prime_value c.args.p) c.args.previous c.args.rank c.args.width c.args.bytes.now
      c.part-positions.result.now c.part-4.result.now c.part-5.result.now c.part.result.now
      c.part-positions.ensures c.part-4.ensures c.part-5.ensures c.part.ensures c.requires.small
      c.requires.room (omega (arith, c.requires.enough))
      (sym c.are_places.ensures ∙ c.if-not-are_places.false) (sym c.are_below.ensures
      ∙ c.if-not-are_below.false);
}

pub returns-clause-reading : goal.returns-clause-reading
returns-clause-reading c =
    whole-made (prime_value c.args.p) c.args.previous c.args.rank c.args.width c.args.bytes.now
    c.part-positions.result.now c.part-4.result.now c.part-5.result.now c.part.result.now
    c.part-2.result.now c.part-3.result.now
    c.part-positions.ensures c.part-4.ensures c.part-5.ensures c.part.ensures c.part-2.ensures
    c.part-3.ensures
    (sym c.are_places.ensures ∙ c.if-not-are_places.false) (sym c.are_below.ensures
    ∙ c.if-not-are_below.false) (sym c.has_digest.ensures ∙ c.if-not-has_digest.false)
