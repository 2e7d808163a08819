use Rattle.std.proofs.Common.{◌+◌, ◌∙◌}
use Rattle.pc_text.specs.declared.place.Place.TheVariants.{Commutator}
use Rattle.pc_text.proofs.WriterLemmas.{line_at, next_place}
use Rattle.pc_text.proofs.writer.push_row.Goals as goal

pub loop-i-preserved : goal.loop-i-preserved
loop-i-preserved c =
    next_place c.args.p.now (λ i. Commutator c.args.j i) c.args.text.now.items c.loop-i.text.items
    c.push_relation.new.text.items c.loop-i.i c.loop-i.invariant
    (line_at c.args.p.now c.value.result
    (Commutator c.args.j (c.loop-i.i + 1)) c.as_slice.result.now c.loop-i.text.items
    c.push_relation.new.text.items
    c.in_ok-push_relation.ensures (c.value.ensures ∙ c.prime.ensures.value) (c.as_slice.ensures
    ∙ c.commutator-word.ensures.value))
