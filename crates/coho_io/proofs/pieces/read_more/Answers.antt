use Rattle.std.proofs.Common.{◌+◌, arith}
use Rattle.std.proofs.lemmas.Grind.{common_steps}
use Rattle.coho_io.specs.Content.{file}
use Rattle.coho_io.proofs.Parts.{reads_more, told_value}
use Rattle.coho_io.proofs.pieces.read_more.Goals as goal

pub returns-in-Ok-extend_from_slice-clause-more : goal.returns-in-Ok-extend_from_slice-clause-more
returns-in-Ok-extend_from_slice-clause-more g c = λ told is.
    reads_more (file told c.args.path.now) c.args.from c.args.bytes.now.items c.read_at.new.buf
    c.extend_from_slice.new.self.items c.in-Ok.count (c.args.from + c.len-2.result)
    (grind (arith, common_steps, c.read_at.auto.buf)) (omega arith)
    (told_value _ _ told is c.in-Ok.ensures.bytes) (grind (arith, common_steps))
