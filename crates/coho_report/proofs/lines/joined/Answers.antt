use Rattle.std.proofs.Common.{◌∙◌, ◌++◌, ap, arith}
use Rattle.coho_report.proofs.LineLists.{bytes_next}
use Rattle.coho_report.proofs.lines.joined.Goals as goal

pub loop-line-preserved : goal.loop-line-preserved
loop-line-preserved c = bytes_next (λ line. line.items) c.args.lines.now c.loop-line.line-index
    c.line-item.result c.loop-line.bytes.items c.extend_from_slice.new.self.items
    (omega arith) c.line-item.is c.loop-line.invariant (c.in_ok-extend_from_slice.ensures.items
    ∙ ap (λ t. c.loop-line.bytes.items ++ t) c.deref.ensures.value)
