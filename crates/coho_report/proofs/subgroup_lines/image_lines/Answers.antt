use Rattle.std.proofs.Common.{◌∙◌, ◌<◌, length, take, ap, arith}
use Rattle.coho_report.specs.Lines.{image_line, image_lines}
use Rattle.coho_report.proofs.LineLists.{pushed}
use Rattle.coho_report.proofs.NumberedLists.{lines-next, some-member}
use Rattle.coho_report.proofs.subgroup_lines.image_lines.Goals as goal

pub loop-i-preserved : goal.loop-i-preserved
loop-i-preserved c =
    let ds = c.args.gens.now.degrees in
    let own = c.args.s.now.generators in
    let images = c.args.s.now.images in
    let i = c.loop-i.i in
    let below : i < length images = omega (arith, c.loop-i-test.true, c.images-i-end.ensures) in
    let some = some-member images i below in
    pushed (λ line. line.items) c.loop-i.lines.items c.push.new.self.items c.in_ok-image_line.field-0
    (image_lines ds own (take i images)) _ (image_line ds own i some.0) c.in_ok-push.ensures.items
    c.loop-i.invariant (c.in_ok-image_line.ensures some.0 ∙ ap (image_line ds own i) (some.1 some.0))
    (lines-next (image_line ds own) images i some.0 below some.1)
