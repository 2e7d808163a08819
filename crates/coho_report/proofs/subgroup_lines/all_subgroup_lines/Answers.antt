use Rattle.std.proofs.Common.{◌∙◌, ◌++◌, ap, sym, arith}
use Rattle.coho_report.specs.Lines.{subgroup_lines}
use Rattle.coho_report.proofs.NumberedLists.{at-place, parts-next}
use Rattle.coho_report.proofs.subgroup_lines.all_subgroup_lines.Goals as goal

pub loop-i-preserved : goal.loop-i-preserved
loop-i-preserved c =
    let ds = c.args.gens.now.degrees in
    let i = c.loop-i.i in
    let s = c.index-subgroups-i.result in
    c.in_ok-push_subgroup_lines.ensures
    ∙ ap (λ lines. lines ++ subgroup_lines ds i s) c.loop-i.invariant
    ∙ sym (parts-next (subgroup_lines ds) c.args.subgroups.now i s (omega arith)
    (at-place c.args.subgroups.now i s (omega arith) c.index-subgroups-i.is))
