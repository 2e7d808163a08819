use Rattle.std.proofs.Common.{ℕ, map}
use Rattle.std.specs.List.{range_with_len}
use Rattle.graded_polynomials.specs.Texts.{name}
use Rattle.coho_report.specs.Lines.{ended}
use Rattle.coho_report.proofs.LineLists.{numbers_next, pushed}
use Rattle.coho_report.proofs.lines.generator_lines.Goals as goal

pub loop-i-preserved : goal.loop-i-preserved
loop-i-preserved c =
    let text = λ (i : ℕ). ended (name c.args.gens.now.degrees i) in
    pushed (λ line. line.items) c.loop-i.lines.items c.push.new.self.items c.in_ok-generator_line.field-0
    (map text (range_with_len 0 c.loop-i.i)) _
    (text c.loop-i.i) c.in_ok-push.ensures.items c.loop-i.invariant c.in_ok-generator_line.ensures
    (numbers_next text c.loop-i.i)
