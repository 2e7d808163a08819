use Rattle.std.proofs.Common.{◌≡◌, ◌+◌, ℕ, Vec, Global, string_bytes, ap, subst, arith}
use Rattle.stage_answers.specs.Resolving.{TellsStages}
use Rattle.coho_steps.specs.Lines.{contents}
use Rattle.stage_answers.proofs.StageRows.{lines_next}
use Rattle.stage_answers.proofs.answers.stage_lines.Goals as goal

pub loop-d-preserved : goal.loop-d-preserved
loop-d-preserved c = lines_next c.args.resolution.now.group c.loop-d.lines.items c.push.new.self.items
    c.into_bytes.result (string_bytes c.in_ok-line_at.field-0) c.loop-d.d c.loop-d.invariant
    c.in_ok-line_at.ensures (ap (λ (v : Vec ℕ Global). v.items) c.into_bytes.ensures.value)
    c.in_ok-push.ensures.items

pub returns : goal.returns
returns c =
    let e : c.loop-d.d ≡ c.args.resolution.now.last + 1 =
    omega (arith, c.last-count.ensures, c.loop-d.auto.d-end, c.loop-d-test.false) in
    subst (λ k. TellsStages c.args.resolution.now.group k
    (contents c.loop-d.lines.items)) e c.loop-d.invariant
