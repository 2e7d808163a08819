use Rattle.std.proofs.Common.{◌≡◌, codes, cond, sym, subst}
use Rattle.std.specs.Prelude.{IfOk}
use Rattle.coho_report.specs.Lines.{ended}
use Rattle.coho_report.proofs.parameter_lines.verdict_line.Goals as goal

pub returns-then-complete : goal.returns-then-complete
returns-then-complete c = subst (λ b. IfOk c.line_of.result (λ line. line.items
    ≡ ended (codes (cond b "verdict complete" "verdict not complete"))))
    (sym c.if-complete.true) c.line_of.ensures

pub returns : goal.returns
returns c = subst (λ b. IfOk c.line_of-2.result (λ line. line.items
    ≡ ended (codes (cond b "verdict complete" "verdict not complete"))))
    (sym c.if-complete.false) c.line_of-2.ensures
