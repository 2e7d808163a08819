use Rattle.std.proofs.Common.{◌==◌, sym, arith}
use Rattle.std.proofs.lemmas.List.Sums.{position_or_len_is}
use Rattle.std.proofs.Common.{eq-eqb}
use Rattle.pc_text.proofs.cuts.first.Goals as goal

pub returns-then-x-b : goal.returns-then-x-b
returns-then-x-b c = sym (position_or_len_is (λ x. x == c.args.b) c.args.bytes.now c.loop-i.i 0
    (omega arith) c.loop-i.invariant (λ _. eq-eqb _ _ c.if-x-b.true))

pub returns : goal.returns
returns c =
    sym (position_or_len_is (λ x. x == c.args.b) c.args.bytes.now _ 0 (omega arith)
    (λ k h. c.loop-i.invariant k (omega arith)) (λ h. absurd (omega arith)))
