use Rattle.std.proofs.Common.{sym, ◌∙◌, ◌<◌, length, arith}
use Rattle.min_res.proofs.row_tests.lacks.Goals as goal

pub returns-then-get-k : goal.returns-then-get-k
returns-then-get-k c =
    let inside : c.loop-i.i < length c.args.positions.now = omega arith in
    (λ t. absurd (cc), λ h. absurd (h (c.loop-i.i, inside) (sym c.get.ensures ∙ c.if-get-k.true)))
