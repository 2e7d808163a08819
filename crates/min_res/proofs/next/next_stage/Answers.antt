use Rattle.std.proofs.Common.{◌<◌, ◌*◌, ◌^◌, ℕ, length, arith, ap, sym, ◌∙◌}
use Rattle.group_table.specs.Tables.{order}
use Rattle.fp_rows.specs.Values.{MatrixValue}
use Rattle.min_res.proofs.StageAbove.{small-dimension}
use Rattle.min_res.proofs.next.next_stage.Goals as goal

pub next_positions-requires-clause-list_prime : goal.next_positions-requires-clause-list_prime
next_positions-requires-clause-list_prime c =
    ap (λ (m : MatrixValue). m.p) (c.kernel.ensures ∙ c.requires.last.kernel_is)

pub next_positions-requires-clause-list_width : goal.next_positions-requires-clause-list_width
next_positions-requires-clause-list_width c =
    ap (λ (m : MatrixValue). m.width) (c.kernel.ensures ∙ c.requires.last.kernel_is)
    ∙ ap (λ r. order c.args.algebra.now.table * r) (sym (c.rank.ensures ∙ c.requires.last.rank_is))

pub overflow_mul-dimension : goal.overflow_mul-dimension
overflow_mul-dimension c =
    let small : c.order.result * c.len.result < 2 ^ 64 =
    small-dimension c.args.algebra.now c.args.last.now.degree c.args.last.now.kernel.width c.order.result
    c.len.result
    (ap (λ (m : MatrixValue). m.width) c.requires.last.kernel_is) c.requires.small c.order.ensures.small
    (c.len.ensures ∙ ap (λ (x : Rattle.std.specs.Prelude.List ℕ). length x)
    (c.in_ok-positions.ensures.positions c.args.last.now.degree (c.rank.ensures ∙ c.requires.last.rank_is)
    (ap (λ (m : MatrixValue). m.rows) (c.kernel.ensures ∙ c.requires.last.kernel_is)))) in
    omega (arith, small)

pub returns-clause-radical : goal.returns-clause-radical
returns-clause-radical c = c.in_ok-positions.ensures.radical c.args.last.now.degree
    (c.rank.ensures ∙ c.requires.last.rank_is)
    (ap (λ (m : MatrixValue). m.rows) (c.kernel.ensures ∙ c.requires.last.kernel_is))
