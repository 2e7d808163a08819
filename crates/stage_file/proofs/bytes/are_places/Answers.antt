use Rattle.std.proofs.Common.{◌≡◌, sym, ◌∙◌, arith, inl, inr}
use Rattle.stage_file.proofs.Rows.{places-more, places-none, places-end}
use Rattle.stage_file.proofs.bytes.are_places.Goals as goal

pub returns-then-number-last : goal.returns-then-number-last
returns-then-number-last c =
    sym (c.loop-i.invariant ∙ places-none c.loop-i.last c.args.top c.args.count c.loop-i.i
    c.number_at-number.result c.args.bytes.now c.loop-i-test.true c.number_at-number.ensures
    (elim c.then-number-last.either [ inl a ↦ inl a | inr b ↦ inr b.1 ]))

pub loop-i-preserved : goal.loop-i-preserved
loop-i-preserved c =
    c.loop-i.invariant ∙ places-more c.loop-i.last c.args.top c.args.count c.loop-i.i
    c.number_at-number.result c.args.bytes.now c.loop-i-test.true c.number_at-number.ensures
    c.if-number-last.false c.if-number-top.false

pub returns : goal.returns
returns c = sym (c.loop-i.invariant
    ∙ rw (let e : c.loop-i.i ≡ c.args.count = omega arith in
    e) (places-end c.loop-i.last c.args.top c.args.count c.args.bytes.now))
