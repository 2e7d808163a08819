use Rattle.std.proofs.Common.{◌≡◌, ℕ, ◌+◌, ◌-◌, ◌*◌, ◌/◌, ◌%◌, ◌^◌, ◌<◌, ◌≤◌, ◌⊎◌, inl, inr, bit_or, arith}
use Rattle.std.proofs.Common.{ap, sym, ◌∙◌}
use Rattle.std.proofs.lemmas.Bool.{cases_lt}
use Rattle.std.specs.Int.{bit_at}
use Rattle.fp_rows.specs.Places.{place}
use Rattle.fp_rows.proofs.PlaceLemmas.{place_in, bit_at_joined_low, bit_at_joined_high}
use Rattle.fp_rows.proofs.words.word_from.Goals as goal

pub returns-then-shift-eq0 : goal.returns-then-shift-eq0
returns-then-shift-eq0 c = λ b l. ap (λ x. bit_at x b) c.word_or_zero-low.ensures
    ∙ sym (place_in c.args.words.now (c.args.at + b) (c.args.at / 64) b
    (omega (arith, c.if-shift-eq0.true)) l)

pub returns : goal.returns
returns c = λ b l. go b l (cases_lt (c.args.at % 64 + b) 64)
  where
    go : (b : ℕ) → b < 64 → (c.args.at % 64 + b < 64) ⊎ (64 ≤ c.args.at % 64 + b) →
        bit_at (bit_or (c.word_or_zero-low.result / 2 ^ (c.args.at % 64))
        (c.word_or_zero-high.result * 2 ^ (64 - c.args.at % 64) % 2 ^ 64)) b ≡ place c.args.words.now
        (c.args.at + b)
    go b l (inl m) = bit_at_joined_low c.word_or_zero-low.result c.word_or_zero-high.result (c.args.at % 64) b
        (omega arith) m
        ∙ ap (λ x. bit_at x (c.args.at % 64 + b)) c.word_or_zero-low.ensures
        ∙ sym (place_in c.args.words.now (c.args.at + b) (c.args.at / 64) (c.args.at % 64 + b)
        (omega arith) m)
    go b l (inr m) = bit_at_joined_high c.word_or_zero-low.result c.word_or_zero-high.result
        (c.args.at % 64) b (omega (arith, c.if-shift-eq0.false)) (omega arith)
        (rw c.word_or_zero-low.ensures (c.type_inv.words (c.args.at / 64)).fits) m l
        ∙ ap (λ x. bit_at x (c.args.at % 64 + b - 64)) c.word_or_zero-high.ensures
        ∙ sym (place_in c.args.words.now (c.args.at + b) (c.args.at / 64 + 1) (c.args.at % 64 + b - 64)
        (omega arith) (omega arith))
