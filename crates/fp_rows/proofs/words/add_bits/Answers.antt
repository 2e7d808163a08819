use Rattle.std.proofs.Common.{◌≡◌, ℕ, ◌+◌, ◌-◌, ◌/◌, ◌%◌, ◌^◌, ◌<◌, ◌≤◌, ◌⊎◌, inl, inr, arith, ap, ◌∙◌}
use Rattle.std.proofs.lemmas.Bool.{cases_eq}
use Rattle.std.specs.Int.{bit_at}
use Rattle.fp_rows.specs.Places.{place}
use Rattle.fp_rows.proofs.PlaceLemmas.{place_below, bit_at-shr, bit_at-shifted_in, bit_at-shifted_below}
use Rattle.fp_rows.proofs.PlaceLemmas.{nothing_past}
use Rattle.fp_rows.proofs.words.add_bits.Goals as goal

pub returns-then-shift-len-gt64-clause-sums : goal.returns-then-shift-len-gt64-clause-sums
returns-then-shift-len-gt64-clause-sums c =
    λ j a. go j a (cases_eq (j / 64) (c.args.at / 64)) (cases_eq (j / 64) (c.args.at / 64 + 1))
  where
    go : (j : ℕ) → c.args.at ≤ j → (j / 64 ≡ c.args.at / 64) ⊎ (j / 64 ≡ c.args.at / 64 → ⊥)
        → (j / 64 ≡ c.args.at / 64 + 1) ⊎ (j / 64 ≡ c.args.at / 64 + 1 → ⊥) →
        place c.add_to_word-then-shift-len-gt64.new.words j ≡
        (place c.args.words.now j + bit_at c.args.x (j - c.args.at)) % 2
    go j a (inl e) _ = c.add_to_word-then-shift-len-gt64.ensures.rest j (λ f. omega arith)
        ∙ c.add_to_word.ensures.sums j e
        ∙ (ap (λ b. (place c.args.words.now j + b) % 2)
        (bit_at-shifted_in c.args.x (c.args.at % 64) (j % 64) (omega arith) (omega arith)
        ∙ ap (bit_at c.args.x) (omega arith)))
    go j a (inr n) (inl e) = c.add_to_word-then-shift-len-gt64.ensures.sums j e
        ∙ ap (λ z. (z + bit_at (c.args.x / 2 ^ (64 - c.args.at % 64)) (j % 64)) % 2)
        (c.add_to_word.ensures.rest j n)
        ∙ ap (λ b. (place c.args.words.now j + b) % 2) (bit_at-shr c.args.x (64 - c.args.at % 64) (j % 64)
        ∙ ap (bit_at c.args.x) (omega arith))
    go j a (inr n) (inr m) = c.add_to_word-then-shift-len-gt64.ensures.rest j m
        ∙ c.add_to_word.ensures.rest j n
        ∙ nothing_past c.args.words.now c.args.x c.args.len j (j - c.args.at) c.requires.small
        (omega (arith, c.requires.count))

pub returns-then-shift-len-gt64-clause-before : goal.returns-then-shift-len-gt64-clause-before
returns-then-shift-len-gt64-clause-before c = λ j a. go j a (cases_eq (j / 64) (c.args.at / 64))
  where
    go : (j : ℕ) → j < c.args.at → (j / 64 ≡ c.args.at / 64) ⊎ (j / 64 ≡ c.args.at / 64 → ⊥)
        → place c.add_to_word-then-shift-len-gt64.new.words j ≡ place c.args.words.now j
    go j a (inl e) = c.add_to_word-then-shift-len-gt64.ensures.rest j (λ f. omega arith)
        ∙ c.add_to_word.ensures.sums j e
        ∙ omega (
          arith,
          bit_at-shifted_below c.args.x (c.args.at % 64) (j % 64) (omega arith) (omega arith),
          place_below c.args.words.now j,
        )
    go j a (inr n) = c.add_to_word-then-shift-len-gt64.ensures.rest j (λ f. omega arith)
        ∙ c.add_to_word.ensures.rest j n

pub returns-else-shift-len-gt64-clause-sums : goal.returns-else-shift-len-gt64-clause-sums
returns-else-shift-len-gt64-clause-sums c = λ j a. go j a (cases_eq (j / 64) (c.args.at / 64))
  where
    go : (j : ℕ) → c.args.at ≤ j → (j / 64 ≡ c.args.at / 64) ⊎ (j / 64 ≡ c.args.at / 64 → ⊥)
        → place c.add_to_word.new.words j ≡ (place c.args.words.now j + bit_at c.args.x (j - c.args.at)) % 2
    go j a (inl e) = c.add_to_word.ensures.sums j e
        ∙ (ap (λ b. (place c.args.words.now j + b) % 2)
        (bit_at-shifted_in c.args.x (c.args.at % 64) (j % 64) (omega arith) (omega arith)
        ∙ ap (bit_at c.args.x) (omega arith)))
    go j a (inr n) = c.add_to_word.ensures.rest j n
        ∙ nothing_past c.args.words.now c.args.x c.args.len j (j - c.args.at) c.requires.small
        (omega (arith, c.if-shift-len-gt64.false))

pub returns-else-shift-len-gt64-clause-before : goal.returns-else-shift-len-gt64-clause-before
returns-else-shift-len-gt64-clause-before c = λ j a. go j a (cases_eq (j / 64) (c.args.at / 64))
  where
    go : (j : ℕ) → j < c.args.at → (j / 64 ≡ c.args.at / 64) ⊎ (j / 64 ≡ c.args.at / 64 → ⊥)
        → place c.add_to_word.new.words j ≡ place c.args.words.now j
    go j a (inl e) = c.add_to_word.ensures.sums j e
        ∙ omega (
          arith,
          bit_at-shifted_below c.args.x (c.args.at % 64) (j % 64) (omega arith) (omega arith),
          place_below c.args.words.now j,
        )
    go j a (inr n) = c.add_to_word.ensures.rest j n

pub returns-else-len-gt0-clause-sums : goal.returns-else-len-gt0-clause-sums
returns-else-len-gt0-clause-sums c = λ j a. nothing_past c.args.words.now c.args.x c.args.len j
    (j - c.args.at) c.requires.small (omega (arith, c.if-len-gt0.false))
