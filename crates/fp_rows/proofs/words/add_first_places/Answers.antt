use Rattle.std.proofs.Common.{◌≡◌, ℕ, ◌+◌, ◌/◌, ◌%◌, ◌<◌, ◌≤◌, ◌⊎◌, inl, inr, take, arith, ap, sym, ◌∙◌}
use Rattle.std.proofs.lemmas.Bool.{cases_lt}
use Rattle.std.specs.Int.{bit_at}
use Rattle.fp_rows.specs.Places.{place}
use Rattle.fp_rows.proofs.PlaceLemmas.{place_in, place_in_front, place_after_front, nothing_added_at}
use Rattle.fp_rows.proofs.words.add_first_places.Goals as goal

pub returns-then-whole-dst-clause-sums : goal.returns-then-whole-dst-clause-sums
returns-then-whole-dst-clause-sums c = λ j l. go j l (cases_lt (j / 64) (c.args.len / 64))
  where
    go : (j : ℕ) → j < c.args.len → (j / 64 < c.args.len / 64) ⊎ (c.args.len / 64 ≤ j / 64)
        → place c.add_to_word.new.words j ≡ (place c.args.dst.now j + place c.args.src.now j) % 2
    go j l (inl a) = c.add_to_word.ensures.rest j (λ e. omega (arith, a, e)) ∙ c.add_words.ensures.sums j
        ∙ ap (λ z. (place c.args.dst.now j + z) % 2) (place_in_front c.args.src.now (c.args.len / 64) j a)
    go j l (inr a) = c.add_to_word.ensures.sums j (omega (arith, l, a))
        ∙ ap (λ z. (z + bit_at c.lowest.result (j % 64)) % 2) (c.add_words.ensures.sums j
        ∙ sym (nothing_added_at c.args.dst.now j (place (take (c.args.len / 64) c.args.src.now) j)
        (place_after_front c.args.src.now (c.args.len / 64) j a)))
        ∙ ap (λ z. (place c.args.dst.now j + z) % 2)
        (c.lowest.ensures.kept (j % 64) (omega arith) (omega (arith, l, a))
        ∙ ap (λ w. bit_at w (j % 64)) c.word_or_zero.ensures
        ∙ sym (place_in c.args.src.now j (c.args.len / 64) (j % 64) (omega (arith, l, a)) (omega arith)))

pub returns-then-whole-dst-clause-rest : goal.returns-then-whole-dst-clause-rest
returns-then-whole-dst-clause-rest c = λ j l. go j l (cases_lt (c.args.len / 64) (j / 64))
  where
    before : (j : ℕ) → c.args.len ≤ j → place c.add_words.new.dst j ≡ place c.args.dst.now j
    before j l = c.add_words.ensures.sums j
        ∙ sym (nothing_added_at c.args.dst.now j (place (take (c.args.len / 64) c.args.src.now) j)
        (place_after_front c.args.src.now (c.args.len / 64) j (omega (arith, l))))

    go : (j : ℕ) → c.args.len ≤ j → (c.args.len / 64 < j / 64) ⊎ (j / 64 ≤ c.args.len / 64)
        → place c.add_to_word.new.words j ≡ place c.args.dst.now j
    go j l (inl a) = c.add_to_word.ensures.rest j (λ e. omega (arith, a, e)) ∙ before j l
    go j l (inr a) = c.add_to_word.ensures.sums j (omega (arith, l, a))
        ∙ ap (λ z. (z + bit_at c.lowest.result (j % 64)) % 2) (before j l)
        ∙ sym (nothing_added_at c.args.dst.now j (bit_at c.lowest.result (j % 64))
        (c.lowest.ensures.zero (j % 64) (omega arith) (omega (arith, l, a))))

pub returns-else-whole-dst-clause-sums : goal.returns-else-whole-dst-clause-sums
returns-else-whole-dst-clause-sums c = λ j l. c.add_words.ensures.sums j
    ∙ ap (λ z. (place c.args.dst.now j + z) % 2) (place_in_front c.args.src.now (c.args.len / 64) j
    (omega (arith, l, c.requires.words, c.add_words.ensures.same_length, c.if-whole-dst.false)))

pub returns-else-whole-dst-clause-rest : goal.returns-else-whole-dst-clause-rest
returns-else-whole-dst-clause-rest c = λ j l. c.add_words.ensures.sums j
    ∙ sym (nothing_added_at c.args.dst.now j (place (take (c.args.len / 64) c.args.src.now) j)
    (place_after_front c.args.src.now (c.args.len / 64) j (omega (arith, l))))
