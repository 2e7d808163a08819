use Rattle.std.proofs.Common.{◌≡◌, ℕ, ◌<◌, ◌≤◌, ◌⊎◌, inl, inr, get_or, bit_xor, arith, ap, sym, ◌∙◌}
use Rattle.std.proofs.lemmas.Bool.{cases_lt}
use Rattle.std.proofs.lemmas.List.{get_or_past}
use Rattle.std.specs.Int.Bits.{xor_zero_r}
use Rattle.fp_rows.proofs.PlaceLemmas.{place_of_sum}
use Rattle.fp_rows.proofs.words.add_words.Goals as goal

pub returns-clause-sums : goal.returns-clause-sums
returns-clause-sums c = place_of_sum c.loop-i.dst c.args.dst.now c.args.src.now
    (λ k. go k (cases_lt k c.loop-i.i))
  where
    go : (k : ℕ) → (k < c.loop-i.i) ⊎ (c.loop-i.i ≤ k)
        → get_or c.loop-i.dst k 0 ≡ bit_xor (get_or c.args.dst.now k 0) (get_or c.args.src.now k 0)
    go k (inl l) = c.loop-i.invariant.done k l
    go k (inr l) = c.loop-i.invariant.rest k l
        ∙ sym (ap (bit_xor (get_or c.args.dst.now k 0))
        (get_or_past c.args.src.now k 0 (omega (arith, l, c.loop-i-test.false)))
        ∙ xor_zero_r (get_or c.args.dst.now k 0))
