use Rattle.std.proofs.Common.{◌≡◌, ℕ, ◌+◌, ◌*◌, ◌<◌, ◌≤◌, ◌⊎◌, inl, inr, w64, length, get_or, arith, ◌∙◌}
use Rattle.std.proofs.lemmas.Bool.{cases_lt}
use Rattle.std.proofs.lemmas.Nat.Bits.{bit_at-trailing_zeros}
use Rattle.std.specs.Int.{trailing_zeros}
use Rattle.fp_rows.specs.Places.{place}
use Rattle.fp_rows.proofs.PlaceLemmas.{place_in, zero_before}
use Rattle.fp_rows.proofs.words.first_place.Goals as goal

pub returns-then-word-ne0-clause-before : goal.returns-then-word-ne0-clause-before
returns-then-word-ne0-clause-before c =
    let n : ℕ = get_or c.args.words.now c.loop-k.k 0 in
    let h = bit_at-trailing_zeros w64 n (omega (arith, c.if-word-ne0.true))
    (c.type_inv.words c.loop-k.k).fits in
    zero_before c.args.words.now c.loop-k.k (trailing_zeros w64 n) c.loop-k.invariant h.2 (omega (arith, h.0))

pub returns-then-word-ne0-clause-here : goal.returns-then-word-ne0-clause-here
returns-then-word-ne0-clause-here c =
    let n : ℕ = get_or c.args.words.now c.loop-k.k 0 in
    let h = bit_at-trailing_zeros w64 n (omega (arith, c.if-word-ne0.true))
    (c.type_inv.words c.loop-k.k).fits in
    λ _. place_in c.args.words.now (64 * c.loop-k.k + trailing_zeros w64 n) c.loop-k.k (trailing_zeros w64 n)
    (omega arith) h.0 ∙ h.1

pub returns-then-word-ne0-clause-within : goal.returns-then-word-ne0-clause-within
returns-then-word-ne0-clause-within c =
    let n : ℕ = get_or c.args.words.now c.loop-k.k 0 in
    let h = bit_at-trailing_zeros w64 n (omega (arith, c.if-word-ne0.true))
    (c.type_inv.words c.loop-k.k).fits in
    let t : ℕ = 64 * c.loop-k.k + trailing_zeros w64 n in
    let one : place c.args.words.now t ≡ 1 =
    place_in c.args.words.now t c.loop-k.k (trailing_zeros w64 n) (omega arith) h.0 ∙ h.1 in
    within (cases_lt c.args.len t) one
  where
    within : {t : ℕ} → (c.args.len < t) ⊎ (t ≤ c.args.len) → place c.args.words.now t ≡ 1 → t ≤ c.args.len
    within (inr l) o = l
    within {t} (inl l) o = absurd (let z : place c.args.words.now t ≡ 0 = c.requires.zero t
        (omega arith) in omega arith)

pub returns-clause-before : goal.returns-clause-before
returns-clause-before c = λ j l. zero_before c.args.words.now (length c.args.words.now) 0
    (λ i a. c.loop-k.invariant i (omega (arith, c.loop-k-test.false))) (λ b z. absurd (omega arith))
    (omega arith) j (omega (arith, c.requires.all))
