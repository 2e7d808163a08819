-- The places by layers of given sizes.
use Rattle.std.proofs.Common.{◌≡◌, ℕ, ◌+◌, ◌-◌, ◌*◌, ◌<◌, ◌≤◌, ◌⊎◌, List, [], ◌∷◌, cond, ltb, get_or, inl}
use Rattle.std.proofs.Common.{inr, arith, ap, sym, ◌∙◌, refl}
use Rattle.std.proofs.lemmas.Bool.{cases_lt}
use Rattle.std.proofs.lemmas.Bool.Decides.{nat_tests}
use Rattle.std.proofs.lemmas.List.{get_or_default}
use mathlib.Core.Path.{subst}
use Rattle.group_modules.specs.Field.{Below}
use Rattle.linear_algebra.proofs.Residues.{below-path}
use Rattle.radical_layers.specs.Placing.{place_of, size_of}
use Rattle.radical_layers.proofs.Places.{placing, placing-place}
use Rattle.group_algebra.specs.Places.{start_of, span_of, AreSpots}

-- a choice by a test on numbers
pub yes : (k s a b : ℕ) → k < s → cond (ltb k s) a b ≡ a
yes k s a b l = grind (arith, nat_tests)

pub otherwise : (k s a b : ℕ) → s ≤ k → cond (ltb k s) a b ≡ b
otherwise k s a b l = grind (arith, nat_tests)

pub place-inside-of : (ss : List ℕ) (b i k : ℕ) → i < b → k < size_of ss → place_of ss b i k < size_of ss * b
place-inside-of ss b i k l m = subst (λ x. x < size_of ss * b)
    (placing-place b ss (size_of ss) refl (i, l) (k, m))
    ((placing b ss (size_of ss) refl).place (i, l) (k, m)).1

pub place-differs-of : (ss : List ℕ) (b i k i' k' : ℕ) → i < b → k < size_of ss → i' < b → k' < size_of ss
    → place_of ss b i k ≡ place_of ss b i' k' → (i ≡ i') × (k ≡ k')
place-differs-of ss b i k i' k' l m l' m' e = (
  ap (λ (x : Below b). x.0) (sym ((placing b ss (size_of ss) refl).block-place (i, l) (k, m))
      ∙ ap (placing b ss (size_of ss) refl).block same
      ∙ (placing b ss (size_of ss) refl).block-place (i', l') (k', m')),
  ap (λ (x : Below (size_of ss)). x.0) (sym ((placing b ss (size_of ss) refl).member-place (i, l) (k, m))
      ∙ ap (placing b ss (size_of ss) refl).member same
      ∙ (placing b ss (size_of ss) refl).member-place (i', l') (k', m')),
)
  where
    same : (placing b ss (size_of ss) refl).place (i, l) (k, m) ≡ (placing b ss (size_of ss) refl).place (
      i',
      l',
    ) (k', m')
    same = below-path _ _ (placing-place b ss (size_of ss) refl (i, l) (k, m) ∙ e
        ∙ sym (placing-place b ss (size_of ss) refl (i', l') (k', m')))

-- a place from its layer's start and size
pub place-is : (ss : List ℕ) (b i k : ℕ) → k < size_of ss
    → (b * start_of ss k + i * span_of ss k + (k - start_of ss k) ≡ place_of ss b i k) × (start_of ss k ≤ k)
place-is [] b i k l = absurd (omega (arith, l))
place-is (s ∷ ss) b i k l = at (cases_lt k s) (λ m. place-is ss b i (k - s) m)
  where
    at : (k < s) ⊎ (s ≤ k) → (k - s < size_of ss
        → (b * start_of ss (k - s) + i * span_of ss (k - s) + (k - s - start_of ss (k - s)) ≡ place_of ss b i
        (k - s)) × (start_of ss (k - s) ≤ k - s))
        → (b * start_of (s ∷ ss) k + i * span_of (s ∷ ss) k + (k - start_of (s ∷ ss) k) ≡ place_of
        (s ∷ ss) b i k) × (start_of (s ∷ ss) k ≤ k)
    at (inl m) ih = rw (
      yes k s 0 (s + start_of ss (k - s)) m,
      yes k s s (span_of ss (k - s)) m,
      yes k s (i * s + k) (b * s + place_of ss b i (k - s)) m,
    ) (omega arith, omega arith)
    at (inr m) ih = rw (
      otherwise k s 0 (s + start_of ss (k - s)) m,
      otherwise k s s (span_of ss (k - s)) m,
      otherwise k s (i * s + k) (b * s + place_of ss b i (k - s)) m,
    )
        (let r : (b * start_of ss (k - s) + i * span_of ss (k - s) +
        (k - s - start_of ss (k - s)) ≡ place_of ss b i (k - s))
        × (start_of ss (k - s) ≤ k - s) = ih (omega (arith, l, m)) in
        let d : b * (s + start_of ss (k - s)) ≡ b * s + b * start_of ss (k - s) = omega arith in
        (omega (arith, r.0, r.1, d, m), omega (arith, r.1, m)))

-- the spot of a member past the first layers
pub spot-before : (s : ℕ) (ss : List ℕ) (k : ℕ) → k < s → (start_of (s ∷ ss) k ≡ 0) × (span_of (s ∷ ss) k ≡ s)
spot-before s ss k l = (yes k s 0 (s + start_of ss (k - s)) l, yes k s s (span_of ss (k - s)) l)

pub spot-past : (s : ℕ) (ss : List ℕ) (k : ℕ) → s ≤ k → (start_of (s ∷ ss) k ≡ s + start_of ss (k - s))
    × (span_of (s ∷ ss) k ≡ span_of ss (k - s))
spot-past s ss k l = (otherwise k s 0 (s + start_of ss (k - s)) l, otherwise k s s (span_of ss (k - s)) l)

-- a place from what is kept of its member, and its bound
pub place-found : (ss : List ℕ) (b i k : ℕ) (starts spans : List ℕ) (S P : ℕ)
    → AreSpots ss (size_of ss) starts spans → i < b → k < size_of ss
    → S ≡ get_or starts k S → P ≡ get_or spans k P
    → (S ≤ k) × (b * S + i * P + (k - S) ≡ place_of ss b i k) × (place_of ss b i k < size_of ss * b)
place-found ss b i k starts spans S P A l m s p =
    let r : (b * start_of ss k + i * span_of ss k + (k - start_of ss k) ≡ place_of ss b i k)
    × (start_of ss k ≤ k) = place-is ss b i k m in
    let e : S ≡ start_of ss k = s ∙ get_or_default starts k S 0 (let c = A.start_count in omega (arith, c, m))
    ∙ A.starts_are k m in
    let f : P ≡ span_of ss k = p ∙ get_or_default spans k P 0 (let c = A.span_count in omega (arith, c, m))
    ∙ A.spans_are k m in (
      subst (λ x. x ≤ k) (sym e) r.1,
      ap (λ x. b * x + i * P + (k - x)) e ∙ ap (λ x. b * start_of ss k + i * x + (k - start_of ss k)) f ∙ r.0,
      place-inside-of ss b i k l m,
    )

pub place-at-start : (ss : List ℕ) (b i k : ℕ) (starts spans : List ℕ) (S : ℕ)
    → AreSpots ss (size_of ss) starts spans → i < b → k < size_of ss
    → S ≡ get_or starts k S
    → (S ≤ k) × (b * S + i * span_of ss k + (k - S) ≡ place_of ss b i k)
    × (place_of ss b i k < size_of ss * b)
place-at-start ss b i k starts spans S A l m s = place-found ss b i k starts spans S (span_of ss k) A l m s
    (sym (get_or_default spans k (span_of ss k) 0 (let c = A.span_count in omega (arith, c, m))
    ∙ A.spans_are k m))
