-- The number of monomials, a generator at a time.
use Rattle.std.proofs.Common.{◌≡◌, ℕ, zero, suc, ◌+◌, ◌-◌, ◌*◌, ◌^◌, ◌<◌, ◌≤◌, min, true, false, cond, leb}
use Rattle.std.proofs.Common.{List, [], ◌∷◌, map, length, drop, get_or, ◌⊎◌, inl, inr, arith, ap, sym, subst}
use Rattle.std.proofs.Common.{◌∙◌, refl, length-append}
use Rattle.std.specs.List.{AllByRecursion as Each}
use Rattle.std.proofs.Math.Nat.{mul-le-mul_left}
use Rattle.std.proofs.lemmas.Bool.{cases_lt}
use Rattle.std.proofs.lemmas.Bool.Decides.{nat_tests}
use Rattle.std.proofs.lemmas.List.{length-map}
use Rattle.std.proofs.lemmas.List.Elements.{recursion_from_All}
use Rattle.limits.specs.declared.TheConstants.{GREATEST_COUNT, GREATEST_DEGREE}
use Rattle.graded_polynomials.specs.Monomials.{is_exterior, IsMonomials}
use Rattle.graded_polynomials.proofs.Terms.{each-map}
use Rattle.graded_polynomials.proofs.MonomialLists.{monomials-unique}
use Rattle.graded_polynomials.specs.AllMonomials.{with_first, all_monomials}
use Rattle.gc_poly.specs.Counts.{AreSums}
use Rattle.gc_poly.specs.Generators.{AreOrdered}
use Rattle.graded_polynomials.proofs.AllMonomials.{leb-of, all-monomials}

abbrev pub number : ℕ → List ℕ → ℕ → ℕ
number q ds d = length (all_monomials q ds d)

leb-not : (x y : ℕ) → y < x → leb x y ≡ false
leb-not x y l = grind (arith, nat_tests)

pub number-zero : (q : ℕ) (ds : List ℕ) → number q ds 0 ≡ 1
number-zero q [] = refl
number-zero q (g ∷ ds) = refl

module _ (others : ℕ → List (List ℕ)) (g : ℕ) where
  abbrev firsts : ℕ → ℕ → ℕ
  firsts d e = length (with_first others g d e)

  firsts-zero : (d : ℕ) → firsts d 0 ≡ length (others d)
  firsts-zero d = length-map (others d) (λ m. 0 ∷ m)

  firsts-some : (d e : ℕ) → suc e * g ≤ d → firsts d (suc e) ≡ length (others (d - suc e * g)) + firsts d e
  firsts-some d e l = rw (leb-of (suc e * g) d l)
      (length-append (map (λ m. suc e ∷ m) (others (d - suc e * g))) (with_first others g d e)
      ∙ ap (λ n. n + firsts d e) (length-map (others (d - suc e * g)) (λ m. suc e ∷ m)))

  firsts-none : (d e : ℕ) → d < suc e * g → firsts d (suc e) ≡ firsts d e
  firsts-none d e l = rw (leb-not (suc e * g) d l) refl

  -- exponents that do not fit give nothing
  firsts-stable : (d : ℕ) → 0 < g → (k : ℕ) → firsts d (d + k) ≡ firsts d d
  firsts-stable d p zero = ap (firsts d) (let e : d + 0 ≡ d = omega arith in e)
  firsts-stable d p (suc k) =
      ap (firsts d) (let e : d + suc k ≡ suc (d + k) = omega arith in e)
      ∙ firsts-none d (d + k) (let m = mul-le-mul_left (suc (d + k)) p in omega (arith, m))
      ∙ firsts-stable d p k

  firsts-shift : (d e : ℕ) → g ≤ d → firsts d (suc e) ≡ length (others d) + firsts (d - g) e
  firsts-shift d zero l =
      firsts-some d 0 (omega arith) ∙ omega (
        arith,
        firsts-zero d,
        firsts-zero (d - g),
        ap (λ r. length (others r)) (let k : d - suc 0 * g ≡ d - g = omega arith in k),
      )
  firsts-shift d (suc e) l = go (cases_lt d (suc (suc e) * g)) (firsts-shift d e l)
    where
      go : (d < suc (suc e) * g) ⊎ (suc (suc e) * g ≤ d)
          → firsts d (suc e) ≡ length (others d) + firsts (d - g) e
          → firsts d (suc (suc e)) ≡ length (others d) + firsts (d - g) (suc e)
      go (inl m) h = firsts-none d (suc e) m ∙ h
          ∙ ap (λ n. length (others d) + n) (sym (firsts-none (d - g) e (omega (arith, m, l))))
      go (inr m) h = omega (
        arith,
        firsts-some d (suc e) m,
        firsts-some (d - g) e (omega (arith, m)),
        h,
        ap (λ r. length (others r)) (let k : d - suc (suc e) * g ≡ d - g - suc e * g = omega arith in k),
      )

  firsts-short : (d e : ℕ) → d < g → firsts d e ≡ length (others d)
  firsts-short d zero l = firsts-zero d
  firsts-short d (suc e) l = firsts-none d e (omega arith) ∙ firsts-short d e l

module _ (q g : ℕ) (ds : List ℕ) (p : 0 < g) where
  own : (d : ℕ) → is_exterior q g ≡ false → number q (g ∷ ds) d ≡ firsts (λ r. all_monomials q ds r) g d d
  own zero e = sym (firsts-zero (λ r. all_monomials q ds r) g 0 ∙ number-zero q ds)
  own (suc d) e = ap (λ b. length (with_first (λ r. all_monomials q ds r) g (suc d) (cond b 1 (suc d)))) e

  pub number-short : (d : ℕ) → d < g → number q (g ∷ ds) d ≡ number q ds d
  number-short zero l = sym (number-zero q ds)
  number-short (suc d) l = firsts-short (λ r. all_monomials q ds r) g (suc d)
      (cond (is_exterior q g) 1 (suc d)) l

  -- a generator with all powers
  pub number-powers : (d : ℕ) → is_exterior q g ≡ false → g ≤ d
      → number q (g ∷ ds) d ≡ number q ds d + number q (g ∷ ds) (d - g)
  number-powers zero e l = absurd (omega arith)
  number-powers (suc d) e l =
      own (suc d) e ∙ firsts-shift (λ r. all_monomials q ds r) g (suc d) d l
      ∙ ap (λ n. number q ds (suc d) + n)
      (ap (firsts (λ r. all_monomials q ds r) g (suc d - g))
      (let k : d ≡ (suc d - g) + (d - (suc d - g)) = omega arith in k)
      ∙ firsts-stable (λ r. all_monomials q ds r) g (suc d - g) p (d - (suc d - g)) ∙ sym (own (suc d - g) e))

  -- a generator whose square is 0
  pub number-once : (d : ℕ) → is_exterior q g ≡ true → g ≤ d
      → number q (g ∷ ds) d ≡ number q ds d + number q ds (d - g)
  number-once zero e l = absurd (omega arith)
  number-once (suc d) e l =
      ap (λ b. length (with_first (λ r. all_monomials q ds r) g (suc d) (cond b 1 (suc d)))) e
      ∙ firsts-shift (λ r. all_monomials q ds r) g (suc d) 0 l
      ∙ ap (λ n. number q ds (suc d) + n) (firsts-zero (λ r. all_monomials q ds r) g (suc d - g))

abbrev pub AreCounts : ℕ → List ℕ → List ℕ → Type 0
AreCounts q ds counts = (j : ℕ) → j < 25 → get_or counts j 0 ≡ min (number q ds j) (2 ^ 64 - 1)

drop-at : (ds : List ℕ) (i : ℕ) → i < length ds → drop i ds ≡ get_or ds i 0 ∷ drop (suc i) ds
drop-at [] i l = absurd (omega arith)
drop-at (d ∷ ds) zero l = refl
drop-at (d ∷ ds) (suc i) l = drop-at ds i (omega arith)

capped : (a b x y M : ℕ) → a ≡ min x M → b ≡ min y M → min (a + b) M ≡ min (x + y) M
capped a b x y M e f = omega (arith, e, f)

pub counts-once : (q : ℕ) (ds old new : List ℕ) (i j g : ℕ) → j ≡ suc i → i < length ds → g ≡ get_or ds i 0
    → 0 < g → is_exterior q (get_or ds i 0) ≡ true → length old ≡ 25 → AreCounts q (drop j ds) old
    → AreSums g old old new
    → AreCounts q (drop i ds) new
counts-once q ds old new i j g s l e p x n h S k b = rw (drop-at ds i l, ← e) (go (cases_lt k g))
  where
    rest : List ℕ
    rest = drop (suc i) ds

    had : AreCounts q rest old
    had = subst (λ j. AreCounts q (drop j ds) old) s h

    go : (k < g) ⊎ (g ≤ k) → get_or new k 0 ≡ min (number q (g ∷ rest) k) (2 ^ 64 - 1)
    go (inl c) = S.same k c ∙ had k b ∙ ap (λ n. min n (2 ^ 64 - 1)) (sym (number-short q g rest p k c))
    go (inr c) =
        S.more k c (omega (arith, n)) ∙ capped _ _ _ _ _ (had k b) (had (k - g) (omega arith))
        ∙ ap (λ n. min n (2 ^ 64 - 1)) (sym (number-once q g rest p k (rw e x) c))

pub counts-powers : (q : ℕ) (ds old new : List ℕ) (i j g : ℕ) → j ≡ suc i → i < length ds → g ≡ get_or ds i 0
    → 0 < g → is_exterior q (get_or ds i 0) ≡ false → length old ≡ 25 → AreCounts q (drop j ds) old
    → AreSums g old new new
    → AreCounts q (drop i ds) new
counts-powers q ds old new i j g s l e p x n h S k b =
    rw (drop-at ds i l, ← e) (upto (suc k) k (omega arith) b)
  where
    rest : List ℕ
    rest = drop (suc i) ds

    had : AreCounts q rest old
    had = subst (λ j. AreCounts q (drop j ds) old) s h

    upto : (n k : ℕ) → k < n → k < 25 → get_or new k 0 ≡ min (number q (g ∷ rest) k) (2 ^ 64 - 1)
    upto zero k l b = absurd (omega arith)
    upto (suc m) k l b = go (cases_lt k g) (λ c. upto m (k - g) (omega arith) (omega arith))
      where
        go : (k < g) ⊎ (g ≤ k) → (g ≤ k → get_or new (k - g) 0 ≡ min (number q (g ∷ rest) (k - g))
            (2 ^ 64 - 1)) → get_or new k 0 ≡ min (number q (g ∷ rest) k) (2 ^ 64 - 1)
        go (inl c) r = S.same k c ∙ had k b ∙ ap (λ n. min n (2 ^ 64 - 1)) (sym (number-short q g rest p k c))
        go (inr c) r =
            S.more k c (omega (arith, n)) ∙ capped _ _ _ _ _ (had k b) (r c)
            ∙ ap (λ n. min n (2 ^ 64 - 1)) (sym (number-powers q g rest p k (rw e x) c))

pub positive : (ds : List ℕ) → AreOrdered ds → Each (λ d. 0 < d) ds
positive ds o = each-map (λ d. (1 ≤ d) × (d ≤ GREATEST_DEGREE)) (λ d. 0 < d) ds (λ d h. h.0)
    (recursion_from_All (λ d. (1 ≤ d) × (d ≤ GREATEST_DEGREE)) ds o.range)

pub number-of : (q : ℕ) (ds : List ℕ) (d n : ℕ) → AreOrdered ds → n ≡ min (number q ds d) (2 ^ 64 - 1)
    → (ms : List (List ℕ)) → IsMonomials q ds d ms → n ≡ min (length ms) GREATEST_COUNT
number-of q ds d n o e ms M = e ∙ ap (λ ms. min (length ms) GREATEST_COUNT)
    (monomials-unique q ds d (all_monomials q ds d) ms (all-monomials q ds (positive ds o) d) M)
