-- The laws of the steps in the form in which a program cites them: over words and numbers, with no tuples.
use Rattle.std.proofs.Common.{◌≡◌, ℕ, zero, suc, pred, refl, sym, ◌∙◌, ap, ap₂, subst, ◌+◌, ◌-◌, ◌*◌, ◌/◌}
use Rattle.std.proofs.Common.{◌%◌, ◌^◌, ◌<◌, arith, eqb, ltb, if◌then◌else◌, List, drop}
use Rattle.std.proofs.Math.Nat.{div-lt_iff_lt-mul}
use Rattle.power_commutator.specs.Presentations.{Presentation, IsWord, IsPresentation, pow, iterate, product}
use Rattle.power_commutator.specs.Presentations.{Equation, power_test, swap_test, fixed_test, twist_test}
use Rattle.power_commutator.specs.Presentations.{same, number, word_of, power_word, commutator_word}
use Rattle.power_commutator.specs.Claims.{table, IsNumbering}
use Rattle.power_commutator.specs.Steps.{step_table, step_alpha, IsLayerTable}
use Rattle.power_commutator.proofs.Tuples.{Tuple, list-of, Among}
use Rattle.power_commutator.proofs.Dyck.{twisted, times}
use Rattle.power_commutator.proofs.Lists.{list-times}
use Rattle.power_commutator.proofs.Numbers.{list-is, for-words, list-below, numbering}
use Rattle.power_commutator.proofs.Tests.{power-left, power-right, swap-left, swap-right, fixed-left}
use Rattle.power_commutator.proofs.Tests.{twist-left, twist-right, w-is}
use Rattle.power_commutator.proofs.Steps.{num, IsTable, alpha-number, table-step, same-number, power-numbers}
use Rattle.power_commutator.proofs.Steps.{swap-numbers, fixed-number, twist-numbers, table-last, table-first}
use Rattle.power_commutator.proofs.Order.{Passes}

module _ (P : Presentation) (s : 1 < P.prime) (v : IsPresentation P) where
  p-is : P.prime ≡ suc (pred P.prime)
  p-is = omega (arith, s)

  r : 1 < suc (pred P.prime)
  r = omega (arith, s)

  -- a table of words is one of tuples, and the other way round
  to-tuples : (i m : ℕ) → i + m ≡ suc P.gens → 0 < i → (t : ℕ → ℕ → ℕ) → IsLayerTable P i m t
      → IsTable (pred P.prime) r P p-is v i m t
  to-tuples i m e h t T x y =
      ap (number P.prime) (list-times (pred P.prime) r P p-is v i m e h x y)
      ∙ T _ _ (is-word x) (is-word y)
    where
      is-word : (x : Tuple (pred P.prime) m) → IsWord P.prime m 0 (list-of (pred P.prime) m x)
      is-word x = subst (λ p. IsWord p m 0 (list-of (pred P.prime) m x)) (sym p-is)
          (list-is (pred P.prime) m x)

  to-words : (i m : ℕ) → i + m ≡ suc P.gens → 0 < i → (t : ℕ → ℕ → ℕ)
      → IsTable (pred P.prime) r P p-is v i m t → IsLayerTable P i m t
  to-words i m e h t T x y a b =
      for-words (pred P.prime) m (λ y. number P.prime (product P i m x y) ≡ t (number P.prime x)
      (number P.prime y))
      (λ d. for-words (pred P.prime) m (λ x. number P.prime (product P i m x (list-of (pred P.prime) m d)) ≡ t
      (number P.prime x) (number P.prime (list-of (pred P.prime) m d)))
      (λ c. ap (number P.prime) (sym (list-times (pred P.prime) r P p-is v i m e h c d)) ∙ T c d) x
      (subst (λ p. IsWord p m 0 x) p-is a)) y (subst (λ p. IsWord p m 0 y) p-is b)

  -- the layer after the last generator
  pub last-table : (i : ℕ) → i ≡ suc P.gens → IsLayerTable P i 0 (λ a b. 0)
  last-table i e = to-words i 0 (omega (arith, e)) (omega (arith, e)) (λ a b. 0)
      (table-last (pred P.prime) r P p-is v i)

  -- layer 1 is the group
  pub first-table : (t : ℕ → ℕ → ℕ) → IsLayerTable P 1 P.gens t → (a b : ℕ) → a < P.prime ^ P.gens
      → b < P.prime ^ P.gens → table P a b ≡ t a b
  first-table t T = table-first (pred P.prime) r P p-is v t
      (to-tuples 1 P.gens (omega arith) (omega arith) t T)

  module _ (i m : ℕ) (n-is : i + m ≡ P.gens) (h : 0 < i) (t : ℕ → ℕ
      → ℕ) (T : IsLayerTable P (suc i) m t) where
    T' : IsTable (pred P.prime) r P p-is v (suc i) m t
    T' = to-tuples (suc i) m (omega (arith, n-is)) (omega arith) t T

    -- a layer from the next one
    pub next-table : IsLayerTable P i (suc m)
        (step_table P.prime t (number P.prime (drop i (power_word P i))) (step_alpha P t i m))
    next-table = to-words i (suc m) (omega (arith, n-is)) h
        (step_table P.prime t (number P.prime (drop i (power_word P i))) (step_alpha P t i m))
        (table-step (pred P.prime) r P p-is v i m n-is h t T')

    -- α_i of a number is one below p^m
    pub alpha-below : (k : ℕ) → k < P.prime ^ m → step_alpha P t i m k < P.prime ^ m
    alpha-below k l = go
      where
        open-word : (x : List ℕ) → IsWord (suc (pred P.prime)) m 0 x
            → step_alpha P t i m (number P.prime x) < P.prime ^ m
        open-word = for-words (pred P.prime) m (λ x. step_alpha P t i m (number P.prime x) < P.prime ^ m)
            (λ x.
            let e : num P.prime (pred P.prime) m
            (twisted (pred P.prime) P i m (times (pred P.prime) P (suc i) m) x) ≡ step_alpha P t i m
            (number P.prime (list-of (pred P.prime) m x)) =
            alpha-number (pred P.prime) r P p-is v i m n-is h t T' x in
            let b : num P.prime (pred P.prime) m
            (twisted (pred P.prime) P i m (times (pred P.prime) P (suc i) m) x) < P.prime ^ m =
            subst (λ p. number p (list-of (pred P.prime) m
            (twisted (pred P.prime) P i m (times (pred P.prime) P (suc i) m) x)) < p ^ m) (sym p-is)
            (list-below (pred P.prime) m
            (twisted (pred P.prime) P i m (times (pred P.prime) P (suc i) m) x)) in
            omega (arith, e, b))

        go : step_alpha P t i m k < P.prime ^ m
        go =
            let N = subst (λ p. IsNumbering p m) (sym p-is) (numbering (pred P.prime) m) in
            subst (λ a. step_alpha P t i m a < P.prime ^ m) (N.number-word k l)
            (open-word (word_of P.prime m k)
            (subst (λ p. IsWord p m 0 (word_of P.prime m k)) p-is (N.word-is k)))

    -- a test passes where the numbers of its sides are equal
    sides : (e : Equation) (x y : Tuple (pred P.prime) m) → list-of (pred P.prime) m x ≡ e.left
        → list-of (pred P.prime) m y ≡ e.right
        → same e.left e.right ≡ eqb (number P.prime e.left) (number P.prime e.right)
    sides e x y a b =
        same-number (pred P.prime) m e.left e.right
        (subst (IsWord (suc (pred P.prime)) m 0) a (list-is (pred P.prime) m x))
        (subst (IsWord (suc (pred P.prime)) m 0) b (list-is (pred P.prime) m y))
        ∙ ap (λ p. eqb (number p e.left) (number p e.right)) (sym p-is)

    pub power-passes : (j : ℕ) → Among (suc i) m j
        → Passes (power_test P (product P (suc i) m) i m j)
        (eqb (pow t 0 (step_alpha P t i m (P.prime ^ (j - suc i))) P.prime)
        (step_alpha P t i m (number P.prime (drop i (power_word P j)))))
    power-passes j a =
        sides (power_test P (product P (suc i) m) i m j) _ _
        (power-left (pred P.prime) r P p-is v i m n-is h j)
        (power-right (pred P.prime) r P p-is v i m n-is h j a)
        ∙ (let e = power-numbers (pred P.prime) r P p-is v i m n-is h t T' j a in ap₂ eqb e.0 e.1)

    pub swap-passes : (j k : ℕ) → Among (suc i) m j → Among (suc i) m k → j < k
        → Passes (swap_test P (product P (suc i) m) i m j k)
        (let a = step_alpha P t i m (P.prime ^ (j - suc i)) in
        let b = step_alpha P t i m (P.prime ^ (k - suc i)) in
        eqb (t b a) (t (t a b) (step_alpha P t i m (number P.prime (drop i (commutator_word P k j))))))
    swap-passes j k a b l =
        sides (swap_test P (product P (suc i) m) i m j k) _ _
        (swap-left (pred P.prime) r P p-is v i m n-is h j k)
        (swap-right (pred P.prime) r P p-is v i m n-is h j k a b l)
        ∙ (let e = swap-numbers (pred P.prime) r P p-is v i m n-is h t T' j k a b l in ap₂ eqb e.0 e.1)

    pub fixed-passes :
        Passes (fixed_test P (product P (suc i) m) i m)
        (let w = number P.prime (drop i (power_word P i)) in eqb (step_alpha P t i m w) w)
    fixed-passes =
        sides (fixed_test P (product P (suc i) m) i m) _ _ (fixed-left (pred P.prime) r P p-is v i m n-is h)
        (w-is (pred P.prime) r P p-is v i m n-is h)
        ∙ ap (λ a. eqb a (number P.prime (drop i (power_word P i))))
        (fixed-number (pred P.prime) r P p-is v i m n-is h t T')

    pub twist-passes : (j : ℕ) → Among (suc i) m j
        → Passes (twist_test P (product P (suc i) m) i m j)
        (let w = number P.prime (drop i (power_word P i)) in
        let g = P.prime ^ (j - suc i) in
        eqb (t w (iterate (step_alpha P t i m) P.prime g)) (t g w))
    twist-passes j a =
        sides (twist_test P (product P (suc i) m) i m j) _ _
        (twist-left (pred P.prime) r P p-is v i m n-is h j)
        (twist-right (pred P.prime) r P p-is v i m n-is h j)
        ∙ (let e = twist-numbers (pred P.prime) r P p-is v i m n-is h t T' j a in ap₂ eqb e.0 e.1)

-- products that agree on the numbers below p^m
pub same-table : (P : Presentation) (i m : ℕ) (t u : ℕ → ℕ → ℕ)
    → ((x : List ℕ) → IsWord P.prime m 0 x → number P.prime x < P.prime ^ m)
    → ((a b : ℕ) → a < P.prime ^ m → b < P.prime ^ m → t a b ≡ u a b) → IsLayerTable P i m t
    → IsLayerTable P i m u
same-table P i m t u below e T x y v w = T x y v w ∙ e _ _ (below x v) (below y w)

-- maps that agree on the numbers below n and stay there
pub iterate-agree : (n : ℕ) (f g : ℕ → ℕ) → ((k : ℕ) → k < n → f k ≡ g k) → ((k : ℕ) → k < n → g k < n)
    → (e x : ℕ) → x < n
    → (iterate f e x ≡ iterate g e x) × iterate g e x < n
iterate-agree n f g h b zero x l = (refl, l)
iterate-agree n f g h b (suc e) x l =
    let k = iterate-agree n f g h b e x l in
    (ap f k.0 ∙ h (iterate g e x) k.1, b (iterate g e x) k.1)

pub same-step : (p n : ℕ) (t : ℕ → ℕ → ℕ) (w : ℕ) (f g : ℕ → ℕ) → 0 < p → ((k : ℕ) → k < n → f k ≡ g k)
    → ((k : ℕ) → k < n → g k < n)
    → (a b : ℕ) → a < p * n → step_table p t w f a b ≡ step_table p t w g a b
same-step p n t w f g s h b a c l =
    ap (λ y. let d = a % p + c % p in let z = t y (c / p) in if (ltb d p) then (d + p * z) else
    ((d - p) + p * t w z))
    ((iterate-agree n f g h b (c % p) (a / p)
    ((div-lt_iff_lt-mul {k = p} {x = a} {y = n} s).1 (omega (arith, l)))).0)

pub number-below : (P : Presentation) → 1 < P.prime → (m : ℕ) (x : List ℕ) → IsWord P.prime m 0 x
    → number P.prime x < P.prime ^ m
number-below P s m x w =
    let e : P.prime ≡ suc (pred P.prime) = omega (arith, s) in
    (subst (λ p. IsNumbering p m) (sym e) (numbering (pred P.prime) m)).number-below x w
