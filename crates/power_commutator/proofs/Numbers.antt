-- Elements and their numbers.
use Rattle.std.proofs.Common.{◌≡◌, ℕ, zero, suc, refl, sym, ◌∙◌, ap, ap₂, subst, ◌+◌, ◌-◌, ◌*◌, ◌/◌, ◌%◌, ◌^◌}
use Rattle.std.proofs.Common.{◌<◌, ◌≤◌, arith, if◌then◌else◌, ◌⊎◌, inl, inr, List, ◌∷◌, length, All, eq-eqb}
use Rattle.std.proofs.Common.{ne_eqb, mul-le-mul_left, mod-lt, zero-lt-suc}
use Rattle.std.proofs.Math.Nat.{pow-zero, pow-succ', add-mul-mod_self_left, mul-add-div, div-eq_of_lt}
use Rattle.std.proofs.Math.Nat.{div-add-mod, mod-eq_of_lt, div-lt_iff_lt-mul}
use Rattle.std.proofs.lemmas.List.Elements.{All-nil, All-cons}
use Rattle.power_commutator.specs.Presentations.{IsWord, identity, generator, number, word_of}
use Rattle.power_commutator.specs.Claims.{IsNumbering}
use Rattle.power_commutator.proofs.Tuples.{Tuple, list-of, tuple-of}
use Rattle.power_commutator.proofs.Cyclic.{less-or}
use Rattle.power_commutator.proofs.Lists.{list-word}

list-length : (q m : ℕ) (x : Tuple q m) → length (list-of q m x) ≡ m
list-length q zero x = refl
list-length q (suc m) x = ap suc (list-length q m x.1)

list-small : (q m : ℕ) (x : Tuple q m) → All (λ e. e < suc q) (list-of q m x)
list-small q zero x = All-nil (λ e. e < suc q)
list-small q (suc m) x = All-cons (λ e. e < suc q) x.0.0 (list-of q m x.1) x.0.1 (list-small q m x.1)

-- the lists of tuples are words, and each word is the list of its tuple
pub list-is : (q m : ℕ) (x : Tuple q m) → IsWord (suc q) m 0 (list-of q m x)
list-is q m x = record {
  len = list-length q m x;
  small = list-small q m x;
  later = λ k h. absurd (omega (arith, h));
}

pub list-tuple : (q m : ℕ) (x : List ℕ) → IsWord (suc q) m 0 x → list-of q m (tuple-of q m x) ≡ x
list-tuple q m x v = list-word q (suc q) m 0 x refl v 0 m (omega arith)

-- what holds for all lists of tuples holds for all words
pub for-words : (q m : ℕ) (C : List ℕ → Type 0) → ((x : Tuple q m) → C (list-of q m x)) → (x : List ℕ)
    → IsWord (suc q) m 0 x → C x
for-words q m C h x v = subst C (list-tuple q m x v) (h (tuple-of q m x))

pub list-below : (q m : ℕ) (x : Tuple q m) → number (suc q) (list-of q m x) < suc q ^ m
list-below q zero x = let e : suc q ^ 0 ≡ 1 = pow-zero (suc q) in omega (arith, e)
list-below q (suc m) x =
    let h : suc q * suc (number (suc q) (list-of q m x.1)) ≤ suc q * suc q ^ m =
    mul-le-mul_left (suc q) (list-below q m x.1) in
    let a : x.0.0 < suc q = x.0.1 in
    let e : suc q ^ suc m ≡ suc q * suc q ^ m = pow-succ' (suc q) m in
    omega (arith, h, a, e)

pub word-number-list : (q m : ℕ) (x : Tuple q m)
    → word_of (suc q) m (number (suc q) (list-of q m x)) ≡ list-of q m x
word-number-list q zero x = refl
word-number-list q (suc m) x =
    let k : ℕ = number (suc q) (list-of q m x.1) in
    ap₂ (λ a t. a ∷ t) (add-mul-mod_self_left x.0.0 (suc q) k ∙ mod-eq_of_lt x.0.1)
    (ap (word_of (suc q) m)
    (ap (λ t. t / suc q) (let e : x.0.0 + suc q * k ≡ suc q * k + x.0.0 = omega arith in e)
    ∙ mul-add-div (zero-lt-suc q) k x.0.0 ∙ ap (λ t. k + t) (div-eq_of_lt x.0.1)
    ∙ (let e : k + 0 ≡ k = omega arith in e))
    ∙ word-number-list q m x.1)

number-word-of : (q m k : ℕ) → k < suc q ^ m → number (suc q) (word_of (suc q) m k) ≡ k
number-word-of q zero k h = let e : suc q ^ 0 ≡ 1 = pow-zero (suc q) in omega (arith, h, e)
number-word-of q (suc m) k h =
    ap (λ t. k % suc q + suc q * t)
    (number-word-of q m (k / suc q)
    ((div-lt_iff_lt-mul {k = suc q} {x = k} {y = suc q ^ m} (zero-lt-suc q)).1
    (let e : suc q ^ suc m ≡ suc q * suc q ^ m = pow-succ' (suc q) m in omega (arith, e, h))))
    ∙ (let e : suc q * (k / suc q) + k % suc q ≡ k = div-add-mod k (suc q) in omega (arith, e))

word-length : (q m k : ℕ) → length (word_of (suc q) m k) ≡ m
word-length q zero k = refl
word-length q (suc m) k = ap suc (word-length q m (k / suc q))

word-small : (q m k : ℕ) → All (λ e. e < suc q) (word_of (suc q) m k)
word-small q zero k = All-nil (λ e. e < suc q)
word-small q (suc m) k = All-cons (λ e. e < suc q) (k % suc q) (word_of (suc q) m (k / suc q))
    (mod-lt k (zero-lt-suc q)) (word-small q m (k / suc q))

number-identity : (p m : ℕ) → number p (identity m) ≡ 0
number-identity p zero = refl
number-identity p (suc m) = ap (λ t. 0 + p * t) (number-identity p m)
    ∙ (let e : 0 + p * 0 ≡ 0 = omega arith in e)

number-past : (p i m k : ℕ) → k < i → number p (generator i m k) ≡ 0
number-past p i zero k h = refl
number-past p i (suc m) k h =
    ap₂ (λ a t. a + p * t) (ap (λ b. if b then 1 else 0)
    (ne_eqb i k (λ e. let h' : k < i = h in omega (arith, e, h'))))
    (number-past p (suc i) m k (let h' : k < i = h in omega (arith, h')))
    ∙ (let e : 0 + p * 0 ≡ 0 = omega arith in e)

pub number-generator : (p i m k : ℕ) → i ≤ k → k < i + m → number p (generator i m k) ≡ p ^ (k - i)
number-generator p i zero k h l = absurd (omega (arith, h, l))
number-generator p i (suc m) k h l = go (less-or i k) (number-generator p (suc i) m k)
  where
    go : (i < k) ⊎ (k ≤ i) → (suc i ≤ k → k < suc i + m → number p (generator (suc i) m k) ≡ p ^ (k - suc i))
        → number p (generator i (suc m) k) ≡ p ^ (k - i)
    go (inl s) ih =
        ap₂ (λ a t. a + p * t) (ap (λ b. if b then 1 else 0)
        (ne_eqb i k (λ e. let h' : i < k = s in omega (arith, e, h'))))
        (ih s (omega (arith, l)))
        ∙ (let e : 0 + p * p ^ (k - suc i) ≡ p * p ^ (k - suc i) = omega arith in e)
        ∙ sym (pow-succ' p (k - suc i))
        ∙ ap (λ t. p ^ t) (let s' : i < k = s in let e : suc (k - suc i) ≡ k - i = omega (arith, s') in e)
    go (inr s) ih =
        let e : i ≡ k = omega (arith, h, s) in
        ap₂ (λ a t. a + p * t) (ap (λ b. if b then 1 else 0) (eq-eqb i k e))
        (number-past p (suc i) m k (omega (arith, e)))
        ∙ (let e : 1 + p * 0 ≡ 1 = omega arith in e)
        ∙ sym (pow-zero p) ∙ ap (λ t. p ^ t) (let z : 0 ≡ k - i = omega (arith, e) in z)

pub numbering : (q n : ℕ) → IsNumbering (suc q) n
numbering q n = record {
  number-below = for-words q n (λ x. number (suc q) x < suc q ^ n) (list-below q n);
  word-is = λ k. record {
    len = word-length q n k;
    small = word-small q n k;
    later = λ j h. absurd (omega (arith, h));
  };
  number-word = number-word-of q n;
  word-number = for-words q n (λ x. word_of (suc q) n (number (suc q) x) ≡ x) (word-number-list q n);
  one = number-identity (suc q) n;
  generators = λ i h l. number-generator (suc q) 1 n i h (omega (arith, l));
}
