-- Exponent lists as tuples of numbers below p.
use Rattle.std.proofs.Common.{◌≡◌, ℕ, zero, suc, refl, sym, ◌∙◌, ap, ap₂, ◌+◌, ◌%◌, ◌<◌, ◌≤◌, arith, eqb}
use Rattle.std.proofs.Common.{if◌then◌else◌, List, [], ◌∷◌}
use Rattle.std.proofs.Math.Nat.{mod-lt, mod-eq_of_lt}
use native.Mathlib.Nat.{zero-lt-suc}
use mathlib.Core.HLevel.{Σ_prop_path}
use native.Mathlib.Bridge.{le_prop}
use Rattle.power_commutator.specs.Presentations.{pow, ascending}
use Rattle.power_commutator.proofs.Group.{IsGroup, IsHom, one-mul, conj-pow, map-pow}

abbrev pub Below : ℕ → Type 0
Below n = (k : ℕ) × k < n

pub below-path : {n : ℕ} (a b : Below n) → a.0 ≡ b.0 → a ≡ b
below-path {n} a b e = Σ_prop_path (λ (k : ℕ). le_prop {n = suc k} {m = n}) {u = a} {v = b} e

abbrev pub residue : (q : ℕ) → ℕ → Below (suc q)
residue q n = (n % suc q, mod-lt n (zero-lt-suc q))

abbrev pub none : (q : ℕ) → Below (suc q)
none q = (0, zero-lt-suc q)

pub residue-small : (q k : ℕ) → k < suc q → (residue q k).0 ≡ k
residue-small q k h = mod-eq_of_lt h

pub residue-is : (q k : ℕ) (a : Below (suc q)) → k ≡ a.0 → residue q k ≡ a
residue-is q k a e = below-path (residue q k) a (ap (λ t. t % suc q) e ∙ mod-eq_of_lt a.1)

-- the lists of m exponents
abbrev pub Tuple : ℕ → ℕ → Type 0
Tuple q zero = Unit {0}
Tuple q (suc m) = Below (suc q) × Tuple q m

abbrev pub list-of : (q m : ℕ) → Tuple q m → List ℕ
list-of q zero x = []
list-of q (suc m) x = x.0.0 ∷ list-of q m x.1

-- exponents count modulo p, and missing ones as 0
abbrev pub tuple-of : (q m : ℕ) → List ℕ → Tuple q m
tuple-of q zero xs = tt
tuple-of q (suc m) [] = (none q, tuple-of q m [])
tuple-of q (suc m) (x ∷ xs) = (residue q x, tuple-of q m xs)

pub tuple-list : (q m : ℕ) (x : Tuple q m) → tuple-of q m (list-of q m x) ≡ x
tuple-list q zero x = refl
tuple-list q (suc m) x = λ i. (residue-is q x.0.0 x.0 refl i, tuple-list q m x.1 i)

abbrev pub identity-tuple : (q m : ℕ) → Tuple q m
identity-tuple q zero = tt
identity-tuple q (suc m) = (none q, identity-tuple q m)

abbrev pub generator-tuple : (q j m k : ℕ) → Tuple q m
generator-tuple q j zero k = tt
generator-tuple q j (suc m) k = (if (eqb j k) then (residue q 1) else (none q), generator-tuple q (suc j) m k)

-- j is one of the m numbers from i on
abbrev pub Among : (i m j : ℕ) → Type 0
Among i m j = (i ≤ j) × j < i + m

-- ascending products of functions that agree in the range
pub ascending-same : (q : ℕ) {A : Type 0} (one : A) (mul : A → A → A) (u v : ℕ → A) (i m : ℕ)
    → ((j : ℕ) → Among i m j → u j ≡ v j)
    → (x : Tuple q m) → ascending mul one u i (list-of q m x) ≡ ascending mul one v i (list-of q m x)
ascending-same q one mul u v i zero h x = refl
ascending-same q one mul u v i (suc m) h x =
    ap₂ mul (ap (λ t. pow mul one t x.0.0) (h i (omega arith, omega arith)))
    (ascending-same q one mul u v (suc i) m
    (λ j a. h j (
      let b = a.0 in let c = a.1 in omega (arith, b, c),
      let b = a.0 in let c = a.1 in omega (arith, b, c),
    )) x.1)

module _ (q : ℕ) {A : Type 0} {one : A} {mul : A → A → A} (H : IsGroup one mul) where
  -- u(j) t = t v(j) for all j gives the same for ascending products
  pub conj-ascending : (u v : ℕ → A) (t : A) (i m : ℕ) → ((j : ℕ) → Among i m j → mul (u j) t ≡ mul t (v j))
      → (x : Tuple q m) → mul (ascending mul one u i (list-of q m x)) t ≡ mul t
      (ascending mul one v i (list-of q m x))
  conj-ascending u v t i zero h x = one-mul H t ∙ sym (H.mul-one t)
  conj-ascending u v t i (suc m) h x =
      H.mul-assoc _ _ t
      ∙ ap (mul _) (conj-ascending u v t (suc i) m
      (λ j a. h j (
        let b = a.0 in let c = a.1 in omega (arith, b, c),
        let b = a.0 in let c = a.1 in omega (arith, b, c),
      )) x.1)
      ∙ sym (H.mul-assoc _ t _)
      ∙ ap (λ s. mul s (ascending mul one v (suc i) (list-of q m x.1)))
      (conj-pow H (u i) (v i) t (h i (omega arith, omega arith)) x.0.0)
      ∙ H.mul-assoc t _ _

  pub ascending-identity : (u : ℕ → A) (i m : ℕ)
      → ascending mul one u i (list-of q m (identity-tuple q m)) ≡ one
  ascending-identity u i zero = refl
  ascending-identity u i (suc m) = one-mul H _ ∙ ascending-identity u (suc i) m

module _ {A B : Type 0} (one : A) (mul : A → A → A) (unit : B) (times : B → B → B) (f : A
    → B) (h : IsHom mul times f) (o : f one ≡ unit) where
  pub map-ascending : (u : ℕ → A) (i : ℕ) (xs : List ℕ)
      → f (ascending mul one u i xs) ≡ ascending times unit (λ j. f (u j)) i xs
  map-ascending u i [] = o
  map-ascending u i (e ∷ xs) = h _ _ ∙ ap₂ times (map-pow one mul unit times f h o (u i) e)
      (map-ascending u (suc i) xs)
