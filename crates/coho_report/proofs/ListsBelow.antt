-- The lists of a length of numbers below a bound, and what can be decided of a list of numbers.
use Rattle.std.proofs.Common.{◌≡◌, ◌⊎◌, inl, inr, ℕ, zero, suc, ◌<◌, ◌≤◌, List, [], ◌∷◌, ◌++◌, length}
use Rattle.std.proofs.Common.{map, refl, ap, subst, arith}
use Rattle.std.specs.List.{AllByRecursion as Each}
use Rattle.std.proofs.lemmas.Bool.{cases_lt, cases_order}
use Rattle.param_test.specs.Firsts.{IsOneOf}
use Rattle.param_test.specs.Tuples.{Ascends}
use Rattle.param_test.proofs.Lists.{one-of-left}

one-of-right : {X : Type 0} (xs zs : List X) (y : X) → IsOneOf y zs → IsOneOf y (xs ++ zs)
one-of-right [] zs y o = o
one-of-right (x ∷ xs) zs y o = inr (one-of-right xs zs y o)

one-of-map : {X Y : Type 0} (f : X → Y) (xs : List X) (x : X) → IsOneOf x xs → IsOneOf (f x) (map f xs)
one-of-map f [] x o = o
one-of-map f (z ∷ xs) x (inl e) = inl (ap f e)
one-of-map f (z ∷ xs) x (inr o) = inr (one-of-map f xs x o)

-- each number below n before each of the lists
abbrev heads : ℕ → List (List ℕ) → List (List ℕ)
heads zero ws = []
heads (suc x) ws = heads x ws ++ map (λ w. x ∷ w) ws

-- the lists of length r of numbers below n
abbrev pub lists_below : ℕ → ℕ → List (List ℕ)
lists_below n zero = [] ∷ []
lists_below n (suc r) = heads n (lists_below n r)

heads-all : (n x : ℕ) (w : List ℕ) (ws : List (List ℕ)) → x < n → IsOneOf w ws → IsOneOf (x ∷ w) (heads n ws)
heads-all zero x w ws l o = absurd (omega (arith, l))
heads-all (suc n) x w ws l o = go (cases_lt x n) (λ low. heads-all n x w ws low o)
  where
    go : (x < n) ⊎ (n ≤ x) → (x < n → IsOneOf (x ∷ w) (heads n ws))
        → IsOneOf (x ∷ w) (heads n ws ++ map (λ w. n ∷ w) ws)
    go (inl low) early = one-of-left (heads n ws) (map (λ w. n ∷ w) ws) (x ∷ w) (early low)
    go (inr high) early = let same : n ≡ x = omega (arith, l, high) in
        one-of-right (heads n ws) (map (λ w. n ∷ w) ws) (x ∷ w)
        (subst (λ x. IsOneOf (x ∷ w) (map (λ w. n ∷ w) ws)) same (one-of-map (λ w. n ∷ w) ws w o))

pub all_below : (n r : ℕ) (t : List ℕ) → length t ≡ r → Each (λ x. x < n) t → IsOneOf t (lists_below n r)
all_below n zero [] l h = inl refl
all_below n zero (x ∷ t) l h = absurd (omega (arith, l))
all_below n (suc r) [] l h = absurd (omega (arith, l))
all_below n (suc r) (x ∷ t) l h =
    heads-all n x t (lists_below n r) h.0 (all_below n r t (omega (arith, l)) h.1)

pub decide_equal : (a b : ℕ) → (a ≡ b) ⊎ (a ≡ b → ⊥)
decide_equal a b = go (cases_order a b)
  where
    go : (a ≡ b) ⊎ ((a < b) ⊎ (b < a)) → (a ≡ b) ⊎ (a ≡ b → ⊥)
    go (inl e) = inl e
    go (inr (inl l)) = inr (λ e. omega (arith, e, l))
    go (inr (inr l)) = inr (λ e. omega (arith, e, l))

pub decide_less : (a b : ℕ) → (a < b) ⊎ (a < b → ⊥)
decide_less a b = go (cases_lt a b)
  where
    go : (a < b) ⊎ (b ≤ a) → (a < b) ⊎ (a < b → ⊥)
    go (inl l) = inl l
    go (inr h) = inr (λ l. omega (arith, h, l))

pub decide_and : {P Q : Type 0} → P ⊎ (P → ⊥) → Q ⊎ (Q → ⊥) → (P × Q) ⊎ (P × Q → ⊥)
decide_and (inl p) (inl q) = inl (p, q)
decide_and (inl p) (inr not) = inr (λ h. not h.1)
decide_and (inr not) q = inr (λ h. not h.0)

pub decide_each : {X : Type 0} (P : X → Type 0) → ((x : X) → P x ⊎ (P x → ⊥)) → (xs : List X)
    → Each P xs ⊎ (Each P xs → ⊥)
decide_each P decide [] = inl tt
decide_each P decide (x ∷ xs) = decide_and (decide x) (decide_each P decide xs)

pub decide_three : {P Q R : Type 0} → P ⊎ (P → ⊥) → Q ⊎ (Q → ⊥) → R ⊎ (R → ⊥)
    → (P × Q × R) ⊎ (P × Q × R → ⊥)
decide_three (inl p) (inl q) (inl r) = inl (p, q, r)
decide_three (inl p) (inl q) (inr not) = inr (λ h. not h.2)
decide_three (inl p) (inr not) r = inr (λ h. not h.1)
decide_three (inr not) q r = inr (λ h. not h.0)

decide_at_most : (a b : ℕ) → (a ≤ b) ⊎ (a ≤ b → ⊥)
decide_at_most a b = go (cases_lt b a)
  where
    go : (b < a) ⊎ (a ≤ b) → (a ≤ b) ⊎ (a ≤ b → ⊥)
    go (inl l) = inr (λ h. omega (arith, h, l))
    go (inr h) = inl h

pub decide_ascends : (low n : ℕ) (t : List ℕ) → Ascends low n t ⊎ (Ascends low n t → ⊥)
decide_ascends low n [] = inl tt
decide_ascends low n (x ∷ t) =
    decide_three (decide_at_most low x) (decide_less x n) (decide_ascends (suc x) n t)

pub ascends_below : (low n : ℕ) (t : List ℕ) → Ascends low n t → Each (λ x. x < n) t
ascends_below low n [] h = tt
ascends_below low n (x ∷ t) h = (h.1, ascends_below (suc x) n t h.2)
