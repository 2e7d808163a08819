-- Maps of lists, and the list of the numbers below n.
use Rattle.std.proofs.Common.{◌≡◌, ℕ, zero, suc, ◌<◌, ◌+◌, List, [], ◌∷◌, ◌++◌, inl, inr, refl, ap, sym, ◌∙◌}
use Rattle.std.proofs.Common.{arith, length, get_or, map, append_assoc}
use Rattle.std.proofs.lemmas.List.{length-append}
use Rattle.std.proofs.lemmas.Bool.{cases_lt}
use Rattle.elementary_subgroups.specs.Sets.{IsIn}
use Rattle.elementary_subgroups.specs.Bases.{numbers}

pub map_append : {A B : Type 0} (f : A → B) (xs ys : List A) → map f (xs ++ ys) ≡ map f xs ++ map f ys
map_append f [] ys = refl
map_append f (x ∷ xs) ys = ap (λ l. f x ∷ l) (map_append f xs ys)

pub map_map : {A B C : Type 0} (g : B → C) (f : A → B) (xs : List A) → map g (map f xs) ≡ map
    (λ x. g (f x)) xs
map_map g f [] = refl
map_map g f (x ∷ xs) = ap (λ l. g (f x) ∷ l) (map_map g f xs)

pub map_same : {A B : Type 0} (f g : A → B) (xs : List A) → ((x : A) → IsIn x xs → f x ≡ g x) →
    map f xs ≡ map g xs
map_same f g [] h = refl
map_same f g (x ∷ xs) h = ap (λ w. w ∷ map f xs) (h x (inl refl))
    ∙ ap (λ l. g x ∷ l) (map_same f g xs (λ y k. h y (inr k)))

pub in_map : {A B : Type 0} (f : A → B) (x : A) (xs : List A) → IsIn x xs → IsIn (f x) (map f xs)
in_map f x [] h = elim h [ ]
in_map f x (y ∷ xs) (inl e) = inl (ap f e)
in_map f x (y ∷ xs) (inr h) = inr (in_map f x xs h)

pub from_map : {A B : Type 0} (f : A → B) (z : B) (xs : List A) → IsIn z (map f xs) → (x : A) × IsIn x xs ×
    (f x ≡ z)
from_map f z [] h = elim h [ ]
from_map f z (y ∷ xs) (inl e) = (y, inl refl, sym e)
from_map f z (y ∷ xs) (inr h) = let r = from_map f z xs h in (r.0, inr r.1, r.2)

pub numbers_add : (a b : ℕ) → numbers (a + b) ≡ numbers a ++ map (λ e. a + e) (numbers b)
numbers_add a zero = rw (plus_zero a) (append_none (numbers a))
  where
    plus_zero : (a : ℕ) → a + 0 ≡ a
    plus_zero a = omega arith

    append_none : (xs : List ℕ) → xs ≡ xs ++ []
    append_none [] = refl
    append_none (x ∷ xs) = ap (λ l. x ∷ l) (append_none xs)
numbers_add a (suc b) =
    ap numbers (plus_suc a b)
    ∙ ap (λ l. l ++ (a + b) ∷ []) (numbers_add a b)
    ∙ append_assoc (numbers a) (map (λ e. a + e) (numbers b)) ((a + b) ∷ [])
    ∙ ap (λ l. numbers a ++ l) (sym (map_append (λ e. a + e) (numbers b) (b ∷ [])))
  where
    plus_suc : (a b : ℕ) → a + suc b ≡ suc (a + b)
    plus_suc a b = omega arith

pub at_old : (xs : List ℕ) (y k : ℕ) → k < length xs → get_or (xs ++ y ∷ []) k 0 ≡ get_or xs k 0
at_old [] y k h = absurd (omega arith)
at_old (x ∷ xs) y zero h = refl
at_old (x ∷ xs) y (suc k) h = at_old xs y k (omega arith)

pub at_new : (xs : List ℕ) (y k : ℕ) → k ≡ length xs → get_or (xs ++ y ∷ []) k 0 ≡ y
at_new [] y zero h = refl
at_new [] y (suc k) h = absurd (omega arith)
at_new (x ∷ xs) y zero h = absurd (omega arith)
at_new (x ∷ xs) y (suc k) h = at_new xs y k (omega arith)

pub length_map : {A B : Type 0} (f : A → B) (xs : List A) → length (map f xs) ≡ length xs
length_map f [] = refl
length_map f (x ∷ xs) = ap suc (length_map f xs)

pub length_numbers : (n : ℕ) → length (numbers n) ≡ n
length_numbers zero = refl
length_numbers (suc n) = length-append (numbers n) (n ∷ []) ∙ ap (λ w. w + length (n ∷ [])) (length_numbers n)
    ∙ one n
  where
    one : (n : ℕ) → n + length (n ∷ []) ≡ suc n
    one n = omega arith

pub at_map_numbers : (f : ℕ → ℕ) (n e : ℕ) → e < n → get_or (map f (numbers n)) e 0 ≡ f e
at_map_numbers f zero e h = absurd (omega arith)
at_map_numbers f (suc n) e h =
    let len : length (map f (numbers n)) ≡ n = length_map f (numbers n) ∙ length_numbers n in
    ap (λ l. get_or l e 0) (map_append f (numbers n) (n ∷ [])) ∙ elim (cases_lt e n) [
      | inl l ↦ at_old (map f (numbers n)) (f n) e (omega arith) ∙ at_map_numbers f n e l
      | inr g ↦ (let q : e ≡ n = omega arith in at_new (map f (numbers n)) (f n) e (q ∙ sym len)
          ∙ ap f (sym q))
    ]
