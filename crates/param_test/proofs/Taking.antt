-- The exponents of the variables in a monomial, taken one after another.
use Rattle.std.proofs.Common.{◌≡◌, ◌≢◌, ℕ, zero, suc, ◌+◌, ◌<◌, ◌≤◌, List, [], ◌∷◌, ◌++◌, length, take}
use Rattle.std.proofs.Common.{get_or, Bool, true, false, cond, eqb, ◌&&◌, ◌||◌, ◌⊎◌, inl, inr, arith, ap, sym}
use Rattle.std.proofs.Common.{subst, ◌∙◌, refl}
use Rattle.std.proofs.lemmas.Bool.{cases_Bool}
use Rattle.std.proofs.lemmas.List.{append-nil, take_more}
use Rattle.graded_polynomials.specs.Monomials.{exponent, IsWithin, IsTrimmed}
use Rattle.graded_polynomials.proofs.Terms.{eqb-self, eqb-true, eqb-false}
use Rattle.graded_polynomials.proofs.Exponents.{same-exponents}
use Rattle.param_test.specs.Variables.{variable_degree, is_variable, is_in_variables, restricted}
use Rattle.param_test.proofs.Restricting.{both, trimmed-restricted}

-- the exponents of the variables, 0 where m has ended
abbrev pub padded : ℕ → List ℕ → List ℕ → List ℕ
padded q [] m = []
padded q (d ∷ ds) [] = cond (is_variable q d) (0 ∷ padded q ds []) (padded q ds [])
padded q (d ∷ ds) (e ∷ m) = cond (is_variable q d) (e ∷ padded q ds m) (padded q ds m)

padded-last : (q : ℕ) (ds m : List ℕ) (d : ℕ)
    → padded q (ds ++ d ∷ []) m ≡ padded q ds m ++ cond (is_variable q d) (exponent m (length ds) ∷ []) []
padded-last q [] [] d = go (cases_Bool (is_variable q d))
  where
    go : (is_variable q d ≡ true) ⊎ (is_variable q d ≡ false)
        → padded q (d ∷ []) [] ≡ cond (is_variable q d) (0 ∷ []) []
    go (inl v) = rw v refl
    go (inr v) = rw v refl
padded-last q [] (x ∷ m) d = go (cases_Bool (is_variable q d))
  where
    go : (is_variable q d ≡ true) ⊎ (is_variable q d ≡ false) → padded q (d ∷ []) (x ∷ m)
        ≡ cond (is_variable q d) (x ∷ []) []
    go (inl v) = rw v refl
    go (inr v) = rw v refl
padded-last q (a ∷ ds) [] d = go (cases_Bool (is_variable q a)) (padded-last q ds [] d)
  where
    go : (is_variable q a ≡ true) ⊎ (is_variable q a ≡ false)
        → padded q (ds ++ d ∷ []) [] ≡ padded q ds [] ++ cond (is_variable q d) (exponent [] (length ds) ∷ [])
        []
        → padded q (a ∷ (ds ++ d ∷ [])) [] ≡ padded q (a ∷ ds) [] ++ cond (is_variable q d)
        (exponent [] (suc (length ds)) ∷ []) []
    go (inl v) h = rw v (ap (λ (xs : List ℕ). 0 ∷ xs) h)
    go (inr v) h = rw v h
padded-last q (a ∷ ds) (x ∷ m) d = go (cases_Bool (is_variable q a)) (padded-last q ds m d)
  where
    go : (is_variable q a ≡ true) ⊎ (is_variable q a ≡ false)
        → padded q (ds ++ d ∷ []) m ≡ padded q ds m ++ cond (is_variable q d) (exponent m (length ds) ∷ []) []
        → padded q (a ∷ (ds ++ d ∷ [])) (x ∷ m) ≡ padded q (a ∷ ds) (x ∷ m) ++ cond (is_variable q d)
        (exponent (x ∷ m) (suc (length ds)) ∷ []) []
    go (inl v) h = rw v (ap (λ (xs : List ℕ). x ∷ xs) h)
    go (inr v) h = rw v h

padded-zeros : (q : ℕ) (ds : List ℕ) (k : ℕ) → exponent (padded q ds []) k ≡ 0
padded-zeros q [] k = refl
padded-zeros q (d ∷ ds) k = go (cases_Bool (is_variable q d)) (λ k. padded-zeros q ds k) k
  where
    go : (is_variable q d ≡ true) ⊎ (is_variable q d ≡ false) → ((k : ℕ) → exponent (padded q ds []) k ≡ 0)
        → (k : ℕ) → exponent (padded q (d ∷ ds) []) k ≡ 0
    go (inl v) h zero = rw v refl
    go (inl v) h (suc k) = rw v (h k)
    go (inr v) h k = rw v (h k)

padded-exponents : (q : ℕ) (ds m : List ℕ) (k : ℕ) → exponent (padded q ds m) k
    ≡ exponent (restricted q ds m) k
padded-exponents q [] m k = refl
padded-exponents q (d ∷ ds) [] k = padded-zeros q (d ∷ ds) k
padded-exponents q (d ∷ ds) (x ∷ m) k = go (cases_Bool (is_variable q d)) (λ k. padded-exponents q ds m k) k
  where
    go : (is_variable q d ≡ true) ⊎ (is_variable q d ≡ false)
        → ((k : ℕ) → exponent (padded q ds m) k ≡ exponent (restricted q ds m) k) → (k : ℕ)
        → exponent (padded q (d ∷ ds) (x ∷ m)) k ≡ exponent (restricted q (d ∷ ds) (x ∷ m)) k
    go (inl v) h zero = rw v refl
    go (inl v) h (suc k) = rw v (h k)
    go (inr v) h k = rw v (h k)

or-true : (a : Bool) → (a || true) ≡ true
or-true true = refl
or-true false = refl

and-true : (a : Bool) → (a && true) ≡ a
and-true true = refl
and-true false = refl

and-both : (a b : Bool) → a ≡ true → b ≡ true → (a && b) ≡ true
and-both a b e f = rw (e, f) refl

-- whether m is in the variables among the first generators and one more
in-last : (q : ℕ) (ds m : List ℕ) (d : ℕ) → is_in_variables q ds m ≡ true
    → (is_variable q d || eqb (exponent m (length ds)) 0) ≡ true
    → is_in_variables q (ds ++ d ∷ []) m ≡ true
in-last q [] [] d h k = refl
in-last q [] (x ∷ m) d h k = and-both (is_variable q d || eqb x 0) true k refl
in-last q (a ∷ ds) [] d h k = refl
in-last q (a ∷ ds) (x ∷ m) d h k = and-both (is_variable q a || eqb x 0) (is_in_variables q (ds ++ d ∷ []) m)
    (both h).0 (in-last q ds m d (both h).1 k)

-- each generator that occurs is a variable
in-at : (q : ℕ) (ds m : List ℕ) (i : ℕ) → i < length ds → is_in_variables q ds m ≡ true
    → (is_variable q (get_or ds i 0) || eqb (exponent m i) 0) ≡ true
in-at q [] m i l h = absurd (omega (arith, l))
in-at q (d ∷ ds) [] i l h = or-true (is_variable q (get_or (d ∷ ds) i 0))
in-at q (d ∷ ds) (x ∷ m) zero l h = (both h).0
in-at q (d ∷ ds) (x ∷ m) (suc i) l h = in-at q ds m i (omega (arith, l)) (both h).1

length-front : (ds : List ℕ) (i : ℕ) → i ≤ length ds → length (take i ds) ≡ i
length-front [] zero l = refl
length-front [] (suc i) l = absurd (omega (arith, l))
length-front (d ∷ ds) zero l = refl
length-front (d ∷ ds) (suc i) l = let h = length-front ds i (omega (arith, l)) in omega (arith, h)

-- the exponents of the variables among the first i generators
pub record IsTaken (q : ℕ) (ds m : List ℕ) (i : ℕ) (xs : List ℕ) : Type 0 where
  pub inside : is_in_variables q (take i ds) m ≡ true
  pub taken : xs ≡ padded q (take i ds) m

pub taken-start : (q : ℕ) (ds m : List ℕ) (xs : List ℕ) → xs ≡ [] → IsTaken q ds m 0 xs
taken-start q ds m xs e = record { inside = refl; taken = e }

module _ (q : ℕ) (ds m : List ℕ) (i d x : ℕ) (xs : List ℕ) (l : i < length ds) (d_is : d ≡ get_or ds i 0)
    (x_is : x ≡ exponent m i) (T : IsTaken q ds m i xs) where
  front : take (i + 1) ds ≡ take i ds ++ d ∷ []
  front = take_more ds i 0 l ∙ ap (λ d. take i ds ++ d ∷ []) (sym d_is)

  here : exponent m (length (take i ds)) ≡ x
  here = ap (exponent m) (length-front ds i (omega arith)) ∙ sym x_is

  inside-more : (is_variable q d || eqb x 0) ≡ true → is_in_variables q (take (i + 1) ds) m ≡ true
  inside-more h = subst (λ ds. is_in_variables q ds m ≡ true) (sym front)
      (in-last q (take i ds) m d T.inside (subst (λ x. (is_variable q d || eqb x 0) ≡ true) (sym here) h))

  padded-more : padded q (take (i + 1) ds) m ≡ xs ++ cond (is_variable q d) (x ∷ []) []
  padded-more = ap (λ ds. padded q ds m) front ∙ padded-last q (take i ds) m d
      ∙ ap (λ ys. ys ++ cond (is_variable q d) (exponent m (length (take i ds)) ∷ []) []) (sym T.taken)
      ∙ ap (λ x. xs ++ cond (is_variable q d) (x ∷ []) []) here

  pub taken-more : (v : ℕ) → v ≡ variable_degree q → d ≡ v → IsTaken q ds m (i + 1) (xs ++ x ∷ [])
  taken-more v w e =
      let b : is_variable q d ≡ true = rw (e ∙ w) (eqb-self (variable_degree q)) in
      record { inside = inside-more (rw b refl); taken = sym (padded-more ∙ rw b refl) }

  pub taken-left : (v : ℕ) → v ≡ variable_degree q → d ≢ v → x ≡ 0 → IsTaken q ds m (i + 1) xs
  taken-left v w n z =
      let b : is_variable q d ≡ false = eqb-false d (variable_degree q) (λ e. n (e ∙ sym w)) in
      record { inside = inside-more (rw (b, z) refl); taken = sym (padded-more ∙ rw b (append-nil xs)) }

  pub taken-none : (v : ℕ) → v ≡ variable_degree q → d ≢ v → x ≢ 0 → is_in_variables q ds m ≡ false
  taken-none v w n z = go (cases_Bool (is_in_variables q ds m))
    where
      b : is_variable q d ≡ false
      b = eqb-false d (variable_degree q) (λ e. n (e ∙ sym w))

      go : (is_in_variables q ds m ≡ true) ⊎ (is_in_variables q ds m ≡ false) → is_in_variables q ds m ≡ false
      go (inr h) = h
      go (inl h) =
          absurd (z (eqb-true x 0 (rw b at (subst (λ x. (is_variable q d || eqb x 0) ≡ true) (sym x_is)
          (subst (λ d. (is_variable q d || eqb (exponent m i) 0) ≡ true) (sym d_is) (in-at q ds m i l h))))))

take-all : (ds : List ℕ) → take (length ds) ds ≡ ds
take-all [] = refl
take-all (d ∷ ds) = ap (λ ds. d ∷ ds) (take-all ds)

module _ (q : ℕ) (ds m : List ℕ) (i : ℕ) (xs : List ℕ) (e : i ≡ length ds) (T : IsTaken q ds m i xs) where
  whole : take i ds ≡ ds
  whole = ap (λ i. take i ds) e ∙ take-all ds

  pub taken-inside : is_in_variables q ds m ≡ true
  taken-inside = subst (λ ds. is_in_variables q ds m ≡ true) whole T.inside

  pub taken-is : (n : List ℕ) → IsWithin ds m → IsTrimmed m → IsTrimmed n
      → ((k : ℕ) → exponent n k ≡ exponent xs k) → n ≡ restricted q ds m
  taken-is n w t u h = same-exponents n (restricted q ds m) u (trimmed-restricted q ds m taken-inside w t)
      (λ k. h k ∙ ap (λ ys. exponent ys k) (T.taken ∙ ap (λ ds. padded q ds m) whole)
      ∙ padded-exponents q ds m k)
