-- The first so many of a set, in a strict order, are one list.
use Rattle.std.proofs.Common.{◌≡◌, ◌⊎◌, inl, inr, ℕ, zero, suc, ◌≤◌, List, [], ◌∷◌, length}
use Rattle.std.proofs.Common.{take, refl, sym, ap, subst, arith}
use Rattle.std.specs.List.{AllByRecursion as Each}
use Rattle.param_test.specs.Firsts.{IsOneOf, AreFirst}
use Rattle.param_test.proofs.Lists.{each-one-of}

module _ {X : Type 0} (B : X → X → Type 0) (self : (x : X) → B x x → ⊥)
    (trans : (x y z : X) → B x y → B y z → B x z) where
  -- the members after x
  abbrev pub After : (X → Type 0) → X → X → Type 0
  After In x z = In z × B x z

  both : (In : X → Type 0) (x : X) (ys : List X) → Each In ys → Each (λ y. B x y) ys → Each (After In x) ys
  both In x [] m b = tt
  both In x (y ∷ ys) m b = ((m.0, b.0), both In x ys m.1 b.1)

  -- without the first
  rest : (In : X → Type 0) (n : ℕ) (x : X) (xs : List X) → AreFirst In B (suc n) (x ∷ xs)
      → AreFirst (After In x) B n xs
  rest In n x xs F = record {
    members = both In x xs F.members.1 F.ascending.0;
    ascending = F.ascending.1;
    at_most = (let h = F.at_most in omega (arith, h));
    others = λ z m. go z m (F.others z m.0);
  }
    where
      go : (z : X) → After In x z
          → IsOneOf z (x ∷ xs) ⊎ ((length (x ∷ xs) ≡ suc n) × Each (λ y. B y z) (x ∷ xs))
          → IsOneOf z xs ⊎ ((length xs ≡ n) × Each (λ y. B y z) xs)
      go z m (inl (inl e)) = absurd (self x (subst (B x) e m.1))
      go z m (inl (inr o)) = inl o
      go z m (inr h) = inr ((let l = h.0 in omega (arith, l)), h.1.1)

  -- each member is the first, or comes after it
  first-or-after : (In : X → Type 0) (n : ℕ) (x : X) (xs : List X) (z : X) → AreFirst In B n (x ∷ xs) → In z
      → (z ≡ x) ⊎ B x z
  first-or-after In n x xs z F m = go (F.others z m)
    where
      go : IsOneOf z (x ∷ xs) ⊎ ((length (x ∷ xs) ≡ n) × Each (λ y. B y z) (x ∷ xs)) → (z ≡ x) ⊎ B x z
      go (inl (inl e)) = inl e
      go (inl (inr o)) = inr (each-one-of (λ y. B x y) xs z F.ascending.0 o)
      go (inr h) = inr h.1.0

  same-first : (In : X → Type 0) (n : ℕ) (x y : X) (xs ys : List X) → AreFirst In B n (x ∷ xs)
      → AreFirst In B n (y ∷ ys) → x ≡ y
  same-first In n x y xs ys F G = go (first-or-after In n x xs y F G.members.0)
      (first-or-after In n y ys x G F.members.0)
    where
      go : (y ≡ x) ⊎ B x y → (x ≡ y) ⊎ B y x → x ≡ y
      go (inl e) k = sym e
      go (inr b) (inl e) = e
      go (inr b) (inr c) = absurd (self x (trans x y x b c))

  not-none : (In : X → Type 0) (n : ℕ) (y : X) (ys : List X) → AreFirst In B n [] → AreFirst In B n (y ∷ ys)
      → ⊥
  not-none In n y ys F G = go (F.others y G.members.0)
    where
      go : IsOneOf y [] ⊎ ((length {A = X} [] ≡ n) × Each (λ x. B x y) []) → ⊥
      go (inl o) = o
      go (inr h) = let l = h.0 in let k = G.at_most in omega (arith, l, k)

  pub first_are_one : (In : X → Type 0) (n : ℕ) (xs ys : List X) → AreFirst In B n xs → AreFirst In B n ys
      → xs ≡ ys
  first_are_one In n [] [] F G = refl
  first_are_one In n [] (y ∷ ys) F G = absurd (not-none In n y ys F G)
  first_are_one In n (x ∷ xs) [] F G = absurd (not-none In n x xs G F)
  first_are_one In zero (x ∷ xs) (y ∷ ys) F G = absurd (let h = F.at_most in omega (arith, h))
  first_are_one In (suc n) (x ∷ xs) (y ∷ ys) F G =
      let same = same-first In (suc n) x y xs ys F G in
      let tails = first_are_one (After In y) n xs ys
      (subst (λ z. AreFirst (After In z) B n xs) same (rest In n x xs F)) (rest In n y ys G) in
      λ i. same i ∷ tails i

  no-first : (In : X → Type 0) → AreFirst In B 0 []
  no-first In = record { members = tt; ascending = tt; at_most = omega arith; others = λ y k. inr (refl, tt) }

  -- with a first
  with-first : (In : X → Type 0) (m : ℕ) (x : X) (ys : List X) → In x → ((z : X) → In z → (z ≡ x) ⊎ B x z)
      → AreFirst (After In x) B m ys → AreFirst In B (suc m) (x ∷ ys)
  with-first In m x ys here least F = record {
    members = (here, left ys F.members);
    ascending = (right ys F.members, F.ascending);
    at_most = (let h = F.at_most in omega (arith, h));
    others = λ z k. go z k (least z k);
  }
    where
      left : (zs : List X) → Each (After In x) zs → Each In zs
      left [] h = tt
      left (z ∷ zs) h = (h.0.0, left zs h.1)

      right : (zs : List X) → Each (After In x) zs → Each (λ z. B x z) zs
      right [] h = tt
      right (z ∷ zs) h = (h.0.1, right zs h.1)

      after : (z : X) → B x z → IsOneOf z ys ⊎ ((length ys ≡ m) × Each (λ y. B y z) ys)
          → IsOneOf z (x ∷ ys) ⊎ ((length (x ∷ ys) ≡ suc m) × Each (λ y. B y z) (x ∷ ys))
      after z b (inl o) = inl (inr o)
      after z b (inr h) = inr (ap suc h.0, (b, h.1))

      go : (z : X) → In z → (z ≡ x) ⊎ B x z
          → IsOneOf z (x ∷ ys) ⊎ ((length (x ∷ ys) ≡ suc m) × Each (λ y. B y z) (x ∷ ys))
      go z k (inl e) = inl (inl e)
      go z k (inr b) = after z b (F.others z (k, b))

  -- fewer of them
  pub fewer : (In : X → Type 0) (n m : ℕ) (xs : List X) → m ≤ n → AreFirst In B n xs
      → AreFirst In B m (take m xs)
  fewer In n zero xs le F = no-first In
  fewer In n (suc m) [] le F = record {
    members = tt;
    ascending = tt;
    at_most = omega arith;
    others = λ y k. go y (F.others y k);
  }
    where
      go : (y : X) → IsOneOf y [] ⊎ ((length {A = X} [] ≡ n) × Each (λ x. B x y) [])
          → IsOneOf y [] ⊎ ((length {A = X} [] ≡ suc m) × Each (λ x. B x y) [])
      go y (inl o) = absurd o
      go y (inr h) = absurd (let l = h.0 in omega (arith, l, le))
  fewer In zero (suc m) (x ∷ xs) le F = absurd (omega (arith, le))
  fewer In (suc n) (suc m) (x ∷ xs) le F =
      with-first In m x (take m xs) F.members.0 (λ z k. first-or-after In (suc n) x xs z F k)
      (fewer (After In x) n m xs (omega (arith, le)) (rest In n x xs F))
