-- The first so many members are one list, and the first of them that passes is one.
use Rattle.std.proofs.Common.{◌≡◌, ℕ, zero, suc, ◌+◌, ◌-◌, ◌<◌, ◌≤◌, ◌⊎◌, inl, inr, List, [], ◌∷◌, ◌++◌}
use Rattle.std.proofs.Common.{length, take, arith, sym, subst, refl}
use Rattle.std.specs.List.{AllByRecursion as Each}
use Rattle.std.proofs.lemmas.Bool.{cases_order}
use Rattle.std.proofs.lemmas.List.{take-append-le}
use Rattle.param_test.specs.Firsts.{IsOneOf, IsAscending, AreFirst, IsFirstPassing, NonePasses}
use Rattle.param_test.proofs.Lists.{each-one-of, each-both, each-take, each-last}

both-same : {X : Type 0} {x y : X} {xs ys : List X} → x ≡ y → xs ≡ ys → (x ∷ xs) ≡ (y ∷ ys)
both-same e f = cc

length-take : {X : Type 0} (n : ℕ) (xs : List X) → length (take n xs) ≤ n
length-take zero xs = omega arith
length-take (suc n) [] = omega arith
length-take (suc n) (x ∷ xs) = let l = length-take n xs in omega (arith, l)

length-take-all : {X : Type 0} (n : ℕ) (xs : List X) → n ≤ length xs → length (take n xs) ≡ n
length-take-all zero xs l = refl
length-take-all (suc n) [] l = absurd (omega (arith, l))
length-take-all (suc n) (x ∷ xs) l = let k = length-take-all n xs (omega (arith, l)) in omega (arith, k)

-- the last elements of equal lists are equal
last-same : {X : Type 0} (xs ys : List X) (x y : X) → xs ++ x ∷ [] ≡ ys ++ y ∷ [] → x ≡ y
last-same [] [] x y e = cc
last-same [] (b ∷ []) x y e = absurd cc
last-same [] (b ∷ (d ∷ ys)) x y e = absurd cc
last-same (a ∷ []) [] x y e = absurd cc
last-same (a ∷ (c ∷ xs)) [] x y e = absurd cc
last-same (a ∷ xs) (b ∷ ys) x y e = last-same xs ys x y cc

module _ {X : Type 0} (B : X → X → Type 0) (trans : (x y z : X) → B x y → B y z → B x z)
    (apart : (x : X) → B x x → ⊥) where
  -- without the first member
  rest-first : (In : X → Type 0) (n : ℕ) (x : X) (xs : List X) → AreFirst In B n (x ∷ xs)
      → AreFirst (λ z. In z × B x z) B (n - 1) xs
  rest-first In n x xs a = record {
    members = each-both In (λ z. B x z) xs a.members.1 a.ascending.0;
    ascending = a.ascending.1;
    at_most = omega (arith, a.at_most);
    others = λ z m. go z m (a.others z m.0);
  }
    where
      go : (z : X) → In z × B x z → IsOneOf z (x ∷ xs) ⊎ ((length (x ∷ xs) ≡ n) × Each (λ y. B y z) (x ∷ xs))
          → IsOneOf z xs ⊎ ((length xs ≡ n - 1) × Each (λ y. B y z) xs)
      go z m (inl (inl e)) = absurd (apart x (subst (B x) e m.1))
      go z m (inl (inr o)) = inl o
      go z m (inr h) = inr (omega (arith, h.0), h.1.1)

  -- a member is the first of the list or comes after it
  first-or-after : (In : X → Type 0) (n : ℕ) (x y : X) (ys : List X) → AreFirst In B n (y ∷ ys) → In x
      → (x ≡ y) ⊎ B y x
  first-or-after In n x y ys b m = go (b.others x m)
    where
      go : IsOneOf x (y ∷ ys) ⊎ ((length (y ∷ ys) ≡ n) × Each (λ z. B z x) (y ∷ ys)) → (x ≡ y) ⊎ B y x
      go (inl (inl e)) = inl e
      go (inl (inr o)) = inr (each-one-of (λ z. B y z) ys x b.ascending.0 o)
      go (inr h) = inr h.1.0

  same-first : (In : X → Type 0) (n : ℕ) (x y : X) (xs ys : List X) → AreFirst In B n (x ∷ xs)
      → AreFirst In B n (y ∷ ys) → x ≡ y
  same-first In n x y xs ys a b =
      go (first-or-after In n x y ys b a.members.0) (first-or-after In n y x xs a b.members.0)
    where
      go : (x ≡ y) ⊎ B y x → (y ≡ x) ⊎ B x y → x ≡ y
      go (inl e) k = e
      go (inr h) (inl e) = sym e
      go (inr h) (inr k) = absurd (apart x (trans x y x k h))

  none-left : (In : X → Type 0) (n : ℕ) (y : X) (ys : List X) → AreFirst In B n [] → AreFirst In B n (y ∷ ys)
      → ⊥
  none-left In n y ys a b = go (a.others y b.members.0)
    where
      go : IsOneOf y [] ⊎ ((length {A = X} [] ≡ n) × Each (λ z. B z y) []) → ⊥
      go (inl o) = o
      go (inr h) = let l = b.at_most in let e = h.0 in omega (arith, l, e)

  pub first-unique : (In : X → Type 0) (n : ℕ) (xs ys : List X) → AreFirst In B n xs → AreFirst In B n ys
      → xs ≡ ys
  first-unique In n [] [] a b = refl
  first-unique In n [] (y ∷ ys) a b = absurd (none-left In n y ys a b)
  first-unique In n (x ∷ xs) [] a b = absurd (none-left In n x xs b a)
  first-unique In n (x ∷ xs) (y ∷ ys) a b =
      let e : x ≡ y = same-first In n x y xs ys a b in
      both-same e (first-unique (λ z. In z × B x z) (n - 1) xs ys (rest-first In n x xs a)
      (subst (λ y. AreFirst (λ z. In z × B y z) B (n - 1) ys) (sym e) (rest-first In n y ys b)))

  ascending-take : (k : ℕ) (ys : List X) → IsAscending B ys → IsAscending B (take k ys)
  ascending-take zero ys h = tt
  ascending-take (suc k) [] h = tt
  ascending-take (suc k) (y ∷ ys) h = (each-take (λ z. B y z) k ys h.0, ascending-take k ys h.1)

  one-of-take : (k : ℕ) (ys : List X) (z : X) → IsAscending B ys → IsOneOf z ys
      → IsOneOf z (take k ys) ⊎ ((length (take k ys) ≡ k) × Each (λ x. B x z) (take k ys))
  one-of-take k [] z h o = absurd o
  one-of-take zero (y ∷ ys) z h o = inr (refl, tt)
  one-of-take (suc k) (y ∷ ys) z h (inl e) = inl (inl e)
  one-of-take (suc k) (y ∷ ys) z h (inr o) = go (one-of-take k ys z h.1 o)
    where
      go : IsOneOf z (take k ys) ⊎ ((length (take k ys) ≡ k) × Each (λ x. B x z) (take k ys))
          → IsOneOf z (y ∷ take k ys) ⊎ ((length (y ∷ take k ys) ≡ suc k) × Each (λ x. B x z) (y ∷ take k ys))
      go (inl p) = inl (inr p)
      go (inr p) = inr (let e = p.0 in omega (arith, e), (each-one-of (λ z. B y z) ys z h.0 o, p.1))

  -- the first k of the first n
  take-first : (In : X → Type 0) (n k : ℕ) (ys : List X) → k ≤ n → AreFirst In B n ys
      → AreFirst In B k (take k ys)
  take-first In n k ys l b = record {
    members = each-take In k ys b.members;
    ascending = ascending-take k ys b.ascending;
    at_most = length-take k ys;
    others = λ z m. go z (b.others z m);
  }
    where
      go : (z : X) → IsOneOf z ys ⊎ ((length ys ≡ n) × Each (λ x. B x z) ys)
          → IsOneOf z (take k ys) ⊎ ((length (take k ys) ≡ k) × Each (λ x. B x z) (take k ys))
      go z (inl o) = one-of-take k ys z b.ascending o
      go z (inr h) = inr (length-take-all k ys (omega (arith, h.0, l)), each-take (λ x. B x z) k ys h.1)

  module _ (In : X → Type 0) (n : ℕ) (Passes : X → Type 0) where
    -- the first that passes is among no members that fail
    not-among : (t : X) (e tried : List X) (m : ℕ) → AreFirst In B (length e + 1) (e ++ t ∷ [])
        → AreFirst In B m tried → length e < m
        → Each (λ x. Passes x → ⊥) (take (length e + 1) tried) → Passes t → ⊥
    not-among t e tried m a b l f p =
        let s = first-unique In (length e + 1) (e ++ t ∷ []) (take (length e + 1) tried) a
        (take-first In m (length e + 1) tried (omega (arith, l)) b) in
        each-last (λ x. Passes x → ⊥) e t (subst (Each (λ x. Passes x → ⊥)) (sym s) f) p

    pub none-passes : (t : X) → NonePasses In B n Passes → IsFirstPassing In B n Passes t → ⊥
    none-passes t h k = not-among t k.earlier h.tried n k.first h.first k.among
        (each-take (λ x. Passes x → ⊥) (length k.earlier + 1) h.tried h.fail) k.pass

    not-later : (s t : X) → IsFirstPassing In B n Passes s → (k : IsFirstPassing In B n Passes t)
        → (h : IsFirstPassing In B n Passes s) → length h.earlier < length k.earlier → ⊥
    not-later s t x k h l = not-among s h.earlier (k.earlier ++ t ∷ []) (length k.earlier + 1) h.first k.first
        (omega (arith, l))
        (subst (Each (λ x. Passes x → ⊥))
        (sym (take-append-le (length h.earlier + 1) k.earlier (t ∷ []) (omega (arith, l))))
        (each-take (λ x. Passes x → ⊥) (length h.earlier + 1) k.earlier k.fail)) h.pass

    pub passing-unique : (s t : X) → IsFirstPassing In B n Passes s → IsFirstPassing In B n Passes t → s ≡ t
    passing-unique s t h k = go (cases_order (length h.earlier) (length k.earlier))
      where
        go : (length h.earlier ≡ length k.earlier)
            ⊎ ((length h.earlier < length k.earlier) ⊎ (length k.earlier < length h.earlier)) → s ≡ t
        go (inl e) =
            last-same h.earlier k.earlier s t
            (first-unique In (length k.earlier + 1) (h.earlier ++ s ∷ []) (k.earlier ++ t ∷ [])
            (subst (λ m. AreFirst In B (m + 1) (h.earlier ++ s ∷ [])) e h.first) k.first)
        go (inr (inl l)) = absurd (not-later s t h k h l)
        go (inr (inr l)) = absurd (not-later t s k h k l)
