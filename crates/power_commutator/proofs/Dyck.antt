-- The product of a layer on tuples, and the homomorphisms from it that are given on generators.
use Rattle.std.proofs.Common.{◌≡◌, ℕ, zero, suc, refl, sym, ◌∙◌, ap, ap₂, ◌+◌, ◌-◌, ◌<◌, ◌≤◌, arith, Bool}
use Rattle.std.proofs.Common.{true, false, eqb, if◌then◌else◌, ◌⊎◌, inl, inr, List, drop, eq-eqb, ne_eqb}
use Rattle.power_commutator.specs.Presentations.{Presentation, pow, iterate, ascending, power_word}
use Rattle.power_commutator.specs.Presentations.{commutator_word}
use Rattle.power_commutator.proofs.Group.{IsGroup, IsHom, one-mul, pow-add, pow-last}
use Rattle.power_commutator.proofs.Tuples.{residue, none, residue-small, Tuple, list-of, tuple-of}
use Rattle.power_commutator.proofs.Tuples.{identity-tuple, generator-tuple, Among, conj-ascending}
use Rattle.power_commutator.proofs.Tuples.{ascending-identity, map-ascending}
use Rattle.power_commutator.proofs.Cyclic.{less-or, put, put-less, put-more, ext}

-- a word in the layer after g_i, which has m generators
abbrev pub word : (q i m : ℕ) → List ℕ → Tuple q m
word q i m w = tuple-of q m (drop i w)

-- g_j c_{j,i}
abbrev pub image : (q : ℕ) → Presentation → (i m : ℕ) → (Tuple q m → Tuple q m → Tuple q m) → ℕ → Tuple q m
image q P i m mul j = mul (generator-tuple q (suc i) m j) (word q i m (commutator_word P j i))

abbrev pub twisted : (q : ℕ) → Presentation → (i m : ℕ) → (Tuple q m → Tuple q m → Tuple q m) → Tuple q m
    → Tuple q m
twisted q P i m mul x = ascending mul (identity-tuple q m) (image q P i m mul) (suc i) (list-of q m x)

-- the product of layer i
abbrev pub times : (q : ℕ) → Presentation → (i m : ℕ) → Tuple q m → Tuple q m → Tuple q m
times q P i zero = λ x y. tt
times q P i (suc m) = ext q (times q P (suc i) m) (word q i m (power_word P i))
    (twisted q P i m (times q P (suc i) m))

module _ (q : ℕ) (P : Presentation) {B : Type 0} {one : B} {mul : B → B → B} (H : IsGroup one mul) (u : ℕ
    → B) where
  -- the product of the powers of the u(j)
  abbrev pub value : (i m : ℕ) → Tuple q m → B
  value i m x = ascending mul one u i (list-of q m x)

  -- the relations of layer i hold for the u(j)
  abbrev pub Respects : (i m : ℕ) → Type 0
  Respects i zero = Unit {0}
  Respects i (suc m) =
      (pow mul one (u i) (suc q) ≡ value (suc i) m (word q i m (power_word P i)))
      × ((k : ℕ) → Among (suc i) m k → mul (u k) (u i) ≡ mul (u i)
      (mul (u k) (value (suc i) m (word q i m (commutator_word P k i)))))
      × Respects (suc i) m

  pub value-identity : (i m : ℕ) → value i m (identity-tuple q m) ≡ one
  value-identity i m = ascending-identity q H u i m

  pow-mark : (b : Bool) (x : B) → 1 < suc q
      → pow mul one x (if b then (residue q 1) else (none q)).0 ≡ (if b then x else one)
  pow-mark true x h = ap (pow mul one x) (residue-small q 1 h) ∙ H.mul-one x
  pow-mark false x h = refl

  pub value-past : (i m k : ℕ) → k < i → 1 < suc q → value i m (generator-tuple q i m k) ≡ one
  value-past i zero k h r = refl
  value-past i (suc m) k h r =
      ap₂ mul (pow-mark (eqb i k) (u i) r
      ∙ ap (λ b. if b then (u i) else one) (ne_eqb i k (λ e. let h' : k < i = h in omega (arith, e, h'))))
      (value-past (suc i) m k (let h' : k < i = h in omega (arith, h')) r)
      ∙ H.mul-one one

  pub value-generator : (i m k : ℕ) → Among i m k → 1 < suc q → value i m (generator-tuple q i m k) ≡ u k
  value-generator i zero k a r = absurd (let b = a.0 in let c = a.1 in omega (arith, b, c))
  value-generator i (suc m) k a r = go (less-or i k) (λ h. value-generator (suc i) m k h r)
    where
      go : (i < k) ⊎ (k ≤ i) → (Among (suc i) m k → value (suc i) m (generator-tuple q (suc i) m k) ≡ u k)
          → value i (suc m) (generator-tuple q i (suc m) k) ≡ u k
      go (inl h) ih =
          ap₂ mul (pow-mark (eqb i k) (u i) r
          ∙ ap (λ b. if b then (u i) else one)
          (ne_eqb i k (λ e. let h' : i < k = h in omega (arith, e, h'))))
          (ih (h, let c = a.1 in omega (arith, c)))
          ∙ one-mul H (u k)
      go (inr h) ih =
          let e : i ≡ k = let b = a.0 in omega (arith, b, h) in
          ap₂ mul (pow-mark (eqb i k) (u i) r ∙ ap (λ b. if b then (u i) else one) (eq-eqb i k e))
          (value-past (suc i) m k (omega (arith, e)) r)
          ∙ H.mul-one (u i) ∙ ap u e

  module _ (r : 1 < suc q) (i m : ℕ) (t : Respects i (suc m))
      (ih : IsHom (times q P (suc i) m) mul (value (suc i) m)) where
    abbrev below : Tuple q m → Tuple q m → Tuple q m
    below = times q P (suc i) m

    -- the value at the image under the twist is the conjugate
    pub value-twisted : (x : Tuple q m) → mul (value (suc i) m x) (u i) ≡ mul (u i)
        (value (suc i) m (twisted q P i m below x))
    value-twisted x =
        conj-ascending q H u (λ j. value (suc i) m (image q P i m below j)) (u i) (suc i) m
        (λ j a. t.1 j a ∙ ap (mul (u i))
        (ap (λ s. mul s (value (suc i) m (word q i m (commutator_word P j i))))
        (sym (value-generator (suc i) m j a r)) ∙ sym (ih _ _))) x
        ∙ ap (mul (u i)) (sym (map-ascending (identity-tuple q m) below one mul (value (suc i) m) ih
        (value-identity (suc i) m) (image q P i m below) (suc i) (list-of q m x)))

    pub value-iterate : (b : ℕ) (x : Tuple q m)
        → mul (value (suc i) m x) (pow mul one (u i) b) ≡ mul (pow mul one (u i) b)
        (value (suc i) m (iterate (twisted q P i m below) b x))
    value-iterate zero x = H.mul-one _ ∙ sym (one-mul H _)
    value-iterate (suc b) x =
        ap (mul _) (pow-last H (u i) b) ∙ sym (H.mul-assoc _ _ _)
        ∙ ap (λ s. mul s (u i)) (value-iterate b x) ∙ H.mul-assoc _ _ _
        ∙ ap (mul _) (value-twisted (iterate (twisted q P i m below) b x))
        ∙ sym (H.mul-assoc _ _ _) ∙ ap (λ s. mul s
        (value (suc i) m (iterate (twisted q P i m below) (suc b) x))) (sym (pow-last H (u i) b))

    value-put : (k : ℕ) (x : Tuple q m) → k < suc q + suc q
        → value i (suc m) (put q below (word q i m (power_word P i)) k x) ≡ mul (pow mul one (u i) k)
        (value (suc i) m x)
    value-put k x h = go (less-or k (suc q))
      where
        w : Tuple q m
        w = word q i m (power_word P i)

        go : (k < suc q) ⊎ (suc q ≤ k) → value i (suc m) (put q below w k x) ≡ mul (pow mul one (u i) k)
            (value (suc i) m x)
        go (inl l) =
            ap (value i (suc m)) (put-less q below w k x l)
            ∙ ap (λ n. mul (pow mul one (u i) n) (value (suc i) m x)) (residue-small q k l)
        go (inr l) =
            ap (value i (suc m)) (put-more q below w k x l)
            ∙ ap₂ (λ n s. mul (pow mul one (u i) n) s) (residue-small q (k - suc q) (omega (arith, h)))
            (ih w x ∙ ap (λ s. mul s (value (suc i) m x)) (sym t.0))
            ∙ sym (H.mul-assoc _ _ _)
            ∙ ap (λ s. mul s (value (suc i) m x)) (sym (pow-add H (u i) (k - suc q) (suc q))
            ∙ ap (pow mul one (u i)) (let e : k - suc q + suc q ≡ k = omega (arith, l) in e))

    pub value-step : IsHom (times q P i (suc m)) mul (value i (suc m))
    value-step x y =
        value-put (x.0.0 + y.0.0) _ (let a : x.0.0 < suc q = x.0.1 in let b : y.0.0 < suc q = y.0.1 in omega
        (arith, a, b))
        ∙ ap₂ mul (pow-add H (u i) x.0.0 y.0.0) (ih _ _)
        ∙ H.mul-assoc _ _ _
        ∙ ap (mul _) (sym (H.mul-assoc _ _ _)
        ∙ ap (λ s. mul s (value (suc i) m y.1)) (sym (value-iterate y.0.0 x.1)) ∙ H.mul-assoc _ _ _)
        ∙ sym (H.mul-assoc _ _ _)

  -- a map of the generators that respects the relations gives a homomorphism
  pub value-hom : 1 < suc q → (i m : ℕ) → Respects i m → IsHom (times q P i m) mul (value i m)
  value-hom r i zero t = λ x y. sym (H.mul-one one)
  value-hom r i (suc m) t = value-step r i m t (value-hom r (suc i) m t.2)
