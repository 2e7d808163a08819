-- The product of a layer on lists is that on tuples, and the tests on lists are those on tuples.
use Rattle.std.proofs.Common.{◌≡◌, ℕ, zero, suc, refl, sym, ◌∙◌, ap, ap₂, ◌+◌, ◌-◌, ◌<◌, ◌≤◌, arith, Bool}
use Rattle.std.proofs.Common.{true, false, eqb, if◌then◌else◌, ◌⊎◌, inl, inr, List, ◌∷◌, drop, length, get_or}
use Rattle.std.proofs.Common.{lt-ltb, le-ltb, drop_of_length-le}
use Rattle.std.proofs.Math.Seq.{drop-cons}
use Rattle.power_commutator.specs.Presentations.{Presentation, IsWord, IsPresentation, iterate, identity}
use Rattle.power_commutator.specs.Presentations.{generator, alpha, carry, product, power_word}
use Rattle.power_commutator.specs.Presentations.{commutator_word}
use Rattle.power_commutator.proofs.Group.{IsHom}
use Rattle.power_commutator.proofs.Tuples.{residue, none, residue-small, Tuple, list-of, tuple-of, tuple-list}
use Rattle.power_commutator.proofs.Tuples.{identity-tuple, generator-tuple, Among, ascending-same}
use Rattle.power_commutator.proofs.Tuples.{map-ascending}
use Rattle.power_commutator.proofs.Cyclic.{less-or, put, put-less, put-more}
use Rattle.power_commutator.proofs.Dyck.{word, image, twisted, times}

-- tuples with equal lists are equal
pub list-inj : (q m : ℕ) (x y : Tuple q m) → list-of q m x ≡ list-of q m y → x ≡ y
list-inj q m x y e = sym (tuple-list q m x) ∙ ap (tuple-of q m) e ∙ tuple-list q m y

pub list-identity : (q m : ℕ) → list-of q m (identity-tuple q m) ≡ identity m
list-identity q zero = refl
list-identity q (suc m) = ap (λ t. 0 ∷ t) (list-identity q m)

list-mark : (q : ℕ) → 1 < suc q → (b : Bool)
    → (if b then (residue q 1) else (none q)).0 ≡ (if b then 1 else 0)
list-mark q r true = residue-small q 1 r
list-mark q r false = refl

pub list-generator : (q : ℕ) → 1 < suc q → (i m k : ℕ)
    → list-of q m (generator-tuple q i m k) ≡ generator i m k
list-generator q r i zero k = refl
list-generator q r i (suc m) k = ap₂ (λ a t. a ∷ t) (list-mark q r (eqb i k)) (list-generator q r (suc i) m k)

pub list-word : (q p n j : ℕ) (w : List ℕ) → p ≡ suc q → IsWord p n j w → (d m : ℕ) → d + m ≡ n
    → list-of q m (word q d m w) ≡ drop d w
list-word q p n j w e v d zero h = sym (drop_of_length-le w {i = d}
    (let l : length w ≡ n = v.len in omega (arith, l, h)))
list-word q p n j w e v d (suc m) h =
    let l : d < length w = (let k : length w ≡ n = v.len in omega (arith, k, h)) in
    let c : drop d w ≡ get_or w d 0 ∷ drop (suc d) w = drop-cons w d 0 l in
    ap (λ t. list-of q (suc m) (tuple-of q (suc m) t)) c
    ∙ ap₂ (λ a t. a ∷ t) (residue-small q (get_or w d 0)
    (let s : get_or w d 0 < p = v.small d 0 l in omega (arith, s, e)))
    (list-word q p n j w e v (suc d) m (omega (arith, h)))
    ∙ sym c

list-put : (q p m : ℕ) (mul : Tuple q m → Tuple q m → Tuple q m) (op : List ℕ → List ℕ → List ℕ) → p ≡ suc q
    → IsHom mul op (list-of q m)
    → (w : Tuple q m) (k : ℕ) (x : Tuple q m) → k < suc q + suc q
    → list-of q (suc m) (put q mul w k x) ≡ carry p op (list-of q m w) k (list-of q m x)
list-put q p m mul op e hom w k x h = go (less-or k (suc q))
  where
    go : (k < suc q) ⊎ (suc q ≤ k) → list-of q (suc m) (put q mul w k x) ≡ carry p op (list-of q m w) k
        (list-of q m x)
    go (inl l) =
        ap (list-of q (suc m)) (put-less q mul w k x l)
        ∙ ap (λ n. n ∷ list-of q m x) (residue-small q k l)
        ∙ ap (λ b. if b then (k ∷ list-of q m x) else ((k - p) ∷ op (list-of q m w) (list-of q m x)))
        (sym (lt-ltb k p (omega (arith, l, e))))
    go (inr l) =
        ap (list-of q (suc m)) (put-more q mul w k x l)
        ∙ ap₂ (λ n t. n ∷ t) (residue-small q (k - suc q) (omega (arith, h))
        ∙ ap (λ n. k - n) (sym e)) (hom w x)
        ∙ ap (λ b. if b then (k ∷ list-of q m x) else ((k - p) ∷ op (list-of q m w) (list-of q m x)))
        (sym (le-ltb k p (omega (arith, l, e))))

pub list-iterate : (q m : ℕ) (f : Tuple q m → Tuple q m) (h : List ℕ → List ℕ)
    → ((x : Tuple q m) → list-of q m (f x) ≡ h (list-of q m x))
    → (e : ℕ) (x : Tuple q m) → list-of q m (iterate f e x) ≡ iterate h e (list-of q m x)
list-iterate q m f h s zero x = refl
list-iterate q m f h s (suc e) x = s (iterate f e x) ∙ ap h (list-iterate q m f h s e x)

module _ (q : ℕ) (r : 1 < suc q) (P : Presentation) (p-is : P.prime ≡ suc q) (v : IsPresentation P) where
  pub list-power : (d m j : ℕ) → d + m ≡ P.gens → Among (suc d) m j
      → list-of q m (word q d m (power_word P j)) ≡ drop d (power_word P j)
  list-power d m j e a =
      list-word q P.prime P.gens j (power_word P j) p-is
      (v.power j (let b = a.0 in omega (arith, b)) (let b = a.1 in omega (arith, b, e))) d m e

  -- the twist of layer i, over any product of layer i + 1 that is one on lists
  pub list-twisted : (i m : ℕ) → i + m ≡ P.gens → 0 < i
      → (mul : Tuple q m → Tuple q m → Tuple q m) (op : List ℕ → List ℕ → List ℕ)
      → IsHom mul op (list-of q m) → (x : Tuple q m)
      → list-of q m (twisted q P i m mul x) ≡ alpha P op i m (list-of q m x)
  list-twisted i m e s mul op hom x =
      map-ascending (identity-tuple q m) mul (identity m) op (list-of q m) hom (list-identity q m)
      (image q P i m mul) (suc i) (list-of q m x)
      ∙ ascending-same q (identity m) op (λ j. list-of q m (image q P i m mul j))
      (λ j. op (generator (suc i) m j) (drop i (commutator_word P j i))) (suc i) m
      (λ j a. hom _ _ ∙ ap₂ op (list-generator q r (suc i) m j)
      (list-word q P.prime P.gens j (commutator_word P j i) p-is
      (v.commutator j i s a.0 (let b = a.1 in omega (arith, b, e))) i m e)) x

  pub list-times : (i m : ℕ) → i + m ≡ suc P.gens → 0 < i
      → IsHom (times q P i m) (product P i m) (list-of q m)
  list-times i zero e s = λ x y. refl
  list-times i (suc m) e s = λ x y.
      let n-is : i + m ≡ P.gens = omega (arith, e) in
      let hom : IsHom (times q P (suc i) m) (product P (suc i) m) (list-of q m) =
      list-times (suc i) m (omega (arith, e)) (omega arith) in
      list-put q P.prime m (times q P (suc i) m) (product P (suc i) m) p-is hom (word q i m (power_word P i))
      (x.0.0 + y.0.0) _
      (let a : x.0.0 < suc q = x.0.1 in let b : y.0.0 < suc q = y.0.1 in omega (arith, a, b))
      ∙ ap₂ (λ a t. carry P.prime (product P (suc i) m) a (x.0.0 + y.0.0) t)
      (list-word q P.prime P.gens i (power_word P i) p-is (v.power i s (omega (arith, n-is))) i m n-is)
      (hom _ _
      ∙ ap (λ t. product P (suc i) m t (list-of q m y.1))
      (list-iterate q m (twisted q P i m (times q P (suc i) m)) (alpha P (product P (suc i) m) i m)
      (list-twisted i m n-is s (times q P (suc i) m) (product P (suc i) m) hom) y.0.0 x.1))
