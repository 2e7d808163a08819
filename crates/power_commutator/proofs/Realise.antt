-- A presentation without a fault has a realisation: its group.
use Rattle.std.proofs.Common.{◌≡◌, ℕ, zero, suc, pred, sym, ◌∙◌, ap, ap₂, subst, ◌+◌, ◌-◌, ◌^◌, ◌<◌, ◌≤◌}
use Rattle.std.proofs.Common.{arith, List, None}
use Rattle.power_commutator.specs.Presentations.{Presentation, IsWord, IsPresentation, pow, ascending}
use Rattle.power_commutator.specs.Presentations.{generator, multiply, number, word_of, tests, first_fault}
use Rattle.power_commutator.specs.Presentations.{power_word, commutator_word}
use Rattle.power_commutator.specs.Claims.{table, GroupClaims, Generated, has_one, has_generator, has_product}
use Rattle.power_commutator.specs.Claims.{Realisation}
use Rattle.power_commutator.proofs.Group.{IsHom, map-pow}
use Rattle.power_commutator.proofs.Tuples.{Tuple, list-of, tuple-of, identity-tuple, generator-tuple}
use Rattle.power_commutator.proofs.Tuples.{ascending-same, map-ascending}
use Rattle.power_commutator.proofs.Dyck.{word, times}
use Rattle.power_commutator.proofs.Layers.{Layer, layers}
use Rattle.power_commutator.proofs.Lists.{list-identity, list-generator, list-word, list-times}
use Rattle.power_commutator.proofs.Tests.{none-each, all-hold}
use Rattle.power_commutator.proofs.Numbers.{list-tuple, list-below, word-number-list}
use Rattle.power_commutator.proofs.Result.{claims}

-- powers and ascending products of members are members
generated-pow : (mul : ℕ → ℕ → ℕ) (h : ℕ → ℕ) (n m x : ℕ) → Generated mul h n m x → (e : ℕ)
    → Generated mul h n m (pow mul 0 x e)
generated-pow mul h n m x g zero = has_one
generated-pow mul h n m x g (suc e) = has_product x (pow mul 0 x e) g (generated-pow mul h n m x g e)

generated-ascending : (mul : ℕ → ℕ → ℕ) (h : ℕ → ℕ) (n m q : ℕ) (i k : ℕ) → 0 < i → i + k ≡ suc n
    → (x : Tuple q k)
    → Generated mul h n m (ascending mul 0 h i (list-of q k x))
generated-ascending mul h n m q i zero s e x = has_one
generated-ascending mul h n m q i (suc k) s e x =
    has_product (pow mul 0 (h i) x.0.0) (ascending mul 0 h (suc i) (list-of q k x.1))
    (generated-pow mul h n m (h i) (has_generator i s (omega (arith, e))) x.0.0)
    (generated-ascending mul h n m q (suc i) k (omega arith) (omega (arith, e)) x.1)

module _ (q : ℕ) (r : 1 < suc q) (P : Presentation) (p-is : P.prime ≡ suc q) (v : IsPresentation P)
    (L : Layer q P 0 P.gens) (C : GroupClaims P) where
  abbrev n : ℕ
  n = P.gens

  num : Tuple q P.gens → ℕ
  num x = number P.prime (list-of q P.gens x)

  h : ℕ → ℕ
  h i = P.prime ^ (i - 1)

  word-is : (x : Tuple q P.gens) → word_of P.prime P.gens
      (number P.prime (list-of q P.gens x)) ≡ list-of q P.gens x
  word-is x = ap (λ p. word_of p n (number p (list-of q n x))) p-is ∙ word-number-list q n x

  num-hom : IsHom (times q P 1 P.gens) (table P) num
  unfolding num
  num-hom x y =
      ap (number P.prime) (list-times q r P p-is v 1 n (omega arith) (omega arith) x y
      ∙ ap₂ (multiply P) (sym (word-is x)) (sym (word-is y)))

  num-one : num (identity-tuple q P.gens) ≡ 0
  unfolding num
  num-one = ap (number P.prime) (list-identity q n) ∙ C.numbering.one

  num-generator : (i : ℕ) → 0 < i → i ≤ P.gens → num (generator-tuple q 1 P.gens i) ≡ h i
  unfolding num h
  num-generator i a b = ap (number P.prime) (list-generator q r 1 n i) ∙ C.numbering.generators i a b

  -- the number of an element is the product of the powers of the numbers of the generators
  num-ascending : (x : Tuple q P.gens) → num x ≡ ascending (table P) 0 h 1 (list-of q P.gens x)
  num-ascending x =
      ap num (sym (L.spans x))
      ∙ map-ascending (identity-tuple q n) (times q P 1 n) 0 (table P) num num-hom num-one
      (generator-tuple q 1 n) 1 (list-of q n x)
      ∙ ascending-same q 0 (table P) (λ j. num (generator-tuple q 1 n j)) h 1 n
      (λ j a. num-generator j a.0 (let b = a.1 in omega (arith, b))) x

  num-word : (j : ℕ) (w : List ℕ) → IsWord P.prime P.gens j w
      → num (word q 0 P.gens w) ≡ ascending (table P) 0 h 1 w
  num-word j w x = num-ascending (word q 0 n w)
      ∙ ap (ascending (table P) 0 h 1) (list-word q P.prime n j w p-is x 0 n (omega arith))

  tuple-at : (a : ℕ) → a < P.prime ^ P.gens → num (tuple-of q P.gens (word_of P.prime P.gens a)) ≡ a
  unfolding num
  tuple-at a l =
      ap (number P.prime) (list-tuple q n (word_of P.prime n a)
      (subst (λ p. IsWord p n 0 (word_of P.prime n a)) p-is (C.numbering.word-is a)))
      ∙ C.numbering.number-word a l

  pub realise : Realisation P
  unfolding num h
  realise = record {
    mul = table P;
    group = C.table-group;
    h = h;
    h-below = λ i a b.
        let e : number P.prime (generator 1 n i) ≡ P.prime ^ (i - 1) = C.numbering.generators i a b in
        let w : number P.prime (generator 1 n i) < P.prime ^ n =
        subst (λ x. number P.prime x < P.prime ^ n) (list-generator q r 1 n i)
        (subst (λ p. number p (list-of q n (generator-tuple q 1 n i)) < p ^ n) (sym p-is)
        (list-below q n (generator-tuple q 1 n i))) in
        omega (arith, e, w);
    generated = λ a l.
        let x = tuple-of q n (word_of P.prime n a) in
        subst (Generated (table P) h n (P.prime ^ n)) (sym (num-ascending x) ∙ tuple-at a l)
        (generated-ascending (table P) h n (P.prime ^ n) q 1 n (omega arith) (omega arith) x);
    power = λ i a b.
        sym
        (map-pow (identity-tuple q n) (times q P 1 n) 0 (table P) num num-hom num-one
        (generator-tuple q 1 n i) (suc q)
        ∙ ap₂ (pow (table P) 0) (num-generator i a b) (sym p-is))
        ∙ ap num (L.power i (a, omega (arith, b))) ∙ num-word i (power_word P i) (v.power i a b);
    commutator = λ j i a l b.
        let i-in : i ≤ n = let l' : i < j = l in omega (arith, l', b) in
        let j-in : 0 < j = let l' : i < j = l in omega (arith, l') in
        ap₂ (table P) (sym (num-generator j j-in b)) (sym (num-generator i a i-in)) ∙ sym (num-hom _ _)
        ∙ ap num (L.swap i j (a, omega (arith, i-in)) (j-in, omega (arith, b)) l)
        ∙ num-hom _ _
        ∙ ap₂ (table P) (num-generator i a i-in) (num-hom _ _
        ∙ ap₂ (table P) (num-generator j j-in b)
        (num-word j (commutator_word P j i) (v.commutator j i a l b)));
  }

pub realisation : (P : Presentation) → 1 < P.prime → IsPresentation P → first_fault P ≡ None → Realisation P
realisation P s v e =
    realise (pred P.prime) (omega (arith, s)) P (omega (arith, s)) v
    (layers (pred P.prime) (omega (arith, s)) P v 0 P.gens (omega arith)
    (all-hold (pred P.prime) (omega (arith, s)) P (omega (arith, s)) v 1 P.gens (omega arith) (omega arith)
    (none-each (tests P 1 P.gens) e)))
    (claims P s v e)
