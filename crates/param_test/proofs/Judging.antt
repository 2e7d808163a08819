-- From the answer of the test to whether a subgroup is passed.
use Rattle.std.proofs.Common.{◌≡◌, ℕ, zero, suc, ◌+◌, ◌<◌, List, [], ◌∷◌, ◌++◌, length, map, take, get_or}
use Rattle.std.proofs.Common.{Option, Some, slice_get, arith, ap, sym, subst, refl, ◌∙◌}
use Rattle.std.proofs.lemmas.List.{take_more, map-append}
use Rattle.graded_polynomials.specs.Polynomials.{Polynomial}
use Rattle.gc_poly.specs.Generators.{Generators}
use Rattle.gc_poly.specs.Polynomials.{IsOverGenerators}
use Rattle.param_test.specs.declared.answer.Finite.{Finite}
use Rattle.param_test.specs.declared.answer.Finite.TheVariants.{Yes, No, TooMany}
use Rattle.param_test.specs.Variables.{variables, kept, all_kept}
use Rattle.param_test.specs.Finiteness.{last_degree, IsAnswerThrough, IsAnswer, IsFinite}
use Rattle.param_test.proofs.OneAnswer.{one-answer-through}
use Rattle.param_test.proofs.Answering.{many-variables}
use Rattle.param_test.proofs.Restricting.{variables-are}
use Rattle.param_test.proofs.Keeping.{polynomial-kept}

pub answer-from : (g ring : Generators) (fs ks : List Polynomial) (a : Finite) → ring ≡ variables g
    → ks ≡ all_kept g fs
    → IsAnswerThrough ring ks (last_degree ring ks) a → IsAnswer g fs a
answer-from g ring fs ks a e k h =
    subst (λ r. IsAnswerThrough r (all_kept g fs) (last_degree r (all_kept g fs)) a) e
    (subst (λ ks. IsAnswerThrough ring ks (last_degree ring ks) a) k h)

some-same : {X : Type 0} (o : Option X) (x y : X) → o ≡ Some x → o ≡ Some y → x ≡ y
some-same o x y e f = cc

-- the answer for the generators of the subgroup is that for any generators that stand there
pub finite-at : (o : Option Generators) (g h : Generators) (fs : List Polynomial) (n : ℕ) → o ≡ Some g
    → o ≡ Some h → IsAnswer g fs (Yes n) → IsFinite h fs
finite-at o g h fs n e f a = subst (λ g. IsFinite g fs) (some-same o g h e f) (n, a)

other-answer : (g : Generators) (fs : List Polynomial) (a : Finite) → ((e : ℕ) → a ≡ Yes e → ⊥)
    → IsAnswer g fs a → IsFinite g fs → ⊥
other-answer g fs a n h f =
    n f.0
    (one-answer-through (variables g) (all_kept g fs) (last_degree (variables g) (all_kept g fs)) a (Yes f.0)
    h f.1)

pub no-at : (o : Option Generators) (g h : Generators) (fs : List Polynomial) (n : ℕ) → o ≡ Some g
    → o ≡ Some h → IsAnswer g fs (No n) → IsFinite h fs → ⊥
no-at o g h fs n e f a i =
    other-answer g fs (No n) (λ e z. absurd cc) a (subst (λ g. IsFinite g fs) (some-same o h g f e) i)

pub many-at : (o : Option Generators) (g h : Generators) (fs : List Polynomial) (n : ℕ) → o ≡ Some g
    → o ≡ Some h → IsAnswer g fs (TooMany n) → IsFinite h fs → ⊥
many-at o g h fs n e f a i =
    other-answer g fs (TooMany n) (λ e z. absurd cc) a (subst (λ g. IsFinite g fs) (some-same o h g f e) i)

pub variables-at : (o : Option Generators) (g h : Generators) (fs : List Polynomial) (n : ℕ) → o ≡ Some g
    → o ≡ Some h
    → n ≡ length (variables g).degrees → 1500 < n → IsFinite h fs → ⊥
variables-at o g h fs n e f k m = many-at o g h fs n e f
    (many-variables (variables g) (all_kept g fs) (last_degree (variables g) (all_kept g fs)) n
    (variables-are g) (omega arith) k m)

-- one more restriction
pub restricted-more : (g : Generators) (r : ℕ → Polynomial) (ks : List ℕ) (i : ℕ) (f k : Polynomial)
    (old new : List Polynomial) → i < length ks
    → f ≡ r (get_or ks i 0) → k ≡ kept g f → old ≡ all_kept g (map r (take i ks)) → new ≡ old ++ k ∷ []
    → new ≡ all_kept g (map r (take (i + 1) ks))
restricted-more g r ks i f k old new l e h o n =
    n ∙ ap (λ (old : List Polynomial). old ++ k ∷ []) o
    ∙ ap (λ (k : Polynomial). all_kept g (map r (take i ks)) ++ k ∷ []) (h ∙ ap (kept g) e)
    ∙ sym (ap (λ (ks : List ℕ). map (kept g) (map r ks)) (take_more ks i 0 l)
    ∙ ap (map (kept g)) (map-append r (take i ks) (get_or ks i 0 ∷ []))
    ∙ map-append (kept g) (map r (take i ks)) (r (get_or ks i 0) ∷ []))

pub over-kept : (g ring : Generators) (f k : Polynomial) → ring ≡ variables g → IsOverGenerators g f
    → k ≡ kept g f → IsOverGenerators ring k
over-kept g ring f k e h z =
    subst (λ r. IsOverGenerators r k) (sym e)
    (subst (IsOverGenerators (variables g)) (sym z) (polynomial-kept g f.degree f.terms h))

-- elements by their places
pub element : {X : Type 0} (xs : List X) (i : ℕ) → i < length xs → (x : X) × (slice_get xs i ≡ Some x)
element [] i l = absurd (omega (arith, l))
element (x ∷ xs) zero l = (x, refl)
element (x ∷ xs) (suc i) l = element xs i (omega (arith, l))

pub element-within : {X : Type 0} (xs : List X) (i : ℕ) (x : X) → slice_get xs i ≡ Some x → i < length xs
element-within [] i x e = absurd cc
element-within (y ∷ xs) zero x e = omega arith
element-within (y ∷ xs) (suc i) x e = let l = element-within xs i x e in omega (arith, l)

element-is : {X : Type 0} (xs : List X) (i : ℕ) (x : X) → i < length xs → x ≡ get_or xs i x
    → slice_get xs i ≡ Some x
element-is [] i x l e = absurd (omega (arith, l))
element-is (y ∷ xs) zero x l e = ap Some (sym e)
element-is (y ∷ xs) (suc i) x l e = element-is xs i x (omega (arith, l)) e

pub stands-at : {X : Type 0} (xs ys : List X) (i : ℕ) (x : X) → ys ≡ xs → i < length xs → x ≡ get_or ys i x
    → slice_get xs i ≡ Some x
stands-at xs ys i x e l h = element-is xs i x l (h ∙ ap (λ ys. get_or ys i x) e)
