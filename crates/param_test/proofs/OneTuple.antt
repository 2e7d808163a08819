-- Candidates and parameters are one.
use Rattle.std.proofs.Common.{◌≡◌, ℕ, ◌⊎◌, inl, inr, List, length, Option, None, Some, arith, ap, refl}
use Rattle.param_test.specs.Firsts.{IsLess}
use Rattle.param_test.specs.Combinations.{IsCombination, places, coefficients, AreCandidates}
use Rattle.param_test.specs.Combinations.{IsBefore as IsEarlier}
use Rattle.param_test.specs.Odometers.{Precedes}
use Rattle.param_test.specs.Tables.{TableValue, degrees_of}
use Rattle.param_test.specs.Tuples.{IsTuple, IsBefore}
use Rattle.param_test.specs.Parameters.{Passes, IsFoundIn}
use Rattle.param_test.proofs.Places.{less-self}
use Rattle.param_test.proofs.Odometer.{precedes-trans}
use Rattle.param_test.proofs.Positions.{before-trans}
use Rattle.param_test.proofs.Firsts.{first-unique, none-passes, passing-unique}

precedes-self : (a c : List ℕ) → Precedes a c a c → ⊥
precedes-self a c (inl h) = omega (arith, h)
precedes-self a c (inr h) = go h.1
  where
    go : IsLess a a ⊎ ((a ≡ a) × IsLess c c) → ⊥
    go (inl k) = less-self a k
    go (inr k) = less-self c k.1

pub one-list : (p count : ℕ) (cs ds : List (List ℕ)) → AreCandidates p count cs → AreCandidates p count ds
    → cs ≡ ds
one-list p count cs ds h k =
    first-unique IsEarlier
    (λ a b c e f. precedes-trans (places a) (coefficients a) (places b) (coefficients b) (places c)
    (coefficients c) e f)
    (λ a e. precedes-self (places a) (coefficients a) e) (IsCombination p count) 63 cs ds h k

before-self : (degrees a : List ℕ) → IsBefore degrees a a → ⊥
before-self degrees a (inl h) = omega (arith, h)
before-self degrees a (inr h) = less-self a h.1

pub one-tuple : (t : TableValue) (r : ℕ) (a b : Option (List ℕ)) → IsFoundIn t r a → IsFoundIn t r b → a ≡ b
one-tuple t r None None h k = refl
one-tuple t r None (Some v) h k =
    absurd
    (none-passes (IsBefore (degrees_of t.candidates)) (before-trans (degrees_of t.candidates))
    (before-self (degrees_of t.candidates))
    (IsTuple (length (degrees_of t.candidates)) r) 5000 (Passes t) v h k)
one-tuple t r (Some u) None h k =
    absurd
    (none-passes (IsBefore (degrees_of t.candidates)) (before-trans (degrees_of t.candidates))
    (before-self (degrees_of t.candidates))
    (IsTuple (length (degrees_of t.candidates)) r) 5000 (Passes t) u k h)
one-tuple t r (Some u) (Some v) h k =
    ap Some
    (passing-unique (IsBefore (degrees_of t.candidates)) (before-trans (degrees_of t.candidates))
    (before-self (degrees_of t.candidates))
    (IsTuple (length (degrees_of t.candidates)) r) 5000 (Passes t) u v h k)
