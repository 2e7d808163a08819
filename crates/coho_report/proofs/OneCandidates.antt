-- The candidates for parameters are one list.
use Rattle.std.proofs.Common.{◌≡◌, ◌∙◌, inl, inr, Bool, true, false, cond, ℕ, zero, suc, ◌+◌, ◌<◌, ◌≤◌}
use Rattle.std.proofs.Common.{List, [], ◌∷◌, ◌++◌, length, sym, ap₂, subst, arith}
use Rattle.std.specs.Prelude.{slice_index_or}
use Rattle.std.specs.List.{AllByRecursion as Each}
use Rattle.p_groups.specs.PGroups.{PGroup, largest_residue, prime_of}
use Rattle.graded_polynomials.specs.Monomials.{IsGreater, IsMonomial, is_exterior}
use Rattle.graded_polynomials.specs.Polynomials.{Polynomial}
use Rattle.graded_polynomials.proofs.Exponents.{greater-trans}
use Rattle.graded_polynomials.proofs.Order.{greater-self}
use Rattle.graded_algebra.specs.Algebras.{Generator, degrees}
use Rattle.graded_algebra.specs.Presentations.{IsStandard}
use Rattle.graded_algebra.specs.Vectors.{Vector}
use Rattle.param_test.specs.Combinations as combinations
use Rattle.param_test.specs.Combinations.{IsCombination, places, coefficients}
use Rattle.param_test.specs.Firsts.{IsOneOf, IsAscending, AreFirst}
use Rattle.param_test.proofs.Odometer.{precedes-trans}
use Rattle.param_test.proofs.Places.{less-self}
use Rattle.ring_present.specs.Rings.{cohomology}
use Rattle.ring_present.specs.Standard.{AreStandard}
use Rattle.coho_report.specs.Candidates.{polynomials_of, AreCombinations, AreCandidatesIn, AreCandidates}
use Rattle.coho_report.proofs.FirstLists.{first_are_one}

-- lists by their places
each-by-place : {X : Type 0} (P : X → Type 0) (none : X) (xs : List X)
    → ((i : ℕ) → i < length xs → P (slice_index_or xs i none)) → Each P xs
each-by-place P none [] h = tt
each-by-place P none (x ∷ xs) h =
    (h 0 (omega arith), each-by-place P none xs (λ i l. h (suc i) (omega (arith, l))))

ascending-by-place : {X : Type 0} (B : X → X → Type 0) (none : X) (xs : List X)
    → ((i j : ℕ) → i < j → j < length xs → B (slice_index_or xs i none) (slice_index_or xs j none))
    → IsAscending B xs
ascending-by-place B none [] h = tt
ascending-by-place B none (x ∷ xs) h = (
  each-by-place (λ y. B x y) none xs (λ i l. h 0 (suc i) (omega arith) (omega (arith, l))),
  ascending-by-place B none xs (λ i j u l. h (suc i) (suc j) (omega (arith, u)) (omega (arith, l))),
)

one-of-by-place : {X : Type 0} (none : X) (xs : List X) (i : ℕ) (y : X) → i < length xs
    → slice_index_or xs i none ≡ y → IsOneOf y xs
one-of-by-place none [] i y l e = absurd (omega (arith, l))
one-of-by-place none (x ∷ xs) zero y l e = inl (sym e)
one-of-by-place none (x ∷ xs) (suc i) y l e = inr (one-of-by-place none xs i y (omega (arith, l)) e)

-- the order of combinations is strict
pub before-self : (a : List ℕ) → combinations.IsBefore a a → ⊥
before-self a (inl l) = omega (arith, l)
before-self a (inr (e, inl l)) = less-self (places a) l
before-self a (inr (e, inr h)) = less-self (coefficients a) h.1

pub before-trans : (a b c : List ℕ) → combinations.IsBefore a b → combinations.IsBefore b c
    → combinations.IsBefore a c
before-trans a b c h k =
    precedes-trans (places a) (coefficients a) (places b) (coefficients b) (places c) (coefficients c) h k

module _ (G : PGroup) (gs : List (Generator (Vector (largest_residue G)))) where
  abbrev IsMember : ℕ → List ℕ → Type 0
  IsMember d m = IsMonomial (largest_residue G) (degrees gs) d m
      × IsStandard (largest_residue G) (cohomology G) gs d m

  standard_first : (d n : ℕ) (ms : List (List ℕ)) → AreStandard (largest_residue G) (cohomology G) gs d ms
      → length ms ≤ n → AreFirst (IsMember d) IsGreater n ms
  standard_first d n ms S le = record {
    members = each-by-place (IsMember d) [] ms S.each;
    ascending = ascending-by-place IsGreater [] ms S.descending;
    at_most = le;
    others = λ m h. inl (let at = S.all m h.0 h.1 in one-of-by-place [] ms at.0 m at.1 at.2);
  }

  pub one_standard : (d : ℕ) (ms ns : List (List ℕ))
      → AreStandard (largest_residue G) (cohomology G) gs d ms
      → AreStandard (largest_residue G) (cohomology G) gs d ns → ms ≡ ns
  one_standard d ms ns S T = first_are_one IsGreater greater-self greater-trans (IsMember d)
      (length ms + length ns) ms ns (standard_first d (length ms + length ns) ms S (omega arith))
      (standard_first d (length ms + length ns) ns T (omega arith))

  one_combinations : (d : ℕ) (fs hs : List Polynomial) → AreCombinations G gs d fs → AreCombinations G gs d hs
      → fs ≡ hs
  one_combinations d fs hs a b =
      let p = prime_of G in
      let monomials = one_standard d a.monomials b.monomials a.monomials_are b.monomials_are in
      let rows = first_are_one combinations.IsBefore before-self before-trans
      (IsCombination p (length b.monomials)) 63 a.rows b.rows
      (subst (λ ms. combinations.AreCandidates p (length ms) a.rows) monomials a.rows_are) b.rows_are in
      a.polynomials_are ∙ ap₂ (λ ms rows. polynomials_of d ms rows) monomials rows ∙ sym b.polynomials_are

  one_degree : (d : ℕ) (fs hs : List Polynomial) → AreCandidatesIn G gs d fs → AreCandidatesIn G gs d hs
      → fs ≡ hs
  one_degree d fs hs a b = go (is_exterior (largest_residue G) d) a b
    where
      go : (t : Bool) → cond t (fs ≡ []) (AreCombinations G gs d fs)
          → cond t (hs ≡ []) (AreCombinations G gs d hs) → fs ≡ hs
      go true h k = h ∙ sym k
      go false h k = one_combinations d fs hs h k

  pub one_candidates : (n : ℕ) (fs hs : List Polynomial) → AreCandidates G gs n fs → AreCandidates G gs n hs
      → fs ≡ hs
  one_candidates zero fs hs a b = a ∙ sym b
  one_candidates (suc n) fs hs (before, new, early, here, is) (before2, new2, early2, here2, is2) =
      is ∙ ap₂ (λ xs ys. xs ++ ys) (one_candidates n before before2 early early2)
      (one_degree (suc n) new new2 here here2) ∙ sym is2
