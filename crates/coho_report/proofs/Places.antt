-- The places that the search finds, and the polynomials at them.
use Rattle.std.proofs.Common.{◌≡◌, ℕ, zero, suc, ◌-◌, ◌<◌, ◌≤◌, List, [], ◌∷◌, ◌++◌, length, map}
use Rattle.std.proofs.Common.{sym, subst, arith, Some}
use Rattle.std.specs.Prelude.{All, Option, slice_index_or}
use Rattle.std.specs.List.{AllByRecursion as Each}
use Rattle.limits.specs.declared.TheConstants.{GREATEST_DEGREE}
use Rattle.p_groups.specs.PGroups.{PGroup, largest_residue, prime_of}
use Rattle.graded_polynomials.specs.Polynomials.{Polynomial, IsPolynomial}
use Rattle.gc_poly.specs.Polynomials.{IsOverGenerators}
use Rattle.param_test.specs.Bounds.{greatest}
use Rattle.param_test.specs.Parameters.{IsFoundIn}
use Rattle.param_test.specs.Tables.{TableValue, degrees_of}
use Rattle.param_test.specs.Tuples.{Ascends, IsTuple}
use Rattle.ring_present.specs.Values.{RingValue}
use Rattle.ring_present.proofs.RelationsOver.{degrees-are}
use Rattle.coho_report.specs.Choices.{IsFormAt}
use Rattle.coho_report.specs.Related.{AreRelated}
use Rattle.coho_report.specs.declared.candidates.Candidate.{Candidate}
use Rattle.coho_report.proofs.Related.{all-related, related-length, related-place}

each-last : {X : Type 0} (P : X → Type 0) (xs : List X) (y : X) → Each P (xs ++ y ∷ []) → P y
each-last P [] y h = h.0
each-last P (x ∷ xs) y h = each-last P xs y h.1

-- the places are a tuple
pub found_tuple : (t : TableValue) (r : ℕ) (found : Option (List ℕ)) (places : List ℕ) → IsFoundIn t r found
    → found ≡ Some places → IsTuple (length (degrees_of t.candidates)) r places
found_tuple t r found places h e =
    let some : IsFoundIn t r (Some places) = subst (IsFoundIn t r) e h in
    each-last (IsTuple (length (degrees_of t.candidates)) r) some.earlier places some.first.members

pub ascends_below : (low n : ℕ) (t : List ℕ) → Ascends low n t → All (λ k. k < n) t
ascends_below low n [] a i d l = absurd (omega (arith, l))
ascends_below low n (x ∷ t) a zero d l = a.1
ascends_below low n (x ∷ t) a (suc i) d l = ascends_below (suc x) n t a.2 i d (omega (arith, l))

pub greatest_at_most : {X : Type 0} (f : X → ℕ) (m : ℕ) (xs : List X) → All (λ x. f x ≤ m) xs
    → greatest (map f xs) ≤ m
greatest_at_most f m [] h = omega arith
greatest_at_most f m (x ∷ xs) h =
    let first = h 0 x (omega arith) in
    let rest = greatest_at_most f m xs (λ k d l. h (suc k) d (omega (arith, l))) in
    omega (arith, first, rest)

module _ (R : RingValue) (cs : List Candidate) (ks : List ℕ) (fs : List Polynomial)
    (related : AreRelated (IsFormAt R cs) ks fs) where
  pub forms_low : All (λ c. c.degree ≤ GREATEST_DEGREE) cs → All (λ k. k < length cs) ks
      → All (λ f. f.degree ≤ GREATEST_DEGREE) fs
  forms_low low below i d l =
      let count = related-length (IsFormAt R cs) ks fs related in
      let c : Candidate = record { degree = 0; class = record { p = 0; entries = [] } } in
      let within = below i 0 (omega (arith, count, l)) in
      let same = (related-place (IsFormAt R cs) ks fs related i 0 d l).degree_is c in
      let small = low (slice_index_or ks i 0) c within in
      omega (arith, same, small)

  pub forms_over : (G : PGroup) → R.group ≡ Some G → R.prime ≡ prime_of G
      → All (IsOverGenerators (record { prime = R.prime; degrees = map (λ g. g.degree) R.generators })) fs
  forms_over G group prime =
      let q = largest_residue G in
      let c : Candidate = record { degree = 0; class = record { p = 0; entries = [] } } in
      all-related (IsFormAt R cs)
      (IsOverGenerators (record { prime = R.prime; degrees = map (λ g. g.degree) R.generators }))
      (λ k f at. subst (λ p. IsPolynomial (p - 1) (map (λ g. g.degree) R.generators) f.degree f.terms)
      (sym prime)
      (subst (λ ds. IsPolynomial q ds f.degree f.terms) (degrees-are q R.generators)
      (at.form G group c).polynomial)) ks fs related
