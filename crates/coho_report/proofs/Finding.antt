-- What the search for parameters asks of the candidates.
use Rattle.std.proofs.Common.{◌≡◌, ℕ, zero, suc, ◌*◌, ◌<◌, ◌≤◌, Bool, true, false, cond, List, []}
use Rattle.std.proofs.Common.{◌∷◌, ◌++◌, length, sym, subst, arith}
use Rattle.std.specs.Prelude.{All, AllPairs, slice_index_or}
use Rattle.std.proofs.lemmas.List.{length-map, length-append}
use Rattle.limits.specs.declared.TheConstants.{GREATEST_DEGREE}
use Rattle.p_groups.specs.PGroups.{PGroup, largest_residue}
use Rattle.graded_polynomials.specs.Monomials.{is_exterior}
use Rattle.graded_polynomials.specs.Polynomials.{Polynomial}
use Rattle.graded_algebra.specs.Algebras.{Generator}
use Rattle.graded_algebra.specs.Vectors.{Vector}
use Rattle.ring_present.specs.Values.{RingValue}
use Rattle.coho_report.specs.Candidates.{polynomials_of, AreCombinations, AreCandidatesIn, AreCandidates}
use Rattle.coho_report.specs.Choices.{IsClassIn}
use Rattle.coho_report.specs.OwnRings.{IsRingThrough}
use Rattle.coho_report.specs.Related.{AreRelated}
use Rattle.coho_report.specs.Restrictors.{IsClass, IsClassOf, IsRestrictor, Restricts}
use Rattle.coho_report.specs.declared.candidates.Candidate.{Candidate}
use Rattle.coho_report.specs.declared.restrictors.Restrictor.{Restrictor}
use Rattle.presentation_rows.specs.RowPolynomials.{polynomial_of}
use Rattle.coho_report.proofs.Related.{all-related, related-length, related-place}

-- degrees from low on that do not descend, and are at most high
abbrev Ascend : ℕ → ℕ → List Polynomial → Type 0
Ascend low high [] = low ≤ high
Ascend low high (f ∷ fs) = (low ≤ f.degree) × Ascend f.degree high fs

ascend-append : (low middle high : ℕ) (fs gs : List Polynomial) → Ascend low middle fs → Ascend middle high gs
    → Ascend low high (fs ++ gs)
ascend-append low middle high [] [] a b = omega (arith, a, b)
ascend-append low middle high [] (g ∷ gs) a b = ((let l = b.0 in omega (arith, a, l)), b.1)
ascend-append low middle high (f ∷ fs) gs a b = (a.0, ascend-append f.degree middle high fs gs a.1 b)

ascend-at : (low high : ℕ) (fs : List Polynomial) → Ascend low high fs → (j : ℕ) (d : Polynomial)
    → j < length fs → low ≤ (slice_index_or fs j d).degree
ascend-at low high [] a j d l = absurd (omega (arith, l))
ascend-at low high (f ∷ fs) a zero d l = a.0
ascend-at low high (f ∷ fs) a (suc j) d l =
    let rest = ascend-at f.degree high fs a.1 j d (omega (arith, l)) in
    let first = a.0 in
    omega (arith, rest, first)

ascend-pairs : (low high : ℕ) (fs : List Polynomial) → Ascend low high fs → (i j : ℕ) (d : Polynomial) → i < j
    → j < length fs → (slice_index_or fs i d).degree ≤ (slice_index_or fs j d).degree
ascend-pairs low high [] a i j d b l = absurd (omega (arith, l))
ascend-pairs low high (f ∷ fs) a zero zero d b l = absurd (omega (arith, b))
ascend-pairs low high (f ∷ fs) a zero (suc j) d b l = ascend-at f.degree high fs a.1 j d (omega (arith, l))
ascend-pairs low high (f ∷ fs) a (suc i) zero d b l = absurd (omega (arith, b))
ascend-pairs low high (f ∷ fs) a (suc i) (suc j) d b l =
    ascend-pairs f.degree high fs a.1 i j d (omega (arith, b)) (omega (arith, l))

ascend-rows : (low d : ℕ) (ms rows : List (List ℕ)) → low ≤ d → Ascend low d (polynomials_of d ms rows)
ascend-rows low d ms [] l = l
ascend-rows low d ms (row ∷ rows) l = (l, ascend-rows d d ms rows (omega arith))

module _ (G : PGroup) (gs : List (Generator (Vector (largest_residue G)))) where
  of-degree : (d : ℕ) (fs : List Polynomial) → AreCandidatesIn G gs (suc d) fs
      → (length fs ≤ 63) × Ascend d (suc d) fs
  of-degree d fs a = go (is_exterior (largest_residue G) (suc d)) a
    where
      go : (t : Bool) → cond t (fs ≡ []) (AreCombinations G gs (suc d) fs)
          → (length fs ≤ 63) × Ascend d (suc d) fs
      go true e = subst (λ fs. (length fs ≤ 63) × Ascend d (suc d) fs) (sym e) (omega arith, omega arith)
      go false c = subst (λ fs. (length fs ≤ 63) × Ascend d (suc d) fs) (sym c.polynomials_are) (
        (let most = c.rows_are.at_most in
            let f : List ℕ → Polynomial =
            λ row. record { degree = suc d; terms = polynomial_of c.monomials row } in
            let count = length-map c.rows f in
            omega (arith, most, count)),
        ascend-rows d (suc d) c.monomials c.rows (omega arith),
      )

  -- at most 63 in each degree, by degree
  pub candidates_ascend : (n : ℕ) (fs : List Polynomial) → AreCandidates G gs n fs
      → (length fs ≤ 63 * n) × Ascend 0 n fs
  candidates_ascend zero fs e = subst (λ fs. (length fs ≤ 63 * 0) × Ascend 0 0 fs) (sym e)
      (omega arith, omega arith)
  candidates_ascend (suc n) fs (before, new, early, here, is) =
      let a = candidates_ascend n before early in
      let b = of-degree n new here in
      subst (λ fs. (length fs ≤ 63 * suc n) × Ascend 0 (suc n) fs) (sym is) (
        (let x = a.0 in let y = b.0 in let z = length-append before new in omega (arith, x, y, z)),
        ascend-append 0 n (suc n) before new a.1 b.1,
      )

  module _ (n : ℕ) (fs : List Polynomial) (cs : List Candidate) (A : AreCandidates G gs n fs)
      (R : AreRelated (IsClassOf G n gs) fs cs) where
    pub few_classes : n ≤ GREATEST_DEGREE → length cs ≤ 4294967295
    few_classes h =
        let most = (candidates_ascend n fs A).0 in
        let count = related-length (IsClassOf G n gs) fs cs R in
        omega (arith, most, count, h)

    pub classes_are : All (IsClass G n) cs
    classes_are = all-related (IsClassOf G n gs) (IsClass G n) (λ f c r. r.class) fs cs R

    pub low_classes : n ≤ GREATEST_DEGREE → All (λ c. c.degree ≤ GREATEST_DEGREE) cs
    low_classes h k d l =
        let to = (classes_are k d l).to in
        omega (arith, to, h)

    pub classes_ascend : AllPairs (λ c d. c.degree ≤ d.degree) cs
    classes_ascend i j d b l =
        let z : Polynomial = record { degree = 0; terms = [] } in
        let count = related-length (IsClassOf G n gs) fs cs R in
        let at = related-place (IsClassOf G n gs) fs cs R in
        let first = (at i z d (omega (arith, b, l))).degree_is in
        let second = (at j z d l).degree_is in
        let less = ascend-pairs 0 n fs (candidates_ascend n fs A).1 i j z b (omega (arith, count, l)) in
        omega (arith, first, second, less)

  restricts_one : (n : ℕ) (x : Restrictor) (c : Candidate) → IsRestrictor G n x → IsClass G n c
      → Restricts x c
  restricts_one n x c r k =
      let degree : n ≡ x.own.value.ring.degree = sym r.own.ring_is.degree_is in
      let group : G ≡ x.map.group = sym r.group_is in
      record {
        restrictor = subst (λ m. IsRestrictor x.map.group m x) degree
            (subst (λ G. IsRestrictor G n x) group r);
        class = subst (λ m. IsClass x.map.group m c) degree (subst (λ G. IsClass G n c) group k);
      }

  pub all_restrict : (n : ℕ) (xs : List Restrictor) (cs : List Candidate) → All (IsRestrictor G n) xs
      → All (IsClass G n) cs → All (λ c. All (λ x. Restricts x c) xs) cs
  all_restrict n xs cs rs ks i c l j x m =
      restricts_one n (slice_index_or xs j x) (slice_index_or cs i c) (rs j x m) (ks i c l)

  pub classes_in : (R : RingValue) (cs : List Candidate) → IsRingThrough G R.degree R
      → All (IsClass G R.degree) cs → All (IsClassIn R) cs
  classes_in R cs ring ks i c l = record {
    group = G;
    group_is = ring.group_is;
    prime_is = ring.prime_is;
    class = ks i c l;
  }
