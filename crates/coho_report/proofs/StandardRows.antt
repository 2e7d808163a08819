-- The classes of rows over the standard monomials of a degree.
use Rattle.std.proofs.Common.{◌≡◌, ◌∙◌, ℕ, zero, suc, ◌<◌, ◌≤◌, List, [], ◌∷◌, length, sym, ap, subst}
use Rattle.std.proofs.Common.{arith}
use Rattle.std.specs.Prelude.{AllPairs, slice_index_or}
use Rattle.std.proofs.lemmas.List.Elements.{All-from_recursion}
use Rattle.std.proofs.lemmas.List.Kept.{AllPairs-cons}
use Rattle.linear_algebra.specs.Rows.{entry, IsRow, IsMatrix, combination, combination_row}
use Rattle.linear_algebra.specs.Modular.{IsCongruent}
use Rattle.linear_algebra.proofs.Congruences.{congruent_sym}
use Rattle.linear_algebra.proofs.CombinationRows.{combination_row-is_row, combination_row-each}
use Rattle.fp_rows.specs.Values.{MatrixValue}
use Rattle.p_groups.specs.PGroups.{PGroup, largest_residue, prime_of}
use Rattle.p_groups.proofs.Fields.{residues}
use Rattle.graded_polynomials.specs.Monomials.{IsMonomial, IsGreater}
use Rattle.graded_polynomials.specs.Polynomials.{Term}
use Rattle.graded_algebra.specs.Algebras.{Generator, degrees}
use Rattle.graded_algebra.specs.Presentations.{IsNormalForm, IsStandard}
use Rattle.graded_algebra.specs.Vectors.{Vector}
use Rattle.chain_lift.specs.Products.{multiply}
use Rattle.min_res.specs.Stages.{rank_of}
use Rattle.presentation_rows.specs.RowPolynomials.{polynomial_of}
use Rattle.presentation_rows.specs.Values.{vector, AreValues}
use Rattle.presentation_rows.proofs.RowTerms.{each-term}
use Rattle.presentation_rows.proofs.RowValues.{value-of-combination}
use Rattle.param_test.specs.Combinations.{AreCandidates, IsCombination}
use Rattle.ring_present.specs.Rings.{cohomology}
use Rattle.ring_present.specs.Standard.{AreStandard}
use Rattle.coho_report.specs.Restrictors.{IsClassOf}
use Rattle.coho_report.specs.declared.candidates.Candidate.{Candidate}

-- the terms descend as the monomials do
descending-terms : (ms : List (List ℕ)) (u : List ℕ)
    → ((i j : ℕ) → i < j → j < length ms → IsGreater (slice_index_or ms i []) (slice_index_or ms j []))
    → AllPairs (λ (s t : Term). IsGreater s.monomial t.monomial) (polynomial_of ms u)
descending-terms [] u h = λ i j d b l. absurd (omega (arith, l))
descending-terms (m ∷ ms) [] h = λ i j d b l. absurd (omega (arith, l))
descending-terms (m ∷ ms) (zero ∷ u) h =
    descending-terms ms u (λ i j b l. h (suc i) (suc j) (omega arith) (omega arith))
descending-terms (m ∷ ms) (suc c ∷ u) h =
    AllPairs-cons (λ (s t : Term). IsGreater s.monomial t.monomial) (record { scalar = suc c; monomial = m })
    (polynomial_of ms u)
    (All-from_recursion (λ (t : Term). IsGreater m t.monomial) (polynomial_of ms u)
    (each-term (λ t. IsGreater m t.monomial) ms u (λ k c l e. h 0 (suc k) (omega arith) (omega arith))))
    (descending-terms ms u (λ i j b l. h (suc i) (suc j) (omega arith) (omega arith)))

module _ (G : PGroup) (gs : List (Generator (Vector (largest_residue G)))) (d width : ℕ)
    (ms values : List (List ℕ)) (S : AreStandard (largest_residue G) (cohomology G) gs d ms)
    (V : AreValues (largest_residue G) (cohomology G) gs ms values)
    (M : IsMatrix (suc (largest_residue G)) width values) where
  abbrev q : ℕ
  q = largest_residue G

  combination-form : (u w : List ℕ) → IsRow (suc q) (length ms) u
      → w ≡ combination_row (suc q) width (entry u) values
      → IsNormalForm q (cohomology G) gs d (vector q w) (polynomial_of ms u)
  combination-form u w r e = record {
    polynomial = record {
      over = each-term (λ t. IsMonomial q (degrees gs) d t.monomial) ms u (λ k c l h. (S.each k l).0);
      coefficients = each-term (λ t. (0 < t.scalar) × (t.scalar ≤ q)) ms u
          (λ k c l h. (omega arith, let b = r.below k l in omega (arith, b, h)));
      descending = descending-terms ms u S.descending;
    };
    standard = each-term (λ t. IsStandard q (cohomology G) gs d t.monomial) ms u (λ k c l h. (S.each k l).1);
    value_is = value-of-combination q (multiply G) gs ms values V u w (record {
      each = λ j. congruent_sym (subst (λ w. IsCongruent (suc q) (entry w j) (combination (entry u) values j))
          (sym e) (combination_row-each (suc q) width (omega arith) (entry u) values M j));
    });
  }

-- a combination of standard monomials, and its class
pub class_of_row : (G : PGroup) (n p : ℕ) (gs : List (Generator (Vector (largest_residue G)))) (d width : ℕ)
    (ms values : List (List ℕ)) → AreStandard (largest_residue G) (cohomology G) gs d ms
    → AreValues (largest_residue G) (cohomology G) gs ms values → IsMatrix p width values → p ≡ prime_of G
    → width ≡ rank_of G d → 1 ≤ d → d ≤ n → (u : List ℕ) → IsCombination p (length ms) u
    → (x : Candidate) → x.degree ≡ d → x.class.p ≡ p
    → x.class.entries ≡ combination_row p width (entry u) values
    → IsClassOf G n gs (record { degree = d; terms = polynomial_of ms u }) x
class_of_row G n p gs d width ms values S V M prime rank from to u comb x degree modulus is =
    let q = largest_residue G in
    let same : p ≡ suc q = prime ∙ sym (residues G) in
    let matrix : IsMatrix (suc q) width values = subst (λ p. IsMatrix p width values) same M in
    let coefficients : IsRow (suc q) (length ms) u = record {
      length_is = comb.length_is;
      below = λ j l. subst (λ p. entry u j < p) same (All-from_recursion (λ x. x < p) u comb.below j 0
          (let z = comb.length_is in omega (arith, z, l)));
    } in
    let row : x.class.entries ≡ combination_row (suc q) width (entry u) values =
    is ∙ ap (λ p. combination_row p width (entry u) values) same in
    let made = combination_row-is_row (suc q) width (omega arith) (entry u) values matrix in
    record {
      class = record {
        from = omega (arith, from, degree);
        to = omega (arith, to, degree);
        prime = modulus ∙ prime;
        length_is = ap (λ (r : List ℕ). length r) row ∙ made.length_is ∙ rank ∙ ap (rank_of G) (sym degree);
      };
      degree_is = degree;
      form = subst (λ k. IsNormalForm q (cohomology G) gs k (vector q x.class.entries) (polynomial_of ms u))
          (sym degree)
          (combination-form G gs d width ms values S V matrix u x.class.entries coefficients row);
    }

-- the first combinations of the standard monomials, of which there are as many as classes
pub firsts_are : (ms : List (List ℕ)) (k count : ℕ) (m inside : MatrixValue) (p : ℕ) (values : List (List ℕ))
    → AreCandidates k count m.rows → m ≡ inside → k ≡ p → count ≡ length values → length values ≡ length ms
    → AreCandidates p (length ms) inside.rows
firsts_are ms k count m inside p values firsts same prime classes monomials =
    subst (λ (m : MatrixValue). AreCandidates p (length ms) m.rows) same
    (subst (λ n. AreCandidates p n m.rows) (classes ∙ monomials)
    (subst (λ p. AreCandidates p count m.rows) prime firsts))
