-- What is the value of a polynomial has a normal form.
use Rattle.std.proofs.Common.{◌≡◌, ◌∙◌, ℕ, suc, ◌<◌, ◌≤◌, ◌⊎◌, inl, inr, List, [], length, map, arith, ap}
use Rattle.std.proofs.Common.{sym}
use Rattle.std.proofs.lemmas.Bool.{cases_lt}
use Rattle.std.proofs.lemmas.List.{get_or-map, length-map, get_or_past}
use Rattle.std.specs.List.{AllByRecursion as Each}
use Rattle.std.specs.Prelude.{slice_index_or}
use mathlib.Core.Path.{subst, fun_ext}
use Rattle.linear_algebra.specs.Modular.{IsFieldModulo}
use Rattle.linear_algebra.specs.Rows.{entry, IsRow, IsMatrix, IsInSpan}
use Rattle.linear_algebra.specs.Kernels.{IsKernelOf}
use Rattle.linear_algebra.specs.Residues.{Below, Vector, vector, residue}
use Rattle.linear_algebra.proofs.Laws.{kernel_exists}
use Rattle.linear_algebra.proofs.Preimages.{preimage_exists}
use Rattle.linear_algebra.proofs.Residues.{residue-self}
use Rattle.linear_algebra.proofs.Tables.{table, length-table, entry-table}
use Rattle.graded_polynomials.specs.AllMonomials.{all_monomials}
use Rattle.graded_polynomials.specs.Monomials.{IsMonomials}
use Rattle.graded_polynomials.specs.Polynomials.{Term}
use Rattle.graded_polynomials.proofs.AllMonomials.{all-monomials}
use Rattle.graded_algebra.specs.Algebras.{Algebra, Generator, degrees, evaluate, value}
use Rattle.graded_algebra.specs.Presentations.{IsNormalForm, IsValue}
use Rattle.graded_algebra.specs.Vectors.{GradedAlgebra, IsOfDegree, algebra}
use Rattle.graded_algebra.proofs.Evaluation.{evaluate-in}
use Rattle.graded_algebra.proofs.Values.{linear-same}
use Rattle.graded_algebra.proofs.VectorLemmas.{vector-space}
use Rattle.presentation_rows.specs.RowPolynomials.{polynomial_of, row_of}
use Rattle.presentation_rows.specs.Values.{AreValues}
use Rattle.presentation_rows.proofs.NormalFormRows.{normal-form-of}
use Rattle.presentation_rows.proofs.RowTerms.{same-as-row}
use Rattle.presentation_rows.proofs.RowValues.{value-row}
use Rattle.cohomology_degree.proofs.StandardMonomials.{standard-left}
use Rattle.ring_present.specs.Standard.{AreStandard, without_pivots}

module _ (q : ℕ) (F : IsFieldModulo (suc q)) (H : GradedAlgebra q) where
  abbrev A : Algebra (Vector q)
  A = algebra q H

  -- the row of a vector of degree d
  abbrev row-of-vector : ℕ → Vector q → List ℕ
  row-of-vector d v = table (H.ranks d) (λ i. (v i).0)

  vector-is-row : (d : ℕ) (v : Vector q) → IsRow (suc q) (H.ranks d) (row-of-vector d v)
  vector-is-row d v = record {
    length_is = length-table (H.ranks d) (λ i. (v i).0);
    below = λ j l. rw (entry-table (H.ranks d) (λ i. (v i).0) j l) (v j).1;
  }

  vector-back : (d : ℕ) (v : Vector q) → IsOfDegree q H d v → vector q (row-of-vector d v) ≡ v
  vector-back d v h = fun_ext (λ i. go i (cases_lt i (H.ranks d)))
    where
      go : (i : ℕ) → (i < H.ranks d) ⊎ (H.ranks d ≤ i) → vector q (row-of-vector d v) i ≡ v i
      go i (inl l) = ap (residue q) (entry-table (H.ranks d) (λ i. (v i).0) i l) ∙ residue-self q (v i)
      go i (inr l) =
          let z : length (row-of-vector d v) ≡ H.ranks d = length-table (H.ranks d) (λ i. (v i).0) in
          ap (residue q) (get_or_past (row-of-vector d v) i 0 (omega (arith, z, l))) ∙ sym (h i l)

  module _ (gs : List (Generator (Vector q))) (positive : Each (λ d. 0 < d) (degrees gs)) (d : ℕ) where
    abbrev ms : List (List ℕ)
    ms = all_monomials q (degrees gs) d

    monomials : IsMonomials q (degrees gs) d ms
    monomials = all-monomials q (degrees gs) positive d

    abbrev values : List (List ℕ)
    values = map (λ m. row-of-vector d (evaluate A gs m)) ms

    of-degree : (i : ℕ) → i < length ms → IsOfDegree q H d (evaluate A gs (slice_index_or ms i []))
    of-degree i l =
        let m = slice_index_or ms i [] in
        subst (λ d. IsOfDegree q H d (evaluate A gs m)) (monomials.each i l).degree_is
        (evaluate-in q (Vector q) A (IsOfDegree q H) H.laws gs m)

    values-are : AreValues q A gs ms values
    values-are = record {
      count = length-map ms (λ m. row-of-vector d (evaluate A gs m));
      each = λ i l. ap (vector q) (get_or-map (λ m. row-of-vector d (evaluate A gs m)) ms i [] [] l)
          ∙ vector-back d (evaluate A gs (slice_index_or ms i [])) (of-degree i l);
    }

    values-matrix : IsMatrix (suc q) (H.ranks d) values
    values-matrix i l = rw (get_or-map (λ m. row-of-vector d (evaluate A gs m)) ms i [] []
        (rw length-map at l)) (vector-is-row d (evaluate A gs (slice_index_or ms i [])))

    kernel : (K : List (List ℕ)) × IsKernelOf (suc q) values K
    kernel = kernel_exists values F values-matrix

    in-span : (v : Vector q) → IsOfDegree q H d v → IsValue q A gs d v
        → IsInSpan (suc q) values (entry (row-of-vector d v))
    in-span v of f = (
      entry u,
      record {
        each = λ j. record {
          same_remainder = ap (λ (b : Below (suc q)). b.0)
              (sym (value-row q H.mul gs ms values values-are u j)
              ∙ ap (λ (w : Vector q). w j) (sym same ∙ f.value_is ∙ sym (vector-back d v of)));
        };
      },
    )
      where
        u : List ℕ
        u = row_of q ms f.polynomial

        same : value A gs f.polynomial ≡ value A gs (polynomial_of ms u)
        same = linear-same q (Vector q) A (vector-space q H.mul) (evaluate A gs) f.polynomial
            (polynomial_of ms u) (same-as-row monomials f.polynomial f.over)

    pub normal_form : (v : Vector q) → IsOfDegree q H d v → IsValue q A gs d v
        → (f : List Term) × IsNormalForm q A gs d v f
    normal_form v of f =
        let w = row-of-vector d v in
        let u = preimage_exists F.above_one kernel.1 w (in-span v of f) in (
          polynomial_of ms u.0,
          subst (λ v. IsNormalForm q A gs d v (polynomial_of ms u.0)) (vector-back d v of)
              (normal-form-of q d H.mul gs ms values kernel.0 F.above_one monomials values-are kernel.1 w u.0
              u.1),
        )

pub normal_form_of_value : (q : ℕ) → IsFieldModulo (suc q) → (H : GradedAlgebra q)
    → (gs : List (Generator (Vector q))) → Each (λ d. 0 < d) (degrees gs) → (d : ℕ) (v : Vector q)
    → IsOfDegree q H d v → IsValue q (algebra q H) gs d v
    → (f : List Term) × IsNormalForm q (algebra q H) gs d v f
normal_form_of_value q F H gs positive d v of f = normal_form q F H gs positive d v of f

-- the standard monomials of a degree
pub standard_exist : (q : ℕ) → IsFieldModulo (suc q) → (H : GradedAlgebra q)
    → (gs : List (Generator (Vector q))) → Each (λ d. 0 < d) (degrees gs) → (d : ℕ)
    → (ms : List (List ℕ)) × AreStandard q (algebra q H) gs d ms
standard_exist q F H gs positive d =
    let K = kernel q F H gs positive d in (
      without_pivots K.0 0 (all_monomials q (degrees gs) d),
      standard-left q d H.mul gs (all_monomials q (degrees gs) d) (values q F H gs positive d) K.0 F.above_one
          (monomials q F H gs positive d) (values-are q F H gs positive d) K.1,
    )
