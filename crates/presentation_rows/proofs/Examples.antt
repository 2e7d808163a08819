-- The premises of the laws hold together: the algebra over two elements with one generator x of degree 1 and
-- the relation x^2, through degree 3.
use Rattle.std.proofs.Common.{◌≡◌, ℕ, zero, suc, ◌+◌, ◌*◌, ◌<◌, List, [], ◌∷◌, ◌⊎◌, inl, inr, arith, ap, sym}
use Rattle.std.proofs.Common.{◌∙◌, refl}
use Rattle.std.specs.Prelude.{slice_index_or}
use Rattle.std.proofs.lemmas.List.{get_or_past}
use Rattle.linear_algebra.specs.Modular.{IsCongruent}
use Rattle.linear_algebra.specs.Rows.{entry, row, IsRow, IsEchelon, IsEchelonOf, IsInSpan}
use Rattle.linear_algebra.specs.Kernels.{IsKernelOf, IsInKernel, unit_row}
use Rattle.linear_algebra.specs.Choices.{IsGreedy, IsPreimage, ArePreimages}
use Rattle.linear_algebra.proofs.Congruences.{congruent_eq, congruent_trans, congruent_sym}
use Rattle.linear_algebra.proofs.Spans.{are_in_span_self}
use Rattle.graded_polynomials.specs.Monomials.{IsMonomial, IsMonomials}
use Rattle.graded_polynomials.specs.Polynomials.{Polynomial, Multiple, IsMultiple}
use Rattle.graded_algebra.specs.Algebras.{Generator, evaluate}
use Rattle.graded_algebra.specs.Presentations.{IsSpanGenerators, IsRelations, IsNormalForm}
use Rattle.graded_algebra.specs.Vectors.{Vector, vectors, residue, unit, units}
use Rattle.graded_algebra.proofs.Relations.{defining}
use Rattle.presentation_rows.specs.RowPolynomials.{row_of}
use Rattle.presentation_rows.specs.Values.{vector, AreValues, AreUnitRows}
use Rattle.presentation_rows.specs.Multiples.{terms_of, AreMultiples}
use Rattle.presentation_rows.proofs.UnitRows.{unit-vector, unit-matrix, unit-echelon}
use Rattle.presentation_rows.proofs.NewGenerators.{chosen-units}
use Rattle.presentation_rows.proofs.MultipleRows.{consequence-pivots}
use Rattle.presentation_rows.proofs.NewRelations.{relations-from}
use Rattle.presentation_rows.proofs.NormalFormRows.{normal-form-of, preimage-of-combination}
use Rattle.presentation_rows.proofs.MoreMonomials.{values-with-last}

-- products of positive degrees are 0
abbrev pub multiply : ℕ → ℕ → Vector 1 → Vector 1 → Vector 1
multiply zero e v w = w
multiply (suc d) e v w = λ i. residue 1 0

abbrev pub x : Generator (Vector 1)
x = record { degree = 1; class = unit 1 0 }

-- one class in degree 1
abbrev pub basis : ℕ → List (Vector 1)
basis zero = []
basis (suc zero) = units 1 0 1
basis (suc (suc d)) = []

-- the monomials of positive degree are the powers of x
pub powers-of-x : (d : ℕ) → IsMonomials 1 (1 ∷ []) (suc d) ((suc d ∷ []) ∷ [])
powers-of-x d = record { each = each; all = all; descending = λ i j b l. absurd (omega (arith, b, l)) }
  where
    each : (i : ℕ) → i < 1 → IsMonomial 1 (1 ∷ []) (suc d) (slice_index_or ((suc d ∷ []) ∷ []) i [])
    each zero l = record {
      within = tt;
      trimmed = ((λ e z. absurd (omega (arith, z))), tt);
      fitting = refl;
      degree_is = omega arith;
    }
    each (suc i) l = absurd (omega (arith, l))

    all : (m : List ℕ) → IsMonomial 1 (1 ∷ []) (suc d) m → (i : ℕ) × (i < 1)
        × (slice_index_or ((suc d ∷ []) ∷ []) i [] ≡ m)
    all [] M = absurd (let e = M.degree_is in omega (arith, e))
    all (y ∷ []) M = (0, omega arith, ap (λ y. y ∷ []) (let e = M.degree_is in omega (arith, e)))
    all (y ∷ z ∷ m) M = absurd M.within

-- without generators there are none
no-monomials : (d : ℕ) → IsMonomials 1 [] (suc d) []
no-monomials d = record {
  each = λ i l. absurd (omega (arith, l));
  all = λ m M. absurd (let e = M.degree_is in omega (arith, e));
  descending = λ i j b l. absurd (omega (arith, l));
}

no-values : AreValues 1 (vectors 1 multiply) [] [] []
no-values = record { count = refl; each = λ i l. absurd (omega (arith, l)) }

no-rows : (n : ℕ) → IsEchelonOf 2 n [] []
no-rows n = record {
  matrix = λ i l. absurd (omega (arith, l));
  echelon = none;
  spanned = λ i l. absurd (omega (arith, l));
  spans = λ i l. absurd (omega (arith, l));
}
  where
    none : IsEchelon []
    none = record {
      not_zero = λ i l. absurd (omega (arith, l));
      ascending = λ i k b l. absurd (omega (arith, l));
      monic = λ i l. absurd (omega (arith, l));
      cleared = λ i k l m ne. absurd (omega (arith, l));
    }

unit-rows : AreUnitRows 1 ((1 ∷ []) ∷ [])
unit-rows = record { count = refl; each = each }
  where
    each : (i : ℕ) → i < 1 → row ((1 ∷ []) ∷ []) i ≡ unit_row 1 i
    each zero l = refl
    each (suc i) l = absurd (omega (arith, l))

greedy : IsGreedy 2 ((1 ∷ []) ∷ []) [] (0 ∷ [])
greedy = inr ([], refl, outside, refl)
  where
    outside : IsInSpan 2 [] (entry (1 ∷ [])) → ⊥
    outside s = absurd (let e : 0 ≡ 1 = (s.1.each 0).same_remainder in omega (arith, e))

pub generators : IsSpanGenerators 1 (vectors 1 multiply) basis 1 (x ∷ [])
generators = (
  [],
  [],
  unit 1 0 ∷ [],
  refl,
  no-monomials 0,
  chosen-units 1 1 multiply [] [] [] [] ((1 ∷ []) ∷ []) no-values (no-rows 1) unit-rows
      (0 ∷ []) greedy,
  refl,
)

-- degree 1: the value of x, by its class
values-one : AreValues 1 (vectors 1 multiply) (x ∷ []) ((1 ∷ []) ∷ []) ((1 ∷ []) ∷ [])
values-one = values-with-last 1 multiply [] x [] [] (1 ∷ []) (no-monomials 0) no-values
    (unit-vector 1 1 0 (omega arith)) refl

kernel-one : IsKernelOf 2 ((1 ∷ []) ∷ []) []
kernel-one = record {
  matrix = λ i l. absurd (omega (arith, l));
  echelon = (no-rows 1).echelon;
  in_kernel = λ i l. absurd (omega (arith, l));
  spans = λ u r k. ((λ i. 0), record { each = λ j. congruent_sym (at u r k j) });
}
  where
    at : (u : List ℕ) → IsRow 2 1 u → IsInKernel 2 ((1 ∷ []) ∷ []) (entry u) → (j : ℕ)
        → IsCongruent 2 (entry u j) 0
    at u r k zero = congruent_trans (congruent_eq (omega arith)) (k 0)
    at u r k (suc j) = congruent_eq (get_or_past u (suc j) 0 (omega (arith, r.length_is)))

no-multiples : (d : ℕ) (ms : List (List ℕ)) → AreMultiples 1 (1 ∷ []) [] d ms []
no-multiples d ms = record { each = λ i l. absurd (omega (arith, l)); all = λ t h o. absurd h.given }

pub relations-one : IsRelations 1 (vectors 1 multiply) (x ∷ []) 1 []
relations-one = (
  [],
  [],
  (1 ∷ []) ∷ [],
  refl,
  powers-of-x 0,
  relations-from 1 1 multiply (x ∷ []) [] ((1 ∷ []) ∷ []) ((1 ∷ []) ∷ []) [] [] (omega arith)
      (powers-of-x 0) values-one kernel-one
      (consequence-pivots 1 1 (Vector 1) (vectors 1 multiply) (x ∷ []) [] ((1 ∷ []) ∷ []) [] []
      (λ r o. absurd o) (powers-of-x 0)
      (no-multiples 1 ((1 ∷ []) ∷ [])) (no-rows 1) (omega arith)),
  refl,
)

-- degree 2: the value of x^2 is 0
values-two : AreValues 1 (vectors 1 multiply) (x ∷ []) ((2 ∷ []) ∷ []) ([] ∷ [])
values-two = record { count = refl; each = each }
  where
    each : (i : ℕ) → i < 1 → vector 1 (row ([] ∷ []) i) ≡ evaluate (vectors 1 multiply) (x ∷ [])
        (slice_index_or ((2 ∷ []) ∷ []) i [])
    each zero l = refl
    each (suc i) l = absurd (omega (arith, l))

kernel-two : IsKernelOf 2 ([] ∷ []) ((1 ∷ []) ∷ [])
kernel-two = record {
  matrix = λ i l. unit-is-row i l;
  echelon = unit-echelon unit-rows;
  in_kernel = λ i l j. at i l j;
  spans = λ u r k. ((λ i. entry u 0), record { each = λ j. member u r j });
}
  where
    unit-is-row : (i : ℕ) → i < 1 → IsRow 2 1 (row ((1 ∷ []) ∷ []) i)
    unit-is-row i l = unit-matrix unit-rows 2 (omega arith) i l

    at : (i : ℕ) → i < 1 → IsInKernel 2 ([] ∷ []) (entry (row ((1 ∷ []) ∷ []) i))
    at zero l j = congruent_eq (let e : 0 + 1 * 0 ≡ 0 = omega arith in e)
    at (suc i) l j = absurd (omega (arith, l))

    member : (u : List ℕ) → IsRow 2 1 u → (j : ℕ)
        → IsCongruent 2 (0 + entry u 0 * entry (1 ∷ []) j) (entry u j)
    member u r zero = congruent_eq (omega arith)
    member u r (suc j) = congruent_eq (let e : entry u (suc j) ≡ 0 = get_or_past u (suc j) 0
        (omega (arith, r.length_is)) in omega (arith, e))

abbrev x-squared : Polynomial
x-squared = record { degree = 2; terms = record { scalar = 1; monomial = 2 ∷ [] } ∷ [] }

pub relations-two : IsRelations 1 (vectors 1 multiply) (x ∷ []) 2 (x-squared ∷ [])
relations-two = (
  [],
  x-squared ∷ [],
  (2 ∷ []) ∷ [],
  relations-one,
  powers-of-x 1,
  relations-from 1 2 multiply (x ∷ []) [] ((2 ∷ []) ∷ []) ([] ∷ []) ((1 ∷ []) ∷ []) [] (omega arith)
      (powers-of-x 1) values-two kernel-two
      (consequence-pivots 1 2 (Vector 1) (vectors 1 multiply) (x ∷ []) [] ((2 ∷ []) ∷ []) [] []
      (λ r o. absurd o) (powers-of-x 1)
      (no-multiples 2 ((2 ∷ []) ∷ [])) (no-rows 1) (omega arith)),
  refl,
)

-- degree 3: x^3 is a multiple of x^2, and no relation is new
values-three : AreValues 1 (vectors 1 multiply) (x ∷ []) ((3 ∷ []) ∷ []) ([] ∷ [])
values-three = record { count = refl; each = each }
  where
    each : (i : ℕ) → i < 1 → vector 1 (row ([] ∷ []) i) ≡ evaluate (vectors 1 multiply) (x ∷ [])
        (slice_index_or ((3 ∷ []) ∷ []) i [])
    each zero l = refl
    each (suc i) l = absurd (omega (arith, l))

multiples-three : AreMultiples 1 (1 ∷ []) (x-squared ∷ []) 3 ((3 ∷ []) ∷ []) ((1 ∷ []) ∷ [])
multiples-three = record { each = each; all = all }
  where
    each : (i : ℕ) → i < 1 → (t : Multiple) × IsMultiple 1 (1 ∷ []) (x-squared ∷ []) 3 t
        × (row ((1 ∷ []) ∷ []) i ≡ row_of 1 ((3 ∷ []) ∷ []) (terms_of 1 (1 ∷ []) t))
    each zero l = (
      record { scalar = 1; by = 1 ∷ []; of = x-squared },
      record {
        given = inl refl;
        rest = 1;
        monomial = (powers-of-x 0).each 0 (omega arith);
        degree_is = refl;
      },
      refl,
    )
    each (suc i) l = absurd (omega (arith, l))

    all : (t : Multiple) → IsMultiple 1 (1 ∷ []) (x-squared ∷ []) 3 t → t.scalar ≡ 1
        → (i : ℕ) × (i < 1) × (row ((1 ∷ []) ∷ []) i ≡ row_of 1 ((3 ∷ []) ∷ []) (terms_of 1 (1 ∷ []) t))
    all t h o = (0, omega arith, go h.given)
      where
        go : (t.of ≡ x-squared) ⊎ ⊥ → (1 ∷ []) ≡ row_of 1 ((3 ∷ []) ∷ []) (terms_of 1 (1 ∷ []) t)
        go (inr n) = absurd n
        go (inl e) = rw (o, by-x, e) refl
          where
            rest-one : h.rest ≡ 1
            rest-one = let d : t.of.degree ≡ 2 = ap (λ (r : Polynomial). r.degree) e in
                omega (arith, d, h.degree_is)

            by-x : t.by ≡ 1 ∷ []
            by-x = let m = (powers-of-x 0).all t.by (rw rest-one at h.monomial) in sym m.2
                ∙ ap (λ i. slice_index_or ((1 ∷ []) ∷ []) i []) (let z : m.0 ≡ 0 = omega (arith, m.1) in z)

echelon-three : IsEchelonOf 2 1 ((1 ∷ []) ∷ []) ((1 ∷ []) ∷ [])
echelon-three = record {
  matrix = unit-matrix unit-rows 2 (omega arith);
  echelon = unit-echelon unit-rows;
  spanned = are_in_span_self ((1 ∷ []) ∷ []);
  spans = are_in_span_self ((1 ∷ []) ∷ []);
}

pub relations-three : IsRelations 1 (vectors 1 multiply) (x ∷ []) 3 (x-squared ∷ [])
relations-three = (
  x-squared ∷ [],
  [],
  (3 ∷ []) ∷ [],
  relations-two,
  powers-of-x 2,
  relations-from 1 3 multiply (x ∷ []) (x-squared ∷ []) ((3 ∷ []) ∷ []) ([] ∷ []) ((1 ∷ []) ∷ [])
      ((1 ∷ []) ∷ []) (omega arith)
      (powers-of-x 2) values-three kernel-two
      (consequence-pivots 1 3 (Vector 1) (vectors 1 multiply) (x ∷ []) (x-squared ∷ []) ((3 ∷ []) ∷ [])
      ((1 ∷ []) ∷ []) ((1 ∷ []) ∷ [])
      (λ r o. (defining 1 (Vector 1) (vectors 1 multiply) (x ∷ []) 2
      (x-squared ∷ []) relations-two r o).vanishes.over)
      (powers-of-x 2) multiples-three echelon-three (omega arith)),
  refl,
)

-- the class of x has the normal form x
preimage-one : IsPreimage 2 ((1 ∷ []) ∷ []) [] (1 ∷ []) (1 ∷ [])
preimage-one = record {
  is_row = unit-matrix unit-rows 2 (omega arith) 0 (omega arith);
  maps = record {
    each = λ j. congruent_eq
        (let e : 0 + 1 * entry (1 ∷ []) j ≡ entry (1 ∷ []) j = omega arith in e);
  };
  zero_at_pivots = λ i l. absurd (omega (arith, l));
}

preimages-one : ArePreimages 2 ((1 ∷ []) ∷ []) [] ((1 ∷ []) ∷ []) ((1 ∷ []) ∷ [])
preimages-one = record { count = refl; each = each }
  where
    each : (i : ℕ) → i < 1 → IsPreimage 2 ((1 ∷ []) ∷ []) [] (row ((1 ∷ []) ∷ []) i) (row ((1 ∷ []) ∷ []) i)
    each zero l = preimage-one
    each (suc i) l = absurd (omega (arith, l))

pub normal-form-one : IsNormalForm 1 (vectors 1 multiply) (x ∷ []) 1 (vector 1 (1 ∷ []))
    (record { scalar = 1; monomial = 1 ∷ [] } ∷ [])
normal-form-one = normal-form-of 1 1 multiply (x ∷ []) ((1 ∷ []) ∷ []) ((1 ∷ []) ∷ []) [] (omega arith)
    (powers-of-x 0) values-one kernel-one
    (1 ∷ []) (1 ∷ [])
    (preimage-of-combination (omega arith) unit-rows preimages-one kernel-one (1 ∷ [])
    (1 ∷ []) preimage-one.is_row preimage-one.is_row preimage-one.maps)
