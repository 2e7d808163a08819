-- The premises of the laws hold together: the polynomials in one variable x of degree 1 over two elements,
-- from degree 0 to degree 2.
use Rattle.std.proofs.Common.{◌≡◌, ℕ, zero, suc, ◌+◌, ◌<◌, List, [], ◌∷◌, inl, arith, ap, sym, refl}
use Rattle.std.specs.Prelude.{slice_index_or, drop}
use Rattle.std.specs.List.{AllByRecursion as Each}
use Rattle.std.proofs.lemmas.List.{get_or_past}
use Rattle.linear_algebra.specs.Modular.{IsCongruent}
use Rattle.linear_algebra.specs.Rows.{entry, row, IsRow, IsEchelon, IsEchelonOf}
use Rattle.linear_algebra.specs.Kernels.{IsKernelOf, IsInKernel}
use Rattle.linear_algebra.proofs.Congruences.{congruent_eq, congruent_trans, congruent_sym}
use Rattle.graded_polynomials.specs.Monomials.{IsMonomial, joined}
use Rattle.graded_polynomials.specs.Polynomials.{Term, Multiple, IsMultiple, coefficient, total}
use Rattle.graded_polynomials.specs.Texts.{power}
use Rattle.graded_polynomials.proofs.Monomials.{only-one}
use Rattle.graded_algebra.specs.Algebras.{Generator, degrees, evaluate, value}
use Rattle.graded_algebra.specs.Presentations.{IsStandard, IsRelations}
use Rattle.graded_algebra.specs.Vectors.{Vector, algebra, unit}
use Rattle.graded_algebra.proofs.Leading.{not-zero}
use Rattle.presentation_rows.specs.Values.{vector, AreValues}
use Rattle.presentation_rows.proofs.Examples.{powers-of-x}
use Rattle.ring_completion.specs.Borders.{AreReached}
use Rattle.ring_completion.specs.Candidates.{AreSome, IsListed, IsQuotient, AreCandidates, AreLeft}
use Rattle.ring_completion.specs.Completions.{alone, generator_times, degree_of, IsGenerator, IsStandardOf}
use Rattle.ring_completion.specs.Completions.{IsReduced, AreProducts}
use Rattle.ring_completion.specs.Eliminations.{AreForms, AreCritical}
use Rattle.ring_completion.specs.Left.{IsCompletion}
use Rattle.ring_completion.proofs.Choosing.{are-candidates}
use Rattle.ring_completion.proofs.FormRows.{form-of-product}
use Rattle.ring_completion.proofs.OpenLine.{line}
use Rattle.ring_completion.proofs.ThreePowers.{field, one-row}
use Rattle.ring_completion.proofs.Results.{free, separates-left, nothing-leads, relations-of-list}
use Rattle.ring_completion.proofs.Reached.{candidate-reached}
use Rattle.ring_completion.proofs.Results.{standard-of-list, left-candidates, left-of-list, separates-reached}
use Rattle.std.proofs.Math.Path.{fun_ext}
use Rattle.graded_polynomials.proofs.Terms.{eqb-false, false≢true}

abbrev gs : List (Generator (Vector 1))
gs = record { degree = 1; class = unit 1 0 } ∷ []

positive : Each (λ d. 0 < d) (degrees gs)
positive = (omega arith, tt)

some : (d : ℕ) → AreSome 1 (degrees gs) (suc d) ((suc d ∷ []) ∷ [])
some d = record { each = (powers-of-x d).each; descending = (powers-of-x d).descending }

-- without relations nothing is a consequence but 0
zero-total : (d : ℕ) (ts : List Multiple) → Each (IsMultiple 1 (degrees gs) [] d) ts → (m : List ℕ)
    → coefficient (total 1 (degrees gs) ts) m ≡ 0
zero-total d [] h m = refl
zero-total d (t ∷ ts) h m = absurd h.0.given

left-one : AreLeft 1 (algebra 1 line) gs [] 1 ((1 ∷ []) ∷ [])
left-one = record {
  some = some 0;
  each = λ k l h. not-zero (congruent_trans (h.is_member.ideal.sum.at (slice_index_or ((1 ∷ []) ∷ []) k []))
      (congruent_eq
      (zero-total 1 h.is_member.ideal.multiples h.is_member.ideal.each
      (slice_index_or ((1 ∷ []) ∷ []) k [])))) h.here;
  all = λ m M. inl ((powers-of-x 0).all m M);
}

-- the value of x is 1 in the one place of its degree
value-of-x : vector 1 (1 ∷ []) ≡ evaluate (algebra 1 line) gs (1 ∷ [])
value-of-x = fun_ext (λ i. at i)
  where
    at : (i : ℕ) → vector 1 (1 ∷ []) i ≡ evaluate (algebra 1 line) gs (1 ∷ []) i
    at zero = refl
    at (suc i) = rw (eqb-false (suc i) 0 (omega arith)) refl

values-one : AreValues 1 (algebra 1 line) gs ((1 ∷ []) ∷ []) ((1 ∷ []) ∷ [])
values-one = record { count = refl; each = each }
  where
    each : (i : ℕ) → i < 1 → vector 1 (row ((1 ∷ []) ∷ []) i)
        ≡ evaluate (algebra 1 line) gs (slice_index_or ((1 ∷ []) ∷ []) i [])
    each zero l = value-of-x
    each (suc i) l = absurd (omega (arith, l))

none : IsEchelon []
none = record {
  not_zero = λ i l. absurd (omega (arith, l));
  ascending = λ i k b l. absurd (omega (arith, l));
  monic = λ i l. absurd (omega (arith, l));
  cleared = λ i k l m ne. absurd (omega (arith, l));
}

kernel-one : IsKernelOf 2 ((1 ∷ []) ∷ []) []
kernel-one = record {
  matrix = λ i l. absurd (omega (arith, l));
  echelon = none;
  in_kernel = λ i l. absurd (omega (arith, l));
  spans = λ u r k. ((λ i. 0), record { each = λ j. congruent_sym (at u r k j) });
}
  where
    at : (u : List ℕ) → IsRow 2 1 u → IsInKernel 2 ((1 ∷ []) ∷ []) (entry u) → (j : ℕ)
        → IsCongruent 2 (entry u j) 0
    at u r k zero = congruent_trans (congruent_eq (omega arith)) (k 0)
    at u r k (suc j) = congruent_eq (get_or_past u (suc j) 0 (let e = r.length_is in omega (arith, e)))

pub relations-one : IsRelations 1 (algebra 1 line) gs 1 []
relations-one = relations-of-list 1 0 field line gs positive [] refl ((1 ∷ []) ∷ []) ((1 ∷ []) ∷ []) []
    (some 0)
    (separates-left 1 0 field line gs positive [] refl ((1 ∷ []) ∷ []) left-one) values-one kernel-one []
    (nothing-leads 1 0 field line gs positive [] refl ((1 ∷ []) ∷ []) left-one)

standard-x : IsStandard 1 (algebra 1 line) gs 1 (1 ∷ [])
standard-x = (standard-of-list 1 0 field line gs positive [] refl ((1 ∷ []) ∷ []) ((1 ∷ []) ∷ []) [] (some 0)
    (separates-left 1 0 field line gs positive [] refl ((1 ∷ []) ∷ []) left-one) values-one kernel-one 0
    (omega arith)).1 (λ p. absurd (let b = p.1 in omega (arith, b)))

-- the only generator is x
only-x : (i : ℕ) → IsGenerator 1 (degrees gs) i → i ≡ 0
only-x zero I = refl
only-x (suc zero) I = absurd I.within
only-x (suc (suc i)) I = absurd I.within

x-squared-candidate : AreCandidates 1 (algebra 1 line) gs 2 ((2 ∷ []) ∷ [])
x-squared-candidate = are-candidates 1 (Vector 1) (algebra 1 line) _ line.laws gs field positive
    (free 1 1 field line gs positive [] relations-one) 1 [] relations-one
    ((2 ∷ []) ∷ []) (some 1) each (λ m M h. (powers-of-x 1).all m M)
  where
    at-zero : (e : ℕ) (r : List ℕ) → IsMonomial 1 (1 ∷ []) e r → joined (1 ∷ []) r ≡ 2 ∷ []
        → IsStandard 1 (algebra 1 line) gs e r
    at-zero e [] M p = absurd (let z : 1 ≡ 2 = ap (λ m. slice_index_or m 0 0) p in omega (arith, z))
    at-zero e (y ∷ z ∷ r) M p = absurd M.within
    at-zero e (y ∷ []) M p = let w : 1 + y ≡ 2 = ap (λ m. slice_index_or m 0 0) p in let a : y ≡ 1 =
        omega (arith, w) in
        let b : e ≡ 1 = (let d = M.degree_is in omega (arith, d, a)) in rw (a, b) standard-x

    each : (k i e : ℕ) (r : List ℕ) → k < 1
        → IsQuotient 1 (degrees gs) i e r (slice_index_or ((2 ∷ []) ∷ []) k [])
        → IsStandard 1 (algebra 1 line) gs e r
    each zero zero e r l Q = at-zero e r Q.monomial Q.product
    each zero (suc i) e r l Q = absurd (high i r Q.product)
      where
        high : (i : ℕ) (r : List ℕ) → joined (power (suc i) 1) r ≡ 2 ∷ [] → ⊥
        high i [] p = absurd (let z : 0 ≡ 2 = ap (λ m. slice_index_or m 0 0) p in omega (arith, z))
        high i (y ∷ r) p =
            absurd (let t : joined (power i 1) r ≡ [] = ap (λ (m : List ℕ). drop 1 m) p in never i r t)
          where
            never : (i : ℕ) (r : List ℕ) → joined (power i 1) r ≡ [] → ⊥
            never zero [] t = cc
            never zero (y ∷ r) t = cc
            never (suc i) [] t = cc
            never (suc i) (y ∷ r) t = cc
    each (suc k) i e r l Q = absurd (omega (arith, l))

abbrev products : ℕ → List ℕ → List Term
products i s = alone (1 ∷ [])

abbrev forms : ℕ → List ℕ → List ℕ
forms i s = 1 ∷ []

-- below degree 2 only x times 1
only-one-below : (i e : ℕ) (s : List ℕ) → IsStandardOf 1 (algebra 1 line) gs e s
    → degree_of (degrees gs) i + e < 2 → i ≡ 0 → (e ≡ 0) × (s ≡ [])
only-one-below i e s X l z = let d : degree_of (degrees gs) i ≡ 1 = ap (degree_of (degrees gs)) z in
    let w : e ≡ 0 = omega (arith, l, d) in
    (w, only-one 1 (degrees gs) s positive (let M = X.monomial in rw w at M))

are-products : AreProducts 1 (algebra 1 line) gs 2 products
are-products = record {
  reduced = λ i e s I X l. reduced i e s X l (only-x i I);
  value_is =
      λ i e s I X l. value-is i e s X l (only-x i I);
}
  where
    reduced : (i e : ℕ) (s : List ℕ) → IsStandardOf 1 (algebra 1 line) gs e s
        → degree_of (degrees gs) i + e < 2 → i ≡ 0
        → IsReduced 1 (algebra 1 line) gs (degree_of (degrees gs) i + e) (alone (1 ∷ []))
    reduced i e s X l z = rw (z, (only-one-below i e s X l z).0)
        record { over = ((powers-of-x 0).each 0 (omega arith), tt); standard = (standard-x, tt) }

    value-is : (i e : ℕ) (s : List ℕ) → IsStandardOf 1 (algebra 1 line) gs e s
        → degree_of (degrees gs) i + e < 2 → i ≡ 0
        → value (algebra 1 line) gs (alone (1 ∷ []))
        ≡ value (algebra 1 line) gs (generator_times 1 (degrees gs) i s)
    value-is i e s X l z = rw (z, (only-one-below i e s X l z).1) refl

-- in degree 2 only x times x
only-x-times-x : (i e : ℕ) (s : List ℕ) → IsStandardOf 1 (algebra 1 line) gs e s
    → degree_of (degrees gs) i + e ≡ 2 → i ≡ 0 → s ≡ 1 ∷ []
only-x-times-x i e s X d z = let a : degree_of (degrees gs) i ≡ 1 = ap (degree_of (degrees gs)) z in
    let w : e ≡ 1 = omega (arith, d, a) in
    listed s ((powers-of-x 0).all s (let M = X.monomial in rw w at M))
  where
    listed : (s : List ℕ) → IsListed ((1 ∷ []) ∷ []) s → s ≡ 1 ∷ []
    listed s (zero, l, e) = sym e
    listed s (suc k, l, e) = absurd (omega (arith, l))

are-forms : AreForms 1 line.mul gs [] 2 ((2 ∷ []) ∷ []) forms
are-forms = record {
  row = λ i e s I X d. one-row;
  same = λ i e s I X d. rw (only-x i I, only-x-times-x i e s X d (only-x i I))
      (form-of-product 1 line.mul gs 2 [] ((2 ∷ []) ∷ []) (some 1) 0 (1 ∷ []) (0, omega arith, refl));
  listed = λ i e s I X d l. rw (only-x i I, only-x-times-x i e s X d (only-x i I)) refl;
}

-- there is no exchange, and no square is 0
no-critical-rows : AreCritical 1 line.mul gs 2 products forms []
no-critical-rows = record {
  each = λ k l. absurd (omega (arith, l));
  exchanges = λ v x. absurd (let a = only-x x.second x.second_is in let b = x.ordered in omega (arith, a, b));
  squares = λ v x. absurd (false≢true x.exterior);
}

pub completion : IsCompletion 1 line.mul gs [] 2 ((2 ∷ []) ∷ []) products forms []
completion = record {
  candidates = x-squared-candidate;
  products_are = are-products;
  forms_are = are-forms;
  critical = no-critical-rows;
}

no-rows : IsEchelonOf 2 1 [] []
no-rows = record {
  matrix = λ i l. absurd (omega (arith, l));
  echelon = none;
  spanned = λ i l. absurd (omega (arith, l));
  spans = λ i l. absurd (omega (arith, l));
}

-- and so the candidate x^2 leads in no consequence
pub left-two : AreLeft 1 (algebra 1 line) gs [] 2 ((2 ∷ []) ∷ [])
left-two = left-candidates 1 1 field line gs positive [] relations-one ((2 ∷ []) ∷ []) products forms [] []
    completion no-rows

-- x^2 is a product of x with a standard monomial, and so the law over these products says the same
x-squared-reached : AreReached 1 (algebra 1 line) gs 2 ((2 ∷ []) ∷ [])
x-squared-reached = record {
  some = some 1;
  each = candidate-reached 1 (Vector 1) (algebra 1 line) _ line.laws gs field positive
      (free 1 1 field line gs positive [] relations-one) 1 [] relations-one ((2 ∷ []) ∷ [])
      x-squared-candidate;
  all = λ m M h. (powers-of-x 1).all m M;
}

pub left-of-products : AreLeft 1 (algebra 1 line) gs [] 2 ((2 ∷ []) ∷ [])
left-of-products = left-of-list 1 1 field line gs positive [] relations-one ((2 ∷ []) ∷ []) products forms
    [] [] (some 1)
    (separates-reached 1 1 field line gs positive [] relations-one ((2 ∷ []) ∷ []) x-squared-reached)
    x-squared-reached.each are-products are-forms no-critical-rows no-rows
