-- A completion with an exchange that is not 0: the polynomials in x over F_2, in degree 4, with generators
-- y, u and v of the classes x, x^2 and x^3. The relations are y^2 + u and y u + v, and their consequence
-- y (y u + v) + u (y^2 + u), which is y v + u^2, leads at the candidate y v.
use Rattle.std.proofs.Common.{◌≡◌, ◌≢◌, ℕ, zero, suc, ◌+◌, ◌*◌, ◌<◌, ◌≤◌, Bool, true, false, cond, eqb, ◌%◌}
use Rattle.std.proofs.Common.{List, [], ◌∷◌, length, ◌⊎◌, inl, arith, ap, sym, subst, ◌∙◌, refl}
use Rattle.std.specs.Prelude.{slice_index_or}
use Rattle.std.proofs.Math.Path.{fun_ext}
use Rattle.std.proofs.lemmas.List.{get_or_past}
use Rattle.linear_algebra.specs.Rows.{entry, row, pivot, IsMatrix, IsEchelonOf, IsInSpan}
use Rattle.linear_algebra.proofs.Congruences.{congruent_eq}
use Rattle.linear_algebra.proofs.Spans.{in_span_congruent, in_span_row, in_span_zero, are_in_span_self}
use Rattle.graded_polynomials.specs.Monomials.{IsMonomial, IsGreater, degree, fits, joined, sign, swaps}
use Rattle.graded_polynomials.specs.Polynomials.{Term, Polynomial}
use Rattle.graded_polynomials.specs.Texts.{power}
use Rattle.graded_polynomials.proofs.Exponents.{joined-cancel}
use Rattle.graded_polynomials.proofs.Ordered.{greater-before}
use Rattle.graded_polynomials.proofs.Terms.{false≢true}
use Rattle.graded_algebra.specs.Algebras.{degrees, value}
use Rattle.graded_algebra.specs.Presentations.{IsLeading, IsConsequence, IsRelations, IsStandard}
use Rattle.graded_algebra.specs.Vectors.{Vector, IsOfDegree, algebra, unit}
use Rattle.graded_algebra.proofs.VectorLemmas.{below-path}
use Rattle.presentation_rows.specs.RowPolynomials.{row_of}
use Rattle.presentation_rows.specs.Values.{vector}
use Rattle.presentation_rows.proofs.RowTerms.{row-of-is-row}
use Rattle.ring_completion.specs.Candidates.{AreSome, IsListed, IsQuotient, AreCandidates, AreLeft}
use Rattle.ring_completion.specs.Completions.{alone, generator_times, degree_of, IsGenerator, IsStandardOf}
use Rattle.ring_completion.specs.Completions.{IsReduced, AreProducts}
use Rattle.ring_completion.specs.Eliminations.{AreForms, AreCritical, IsExchange, IsSquare, exchange}
use Rattle.ring_completion.specs.Left.{IsCompletion}
use Rattle.ring_completion.proofs.Choosing.{are-candidates}
use Rattle.ring_completion.proofs.Factors.{quotient-exists, quotient-divides}
use Rattle.ring_completion.proofs.FormRows.{form-of-product}
use Rattle.ring_completion.proofs.ListedCandidates.{generator-at}
use Rattle.ring_completion.proofs.Listings.{within-length}
use Rattle.ring_completion.proofs.OpenLine.{line}
use Rattle.ring_completion.proofs.Quotients.{factor-of}
use Rattle.ring_completion.proofs.Results.{free, candidate-pivots, left-candidates}
use Rattle.ring_completion.proofs.ThreePowers.{field, gs, positive, one-value, least, is-least, single}
use Rattle.ring_completion.proofs.ThreePowers.{alone-value, least-standard, standard-least, relations-exist}

-- the relations of degrees 1 to 3
pub given : (rs : List Polynomial) × IsRelations 1 (algebra 1 line) gs 3 rs
given = relations-exist 3

-- y v and u^2
abbrev ms : List (List ℕ)
ms = (1 ∷ 0 ∷ 1 ∷ []) ∷ (0 ∷ 2 ∷ []) ∷ []

not-empty : (x : ℕ) (m : List ℕ) → x ∷ m ≡ [] → ⊥
not-empty x m e = cc

some : AreSome 1 (degrees gs) 4 ms
some = record { each = each; descending = descending }
  where
    each : (i : ℕ) → i < 2 → IsMonomial 1 (degrees gs) 4 (slice_index_or ms i [])
    each zero l = record {
      within = tt;
      trimmed = (
        (λ e z. absurd (omega (arith, z))),
        ((λ e z. not-empty 1 [] e), ((λ e z. absurd (omega (arith, z))), tt)),
      );
      fitting = refl;
      degree_is = refl;
    }
    each (suc zero) l = record {
      within = tt;
      trimmed = ((λ e z. not-empty 2 [] e), ((λ e z. absurd (omega (arith, z))), tt));
      fitting = refl;
      degree_is = refl;
    }
    each (suc (suc i)) l = absurd (omega (arith, l))

    descending : (i j : ℕ) → i < j → j < 2 → IsGreater (slice_index_or ms i []) (slice_index_or ms j [])
    descending i zero b l = absurd (omega (arith, b))
    descending zero (suc zero) b l = greater-before 1 0 (0 ∷ 1 ∷ []) (2 ∷ []) (omega arith)
    descending (suc i) (suc zero) b l = absurd (omega (arith, b))
    descending i (suc (suc j)) b l = absurd (omega (arith, l))

standard-at : (e f : ℕ) → f < 4 → (r : List ℕ) → r ≡ least f → IsMonomial 1 (degrees gs) e r
    → IsStandard 1 (algebra 1 line) gs e r
standard-at e f b r z M = rw (degrees-same, z) (least-standard 3 given.0 given.1 f (omega (arith, b)) b)
  where
    degrees-same : e ≡ f
    degrees-same = sym M.degree_is ∙ ap (degree (degrees gs)) z ∙ (is-least f b).degree_is

-- no generator past the exponents of a monomial is a factor
not-past : (i e : ℕ) (r m : List ℕ) → length m ≤ i → IsQuotient 1 (degrees gs) i e r m → ⊥
not-past i e r m l Q = let a = quotient-divides 1 (degrees gs) i e r m Q in
    let b = get_or_past m i 0 l in absurd (omega (arith, a, b))

quotients-standard : (k i e : ℕ) (r : List ℕ) → k < 2
    → IsQuotient 1 (degrees gs) i e r (slice_index_or ms k []) → IsStandard 1 (algebra 1 line) gs e r
quotients-standard zero zero e r l Q = standard-at e 3 (omega arith) r
    (joined-cancel (power 0 1) r (least 3) Q.monomial.trimmed (is-least 3 (omega arith)).trimmed Q.product)
    Q.monomial
quotients-standard zero (suc zero) e r l Q =
    absurd (let z : 1 ≤ 0 = quotient-divides 1 (degrees gs) 1 e r (1 ∷ 0 ∷ 1 ∷ []) Q in omega (arith, z))
quotients-standard zero (suc (suc zero)) e r l Q = standard-at e 1 (omega arith) r
    (joined-cancel (power 2 1) r (least 1) Q.monomial.trimmed (is-least 1 (omega arith)).trimmed Q.product)
    Q.monomial
quotients-standard zero (suc (suc (suc i))) e r l Q =
    absurd (not-past (suc (suc (suc i))) e r (1 ∷ 0 ∷ 1 ∷ [])
    (let z : 3 ≤ suc (suc (suc i)) = omega arith in z)
    Q)
quotients-standard (suc zero) zero e r l Q =
    absurd (let z : 1 ≤ 0 = quotient-divides 1 (degrees gs) 0 e r (0 ∷ 2 ∷ []) Q in omega (arith, z))
quotients-standard (suc zero) (suc zero) e r l Q = standard-at e 2 (omega arith) r
    (joined-cancel (power 1 1) r (least 2) Q.monomial.trimmed (is-least 2 (omega arith)).trimmed Q.product)
    Q.monomial
quotients-standard (suc zero) (suc (suc i)) e r l Q =
    absurd (not-past (suc (suc i)) e r (0 ∷ 2 ∷ []) (let z : 2 ≤ suc (suc i) = omega arith in z) Q)
quotients-standard (suc (suc k)) i e r l Q = absurd (omega (arith, l))

all-listed : (m : List ℕ) → IsMonomial 1 (degrees gs) 4 m
    → ((i e : ℕ) (r : List ℕ) → IsQuotient 1 (degrees gs) i e r m → IsStandard 1 (algebra 1 line) gs e r)
    → IsListed ms m
all-listed [] M h = absurd (let d : 0 ≡ 4 = M.degree_is in omega (arith, d))
all-listed (suc a ∷ m) M h =
    by-y (quotient-exists 1 (degrees gs) 4 0 (suc a ∷ m) M (let z : 1 ≤ suc a = omega arith in z))
  where
    by-y : (r : List ℕ) × IsQuotient 1 (degrees gs) 0 (degree (degrees gs) r) r (suc a ∷ m)
        → IsListed ms (suc a ∷ m)
    by-y (r, Q) = (0, (let z : 0 < 2 = omega arith in z), ap (joined (1 ∷ [])) (sym rest) ∙ Q.product)
      where
        low : degree (degrees gs) r ≡ 3
        low = let z : 1 + degree (degrees gs) r ≡ 4 =
            (factor-of 1 (degrees gs) 0 (degree (degrees gs) r) 4 r (suc a ∷ m) M Q).sum in omega (arith, z)

        rest : r ≡ least 3
        rest = standard-least 3 given.0 given.1 (degree (degrees gs) r) 3 low (omega arith) r
            record { monomial = Q.monomial; standard = h 0 (degree (degrees gs) r) r Q }
all-listed (zero ∷ []) M h = absurd (let d : 0 ≡ 4 = M.degree_is in omega (arith, d))
all-listed (zero ∷ b ∷ []) M h = (
  1,
  (let z : 1 < 2 = omega arith in z),
  ap (λ b. 0 ∷ b ∷ []) (let d : 0 + (2 * b + 0) ≡ 4 = M.degree_is in let z : 2 ≡ b = omega (arith, d) in z),
)
all-listed (zero ∷ b ∷ c ∷ []) M h = absurd (let d : 0 + (2 * b + (3 * c + 0)) ≡ 4 = M.degree_is in
    let t = M.trimmed.1.1.0 refl in omega (arith, d, t))
all-listed (zero ∷ b ∷ c ∷ x ∷ m) M h = absurd M.within

candidates : AreCandidates 1 (algebra 1 line) gs 4 ms
candidates = are-candidates 1 (Vector 1) (algebra 1 line) (IsOfDegree 1 line) line.laws gs field positive
    (free 1 3 field line gs positive given.0 given.1) 3 given.0 given.1 ms some quotients-standard all-listed

-- the products are the generators of their degrees
abbrev products : ℕ → List ℕ → List Term
products i s = alone (least (degree_of (degrees gs) i + degree (degrees gs) s))

fits-two : (ds m : List ℕ) → fits 1 ds m ≡ true
fits-two [] m = refl
fits-two (d ∷ ds) [] = refl
fits-two (d ∷ ds) (e ∷ m) = fits-two ds m

sign-two : (n : ℕ) → sign 1 n ≡ 1
sign-two n = go (eqb (n % 2) 0)
  where
    go : (b : Bool) → ◌≡◌ {A = ℕ} (cond b 1 1) 1
    go true = refl
    go false = refl

product-value : (i : ℕ) (s : List ℕ)
    → value (algebra 1 line) gs (generator_times 1 (degrees gs) i s) ≡ single (unit 1 0)
product-value i s =
    rw (fits-two (degrees gs) (joined (power i 1) s), sign-two (swaps (degrees gs) (power i 1) s))
    (ap single (one-value (joined (power i 1) s)))

are-products : AreProducts 1 (algebra 1 line) gs 4 products
are-products = record {
  reduced = λ i e s I X l. rw X.monomial.degree_is (reduced-least (degree_of (degrees gs) i + e) l);
  value_is = λ i e s I X l. alone-value (least (degree_of (degrees gs) i + degree (degrees gs) s))
      ∙ sym (product-value i s);
}
  where
    reduced-least : (d : ℕ) → d < 4 → IsReduced 1 (algebra 1 line) gs d (alone (least d))
    reduced-least d l = record {
      over = (is-least d l, tt);
      standard = (least-standard 3 given.0 given.1 d (omega (arith, l)) l, tt);
    }

-- every product of degree 4 is a candidate
abbrev forms : ℕ → List ℕ → List ℕ
forms i s = row_of 1 ms (generator_times 1 (degrees gs) i s)

generator : (i : ℕ) → i < 3 → IsGenerator 1 (degrees gs) i
generator i l = generator-at 1 (degrees gs) i l

below-three : (i : ℕ) → IsGenerator 1 (degrees gs) i → i < 3
below-three i I = within-length (degrees gs) i I.within

product-listed : (i e : ℕ) (s : List ℕ) → IsGenerator 1 (degrees gs) i
    → IsStandardOf 1 (algebra 1 line) gs e s → degree_of (degrees gs) i + e ≡ 4
    → IsListed ms (joined (power i 1) s)
product-listed zero e s I X d = rw
    (standard-least 3 given.0 given.1 e 3 (let z : 1 + e ≡ 4 = d in omega (arith, z)) (omega arith) s X)
    (0, (let z : 0 < 2 = omega arith in z), refl)
product-listed (suc zero) e s I X d = rw
    (standard-least 3 given.0 given.1 e 2 (let z : 2 + e ≡ 4 = d in omega (arith, z)) (omega arith) s X)
    (1, (let z : 1 < 2 = omega arith in z), refl)
product-listed (suc (suc zero)) e s I X d = rw
    (standard-least 3 given.0 given.1 e 1 (let z : 3 + e ≡ 4 = d in omega (arith, z)) (omega arith) s X)
    (0, (let z : 0 < 2 = omega arith in z), refl)
product-listed (suc (suc (suc i))) e s I X d =
    absurd (let l = below-three (suc (suc (suc i))) I in omega (arith, l))

are-forms : AreForms 1 line.mul gs given.0 4 ms forms
are-forms = record {
  row = λ i e s I X d. row-of-is-row 1 ms (generator_times 1 (degrees gs) i s);
  same = λ i e s I X d. form-of-product 1 line.mul gs 4 given.0 ms some i s (product-listed i e s I X d);
  listed = λ i e s I X d l. refl;
}

-- the exchange of y and u at y is not 0
pub exchange-of-y-and-u : exchange 1 line.mul gs products forms 0 1 (1 ∷ []) ≡ vector 1 (1 ∷ 1 ∷ [])
exchange-of-y-and-u = fun_ext (λ k. at k)
  where
    at : (k : ℕ) → exchange 1 line.mul gs products forms 0 1 (1 ∷ []) k ≡ vector 1 (1 ∷ 1 ∷ []) k
    at zero = below-path _ _ refl
    at (suc zero) = below-path _ _ refl
    at (suc (suc k)) = below-path _ _ refl

pub not-zero : exchange 1 line.mul gs products forms 0 1 (1 ∷ []) ≢ (algebra 1 line).zero
not-zero e = absurd (let z : 1 ≡ 0 = ap (λ (v : Vector 1). (v 0).0) (sym exchange-of-y-and-u ∙ e) in
    omega (arith, z))

abbrev rows : List (List ℕ)
rows = (1 ∷ 1 ∷ []) ∷ []

in-span : (i j e : ℕ) (s : List ℕ) → i < j → IsGenerator 1 (degrees gs) i → IsGenerator 1 (degrees gs) j
    → IsStandardOf 1 (algebra 1 line) gs e s
    → degree_of (degrees gs) i + (degree_of (degrees gs) j + e) ≡ 4
    → IsInSpan 2 rows (λ k. (exchange 1 line.mul gs products forms i j s k).0)
in-span i zero e s b I J X d = absurd (omega (arith, b))
in-span zero (suc zero) e s b I J X d = subst
    (λ (s : List ℕ). IsInSpan 2 rows (λ k. (exchange 1 line.mul gs products forms 0 1 s k).0))
    (sym (standard-least 3 given.0 given.1 e 1
    (let z : 1 + (2 + e) ≡ 4 = d in omega (arith, z)) (omega arith) s X))
    (in_span_congruent (λ k. congruent_eq (same k)) (in_span_row rows 0 (let z : 0 < 1 = omega arith in z)))
  where
    same : (k : ℕ) → entry (1 ∷ 1 ∷ []) k ≡ (exchange 1 line.mul gs products forms 0 1 (1 ∷ []) k).0
    same zero = refl
    same (suc zero) = refl
    same (suc (suc k)) = refl
in-span zero (suc (suc zero)) e s b I J X d = subst
    (λ (s : List ℕ). IsInSpan 2 rows (λ k. (exchange 1 line.mul gs products forms 0 2 s k).0))
    (sym (standard-least 3 given.0 given.1 e 0
    (let z : 1 + (3 + e) ≡ 4 = d in omega (arith, z)) (omega arith) s X))
    (in_span_congruent (λ k. congruent_eq (same k)) in_span_zero)
  where
    same : (k : ℕ) → 0 ≡ (exchange 1 line.mul gs products forms 0 2 [] k).0
    same zero = refl
    same (suc zero) = refl
    same (suc (suc k)) = refl
in-span (suc i) (suc zero) e s b I J X d = absurd (omega (arith, b))
in-span (suc zero) (suc (suc zero)) e s b I J X d =
    absurd (let z : 2 + (3 + e) ≡ 4 = d in omega (arith, z))
in-span (suc (suc i)) (suc (suc zero)) e s b I J X d = absurd (omega (arith, b))
in-span i (suc (suc (suc j))) e s b I J X d =
    absurd (let l = below-three (suc (suc (suc j))) J in omega (arith, l))

are-critical : AreCritical 1 line.mul gs 4 products forms rows
are-critical = record {
  each = each;
  exchanges = λ v x. subst (λ (v : Vector 1). IsInSpan 2 rows (λ k. (v k).0)) (sym x.vector_is)
      (in-span x.first x.second x.low x.monomial x.ordered x.first_is x.second_is x.standard x.degree_is);
  squares = λ v x. absurd (false≢true x.exterior);
}
  where
    y-and-u : IsExchange 1 line.mul gs 4 products forms (vector 1 (1 ∷ 1 ∷ []))
    y-and-u = record {
      first = 0;
      second = 1;
      low = 1;
      monomial = 1 ∷ [];
      ordered = omega arith;
      first_is = generator 0 (omega arith);
      second_is = generator 1 (omega arith);
      standard = record {
        monomial = is-least 1 (omega arith);
        standard = least-standard 3 given.0 given.1 1 (omega arith) (omega arith);
      };
      clear = λ k l. absurd (omega (arith, l));
      degree_is = refl;
      vector_is = sym exchange-of-y-and-u;
    }

    each : (k : ℕ) → k < 1 → IsExchange 1 line.mul gs 4 products forms (vector 1 (row rows k))
        ⊎ IsSquare 1 line.mul gs 4 products forms (vector 1 (row rows k))
    each zero l = inl y-and-u
    each (suc k) l = absurd (omega (arith, l))

pub completion : IsCompletion 1 line.mul gs given.0 4 ms products forms rows
completion = record {
  candidates = candidates;
  products_are = are-products;
  forms_are = are-forms;
  critical = are-critical;
}

reduced : IsEchelonOf 2 2 rows rows
reduced = record {
  matrix = matrix;
  echelon = record {
    not_zero = not-zero-row;
    ascending = λ i k b l. absurd (omega (arith, b, l));
    monic = monic;
    cleared = λ i k l m ne. absurd (omega (arith, l, m, ne));
  };
  spanned = are_in_span_self rows;
  spans = are_in_span_self rows;
}
  where
    below : (j : ℕ) → j < 2 → entry (1 ∷ 1 ∷ []) j < 2
    below zero l = omega arith
    below (suc zero) l = omega arith
    below (suc (suc j)) l = absurd (omega (arith, l))

    matrix : IsMatrix 2 2 rows
    matrix zero l = record { length_is = refl; below = below }
    matrix (suc i) l = absurd (omega (arith, l))

    not-zero-row : (i : ℕ) → i < 1 → pivot (row rows i) < length (row rows i)
    not-zero-row zero l = omega arith
    not-zero-row (suc i) l = absurd (omega (arith, l))

    monic : (i : ℕ) → i < 1 → entry (row rows i) (pivot (row rows i)) ≡ 1
    monic zero l = refl
    monic (suc i) l = absurd (omega (arith, l))

-- so y v leads in the consequences, and u^2 is what is left
pub y-v-leads : IsLeading 1 (algebra 1 line) (IsConsequence 1 (algebra 1 line) gs given.0 4) (1 ∷ 0 ∷ 1 ∷ [])
y-v-leads = (candidate-pivots 1 3 field line gs positive given.0 given.1 ms products forms rows rows
    completion
    reduced 0 (let z : 0 < 2 = omega arith in z)).1 (0, (let z : 0 < 1 = omega arith in z), refl)

pub u-squared-left : AreLeft 1 (algebra 1 line) gs given.0 4 ((0 ∷ 2 ∷ []) ∷ [])
u-squared-left =
    left-candidates 1 3 field line gs positive given.0 given.1 ms products forms rows rows completion reduced
