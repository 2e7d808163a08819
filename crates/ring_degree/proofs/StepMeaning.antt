-- What is found of the next degree is what is said of it.
use Rattle.std.proofs.Common.{◌≡◌, ℕ, zero, suc, ◌-◌, ◌<◌, ◌≤◌, ◌↔◌, List, [], ◌∷◌, ◌++◌, length, map, arith}
use Rattle.std.proofs.Common.{ap, sym, subst, ◌∙◌, refl}
use Rattle.std.specs.Prelude.{slice_index_or}
use Rattle.std.proofs.lemmas.List.{length-map}
use Rattle.fp_rows.specs.Values.{MatrixValue}
use Rattle.linear_algebra.specs.Rows.{row, IsEchelonOf, IsReduced}
use Rattle.graded_polynomials.specs.Monomials.{IsMonomial, degree}
use Rattle.graded_polynomials.specs.Polynomials.{Polynomial, scaled}
use Rattle.graded_polynomials.specs.Texts.{power}
use Rattle.graded_polynomials.proofs.Exponents.{joined-cancel}
use Rattle.graded_algebra.specs.Algebras.{Generator, degrees}
use Rattle.graded_algebra.specs.Presentations.{IsStandard, IsConsequence}
use Rattle.graded_algebra.specs.Vectors.{Vector, GradedAlgebra, IsOfDegree, algebra}
use Rattle.presentation_rows.specs.RowPolynomials.{polynomial_of, row_of}
use Rattle.presentation_rows.proofs.RowTerms.{row-of-is-row}
use Rattle.ring_completion.specs.Borders.{AreReached}
use Rattle.ring_completion.specs.Candidates.{AreSome, IsListed, IsQuotient, AreLeft, AreCandidates}
use Rattle.ring_completion.specs.Completions.{generator_times, IsStandardOf}
use Rattle.ring_completion.specs.Left.{without_pivots}
use Rattle.ring_completion.specs.Listings.{without_factor}
use Rattle.ring_completion.proofs.Factors.{quotient-exists, quotient-divides}
use Rattle.ring_completion.proofs.ListedCandidates.{generator-at}
use Rattle.ring_completion.proofs.Listings.{degree-power, within-length, without-trimmed, without-joined}
use Rattle.ring_completion.proofs.Quotients.{IsFactorOf, factor-of}
use Rattle.ring_completion.proofs.Reached.{candidates-among}
use Rattle.ring_completion.proofs.Results.{free, separates-reached, left-of-list, form-of-list}
use Rattle.ring_degree.specs.Critical.{IsCriticalRow}
use Rattle.ring_degree.specs.Products.{AreProductsIn}
use Rattle.ring_degree.specs.Rests.{IsRest, AreRests, HasQuotientsIn, AreCandidatesIn}
use Rattle.ring_degree.specs.Steps.{IsRingBelow, IsStep}
use Rattle.ring_degree.specs.Tables.{at_generator, standard_at, rows_at, product_rows, product_in}
use Rattle.ring_degree.specs.declared.step.Step.{Step}
use Rattle.ring_degree.specs.declared.table.Table.{Table}
use Rattle.ring_degree.proofs.Degrees.{listed, rest, are-reached}
use Rattle.ring_degree.proofs.CriticalMeaning.{form, are-forms, are-critical, over-times}

mapped-at : (f : List ℕ → List ℕ) (ss : List (List ℕ)) (k : ℕ) → k < length ss
    → slice_index_or (map f ss) k [] ≡ f (slice_index_or ss k [])
mapped-at f [] k l = absurd (omega (arith, l))
mapped-at f (s ∷ ss) zero l = refl
mapped-at f (s ∷ ss) (suc k) l = mapped-at f ss k (omega (arith, l))

module _ (q n : ℕ) (G : GradedAlgebra q) (gs : List (Generator (Vector q))) (rs : List Polynomial)
    (tables : List Table) (B : IsRingBelow q G gs rs n tables)
    (low : (i : ℕ) → i < length (degrees gs) → (1 ≤ at_generator (degrees gs) i)
    × (at_generator (degrees gs) i ≤ n))
    (ms : List (List ℕ)) (P : AreProductsIn q (degrees gs) tables (suc n) ms) where
  abbrev R : AreReached q (algebra q G) gs (suc n) ms
  R = are-reached q n G gs rs tables B low ms P

  -- the quotient by a generator
  quotient-is : (i e : ℕ) (r m : List ℕ) → IsMonomial q (degrees gs) (suc n) m
      → IsQuotient q (degrees gs) i e r m
      → (without_factor i m ≡ r) × (i < length (degrees gs)) × (e ≡ suc n - at_generator (degrees gs) i)
  quotient-is i e r m M Q = (
    joined-cancel (power i 1) (without_factor i m) r (without-trimmed i m M.trimmed) Q.monomial.trimmed
        (without-joined i m (quotient-divides q (degrees gs) i e r m Q) ∙ sym Q.product),
    l,
    (let a = F.sum in let b = degree-power (degrees gs) i l in omega (arith, a, b)),
  )
    where
      F : IsFactorOf q (degrees gs) i e (suc n) r m
      F = factor-of q (degrees gs) i e (suc n) r m M Q

      l : i < length (degrees gs)
      l = within-length (degrees gs) i F.generator.within

  module _ (cs : List (List ℕ)) (C : AreCandidatesIn (degrees gs) tables ms cs) where
    in-list : (k : ℕ) → k < length cs → IsListed ms (slice_index_or cs k [])
        × HasQuotientsIn (degrees gs) tables (slice_index_or cs k [])
    in-list k l = (C.members (slice_index_or cs k [])).0 (k, l, refl)

    some-candidates : AreSome q (degrees gs) (suc n) cs
    some-candidates = record {
      each = λ k l. let i = (in-list k l).0 in subst (IsMonomial q (degrees gs) (suc n)) i.2
          (R.some.each i.0 i.1);
      descending = λ i j l b. C.descending i j [] l b;
    }

    each-standard : (k i e : ℕ) (r : List ℕ) → k < length cs
        → IsQuotient q (degrees gs) i e r (slice_index_or cs k []) → IsStandard q (algebra q G) gs e r
    each-standard k i e r l Q = let x = quotient-is i e r (slice_index_or cs k [])
        (some-candidates.each k l) Q in
        subst (λ a. IsStandard q (algebra q G) gs a r) (sym x.2)
        (subst (IsStandardOf q (algebra q G) gs (suc n - at_generator (degrees gs) i)) x.0
        ((listed q n G gs rs tables B (suc n - at_generator (degrees gs) i)
        (rest q n G gs rs tables B low i x.1).0 (without_factor i (slice_index_or cs k []))).1
        (subst (λ a. IsListed (standard_at tables (a - at_generator (degrees gs) i))
        (without_factor i (slice_index_or cs k []))) B.tables_are.count
        ((in-list k l).1 i x.1 (let z = quotient-divides q (degrees gs) i e r (slice_index_or cs k []) Q in
        omega (arith, z)))))).standard

    all-listed : (k : ℕ) → k < length ms
        → ((i e : ℕ) (r : List ℕ) → IsQuotient q (degrees gs) i e r (slice_index_or ms k [])
        → IsStandard q (algebra q G) gs e r) → IsListed cs (slice_index_or ms k [])
    all-listed k l h = (C.members m).1 ((k, l, refl), has)
      where
        m : List ℕ
        m = slice_index_or ms k []

        has : HasQuotientsIn (degrees gs) tables (slice_index_or ms k [])
        has i il b = subst (λ a. IsListed (standard_at tables (a - at_generator (degrees gs) i))
            (without_factor i (slice_index_or ms k []))) (sym B.tables_are.count)
            (subst (IsListed (standard_at tables (suc n - at_generator (degrees gs) i))) (sym x.0)
            (subst (λ a. IsListed (standard_at tables a) r.0) x.2
            ((listed q n G gs rs tables B (degree (degrees gs) r.0)
            (let y = (rest q n G gs rs tables B low i il).0 in let z = x.2 in omega (arith, y, z)) r.0).0
            record {
              monomial = r.1.monomial;
              standard = h i (degree (degrees gs) r.0) r.0 r.1;
            })))
          where
            r : (r : List ℕ) × IsQuotient q (degrees gs) i (degree (degrees gs) r) r (slice_index_or ms k [])
            r = quotient-exists q (degrees gs) (suc n) i (slice_index_or ms k []) (R.some.each k l)
                (omega (arith, b))

            x : (without_factor i (slice_index_or ms k []) ≡ r.0) × (i < length (degrees gs))
                × (degree (degrees gs) r.0 ≡ suc n - at_generator (degrees gs) i)
            x = quotient-is i (degree (degrees gs) r.0) r.0 (slice_index_or ms k []) (R.some.each k l) r.1

    pub candidates-are : AreCandidates q (algebra q G) gs (suc n) cs
    candidates-are = candidates-among q (Vector q) (algebra q G) (IsOfDegree q G) G.laws gs B.field B.positive
        (free q n B.field G gs B.positive rs B.relations) n rs B.relations ms cs R some-candidates
        each-standard all-listed

  module _ (F : List MatrixValue)
      (H : (i : ℕ) → i < length (degrees gs) → rows_at F i
      ≡ map (form q n G gs rs tables B low ms R i)
      (standard_at tables (suc n - at_generator (degrees gs) i)))
      (some : (e : ℕ) → e ≤ n → AreSome q (degrees gs) e (standard_at tables e))
      (W : (e j k : ℕ) → e ≤ n → j < length (degrees gs) → at_generator (degrees gs) j ≤ e
      → k < length (standard_at tables (e - at_generator (degrees gs) j))
      → length (row (product_rows tables e j) k) ≡ length (standard_at tables e))
      (rows E : List (List ℕ))
      (all : (v : List ℕ) → IsListed rows v ↔ IsCriticalRow q (degrees gs) tables (length ms) F v)
      (e : IsEchelonOf (suc q) (length ms) rows E) where
    left-is : AreLeft q (algebra q G) gs rs (suc n) (without_pivots E 0 ms)
    left-is = left-of-list q n B.field G gs B.positive rs B.relations ms (product_in (degrees gs) tables)
        (form q n G gs rs tables B low ms R) rows E R.some
        (separates-reached q n B.field G gs B.positive rs B.relations ms R) R.each B.tables_are.products
        (are-forms q n G gs rs tables B low ms R)
        (are-critical q n G gs rs tables B low ms R F H some W rows all) e

    form-is : (i k : ℕ) (w : List ℕ) → i < length (degrees gs)
        → k < length (standard_at tables (suc n - at_generator (degrees gs) i))
        → IsRest (suc q) E (row (rows_at F i) k) w
        → IsConsequence q (algebra q G) gs rs (suc n)
        (generator_times q (degrees gs) i
        (slice_index_or (standard_at tables (suc n - at_generator (degrees gs) i)) k [])
        ++ scaled q (polynomial_of (without_pivots E 0 ms) w))
    form-is i k w il kl X = subst (λ v. IsConsequence q (algebra q G) gs rs (suc n)
        (generator_times q (degrees gs) i s ++ scaled q (polynomial_of (without_pivots E 0 ms) v)))
        (sym X.entries)
        (form-of-list q n B.field G gs B.positive rs B.relations ms (product_in (degrees gs) tables)
        (form q n G gs rs tables B low ms R) rows E R.some
        (separates-reached q n B.field G gs B.positive rs B.relations ms R) R.each B.tables_are.products
        (are-forms q n G gs rs tables B low ms R)
        (are-critical q n G gs rs tables B low ms R F H some W rows all) e
        (generator_times q (degrees gs) i s) (row_of q ms (generator_times q (degrees gs) i s)) X.reduced
        (over-times q n G gs rs tables B low ms R i (suc n - at_generator (degrees gs) i) s
        (generator-at q (degrees gs) i il) S (rest q n G gs rs tables B low i il).1)
        (row-of-is-row q ms (generator_times q (degrees gs) i s))
        ((are-forms q n G gs rs tables B low ms R).same i (suc n - at_generator (degrees gs) i) s
        (generator-at q (degrees gs) i il) S (rest q n G gs rs tables B low i il).1)
        (subst (λ r. IsReduced (suc q) E r X.reduced) row-is X.is_reduced))
      where
        s : List ℕ
        s = slice_index_or (standard_at tables (suc n - at_generator (degrees gs) i)) k []

        S : IsStandardOf q (algebra q G) gs (suc n - at_generator (degrees gs) i)
            (slice_index_or (standard_at tables (suc n - at_generator (degrees gs) i)) k [])
        S = (listed q n G gs rs tables B (suc n - at_generator (degrees gs) i)
            (rest q n G gs rs tables B low i il).0
            (slice_index_or (standard_at tables (suc n - at_generator (degrees gs) i)) k [])).1 (k, kl, refl)

        row-is : row (rows_at F i) k ≡ row_of q ms (generator_times q (degrees gs) i
            (slice_index_or (standard_at tables (suc n - at_generator (degrees gs) i)) k []))
        row-is = ap (λ rows. row rows k) (H i il)
            ∙ mapped-at (form q n G gs rs tables B low ms R i)
            (standard_at tables (suc n - at_generator (degrees gs) i)) k kl

    pub are-step : (x : Step) → x.left ≡ without_pivots E 0 ms
        → ((i : ℕ) → i < length (degrees gs) → AreRests (suc q) E (rows_at F i) (rows_at x.forms.items i))
        → AreCandidatesIn (degrees gs) tables ms x.candidates → IsStep q G gs rs n tables x
    are-step x l f c = record {
      candidates_are = candidates-are x.candidates c;
      left_are = subst (AreLeft q (algebra q G) gs rs (suc n)) (sym l) left-is;
      forms_are = λ i k il kl. subst (λ ms. IsConsequence q (algebra q G) gs rs (suc n)
          (generator_times q (degrees gs) i
          (slice_index_or (standard_at tables (suc n - at_generator (degrees gs) i)) k [])
          ++ scaled q (polynomial_of ms (row (rows_at x.forms.items i) k)))) (sym l)
          (form-is i k (row (rows_at x.forms.items i) k) il kl ((f i il).each k
          (let a = ap length (H i il) ∙ length-map (standard_at tables (suc n - at_generator (degrees gs) i))
          (form q n G gs rs tables B low ms R i) in omega (arith, kl, a))));
    }
