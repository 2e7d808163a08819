-- The results, for graded commutative algebras of vectors.
use Rattle.std.proofs.Common.{◌≡◌, ℕ, suc, ◌+◌, ◌<◌, ◌≤◌, ◌∷◌, ◌↔◌, List, [], ◌++◌, length, map, true, false}
use Rattle.std.proofs.Common.{◌⊎◌, inl, inr, arith, ap, sym, ◌∙◌, refl}
use Rattle.std.specs.Prelude.{slice_index_or}
use mathlib.Core.Path.{subst}
use Rattle.std.proofs.lemmas.Bool.{cases_Bool}
use Rattle.std.specs.List.{AllByRecursion as Each}
use Rattle.linear_algebra.specs.Modular.{IsCongruent, IsFieldModulo}
use Rattle.linear_algebra.specs.Rows.{entry, IsRow, IsEchelonOf, IsReduced as IsRowReduced, IsPivot, is_pivot}
use Rattle.linear_algebra.specs.Kernels.{IsKernelOf}
use Rattle.linear_algebra.specs.Choices.{IsPreimage, IsGreedy}
use Rattle.graded_polynomials.specs.Monomials.{IsMonomial, IsMonomials}
use Rattle.graded_polynomials.specs.Polynomials.{Term, Polynomial, scaled}
use Rattle.graded_algebra.specs.Algebras.{Generator, degrees, evaluate, value, times}
use Rattle.graded_algebra.specs.Presentations.{IsLeading, IsStandard, IsConsequence, IsRelations}
use Rattle.graded_algebra.specs.Presentations.{IsNormalForm, IsSpanGenerators, generators_of}
use Rattle.graded_algebra.specs.Vectors.{Vector, GradedAlgebra, IsOfDegree, algebra, basis, unit, residue}
use Rattle.graded_algebra.proofs.Evaluation.{evaluate-in}
use Rattle.presentation_rows.proofs.NewGenerators.{chosen-units}
use Rattle.graded_polynomials.specs.Texts.{power}
use Rattle.graded_algebra.proofs.Relations.{consequence-relation, defining}
use Rattle.graded_algebra.proofs.Values.{linear-append, linear-scaled}
use Rattle.graded_algebra.proofs.VectorLemmas.{one-free}
use Rattle.graded_algebra.proofs.Vectors.{equal-from}
use Rattle.presentation_rows.specs.Pivots.{new_relations}
use Rattle.presentation_rows.specs.RowPolynomials.{polynomial_of}
use Rattle.presentation_rows.specs.Values.{vector, AreValues, AreUnitRows}
use Rattle.presentation_rows.proofs.PivotTests.{none-if-not-found}
use Rattle.linear_algebra.proofs.PivotTests.{pivot-if-found}
use Rattle.presentation_rows.proofs.RowTerms.{each-term}
use Rattle.presentation_rows.proofs.RowValues.{value-of-combination}
use Rattle.ring_completion.specs.Candidates.{AreSome, IsListed, AreCandidates, AreLeft}
use Rattle.ring_completion.specs.Left.{without_pivots, AreFormsLeft, IsCompletion}
use Rattle.graded_polynomials.specs.AllMonomials.{all_monomials}
use Rattle.graded_polynomials.proofs.AllMonomials.{all-monomials}
use Rattle.ring_completion.proofs.AddedGenerators.{up, left-with-last, list-values-with-last}
use Rattle.ring_completion.proofs.Stays.{polynomial-with-last, times-more}
use Rattle.ring_completion.specs.Borders.{HasStandardQuotient, AreReached}
use Rattle.ring_completion.specs.Completions.{generator_times, IsGenerator, AreProducts}
use Rattle.ring_completion.specs.Eliminations.{AreForms, AreCritical}
use Rattle.ring_completion.proofs.SpanRows.{all-values, are-all-values, echelon-of-all}
use Rattle.ring_completion.proofs.CriticalRows.{leading-if-pivot, reduced-form}
use Rattle.ring_completion.proofs.FormRows.{rows-over-left}
use Rattle.ring_completion.proofs.LeadingCandidates.{candidates-separate, pivot-if-leading}
use Rattle.ring_completion.proofs.LeftLeads.{standard-off-pivots, listed-if-standard}
use Rattle.ring_completion.proofs.LeftLists.{stood, left, left-descend}
use Rattle.ring_completion.proofs.ListRelations.{relations-from, merged, relations-along}
use Rattle.ring_completion.proofs.ListRows.{polynomial-of-list}
use Rattle.ring_completion.proofs.ReducedForms.{same-value}
use Rattle.ring_completion.proofs.Reached.{reached-separate, candidate-reached}
use Rattle.ring_completion.proofs.Reduction.{Separates}

module _ (q n : ℕ) (field : IsFieldModulo (suc q)) (G : GradedAlgebra q) (gs : List (Generator (Vector q)))
    (positive : Each (λ d. 0 < d) (degrees gs))
    (rs : List Polynomial) (R : IsRelations q (algebra q G) gs n rs) where
  pub free : (c : ℕ) → times (algebra q G) c (algebra q G).one ≡ (algebra q G).zero → IsCongruent (suc q) c 0
  free c e = one-free q G c field.above_one e

  all : (ns : List (List ℕ)) × IsMonomials q (degrees gs) (suc n) ns
  all = (all_monomials q (degrees gs) (suc n), all-monomials q (degrees gs) positive (suc n))

  pub separates-candidates : (ms : List (List ℕ)) → AreCandidates q (algebra q G) gs (suc n) ms
      → Separates q (degrees gs) (algebra q G) (IsConsequence q (algebra q G) gs rs (suc n)) (suc n) ms
  separates-candidates ms C = candidates-separate q field G.mul (IsOfDegree q G) G.laws gs positive free n
      rs R ms C

  pub separates-reached : (ms : List (List ℕ)) → AreReached q (algebra q G) gs (suc n) ms
      → Separates q (degrees gs) (algebra q G) (IsConsequence q (algebra q G) gs rs (suc n)) (suc n) ms
  separates-reached = reached-separate q (Vector q) (algebra q G) (IsOfDegree q G) G.laws gs field positive
      free n rs R

  pub separates-left : (ms : List (List ℕ)) → AreLeft q (algebra q G) gs rs (suc n) ms
      → Separates q (degrees gs) (algebra q G) (IsConsequence q (algebra q G) gs rs (suc n)) (suc n) ms
  separates-left ms C m M = go (C.all m M)
    where
      Leads : List ℕ → Type 0
      Leads m = IsLeading q (algebra q G) (IsConsequence q (algebra q G) gs rs (suc n)) m

      go : IsListed ms m ⊎ Leads m → IsListed ms m ⊎ ((IsListed ms m → ⊥) × Leads m)
      go (inl l) = inl l
      go (inr h) = inr ((λ i. C.each i.0 i.1 (let z : slice_index_or ms i.0 [] ≡ m = i.2 in rw z h)), h)

  -- which members of a list of products with standard monomials lead in the consequences
  module _ (ms : List (List ℕ)) (products : ℕ → List ℕ → List Term) (forms : ℕ → List ℕ → List ℕ)
      (rows E : List (List ℕ)) (S : AreSome q (degrees gs) (suc n) ms)
      (separates : Separates q (degrees gs) (algebra q G) (IsConsequence q (algebra q G) gs rs (suc n))
      (suc n) ms)
      (quotients : (k : ℕ) → k < length ms → HasStandardQuotient q (algebra q G) gs (slice_index_or ms k []))
      (P : AreProducts q (algebra q G) gs (suc n) products) (F : AreForms q G.mul gs rs (suc n) ms forms)
      (K : AreCritical q G.mul gs (suc n) products forms rows)
      (e : IsEchelonOf (suc q) (length ms) rows E) where
    abbrev Leads : List ℕ → Type 0
    Leads m = IsLeading q (algebra q G) (IsConsequence q (algebra q G) gs rs (suc n)) m

    pub list-pivots : (k : ℕ) → k < length ms
        → IsLeading q (algebra q G) (IsConsequence q (algebra q G) gs rs (suc n)) (slice_index_or ms k [])
        ↔ IsPivot E k
    list-pivots k l = (
      pivot-if-leading q field G.mul (IsOfDegree q G) G.laws gs positive free n rs R ms S separates quotients
          all.0 all.1 products P forms F rows E K e k l,
      (λ p. leading-if-pivot q field G.mul (IsOfDegree q G) G.laws gs positive free n rs R ms S
          products P forms F rows E K e p.0 k p.1 p.2 l),
    )

    -- those that are no pivots are the monomials that lead in no consequence
    pub left-of-list : AreLeft q (algebra q G) gs rs (suc n) (without_pivots E 0 ms)
    left-of-list = record {
      some = record {
        each = λ i l. let s = stood E 0 ms i l in
            subst (IsMonomial q (degrees gs) (suc n)) (sym s.2) (S.each s.0 s.1);
        descending = left-descend E 0 ms S.descending;
      };
      each = λ k l h. let s = stood E 0 ms k l in
          none-if-not-found E s.0 (ap (is_pivot E) (let z : s.0 ≡ 0 + s.0 = omega arith in z) ∙ s.3)
          ((list-pivots s.0 s.1).0 (subst Leads s.2 h));
      all = λ m M. go m (separates m M);
    }
      where
        Left : List ℕ → Type 0
        Left m = IsListed (without_pivots E 0 ms) m ⊎ Leads m

        go : (m : List ℕ) → IsListed ms m ⊎ ((IsListed ms m → ⊥) × Leads m) → Left m
        go m (inr h) = inr h.1
        go m (inl i) = pick (cases_Bool (is_pivot E i.0))
          where
            pick : (is_pivot E i.0 ≡ true) ⊎ (is_pivot E i.0 ≡ false) → Left m
            pick (inl t) = inr (subst Leads i.2 ((list-pivots i.0 i.1).1 (pivot-if-found E i.0 t)))
            pick (inr f) = let s = left E 0 ms i.0 i.1
                (ap (is_pivot E) (let z : 0 + i.0 ≡ i.0 = omega arith in z) ∙ f) in inl (s.0, s.1, s.2 ∙ i.2)

    -- a form reduced by the critical rows is a form over what is left of the list
    pub form-of-list : AreFormsLeft q (algebra q G) gs rs (suc n) ms E
    form-of-list f r w o x c D = subst (λ g. IsConsequence q (algebra q G) gs rs (suc n) (f ++ scaled q g))
        (rows-over-left E ms w D.zero_at_pivots)
        (reduced-form q field G.mul (IsOfDegree q G) G.laws gs positive free n rs R ms S
        products P forms F rows E K e f r w o x c D)

  -- the same for the candidates
  module _ (ms : List (List ℕ)) (products : ℕ → List ℕ → List Term) (forms : ℕ → List ℕ → List ℕ)
      (rows E : List (List ℕ))
      (C : IsCompletion q G.mul gs rs (suc n) ms products forms rows)
      (e : IsEchelonOf (suc q) (length ms) rows E) where
    quotients-of : (k : ℕ) → k < length ms → HasStandardQuotient q (algebra q G) gs (slice_index_or ms k [])
    quotients-of = candidate-reached q (Vector q) (algebra q G) (IsOfDegree q G) G.laws gs field positive
        free n rs R ms C.candidates

    pub candidate-pivots : (k : ℕ) → k < length ms
        → IsLeading q (algebra q G) (IsConsequence q (algebra q G) gs rs (suc n)) (slice_index_or ms k [])
        ↔ IsPivot E k
    candidate-pivots = list-pivots ms products forms rows E C.candidates.some
        (separates-candidates ms C.candidates) quotients-of C.products_are C.forms_are C.critical e

    pub left-candidates : AreLeft q (algebra q G) gs rs (suc n) (without_pivots E 0 ms)
    left-candidates = left-of-list ms products forms rows E C.candidates.some
        (separates-candidates ms C.candidates) quotients-of C.products_are C.forms_are C.critical e

    pub form-over-left : AreFormsLeft q (algebra q G) gs rs (suc n) ms E
    form-over-left = form-of-list ms products forms rows E C.candidates.some
        (separates-candidates ms C.candidates) quotients-of C.products_are C.forms_are C.critical e

  -- relations and standard monomials over a list off which all monomials lead in the consequences
  module _ (ms values kernel : List (List ℕ)) (S : AreSome q (degrees gs) (suc n) ms)
      (separates : Separates q (degrees gs) (algebra q G) (IsConsequence q (algebra q G) gs rs (suc n))
      (suc n) ms)
      (V : AreValues q (algebra q G) gs ms values) (K : IsKernelOf (suc q) values kernel) where
    pub relations-of-list : (multiples : List (List ℕ))
        → ((k : ℕ) → k < length ms → IsLeading q (algebra q G) (IsConsequence q (algebra q G) gs rs (suc n))
        (slice_index_or ms k []) ↔ IsPivot multiples k)
        → IsRelations q (algebra q G) gs (suc n) (rs ++ new_relations (suc n) ms multiples kernel)
    relations-of-list multiples h = (
      rs,
      new_relations (suc n) ms multiples kernel,
      all.0,
      R,
      all.1,
      relations-along q (algebra q G) gs rs (suc n) all.0 ms (new_relations (suc n) ms multiples kernel)
          (merged (IsLeading q (algebra q G) (IsConsequence q (algebra q G) gs rs (suc n))) all.0 ms
          all.1.descending S.descending
          (λ m i. all.1.all m (let z = S.each i.0 i.1 in rw i.2 at z))
          (λ m i. separates m (let z = all.1.each i.0 i.1 in rw i.2 at z)))
          (relations-from q field G.mul (IsOfDegree q G) G.laws gs n rs R (suc n) all.0 all.1 ms values kernel
          multiples S separates V K h),
      refl,
    )

    pub standard-of-list : (k : ℕ) → k < length ms
        → IsStandard q (algebra q G) gs (suc n) (slice_index_or ms k []) ↔ (IsPivot kernel k → ⊥)
    standard-of-list k l = standard-off-pivots q field G.mul (IsOfDegree q G) G.laws gs n rs R (suc n) all.0
        all.1 ms values kernel S separates V K k l

    pub all-standard : (m : List ℕ) → IsMonomial q (degrees gs) (suc n) m
        → IsStandard q (algebra q G) gs (suc n) m → IsListed ms m
    all-standard m M s = listed-if-standard q field G.mul (IsOfDegree q G) G.laws gs n rs R (suc n) all.0
        all.1 ms values kernel S separates V K m M s

    -- the preimage of a class that is 0 at the kernel's pivots
    pub normal-form-of-list : (w u : List ℕ) → IsPreimage (suc q) values kernel w u
        → IsNormalForm q (algebra q G) gs (suc n) (vector q w) (polynomial_of ms u)
    normal-form-of-list w u P = record {
      polynomial = polynomial-of-list S u (rw (← V.count) P.is_row);
      standard = each-term (λ t. IsStandard q (algebra q G) gs (suc n) t.monomial) ms u
          (λ k c l e. (standard-of-list k l).1 (λ p. at-pivot k c e p));
      value_is = value-of-combination q G.mul gs ms values V u w P.maps;
    }
      where
        at-pivot : (k c : ℕ) → entry u k ≡ suc c → IsPivot kernel k → ⊥
        at-pivot k c e p = absurd
            (let z : entry u k ≡ 0 = ap (entry u) (sym p.2) ∙ P.zero_at_pivots p.0 p.1 in omega (arith, z, e))

    -- the row of a form, reduced by the kernel, is the product as a sum of standard monomials
    pub product-of-form : (f : List Term) (r w : List ℕ)
        → IsConsequence q (algebra q G) gs rs (suc n) (f ++ scaled q (polynomial_of ms r))
        → IsRow (suc q) (length ms) w → IsRowReduced (suc q) kernel r w
        → IsNormalForm q (algebra q G) gs (suc n) (value (algebra q G) gs f) (polynomial_of ms w)
    product-of-form f r w c x D = record {
      polynomial = polynomial-of-list S w x;
      standard = each-term (λ t. IsStandard q (algebra q G) gs (suc n) t.monomial) ms w
          (λ k c l e. (standard-of-list k l).1 (λ p. at-pivot k c e p));
      value_is = same-value q G.mul gs ms values kernel V K r w D
          ∙ sym (equal-from q (Vector q) (algebra q G) G.laws.space _ _
          (ap ((algebra q G).add (value (algebra q G) gs f))
          (sym (linear-scaled q (Vector q) (algebra q G) G.laws.space (evaluate (algebra q G) gs) q
          (polynomial_of ms r)))
          ∙ sym (linear-append q (Vector q) (algebra q G) G.laws.space (evaluate (algebra q G) gs) f
          (scaled q (polynomial_of ms r)))
          ∙ (consequence-relation q (Vector q) (algebra q G) (IsOfDegree q G) G.laws gs n rs R (suc n)
          (f ++ scaled q (polynomial_of ms r)) c).vanishes));
    }
      where
        at-pivot : (k c : ℕ) → entry w k ≡ suc c → IsPivot kernel k → ⊥
        at-pivot k c e p = absurd
            (let z : entry w k ≡ 0 = ap (entry w) (sym p.2) ∙ D.zero_at_pivots p.0 p.1 in omega (arith, z, e))

  zero-past : (m : List ℕ) → IsMonomial q (degrees gs) (suc n) m → (i : ℕ) → G.ranks (suc n) ≤ i
      → evaluate (algebra q G) gs m i ≡ residue q 0
  zero-past m M i l = let h = evaluate-in q (Vector q) (algebra q G) (IsOfDegree q G) G.laws gs m in
      h i (rw M.degree_is l)

  -- the values of what is left span those of all monomials, and so give the new generators
  pub generators-of-left : (ms values span unit_rows : List (List ℕ)) (positions : List ℕ)
      → AreLeft q (algebra q G) gs rs (suc n) ms → AreValues q (algebra q G) gs ms values
      → IsSpanGenerators q (algebra q G) (basis q G) n gs → IsEchelonOf (suc q) (G.ranks (suc n)) values span
      → AreUnitRows (G.ranks (suc n)) unit_rows
      → IsGreedy (suc q) unit_rows span positions
      → IsSpanGenerators q (algebra q G) (basis q G) (suc n)
      (gs ++ generators_of q (algebra q G) (suc n) (map (unit q) positions))
  generators-of-left ms values span unit_rows positions C V H E U g = (
    gs,
    all.0,
    map (unit q) positions,
    H,
    all.1,
    chosen-units q (G.ranks (suc n)) G.mul gs all.0
        (all-values q field G.mul (IsOfDegree q G) G.laws gs n rs R (suc n) all.0 all.1 ms values C.some
        (separates-left ms C) V (G.ranks (suc n)) zero-past)
        span unit_rows
        (are-all-values q field G.mul (IsOfDegree q G) G.laws gs n rs R (suc n) all.0 all.1 ms values C.some
        (separates-left ms C) V (G.ranks (suc n)) zero-past)
        (echelon-of-all q field G.mul (IsOfDegree q G) G.laws gs n rs R (suc n) all.0 all.1 ms values C.some
        (separates-left ms C) V (G.ranks (suc n)) zero-past span E) U
        positions g,
    refl,
  )

  -- one more generator
  pub left-and-last : (g : Generator (Vector q)) (ms : List (List ℕ)) → g.degree ≡ suc n
      → AreLeft q (algebra q G) gs rs (suc n) ms
      → AreLeft q (algebra q G) (gs ++ g ∷ []) rs (suc n) (ms ++ power (length (degrees gs)) 1 ∷ [])
  left-and-last g ms d C = left-with-last q n (algebra q G) gs g d rs
      (λ r o. (defining q (Vector q) (algebra q G) gs n rs R r o).vanishes.over)
      (λ r o. (defining q (Vector q) (algebra q G) gs n rs R r o).positive) positive ms C

  pub values-and-last : (g : Generator (Vector q)) (ms values : List (List ℕ)) (w : List ℕ) → g.degree ≡ suc n
      → AreLeft q (algebra q G) gs rs (suc n) ms
      → AreValues q (algebra q G) gs ms values → vector q w ≡ g.class → IsOfDegree q G g.degree g.class
      → AreValues q (algebra q G) (gs ++ g ∷ []) (ms ++ power (length (degrees gs)) 1 ∷ []) (values ++ w ∷ [])
  values-and-last g ms values w d C V e h = list-values-with-last q (suc n) G.mul gs g all.0
      (all-values q field G.mul (IsOfDegree q G) G.laws gs n rs R (suc n) all.0 all.1 ms values C.some
      (separates-left ms C) V (G.ranks (suc n)) zero-past)
      ms values w (rw d all.1)
      (are-all-values q field G.mul (IsOfDegree q G) G.laws gs n rs R (suc n) all.0 all.1 ms values C.some
      (separates-left ms C) V (G.ranks (suc n)) zero-past)
      C.some V e (G.laws.one-mul g.degree g.class h)

  pub form-and-last : (g : Generator (Vector q)) (ms : List (List ℕ)) (i e : ℕ) (x u : List ℕ)
      → g.degree ≡ suc n → AreLeft q (algebra q G) gs rs (suc n) ms
      → IsGenerator q (degrees gs) i → IsMonomial q (degrees gs) e x → length u ≡ length ms
      → IsConsequence q (algebra q G) gs rs (suc n)
      (generator_times q (degrees gs) i x ++ scaled q (polynomial_of ms u))
      → IsConsequence q (algebra q G) (gs ++ g ∷ []) rs (suc n)
      (generator_times q (degrees (gs ++ g ∷ [])) i x ++ scaled q
      (polynomial_of (ms ++ power (length (degrees gs)) 1 ∷ []) (u ++ 0 ∷ [])))
  form-and-last g ms i e x u d C I M l c = rw (
    polynomial-with-last ms (power (length (degrees gs)) 1) u l,
    times-more q (algebra q G) gs (g ∷ []) i e x I M,
  )
      (up q n (algebra q G) gs g d rs
      (λ r o. (defining q (Vector q) (algebra q G) gs n rs R r o).vanishes.over)
      (λ r o. (defining q (Vector q) (algebra q G) gs n rs R r o).positive) positive ms C _ c)

  pub nothing-leads : (ms : List (List ℕ)) → AreLeft q (algebra q G) gs rs (suc n) ms → (k : ℕ)
      → k < length ms
      → IsLeading q (algebra q G) (IsConsequence q (algebra q G) gs rs (suc n)) (slice_index_or ms k [])
      ↔ IsPivot [] k
  nothing-leads ms C k l = ((λ h. absurd (C.each k l h)), (λ p. absurd (let b = p.1 in omega (arith, b))))
