-- The rows of an echelon list of relations whose pivots are none of the consequences' are the new relations,
-- where the relations lead at its pivots.
use Rattle.std.proofs.Common.{◌≡◌, ◌≢◌, ℕ, suc, ◌+◌, ◌<◌, ◌≤◌, ◌↔◌, List, [], ◌∷◌, length, true, false, ◌⊎◌}
use Rattle.std.proofs.Common.{inl, inr, arith, ap, sym, ◌∙◌, refl}
use Rattle.std.specs.Prelude.{slice_index_or}
use Rattle.std.proofs.lemmas.Bool.{cases_Bool, cases_order, cases_lt}
use Rattle.linear_algebra.specs.Modular.{IsCongruent}
use Rattle.linear_algebra.specs.Rows.{entry, row, pivot, IsRow, IsEchelon, IsPivot, is_pivot}
use Rattle.linear_algebra.proofs.Congruences.{congruent_eq}
use Rattle.linear_algebra.proofs.PivotTests.{pivot-if-found}
use Rattle.graded_polynomials.specs.Monomials.{IsMonomial}
use Rattle.graded_polynomials.specs.Polynomials.{Polynomial, coefficient}
use Rattle.graded_algebra.specs.Algebras.{Algebra, Generator, degrees}
use Rattle.graded_algebra.specs.Presentations.{IsLeading, IsRelation, IsConsequence, IsStandard, IsRelationAt}
use Rattle.graded_algebra.specs.Presentations.{IsRelationsFrom}
use Rattle.presentation_rows.specs.RowPolynomials.{polynomial_of}
use Rattle.presentation_rows.specs.Pivots.{new_relations}
use Rattle.presentation_rows.proofs.RowTerms.{Descends, descending-apart, coefficient-at}
use Rattle.presentation_rows.proofs.RowTerms.{polynomial-of-places, placed-or-zero}
use Rattle.presentation_rows.proofs.PivotTests.{none-if-not-found}

module _ (q d : ℕ) {V : Type 0} (A : Algebra V) (gs : List (Generator V)) (rs : List Polynomial)
    (ms kernel multiples : List (List ℕ))
    (monomials : (k : ℕ) → k < length ms → IsMonomial q (degrees gs) d (slice_index_or ms k []))
    (D : Descends ms) (E : IsEchelon kernel)
    (kernel-row : (i : ℕ) → i < length kernel → IsRow (suc q) (length ms) (row kernel i))
    (relations : (i : ℕ) → i < length kernel → IsRelation q A gs d (polynomial_of ms (row kernel i)))
    (leads : (k : ℕ) → k < length ms
    → IsLeading q A (IsRelation q A gs d) (slice_index_or ms k []) ↔ IsPivot kernel k)
    (standards : (k : ℕ) → k < length ms
    → IsStandard q A gs d (slice_index_or ms k []) ↔ (IsPivot kernel k → ⊥))
    (consequences : (k : ℕ) → k < length ms
    → IsLeading q A (IsConsequence q A gs rs d) (slice_index_or ms k []) ↔ IsPivot multiples k) where
  pivot-inside : (i : ℕ) → i < length kernel → pivot (row kernel i) < length ms
  pivot-inside i l = omega (arith, E.not_zero i l, (kernel-row i l).length_is)

  -- a row of the kernel is its leading monomial less standard monomials
  relation-at : (i : ℕ) → i < length kernel
      → IsRelationAt q A gs d (slice_index_or ms (pivot (row kernel i)) [])
      (record { degree = d; terms = polynomial_of ms (row kernel i) })
  relation-at i l = record {
    degree_is = refl;
    polynomial = polynomial-of-places q d (degrees gs) ms monomials D (row kernel i) (kernel-row i l);
    vanishes = (relations i l).vanishes;
    one = coefficient-at ms (row kernel i) (descending-apart ms D) (pivot (row kernel i)) (pivot-inside i l)
        ∙ E.monic i l;
    others = λ n ne. go n ne (placed-or-zero ms (row kernel i) n);
  }
    where
      at : (k : ℕ) → k < length ms → k ≢ pivot (row kernel i) → (is_pivot kernel k ≡ true)
          ⊎ (is_pivot kernel k ≡ false)
          → (IsCongruent (suc q) (coefficient (polynomial_of ms (row kernel i)) (slice_index_or ms k [])) 0)
          ⊎ (IsMonomial q (degrees gs) d (slice_index_or ms k [])
          × IsStandard q A gs d (slice_index_or ms k []))
      at k b ne (inl t) = let p = pivot-if-found kernel k t in
          inl (congruent_eq (coefficient-at ms (row kernel i) (descending-apart ms D) k b
          ∙ ap (entry (row kernel i)) (sym p.2)
          ∙ E.cleared p.0 i p.1 l (λ e. ne (sym p.2 ∙ ap (λ j. pivot (row kernel j)) e))))
      at k b ne (inr f) = inr (monomials k b, (standards k b).1 (none-if-not-found kernel k f))

      go : (n : List ℕ) → n ≢ slice_index_or ms (pivot (row kernel i)) []
          → (coefficient (polynomial_of ms (row kernel i)) n ≡ 0)
          ⊎ ((k : ℕ) × (k < length ms) × (slice_index_or ms k [] ≡ n))
          → (IsCongruent (suc q) (coefficient (polynomial_of ms (row kernel i)) n) 0)
          ⊎ (IsMonomial q (degrees gs) d n × IsStandard q A gs d n)
      go n ne (inl z) = inl (congruent_eq z)
      go n ne (inr k) = rw (← k.2)
          (at k.0 k.1 (λ e. ne (sym k.2 ∙ ap (λ j. slice_index_or ms j []) e))
          (cases_Bool (is_pivot kernel k.0)))

  -- the monomials from place k on, and the rows of the kernel from row i on: those whose pivot is not before
  -- k
  record IsSplit (rest rows : List (List ℕ)) (k i : ℕ) : Type 0 where
    places : k + length rest ≡ length ms
    monomial : (j : ℕ) → j < length rest → slice_index_or rest j [] ≡ slice_index_or ms (k + j) []
    count : i + length rows ≡ length kernel
    each : (j : ℕ) → j < length rows → row rows j ≡ row kernel (i + j)
    before : (j : ℕ) → j < i → pivot (row kernel j) < k
    here : 0 < length rows → k ≤ pivot (row rows 0)

  skip : {m : List ℕ} {rest rows : List (List ℕ)} {k i : ℕ} → IsSplit (m ∷ rest) rows k i
      → (0 < length rows → k < pivot (row rows 0))
      → IsSplit rest rows (suc k) i
  skip {k = k} s h = record {
    places = omega (arith, s.places);
    monomial = λ j l. s.monomial (suc j) (omega (arith, l))
        ∙ ap (λ x. slice_index_or ms x []) (let e : k + suc j ≡ suc k + j = omega arith in e);
    count = s.count;
    each = s.each;
    before = λ j l. omega (arith, s.before j l);
    here = h;
  }

  step : {m u : List ℕ} {rest rows : List (List ℕ)} {k i : ℕ} → IsSplit (m ∷ rest) (u ∷ rows) k i
      → pivot u ≡ k → IsSplit rest rows (suc k) (suc i)
  step {u = u} {rows = rows} {k = k} {i = i} s p = record {
    places = omega (arith, s.places);
    monomial = λ j l. s.monomial (suc j) (omega (arith, l))
        ∙ ap (λ x. slice_index_or ms x []) (let e : k + suc j ≡ suc k + j = omega arith in e);
    count = omega (arith, s.count);
    each = λ j l. s.each (suc j) (omega (arith, l))
        ∙ ap (row kernel) (let e : i + suc j ≡ suc i + j = omega arith in e);
    before = λ j l. go j l (cases_lt j i);
    here = λ l. let a : pivot (row kernel i) < pivot (row kernel (suc i)) =
        E.ascending i (suc i) (omega arith) (omega (arith, s.count, l)) in
        let b : row rows 0 ≡ row kernel (suc i) = s.each 1 (omega (arith, l))
        ∙ ap (row kernel) (let e : i + 1 ≡ suc i = omega arith in e) in
        rw b (omega (arith, a, own));
  }
    where
      own : pivot (row kernel i) ≡ k
      own = ap pivot (sym (let e : u ≡ row kernel i = s.each 0 (omega arith)
          ∙ ap (row kernel) (let z : i + 0 ≡ i = omega arith in z) in e)) ∙ p

      go : (j : ℕ) → j < suc i → (j < i) ⊎ (i ≤ j) → pivot (row kernel j) < suc k
      go j l (inl b) = omega (arith, s.before j b)
      go j l (inr b) = let e : j ≡ i = omega arith in rw e (omega (arith, own))

  no-pivot : {rest rows : List (List ℕ)} {k i : ℕ} → IsSplit rest rows k i
      → (0 < length rows → k < pivot (row rows 0)) → IsPivot kernel k → ⊥
  no-pivot {rows = rows} {k = k} {i = i} s h p = go (cases_lt p.0 i)
    where
      go : (p.0 < i) ⊎ (i ≤ p.0) → ⊥
      go (inl l) = absurd (omega (arith, s.before p.0 l, p.2))
      go (inr l) = absurd (after (cases_lt i p.0))
        where
          first : row rows 0 ≡ row kernel i
          first = s.each 0 (omega (arith, s.count, p.1, l))
              ∙ ap (row kernel) (let z : i + 0 ≡ i = omega arith in z)

          above : k < pivot (row kernel i)
          above = let a = h (omega (arith, s.count, p.1, l)) in rw (← first) a

          after : (i < p.0) ⊎ (p.0 ≤ i) → ⊥
          after (inl b) = absurd (omega (arith, E.ascending i p.0 b p.1, above, p.2))
          after (inr b) = let e : p.0 ≡ i = omega arith in absurd
              (let z : pivot (row kernel i) ≡ k = ap (λ j. pivot (row kernel j)) (sym e)
              ∙ p.2 in omega (arith, z, above))

  from-split : (rest rows : List (List ℕ)) (k i : ℕ) → IsSplit rest rows k i
      → IsRelationsFrom q A gs rs d rest (new_relations d ms multiples rows)
  from-split [] [] k i s = refl
  from-split [] (u ∷ rows) k i s = absurd (let b : i < length kernel = omega (arith, s.count) in
      let e : u ≡ row kernel i = s.each 0 (omega arith)
      ∙ ap (row kernel) (let z : i + 0 ≡ i = omega arith in z) in
      let h : k ≤ pivot (row kernel i) = (rw e at (s.here (omega arith))) in
      omega (arith, h, pivot-inside i b, s.places))
  from-split (m ∷ rest) [] k i s =
      inl (standard, from-split rest [] (suc k) i (skip s (λ l. absurd (omega (arith, l)))))
    where
      standard : IsStandard q A gs d m
      standard = let b : k < length ms = omega (arith, s.places) in
          let e : m ≡ slice_index_or ms k [] = s.monomial 0 (omega arith)
          ∙ ap (λ x. slice_index_or ms x []) (let z : k + 0 ≡ k = omega arith in z) in
          rw e ((standards k b).1
          (no-pivot s (λ l. absurd (omega (arith, l)))))
  from-split (m ∷ rest) (u ∷ rows) k i s =
      go (cases_order k (pivot u)) (λ x. from-split rest (u ∷ rows) (suc k) i x)
      (λ x. from-split rest rows (suc k) (suc i) x)
    where
      b : k < length ms
      b = omega (arith, s.places)

      c : i < length kernel
      c = omega (arith, s.count)

      e : m ≡ slice_index_or ms k []
      e = s.monomial 0 (omega arith) ∙ ap (λ x. slice_index_or ms x []) (let z : k + 0 ≡ k = omega arith in z)

      f : u ≡ row kernel i
      f = s.each 0 (omega arith) ∙ ap (row kernel) (let z : i + 0 ≡ i = omega arith in z)

      Goal : List Polynomial → Type 0
      Goal new = IsRelationsFrom q A gs rs d rest new

      at-pivot : pivot u ≡ k → Goal (new_relations d ms multiples rows)
          → (is_pivot multiples (pivot u) ≡ true)
          ⊎ (is_pivot multiples (pivot u) ≡ false)
          → IsRelationsFrom q A gs rs d (m ∷ rest) (new_relations d ms multiples (u ∷ rows))
      at-pivot p r (inl t) = rw t (inr (inl
          (rw e ((consequences k b).1 (rw p at (pivot-if-found multiples (pivot u) t))), r)))
      at-pivot p r (inr t) = rw t (inr (inr (
        record { degree = d; terms = polynomial_of ms u },
        new_relations d ms multiples rows,
        refl,
        rw e ((leads k b).1 (i, c, ap pivot (sym f) ∙ p)),
        (λ x. none-if-not-found multiples (pivot u) t (rw p ((consequences k b).0 (rw e at x)))),
        (let x = relation-at i c in rw (e, ← p, f) x),
        r,
      )))

      go : (k ≡ pivot u) ⊎ ((k < pivot u) ⊎ (pivot u < k))
          → (IsSplit rest (u ∷ rows) (suc k) i → Goal (new_relations d ms multiples (u ∷ rows)))
          → (IsSplit rest rows (suc k) (suc i) → Goal (new_relations d ms multiples rows))
          → IsRelationsFrom q A gs rs d (m ∷ rest) (new_relations d ms multiples (u ∷ rows))
      go (inl p) more r = at-pivot (sym p) (r (step s (sym p))) (cases_Bool (is_pivot multiples (pivot u)))
      go (inr (inl l)) more r = inl (
        (rw e ((standards k b).1 (no-pivot s (λ _. l)))),
        more
            (skip s (λ _. l)),
      )
      go (inr (inr l)) more r = absurd (let h = s.here (omega arith) in omega (arith, h, l))

  pub relations-of-rows : IsRelationsFrom q A gs rs d ms (new_relations d ms multiples kernel)
  relations-of-rows = from-split ms kernel 0 0 record {
    places = omega arith;
    monomial = λ j l. ap (λ x. slice_index_or ms x []) (let e : j ≡ 0 + j = omega arith in e);
    count = omega arith;
    each = λ j l. ap (row kernel) (let e : j ≡ 0 + j = omega arith in e);
    before = λ j l. absurd (omega (arith, l));
    here = λ l. omega arith;
  }
