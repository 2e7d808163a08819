-- The monomials of the next degree that lead in no consequence of the relations: their quotients, and one
-- more generator.
use Rattle.std.proofs.Common.{◌≡◌, ℕ, suc, ◌+◌, ◌<◌, ◌⊎◌, inl, inr, List, [], ◌∷◌, ◌++◌, length, arith, ap}
use Rattle.std.proofs.Common.{sym, ◌∙◌}
use Rattle.std.proofs.Common.{refl, append_assoc}
use Rattle.std.proofs.lemmas.Bool.{cases_order}
use Rattle.std.specs.Prelude.{slice_index_or, All}
use Rattle.std.specs.List.{AllByRecursion as Each}
use Rattle.std.proofs.lemmas.List.{get_or_past, get_or_push, get_or_append_left, length_push}
use Rattle.std.proofs.lemmas.List.Elements.{All-from_get_or}
use mathlib.Core.Path.{subst}
use Rattle.p_groups.specs.PGroups.{PGroup, largest_residue}
use Rattle.p_groups.proofs.Fields.{field}
use Rattle.fp_rows.specs.Values.{MatrixValue}
use Rattle.graded_polynomials.specs.Monomials.{exponent, joined, IsGreater, IsMonomial, IsTrimmed}
use Rattle.graded_polynomials.specs.Polynomials.{Polynomial}
use Rattle.graded_polynomials.specs.Texts.{power}
use Rattle.graded_polynomials.proofs.Exponents.{exponent-joined, same-exponents}
use Rattle.graded_polynomials.proofs.Monomials.{trimmed-joined}
use Rattle.graded_algebra.specs.Algebras.{Generator, degrees}
use Rattle.graded_algebra.specs.Presentations.{IsRelations}
use Rattle.graded_algebra.specs.Vectors.{Vector, residue, IsOfDegree}
use Rattle.presentation_rows.specs.Factors.{IsLastFactor}
use Rattle.presentation_rows.specs.Values.{vector, AreValues}
use Rattle.min_res.specs.Stages.{rank_of}
use Rattle.chain_lift.specs.Values.{LiftValue}
use Rattle.ring_completion.specs.Candidates.{AreLeft, IsQuotient}
use Rattle.ring_completion.proofs.Factors.{power-here, power-elsewhere}
use Rattle.ring_completion.proofs.Quotients.{power-trimmed, consequence-by-quotient}
use Rattle.ring_completion.proofs.Results.{free, left-and-last, values-and-last}
use Rattle.cohomology_degree.specs.Rings.{cohomology}
use Rattle.cohomology_degree.specs.Degrees.{classes, degrees_of, new_lift, AreLeftOf}
use Rattle.cohomology_degree.specs.Degrees.{HasStandardQuotients}
use Rattle.cohomology_degree.specs.declared.degree.Valued.{Valued}
use Rattle.cohomology_degree.proofs.Factors.{degrees-are}
use Rattle.cohomology_degree.specs.Graded.{graded_classes}
use Rattle.cohomology_degree.proofs.Growing.{classes-append}

-- a monomial without its last factor is a quotient
pub last-quotient : (q e i : ℕ) (ds n m : List ℕ) → IsTrimmed m → IsMonomial q ds e n → IsLastFactor i n m
    → IsQuotient q ds i e n m
last-quotient q e i ds n m t M F = record {
  monomial = M;
  product = same-exponents (joined (power i 1) n) m
      (trimmed-joined (power i 1) n (power-trimmed i) M.trimmed) t
      (λ j. exponent-joined (power i 1) n j ∙ at j (cases_order j i));
}
  where
    at : (j : ℕ) → (j ≡ i) ⊎ ((j < i) ⊎ (i < j)) → exponent (power i 1) j + exponent n j ≡ exponent m j
    at j (inl e) = rw e (let a = power-here i 1 in let b = F.here in omega (arith, a, b))
    at j (inr (inl l)) =
        let a = power-elsewhere i 1 j (λ e. absurd (omega (arith, e, l))) in
        let b = F.before j l in
        omega (arith, a, b)
    at j (inr (inr l)) =
        let a = power-elsewhere i 1 j (λ e. absurd (omega (arith, e, l))) in
        let b = (F.after j l).0 in
        let c = (F.after j l).1 in
        omega (arith, a, b, c)

module _ (G : PGroup) (n : ℕ) (lifts : List LiftValue) (rs : List Polynomial)
    (positive : Each (λ d. 0 < d) (degrees (classes G lifts)))
    (R : IsRelations (largest_residue G) (cohomology G) (classes G lifts) n rs) where
  abbrev q : ℕ
  q = largest_residue G

  abbrev gs : List (Generator (Vector (largest_residue G)))
  gs = classes G lifts

  pub left-quotients : (ms : List (List ℕ)) → AreLeft q (cohomology G) gs rs (suc n) ms
      → All (HasStandardQuotients G lifts) ms
  left-quotients ms A = All-from_get_or (HasStandardQuotients G lifts) ms [] (λ k l i e r Q h. A.each k l
      (consequence-by-quotient q (Vector q) (cohomology G) (IsOfDegree q (graded_classes G))
      (graded_classes G).laws gs (field G) positive (free q n (field G) (graded_classes G) gs positive rs R)
      n rs R (slice_index_or ms k []) (A.some.each k l)
      record { generator = i; degree = e; quotient = r; is_quotient = Q; leads = h }))

  module _ (class : List ℕ) (w-is : length class ≡ rank_of G (suc n)) where
    abbrev g : Generator (Vector (largest_residue G))
    g = record { degree = suc n; class = vector (largest_residue G) class }

    more : classes G (lifts ++ new_lift G (suc n) class ∷ []) ≡ gs ++ g ∷ []
    more = classes-append G lifts (new_lift G (suc n) class ∷ [])

    count : length (degrees gs) ≡ length (degrees_of lifts)
    count = ap (λ (x : List ℕ). length x) (degrees-are G lifts)

    left-with-new : (ms : List (List ℕ)) → AreLeft q (cohomology G) gs rs (suc n) ms
        → AreLeft q (cohomology G) (classes G (lifts ++ new_lift G (suc n) class ∷ [])) rs (suc n)
        (ms ++ power (length (degrees_of lifts)) 1 ∷ [])
    left-with-new ms A =
        subst (λ hs. AreLeft q (cohomology G) hs rs (suc n) (ms ++ power (length (degrees_of lifts)) 1 ∷ []))
        (sym more)
        (subst (λ k. AreLeft q (cohomology G) (gs ++ g ∷ []) rs (suc n) (ms ++ power k 1 ∷ [])) count
        (left-and-last q n (field G) (graded_classes G) gs positive rs R g ms refl A))

    values-with-new : (ms values : List (List ℕ)) → AreLeft q (cohomology G) gs rs (suc n) ms
        → AreValues q (cohomology G) gs ms values
        → AreValues q (cohomology G) (classes G (lifts ++ new_lift G (suc n) class ∷ []))
        (ms ++ power (length (degrees_of lifts)) 1 ∷ []) (values ++ class ∷ [])
    values-with-new ms values A V =
        subst (λ hs. AreValues q (cohomology G) hs (ms ++ power (length (degrees_of lifts)) 1 ∷ [])
        (values ++ class ∷ [])) (sym more)
        (subst (λ k. AreValues q (cohomology G) (gs ++ g ∷ []) (ms ++ power k 1 ∷ []) (values ++ class ∷ []))
        count
        (values-and-last q n (field G) (graded_classes G) gs positive rs R g ms values class refl A V refl
        (λ k l. ap (residue q) (get_or_past class k 0 (omega (arith, w-is, l))))))

    -- the monomials stand before that of one more generator
    pub greater-than-new : (k : ℕ) (ms : List (List ℕ)) → AreLeft q (cohomology G) gs rs (suc n) ms
        → k ≡ length (degrees_of lifts) → All (λ m. IsGreater m (power k 1)) ms
    greater-than-new k ms A e = rw e (All-from_get_or (λ (m : List ℕ). IsGreater m last) ms [] (λ i l.
        subst (λ x. IsGreater x last) (get_or_append_left ms (last ∷ []) [] i l)
        (subst (λ x. IsGreater (slice_index_or (ms ++ last ∷ []) i []) x)
        (get_or_push ms last [] (length ms) refl)
        ((left-with-new ms A).some.descending i (length ms) l
        (let c = length_push ms last in omega (arith, c))))))
      where
        last : List ℕ
        last = power (length (degrees_of lifts)) 1

    -- what is left and its values, with one more generator
    pub left-more : (v w : Valued) → AreLeftOf G rs (suc n) lifts v
        → w.monomials ≡ v.monomials ++ power (length (degrees_of lifts)) 1 ∷ []
        → w.values ≡ record v.values { rows = v.values.rows ++ class ∷ [] }
        → AreLeftOf G rs (suc n) (lifts ++ new_lift G (suc n) class ∷ []) w
    left-more v w A em ev = record {
      valued = record {
        prime = ap (λ (m : MatrixValue). m.p) ev ∙ A.valued.prime;
        width = ap (λ (m : MatrixValue). m.width) ev ∙ A.valued.width;
        some = left.some;
        values = subst (λ ms. AreValues q (cohomology G) (classes G (lifts ++ new_lift G (suc n) class ∷ []))
            ms w.values.rows) (sym em)
            (subst (λ rows. AreValues q (cohomology G) (classes G (lifts ++ new_lift G (suc n) class ∷ []))
            (v.monomials ++ power (length (degrees_of lifts)) 1 ∷ []) rows)
            (sym (ap (λ (m : MatrixValue). m.rows) ev))
            (values-with-new v.monomials v.values.rows A.left A.valued.values));
      };
      left = left;
    }
      where
        left : AreLeft q (cohomology G) (classes G (lifts ++ new_lift G (suc n) class ∷ [])) rs (suc n)
            w.monomials
        left = subst (λ ms. AreLeft q (cohomology G) (classes G (lifts ++ new_lift G (suc n) class ∷ [])) rs
            (suc n) ms) (sym em) (left-with-new v.monomials A.left)

-- one more lift behind those that were added before
pub left-added : (G : PGroup) (n : ℕ) (lifts old new : List LiftValue) (rs : List Polynomial)
    (class : List ℕ) (v w : Valued) → Each (λ d. 0 < d) (degrees (classes G (lifts ++ old)))
    → IsRelations (largest_residue G) (cohomology G) (classes G (lifts ++ old)) n rs
    → length class ≡ rank_of G (suc n) → AreLeftOf G rs (suc n) (lifts ++ old) v
    → new ≡ old ++ new_lift G (suc n) class ∷ []
    → w.monomials ≡ v.monomials ++ power (length (degrees_of (lifts ++ old))) 1 ∷ []
    → w.values ≡ record v.values { rows = v.values.rows ++ class ∷ [] }
    → AreLeftOf G rs (suc n) (lifts ++ new) w
left-added G n lifts old new rs class v w positive R l A en em ev =
    subst (λ ls. AreLeftOf G rs (suc n) ls w) (append_assoc lifts old (new_lift G (suc n) class ∷ [])
    ∙ ap (λ xs. lifts ++ xs) (sym en))
    (left-more G n (lifts ++ old) rs positive R class l v w A em ev)
