-- The values of the monomials that are left span the values of all monomials.
use Rattle.std.proofs.Common.{◌≡◌, ℕ, zero, suc, ◌+◌, ◌<◌, ◌≤◌, List, [], ◌∷◌, ◌++◌, length, map, ◌⊎◌, inl}
use Rattle.std.proofs.Common.{inr, arith, ap, ap₂, sym, ◌∙◌, refl}
use Rattle.std.specs.Prelude.{slice_index_or}
use Rattle.std.proofs.Math.Path.{fun_ext}
use Rattle.std.proofs.lemmas.Bool.{cases_lt}
use Rattle.std.proofs.lemmas.List.{length-map, get_or-map, get_or_past}
use Rattle.linear_algebra.specs.Modular.{IsCongruent, IsFieldModulo}
use Rattle.linear_algebra.specs.Rows.{entry, row, combination, IsEchelonOf, IsInSpan, AreInSpan}
use Rattle.linear_algebra.proofs.Congruences.{congruent_eq, congruent_trans, congruent_sym, congruent_mod}
use Rattle.linear_algebra.proofs.Spans.{in_span_trans, in_span_congruent, in_span_row}
use Rattle.graded_polynomials.specs.Monomials.{IsMonomial, IsMonomials}
use Rattle.graded_polynomials.specs.Polynomials.{Term, Polynomial, coefficient, scaled, IsOver}
use Rattle.graded_polynomials.proofs.Terms.{each-append, over-scaled}
use Rattle.graded_algebra.specs.Algebras.{Generator, degrees, evaluate, value, times, IsGradedCommutative}
use Rattle.graded_algebra.specs.Presentations.{IsConsequence, IsRelations}
use Rattle.graded_algebra.specs.Vectors.{Below, Vector, residue, vectors}
use Rattle.graded_algebra.proofs.Relations.{consequence-relation}
use Rattle.graded_algebra.proofs.Values.{linear-append, linear-scaled, linear-same}
use Rattle.graded_algebra.proofs.VectorLemmas.{residue-self}
use Rattle.graded_algebra.proofs.Vectors.{times-zero}
use Rattle.presentation_rows.specs.RowPolynomials.{polynomial_of, row_of}
use Rattle.presentation_rows.specs.Values.{vector, AreValues}
use Rattle.presentation_rows.proofs.RowValues.{value-row}
use Rattle.ring_completion.specs.Candidates.{AreSome, IsListed}
use Rattle.ring_completion.specs.Completions.{alone}
use Rattle.ring_completion.proofs.LinearForms.{linear-alone}
use Rattle.ring_completion.proofs.ListRows.{same-as-list}
use Rattle.ring_completion.proofs.Reduction.{Separates, reduce}

-- the row of the first w entries of a vector, from k on
abbrev pub tabulated : ℕ → ℕ → (ℕ → ℕ) → List ℕ
tabulated k zero f = []
tabulated k (suc w) f = f k ∷ tabulated (suc k) w f

entry-tabulated : (k w : ℕ) (f : ℕ → ℕ) (j : ℕ) → j < w → entry (tabulated k w f) j ≡ f (k + j)
entry-tabulated k zero f j l = absurd (omega (arith, l))
entry-tabulated k (suc w) f zero l = ap f (omega arith)
entry-tabulated k (suc w) f (suc j) l = entry-tabulated (suc k) w f j (omega arith)
    ∙ ap f (let e : suc k + j ≡ k + suc j = omega arith in e)

length-tabulated : (k w : ℕ) (f : ℕ → ℕ) → length (tabulated k w f) ≡ w
length-tabulated k zero f = refl
length-tabulated k (suc w) f = let e = length-tabulated (suc k) w f in omega (arith, e)

abbrev pub row_of_vector : (q : ℕ) → ℕ → Vector q → List ℕ
row_of_vector q w v = tabulated 0 w (λ j. (v j).0)

pub vector-of-tabulated : (q w : ℕ) (v : Vector q) → ((i : ℕ) → w ≤ i → v i ≡ residue q 0)
    → vector q (row_of_vector q w v) ≡ v
vector-of-tabulated q w v h = fun_ext (λ j. go j (cases_lt j w))
  where
    go : (j : ℕ) → (j < w) ⊎ (w ≤ j) → vector q (row_of_vector q w v) j ≡ v j
    go j (inl l) = ap (residue q)
        (entry-tabulated 0 w (λ j. (v j).0) j l ∙ ap (λ i. (v i).0) (let e : 0 + j ≡ j = omega arith in e))
        ∙ residue-self q (v j)
    go j (inr l) = ap (residue q)
        (get_or_past (row_of_vector q w v) j 0 (let e = length-tabulated 0 w (λ j. (v j).0) in
        omega (arith, e, l))) ∙ sym (h j l)

-- rows with the same vector have congruent entries
same-entries : (q : ℕ) (a b : List ℕ) → vector q a ≡ vector q b → (j : ℕ)
    → IsCongruent (suc q) (entry a j) (entry b j)
same-entries q a b e j = congruent_trans (congruent_sym (congruent_mod (entry a j)))
    (congruent_trans (congruent_eq (ap (λ (v : Vector q). (v j).0) e)) (congruent_mod (entry b j)))

module _ (q : ℕ) (field : IsFieldModulo (suc q)) (mul : ℕ → ℕ → Vector q → Vector q → Vector q)
    (In : ℕ → Vector q → Type 0)
    (L : IsGradedCommutative q (Vector q) (vectors q mul) In) (gs : List (Generator (Vector q))) (n : ℕ)
    (rs : List Polynomial)
    (R : IsRelations q (vectors q mul) gs n rs) (d : ℕ) (ns : List (List ℕ))
    (M : IsMonomials q (degrees gs) d ns)
    (ms values : List (List ℕ)) (S : AreSome q (degrees gs) d ms)
    (separates : Separates q (degrees gs) (vectors q mul) (IsConsequence q (vectors q mul) gs rs d) d ms)
    (V : AreValues q (vectors q mul) gs ms values) where
  -- the value of a monomial is that of a row over the list
  value-in-span : (m : List ℕ) → IsMonomial q (degrees gs) d m → (a : List ℕ)
      → vector q a ≡ evaluate (vectors q mul) gs m → IsInSpan (suc q) values (entry a)
  value-in-span m x a e = made
      (reduce q field (degrees gs) d ns M (vectors q mul) (IsConsequence q (vectors q mul) gs rs d)
      (λ f c. c.over) ms separates Q plus (alone m) start)
    where
      Q : List Term → Type 0
      Q f = IsOver q (degrees gs) d f × (value (vectors q mul) gs f ≡ evaluate (vectors q mul) gs m)

      start : Q (alone m)
      start = ((x, tt), linear-alone q (Vector q) (vectors q mul) L.space (evaluate (vectors q mul) gs) m)

      plus : (f t : List Term) (c : ℕ) → Q f → IsConsequence q (vectors q mul) gs rs d t → Q (f ++ scaled c t)
      plus f t c y k = (
        each-append (λ (t : Term). IsMonomial q (degrees gs) d t.monomial) f (scaled c t) y.0
            (over-scaled q (degrees gs) d c t k.over),
        linear-append q (Vector q) (vectors q mul) L.space (evaluate (vectors q mul) gs) f (scaled c t)
            ∙ ap₂ (vectors q mul).add y.1
            (linear-scaled q (Vector q) (vectors q mul) L.space (evaluate (vectors q mul) gs) c t
            ∙ ap (times (vectors q mul) c)
            (consequence-relation q (Vector q) (vectors q mul) In L gs n rs R d t k).vanishes
            ∙ times-zero q (Vector q) (vectors q mul) L.space c)
            ∙ L.space.add-zero _,
      )

      made : (g : List Term) × Q g
          × ((m : List ℕ) → IsMonomial q (degrees gs) d m
          → IsListed ms m ⊎ IsCongruent (suc q) (coefficient g m) 0)
          → IsInSpan (suc q) values (entry a)
      made (g, y, c) = (entry (row_of q ms g), record { each = λ j. at j })
        where
          same : evaluate (vectors q mul) gs m ≡ value (vectors q mul) gs (polynomial_of ms (row_of q ms g))
          same = sym y.1 ∙ linear-same q (Vector q) (vectors q mul) L.space (evaluate (vectors q mul) gs) g
              (polynomial_of ms (row_of q ms g)) (same-as-list S g y.0 c)

          at : (j : ℕ) → IsCongruent (suc q) (combination (entry (row_of q ms g)) values j) (entry a j)
          at j = congruent_trans
              (congruent_sym (congruent_mod (combination (entry (row_of q ms g)) values j)))
              (congruent_trans
              (congruent_eq
              (ap (λ (x : Below (suc q)). x.0) (sym (value-row q mul gs ms values V (row_of q ms g) j))
              ∙ ap (λ (v : Vector q). (v j).0) (sym (e ∙ same))))
              (congruent_mod (entry a j)))

  module _ (w : ℕ) (zero-past : (m : List ℕ) → IsMonomial q (degrees gs) d m → (i : ℕ) → w ≤ i
      → evaluate (vectors q mul) gs m i ≡ residue q 0) where
    -- the rows of the values of all monomials
    pub all-values : List (List ℕ)
    all-values = map (λ m. row_of_vector q w (evaluate (vectors q mul) gs m)) ns

    row-at : (k : ℕ) → k < length ns
        → row all-values k ≡ row_of_vector q w (evaluate (vectors q mul) gs (slice_index_or ns k []))
    unfolding all-values
    row-at k l = get_or-map (λ m. row_of_vector q w (evaluate (vectors q mul) gs m)) ns k [] [] l

    count : length all-values ≡ length ns
    unfolding all-values
    count = length-map ns (λ m. row_of_vector q w (evaluate (vectors q mul) gs m))

    pub are-all-values : AreValues q (vectors q mul) gs ns all-values
    are-all-values = record {
      count = count;
      each = λ k l. ap (vector q) (row-at k l)
          ∙ vector-of-tabulated q w (evaluate (vectors q mul) gs (slice_index_or ns k []))
          (zero-past (slice_index_or ns k []) (M.each k l));
    }

    pub echelon-of-all : (span : List (List ℕ)) → IsEchelonOf (suc q) w values span
        → IsEchelonOf (suc q) w all-values span
    echelon-of-all span E = record {
      matrix = E.matrix;
      echelon = E.echelon;
      spanned = λ i l. in_span_trans among (E.spanned i l);
      spans = λ k l. in_span_trans E.spans (let b : k < length ns = rw count at l in
          value-in-span (slice_index_or ns k []) (M.each k b) (row all-values k) (are-all-values.each k b));
    }
      where
        among : AreInSpan (suc q) all-values values
        among i l = let b : i < length ms = rw V.count at l in let k =
            M.all (slice_index_or ms i []) (S.each i b) in
            in_span_congruent
            (same-entries q (row all-values k.0) (row values i)
            (are-all-values.each k.0 k.1 ∙ ap (evaluate (vectors q mul) gs) k.2 ∙ sym (V.each i b)))
            (in_span_row all-values k.0 (let c = count in let z = k.1 in omega (arith, c, z)))
