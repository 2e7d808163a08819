-- The vector of the coefficients of a polynomial at the places of a list.
use Rattle.std.proofs.Common.{◌≡◌, ℕ, suc, ◌+◌, ◌*◌, ◌%◌, ◌<◌, ◌≤◌, List, [], ◌∷◌, ◌++◌, length, true, false}
use Rattle.std.proofs.Common.{◌⊎◌, inl, inr, arith, ap, sym, ◌∙◌, refl}
use Rattle.std.proofs.Math.Path.{fun_ext}
use Rattle.std.proofs.lemmas.Bool.{cases_Bool, cases_lt}
use Rattle.std.proofs.lemmas.List.{get_or_past}
use Rattle.linear_algebra.specs.Rows.{entry, IsRow}
use Rattle.linear_algebra.proofs.Congruences.{congruent_eq, congruent_trans, congruent_mod}
use Rattle.graded_polynomials.specs.Monomials.{same}
use Rattle.graded_polynomials.specs.Polynomials.{Term, coefficient, scaled, IsSame}
use Rattle.graded_polynomials.proofs.Terms.{coefficient-append}
use Rattle.graded_algebra.specs.Algebras.{linear, times}
use Rattle.graded_algebra.specs.Vectors.{Below, Vector, residue, vectors}
use Rattle.graded_algebra.proofs.VectorLemmas.{plus-residue, vector-comm}
use Rattle.presentation_rows.specs.RowPolynomials.{polynomial_of, row_of}
use Rattle.presentation_rows.specs.Values.{vector}
use Rattle.presentation_rows.proofs.RowSums.{row-of-same, row-plus, row-empty}
use Rattle.presentation_rows.proofs.RowTerms.{AreApart, coefficient-at, entry-row-of, entry-row-past}
use Rattle.presentation_rows.proofs.RowValues.{times-residue}
use Rattle.ring_completion.specs.Completions.{alone}
use Rattle.ring_completion.proofs.Remainders.{residue-same}

module _ (q : ℕ) (mul : ℕ → ℕ → Vector q → Vector q → Vector q) (ms : List (List ℕ)) where
  abbrev pub coefficients : List Term → Vector q
  coefficients f = vector q (row_of q ms f)

  pub coefficients-same : {f g : List Term} → IsSame q f g → coefficients f ≡ coefficients g
  coefficients-same h = ap (vector q) (row-of-same q ms h)

  pub coefficients-plus : (f g : List Term) (c : ℕ) → coefficients (f ++ scaled c g)
      ≡ (vectors q mul).add (coefficients f) (times (vectors q mul) c (coefficients g))
  coefficients-plus f g c = fun_ext (λ j. residue-same q (row-plus q ms f g c j)
      ∙ sym (plus-residue q (entry (row_of q ms f) j) (c * entry (row_of q ms g) j))
      ∙ ap (λ (x : Below (suc q)). residue q ((coefficients f j).0 + x.0))
      (sym (times-residue q mul c (coefficients g) j (entry (row_of q ms g) j) refl)))

  pub coefficients-empty : coefficients [] ≡ (vectors q mul).zero
  coefficients-empty = fun_ext (λ j. residue-same q (row-empty q ms j))

  front : (t : Term) (f : List Term) → IsSame q (t ∷ f) (f ++ scaled t.scalar (alone t.monomial))
  front t f = record {
    at = λ m. congruent_eq
        (go m (cases_Bool (same t.monomial m))
        ∙ sym (coefficient-append f (scaled t.scalar (alone t.monomial)) m));
  }
    where
      go : (m : List ℕ) → (same t.monomial m ≡ true) ⊎ (same t.monomial m ≡ false)
          → coefficient (t ∷ f) m ≡ coefficient f m + coefficient (scaled t.scalar (alone t.monomial)) m
      go m (inl e) = rw e (omega arith)
      go m (inr e) = rw e (omega arith)

  -- the coefficients are those of the terms, added
  pub coefficients-linear : (f : List Term)
      → coefficients f ≡ linear (vectors q mul) (λ m. coefficients (alone m)) f
  coefficients-linear [] = coefficients-empty
  coefficients-linear (t ∷ f) = coefficients-same (front t f)
      ∙ coefficients-plus f (alone t.monomial) t.scalar
      ∙ vector-comm q mul (coefficients f) (times (vectors q mul) t.scalar (coefficients (alone t.monomial)))
      ∙ ap ((vectors q mul).add (times (vectors q mul) t.scalar (coefficients (alone t.monomial))))
      (coefficients-linear f)

  pub coefficients-of-row : AreApart ms → (r : List ℕ) → IsRow (suc q) (length ms) r
      → coefficients (polynomial_of ms r) ≡ vector q r
  coefficients-of-row a r x = fun_ext (λ j. go j (cases_lt j (length ms)))
    where
      go : (j : ℕ) → (j < length ms) ⊎ (length ms ≤ j) → coefficients (polynomial_of ms r) j ≡ vector q r j
      go j (inl l) = residue-same q
          (congruent_trans
          (congruent_eq
          (entry-row-of q ms (polynomial_of ms r) j l ∙ ap (λ c. c % suc q) (coefficient-at ms r a j l)))
          (congruent_mod (entry r j)))
      go j (inr l) = ap (residue q)
          (entry-row-past q ms (polynomial_of ms r) j l
          ∙ sym (get_or_past r j 0 (let e = x.length_is in omega (arith, e, l))))
