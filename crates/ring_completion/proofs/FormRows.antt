-- Forms of products that are 0 or are listed, and forms over what is left of the list.
use Rattle.std.proofs.Common.{◌≡◌, ℕ, zero, suc, ◌+◌, ◌<◌, List, [], ◌∷◌, ◌++◌, length, Bool, true, false}
use Rattle.std.proofs.Common.{cond, ◌⊎◌, inl, inr, arith, ap, sym, ◌∙◌, refl}
use Rattle.std.specs.List.{AllByRecursion as Each}
use Rattle.linear_algebra.specs.Modular.{IsCongruent}
use Rattle.linear_algebra.specs.Rows.{entry, row, pivot, is_pivot}
use Rattle.linear_algebra.proofs.Congruences.{congruent_refl, congruent_eq, congruent_trans, congruent_sym}
use Rattle.linear_algebra.proofs.Congruences.{congruent_add, congruent_mul_left, to_congruent}
use Rattle.graded_polynomials.specs.Monomials.{IsMonomial, fits, joined}
use Rattle.graded_polynomials.specs.Polynomials.{Term, Polynomial, coefficient, scaled, IsOver}
use Rattle.graded_polynomials.specs.Texts.{power}
use Rattle.graded_polynomials.proofs.Stored.{among}
use Rattle.graded_algebra.specs.Algebras.{Generator, degrees}
use Rattle.graded_algebra.specs.Presentations.{IsConsequence}
use Rattle.graded_algebra.specs.Vectors.{Vector, vectors}
use Rattle.graded_algebra.proofs.Ideals.{ideal-zero}
use Rattle.presentation_rows.specs.RowPolynomials.{polynomial_of, row_of}
use Rattle.presentation_rows.specs.Values.{vector}
use Rattle.linear_algebra.proofs.PivotTests.{pivot-if-found}
use Rattle.ring_completion.specs.Candidates.{AreSome, IsListed}
use Rattle.ring_completion.specs.Completions.{generator_times}
use Rattle.ring_completion.specs.Left.{without_pivots}
use Rattle.ring_completion.proofs.ListRows.{same-as-list, over-list}
use Rattle.ring_completion.proofs.Rests.{rest-zero, row-of-rest, over-plus, at-plus}

module _ (q : ℕ) (mul : ℕ → ℕ → Vector q → Vector q → Vector q) (gs : List (Generator (Vector q))) (d : ℕ)
    (rs : List Polynomial)
    (ms : List (List ℕ)) (C : AreSome q (degrees gs) d ms) where
  -- a product that does not fit is 0
  pub form-of-zero : (i : ℕ) (s u : List ℕ) → fits q (degrees gs) (joined (power i 1) s) ≡ false
      → vector q u ≡ (vectors q mul).zero
      → IsConsequence q (vectors q mul) gs rs d
      (generator_times q (degrees gs) i s ++ scaled q (polynomial_of ms u))
  form-of-zero i s u f z = rw f (row-of-rest q mul gs d rs ms C [] u tt (rw z (rest-zero q mul gs d rs ms C)))

  -- a polynomial whose monomials are listed differs from that of its row by 0
  pub form-of-listed : (f : List Term) → IsOver q (degrees gs) d f → Each (λ t. IsListed ms t.monomial) f
      → IsConsequence q (vectors q mul) gs rs d (f ++ scaled q (polynomial_of ms (row_of q ms f)))
  form-of-listed f o h = record {
    over = over-plus q mul gs d rs ms C f (polynomial_of ms (row_of q ms f)) q o
        (over-list C (row_of q ms f));
    ideal = ideal-zero q (degrees gs) rs d (f ++ scaled q (polynomial_of ms (row_of q ms f)))
        (λ m. congruent_trans
        (congruent_eq (at-plus q mul gs d rs ms C f (polynomial_of ms (row_of q ms f)) q m))
        (congruent_trans
        (congruent_add (congruent_refl (coefficient f m))
        (congruent_mul_left q
        (congruent_sym ((same-as-list C f o (λ m M. clean m (among m (IsListed ms) f h))).at m))))
        (to_congruent 0 (coefficient f m) (omega arith))));
  }
    where
      clean : (m : List ℕ) → (coefficient f m ≡ 0) ⊎ IsListed ms m
          → IsListed ms m ⊎ IsCongruent (suc q) (coefficient f m) 0
      clean m (inl z) = inr (congruent_eq z)
      clean m (inr l) = inl l

  -- a product that is listed
  pub form-of-product : (i : ℕ) (s : List ℕ) → IsListed ms (joined (power i 1) s)
      → IsConsequence q (vectors q mul) gs rs d
      (generator_times q (degrees gs) i s ++ scaled q
      (polynomial_of ms (row_of q ms (generator_times q (degrees gs) i s))))
  form-of-product i s l = form-of-listed (generator_times q (degrees gs) i s) (rw M.fitting (M, tt))
      (rw M.fitting (l, tt))
    where
      M : IsMonomial q (degrees gs) d (joined (power i 1) s)
      M = let z = C.each l.0 l.1 in rw l.2 at z

-- a row that is 0 at the pivots stands for the same polynomial over what is left of the list
left-from : (E ms : List (List ℕ)) (k : ℕ) (r : List ℕ)
    → ((j : ℕ) → is_pivot E (k + j) ≡ true → entry r j ≡ 0)
    → polynomial_of ms r ≡ polynomial_of (without_pivots E k ms) (without_pivots E k r)
left-from E [] k r h = refl
left-from E (m ∷ ms) k [] h = empty (without_pivots E k (m ∷ ms))
  where
    empty : (ms : List (List ℕ)) → [] ≡ polynomial_of ms []
    empty [] = refl
    empty (m ∷ ms) = refl
left-from E (m ∷ ms) k (x ∷ r) h = go (is_pivot E k) refl x (h 0)
    (left-from E ms (suc k) r
    (λ j p. h (suc j) (ap (is_pivot E) (let e : k + suc j ≡ suc k + j = omega arith in e) ∙ p)))
  where
    rest : List (List ℕ)
    rest = without_pivots E (suc k) ms

    left : List ℕ
    left = without_pivots E (suc k) r

    go : (b : Bool) → is_pivot E k ≡ b → (x : ℕ) → (is_pivot E (k + 0) ≡ true → x ≡ 0)
        → polynomial_of ms r ≡ polynomial_of rest left
        → polynomial_of (m ∷ ms) (x ∷ r) ≡ polynomial_of (cond b rest (m ∷ rest)) (cond b left (x ∷ left))
    go true e zero z ih = ih
    go true e (suc x) z ih = absurd
        (let y : suc x ≡ 0 = z (ap (is_pivot E) (let w : k + 0 ≡ k = omega arith in w) ∙ e) in
        omega (arith, y))
    go false e zero z ih = ih
    go false e (suc x) z ih = ap (λ f. record { scalar = suc x; monomial = m } ∷ f) ih

pub rows-over-left : (E ms : List (List ℕ)) (r : List ℕ)
    → ((i : ℕ) → i < length E → entry r (pivot (row E i)) ≡ 0)
    → polynomial_of ms r ≡ polynomial_of (without_pivots E 0 ms) (without_pivots E 0 r)
rows-over-left E ms r h = left-from E ms 0 r
    (λ j p. let i = pivot-if-found E j (ap (is_pivot E) (let z : j ≡ 0 + j = omega arith in z) ∙ p) in
    ap (entry r) (sym i.2) ∙ h i.0 i.1)
