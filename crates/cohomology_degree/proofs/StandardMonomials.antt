-- The monomials that are no pivots are the standard ones, and their rows are their values.
use Rattle.std.proofs.Common.{◌≡◌, ℕ, zero, suc, ◌+◌, ◌<◌, ◌↔◌, ◌⊎◌, inl, inr, List, [], ◌∷◌, length, true}
use Rattle.std.proofs.Common.{false}
use Rattle.std.proofs.Common.{cond, Bool, arith, ap, sym, ◌∙◌, refl}
use Rattle.std.specs.Prelude.{slice_index_or}
use Rattle.std.proofs.lemmas.Bool.{cases_Bool}
use mathlib.Core.Path.{subst}
use Rattle.linear_algebra.specs.Kernels.{IsKernelOf}
use Rattle.graded_polynomials.specs.Monomials.{IsMonomial, IsMonomials}
use Rattle.graded_algebra.specs.Algebras.{Algebra, Generator, degrees, evaluate}
use Rattle.graded_algebra.specs.Presentations.{IsNormalForm, IsStandard}
use Rattle.graded_algebra.specs.Vectors.{Vector, vectors}
use Rattle.presentation_rows.specs.Values.{vector, AreValues}
use Rattle.linear_algebra.specs.Choices.{IsPreimage}
use Rattle.linear_algebra.specs.Rows.{entry, IsPivot, is_pivot}
use Rattle.linear_algebra.proofs.PivotTests.{pivot-if-found}
use Rattle.presentation_rows.specs.RowPolynomials.{polynomial_of}
use Rattle.presentation_rows.proofs.PivotTests.{none-if-not-found}
use Rattle.presentation_rows.proofs.RowTerms.{each-term}
use Rattle.presentation_rows.proofs.RowValues.{value-of-combination}
use Rattle.presentation_rows.proofs.KernelLeads.{standard-pivots}
use Rattle.ring_completion.specs.Candidates.{AreSome, IsListed}
use Rattle.ring_completion.proofs.ListRows.{polynomial-of-list}
use Rattle.ring_completion.proofs.LeftLists.{stood, left, left-descend}
use Rattle.cohomology_degree.specs.Standard.{AreStandard, without_pivots}

-- what holds of the members of two lists at each place holds of those that are left
pub left-pairs : (P : List ℕ → List ℕ → Type 0) (K : List (List ℕ)) (k : ℕ) (xs ys : List (List ℕ))
    → length ys ≡ length xs
    → ((j : ℕ) → j < length xs → P (slice_index_or xs j []) (slice_index_or ys j []))
    → (length (without_pivots K k ys) ≡ length (without_pivots K k xs))
    × ((i : ℕ) → i < length (without_pivots K k xs)
    → P (slice_index_or (without_pivots K k xs) i []) (slice_index_or (without_pivots K k ys) i []))
left-pairs P K k [] [] n h = (refl, λ i l. absurd (omega (arith, l)))
left-pairs P K k [] (y ∷ ys) n h = absurd (omega (arith, n))
left-pairs P K k (x ∷ xs) [] n h = absurd (omega (arith, n))
left-pairs P K k (x ∷ xs) (y ∷ ys) n h =
    go (is_pivot K k) (left-pairs P K (suc k) xs ys (omega (arith, n)) (λ j l. h (suc j) (omega (arith, l))))
  where
    go : (b : Bool) → (length (without_pivots K (suc k) ys) ≡ length (without_pivots K (suc k) xs))
        × ((i : ℕ) → i < length (without_pivots K (suc k) xs)
        → P (slice_index_or (without_pivots K (suc k) xs) i [])
        (slice_index_or (without_pivots K (suc k) ys) i []))
        → (length (cond b (without_pivots K (suc k) ys) (y ∷ without_pivots K (suc k) ys)) ≡ length
        (cond b (without_pivots K (suc k) xs) (x ∷ without_pivots K (suc k) xs)))
        × ((i : ℕ) → i < length (cond b (without_pivots K (suc k) xs) (x ∷ without_pivots K (suc k) xs))
        → P (slice_index_or (cond b (without_pivots K (suc k) xs) (x ∷ without_pivots K (suc k) xs)) i [])
        (slice_index_or (cond b (without_pivots K (suc k) ys) (y ∷ without_pivots K (suc k) ys)) i []))
    go true s = s
    go false s = (ap suc s.0, λ i l. at i l)
      where
        at : (i : ℕ) → i < length (x ∷ without_pivots K (suc k) xs)
            → P (slice_index_or (x ∷ without_pivots K (suc k) xs) i [])
            (slice_index_or (y ∷ without_pivots K (suc k) ys) i [])
        at zero l = h 0 (omega arith)
        at (suc i) l = s.1 i (omega (arith, l))

-- the standard monomials in a list that has them all, where those of its members are standard that are no
-- pivots
pub standard-among : (q d : ℕ) {V : Type 0} (A : Algebra V) (gs : List (Generator V))
    (ms kernel : List (List ℕ))
    → AreSome q (degrees gs) d ms
    → ((k : ℕ) → k < length ms → IsStandard q A gs d (slice_index_or ms k []) ↔ (IsPivot kernel k → ⊥))
    → ((m : List ℕ) → IsMonomial q (degrees gs) d m → IsStandard q A gs d m → IsListed ms m)
    → AreStandard q A gs d (without_pivots kernel 0 ms)
standard-among q d A gs ms kernel S pivots all = record {
  each = λ i l. let s = stood kernel 0 ms i l in (
    subst (IsMonomial q (degrees gs) d) (sym s.2) (S.each s.0 s.1),
    subst (IsStandard q A gs d) (sym s.2) ((pivots s.0 s.1).1
        (none-if-not-found kernel s.0 (ap (is_pivot kernel) (let z : s.0 ≡ 0 + s.0 = omega arith in z)
        ∙ s.3))),
  );
  all = λ m k st. let j = all m k st in
      let i = left kernel 0 ms j.0 j.1 (not-found kernel (0 + j.0)
      (λ p. (pivots j.0 j.1).0 (subst (IsStandard q A gs d) (sym j.2) st)
      (subst (IsPivot kernel) (let z : 0 + j.0 ≡ j.0 = omega arith in z) p))) in
      (i.0, i.1, i.2 ∙ j.2);
  descending = left-descend kernel 0 ms S.descending;
}
  where
    not-found : (K : List (List ℕ)) (k : ℕ) → (IsPivot K k → ⊥) → is_pivot K k ≡ false
    not-found K k n = go (cases_Bool (is_pivot K k))
      where
        go : (is_pivot K k ≡ true) ⊎ (is_pivot K k ≡ false) → is_pivot K k ≡ false
        go (inl e) = absurd (n (pivot-if-found K k e))
        go (inr e) = e

pub standard-left : (q d : ℕ) (mul : ℕ → ℕ → Vector q → Vector q
    → Vector q) (gs : List (Generator (Vector q))) (ms values kernel : List (List ℕ)) → 1 < suc q
    → IsMonomials q (degrees gs) d ms → AreValues q (vectors q mul) gs ms values
    → IsKernelOf (suc q) values kernel
    → AreStandard q (vectors q mul) gs d (without_pivots kernel 0 ms)
standard-left q d mul gs ms values kernel one M V K = standard-among q d (vectors q mul) gs ms kernel
    record { each = M.each; descending = M.descending }
    (λ k l. standard-pivots q d mul gs ms values kernel one M V K k l)
    (λ m k st. M.all m k)

pub values-left : (q : ℕ) (mul : ℕ → ℕ → Vector q → Vector q
    → Vector q) (gs : List (Generator (Vector q))) (ms values kernel : List (List ℕ))
    → AreValues q (vectors q mul) gs ms values
    → AreValues q (vectors q mul) gs (without_pivots kernel 0 ms) (without_pivots kernel 0 values)
values-left q mul gs ms values kernel V =
    let p = left-pairs (λ m r. vector q r ≡ evaluate
    (vectors q mul) gs m) kernel 0 ms values V.count V.each in
    record { count = p.0; each = p.1 }

-- the preimage of a class that is 0 at the pivots is the row of its normal form
pub normal-form-among : (q d : ℕ) (mul : ℕ → ℕ → Vector q → Vector q → Vector q)
    (gs : List (Generator (Vector q))) (ms values kernel : List (List ℕ)) → AreSome q (degrees gs) d ms
    → AreValues q (vectors q mul) gs ms values
    → AreStandard q (vectors q mul) gs d (without_pivots kernel 0 ms)
    → (w u : List ℕ) → IsPreimage (suc q) values kernel w u
    → IsNormalForm q (vectors q mul) gs d (vector q w) (polynomial_of ms u)
normal-form-among q d mul gs ms values kernel S V A w u P = record {
  polynomial = polynomial-of-list S u (rw (← V.count) P.is_row);
  standard = each-term (λ t. IsStandard q (vectors q mul) gs d t.monomial) ms u
      (λ k c l e. at k l (off k c e (cases_Bool (is_pivot kernel k))));
  value_is = value-of-combination q mul gs ms values V u w P.maps;
}
  where
    off : (k c : ℕ) → entry u k ≡ suc c → (is_pivot kernel k ≡ true) ⊎ (is_pivot kernel k ≡ false)
        → is_pivot kernel k ≡ false
    off k c e (inr f) = f
    off k c e (inl t) = let p = pivot-if-found kernel k t in absurd
        (let z : entry u k ≡ 0 = ap (entry u) (sym p.2) ∙ P.zero_at_pivots p.0 p.1 in omega (arith, z, e))

    at : (k : ℕ) → k < length ms → is_pivot kernel k ≡ false
        → IsStandard q (vectors q mul) gs d (slice_index_or ms k [])
    at k l f =
        let i = left kernel 0 ms k l (ap (is_pivot kernel) (let z : 0 + k ≡ k = omega arith in z) ∙ f) in
        subst (IsStandard q (vectors q mul) gs d) i.2 (A.each i.0 i.1).1
