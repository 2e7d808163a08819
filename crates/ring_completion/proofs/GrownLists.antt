-- The lists of standard monomials with one more degree, and maybe more generators.
use Rattle.std.proofs.Common.{◌≡◌, ℕ, suc, ◌+◌, ◌<◌, ◌≤◌, ◌↔◌, List, [], ◌∷◌, ◌++◌, length, true, false, ◌⊎◌}
use Rattle.std.proofs.Common.{inl, inr, arith, ap, sym, ◌∙◌, refl}
use Rattle.std.specs.Prelude.{slice_index_or}
use mathlib.Core.Path.{subst}
use Rattle.std.proofs.lemmas.Bool.{cases_Bool, cases_lt}
use Rattle.std.proofs.lemmas.List.{get_or_append_left, get_or_push}
use Rattle.std.specs.List.{AllByRecursion as Each}
use Rattle.graded_polynomials.specs.Monomials.{IsMonomial}
use Rattle.graded_algebra.specs.Algebras.{Algebra, Generator, degrees}
use Rattle.graded_algebra.specs.Presentations.{IsStandard}
use Rattle.linear_algebra.specs.Rows.{IsPivot, is_pivot}
use Rattle.presentation_rows.proofs.PivotTests.{none-if-not-found}
use Rattle.linear_algebra.proofs.PivotTests.{pivot-if-found}
use Rattle.ring_completion.specs.Candidates.{AreSome, IsListed}
use Rattle.ring_completion.specs.Completions.{IsStandardOf}
use Rattle.ring_completion.specs.Left.{without_pivots}
use Rattle.ring_completion.specs.Listings.{AreStandardLists}
use Rattle.ring_completion.proofs.LeftLists.{stood, left, left-descend}
use Rattle.ring_completion.proofs.Stays.{monomial-up, monomial-down, standard-up, standard-down}

module _ (q : ℕ) {V : Type 0} (A : Algebra V) (gs new : List (Generator V)) (n : ℕ)
    (above : Each (λ e. n < e) (degrees new))
    (lists : List (List (List ℕ))) (count : length lists ≡ n) (S : AreStandardLists q A gs n lists)
    (ms kernel : List (List ℕ)) (some : AreSome q (degrees (gs ++ new)) (suc n) ms)
    (pivots : (k : ℕ) → k < length ms
    → IsStandard q A (gs ++ new) (suc n) (slice_index_or ms k []) ↔ (IsPivot kernel k → ⊥))
    (all : (m : List ℕ) → IsMonomial q (degrees (gs ++ new)) (suc n) m → IsStandard q A (gs ++ new) (suc n) m
    → IsListed ms m) where
  abbrev here : List (List ℕ)
  here = without_pivots kernel 0 ms

  abbrev grown : List (List (List ℕ))
  grown = lists ++ here ∷ []

  before : (e : ℕ) → e < n → slice_index_or grown e [] ≡ slice_index_or lists e []
  before e l = get_or_append_left lists (here ∷ []) [] e (omega (arith, count, l))

  last : slice_index_or grown n [] ≡ here
  last = ap (λ e. slice_index_or (lists ++ here ∷ []) e []) (sym count)
      ∙ get_or_push lists here [] (length lists) refl

  here-some : AreSome q (degrees (gs ++ new)) (suc n) here
  here-some = record {
    each = λ i l. let s = stood kernel 0 ms i l in
        subst (IsMonomial q (degrees (gs ++ new)) (suc n)) (sym s.2) (some.each s.0 s.1);
    descending = left-descend kernel 0 ms some.descending;
  }

  here-standard : (k : ℕ) → k < length here → IsStandard q A (gs ++ new) (suc n) (slice_index_or here k [])
  here-standard k l = let s = stood kernel 0 ms k l in subst (IsStandard q A (gs ++ new) (suc n)) (sym s.2)
      ((pivots s.0 s.1).1
      (none-if-not-found kernel s.0 (ap (is_pivot kernel) (let z : s.0 ≡ 0 + s.0 = omega arith in z) ∙ s.3)))

  here-all : (m : List ℕ) → IsStandardOf q A (gs ++ new) (suc n) m → IsListed here m
  here-all m X = go (all m X.monomial X.standard)
    where
      go : IsListed ms m → IsListed (without_pivots kernel 0 ms) m
      go (k, l, e) = pick (cases_Bool (is_pivot kernel k))
        where
          pick : (is_pivot kernel k ≡ true) ⊎ (is_pivot kernel k ≡ false)
              → IsListed (without_pivots kernel 0 ms) m
          pick (inl t) = absurd ((pivots k l).0 (let x = X.standard in rw e x) (pivot-if-found kernel k t))
          pick (inr f) = let s = left kernel 0 ms k l
              (ap (is_pivot kernel) (let z : 0 + k ≡ k = omega arith in z) ∙ f) in (s.0, s.1, s.2 ∙ e)

  pub lists-grow : AreStandardLists q A (gs ++ new) (suc n) (lists ++ without_pivots kernel 0 ms ∷ [])
  lists-grow = record {
    some = λ e l. some-at e l (cases_lt e n);
    each =
        λ e k l b. each-at e k l b (cases_lt e n);
    all = λ e m l X. all-at e m l X (cases_lt e n);
  }
    where
      is-last : (e : ℕ) → e < suc n → n ≤ e → e ≡ n
      is-last e l b = omega (arith, l, b)

      some-at : (e : ℕ) → e < suc n → (e < n) ⊎ (n ≤ e)
          → AreSome q (degrees (gs ++ new)) (suc e) (slice_index_or grown e [])
      some-at e l (inl b) = rw (before e b)
          record {
            each = λ i c. monomial-up q A gs new (suc e) _ ((S.some e b).each i c);
            descending =
                (S.some e b).descending;
          }
      some-at e l (inr b) = rw (is-last e l b, last) here-some

      each-at : (e k : ℕ) → e < suc n → k < length (slice_index_or grown e []) → (e < n) ⊎ (n ≤ e)
          → IsStandard q A (gs ++ new) (suc e) (slice_index_or (slice_index_or grown e []) k [])
      each-at e k l c (inl b) = rw (before e b)
          (standard-up q A gs new n above (suc e) (omega arith) _ (S.each e k b (rw (before e b) at c)))
      each-at e k l c (inr b) = rw (is-last e l b, last) (here-standard k (rw (is-last e l b, last) at c))

      all-at : (e : ℕ) (m : List ℕ) → e < suc n → IsStandardOf q A (gs ++ new) (suc e) m → (e < n) ⊎ (n ≤ e)
          → IsListed (slice_index_or grown e []) m
      all-at e m l X (inl b) = rw (before e b) (S.all e m b record {
        monomial = monomial-down q A gs new n above (suc e) (omega arith) m X.monomial;
        standard = standard-down q A gs new (suc e) m X.standard;
      })
      all-at e m l X (inr b) = rw (is-last e l b, last) (here-all m (rw (is-last e l b) at X))
