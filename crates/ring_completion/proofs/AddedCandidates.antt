-- One more generator of the degree: the candidates stay, and its own monomial is added behind.
use Rattle.std.proofs.Common.{◌≡◌, ◌≢◌, ℕ, suc, ◌+◌, ◌<◌, ◌≤◌, List, [], ◌∷◌, ◌++◌, length, ◌⊎◌, inl, inr}
use Rattle.std.proofs.Common.{arith, ap, sym, refl, ◌∙◌, length-append}
use Rattle.std.specs.Prelude.{slice_index_or}
use Rattle.std.specs.List.{AllByRecursion as Each}
use Rattle.std.proofs.lemmas.Bool.{cases_lt, cases_eq}
use Rattle.std.proofs.lemmas.List.{get_or_append_left, get_or_push}
use Rattle.linear_algebra.specs.Modular.{IsCongruent}
use Rattle.graded_polynomials.specs.Monomials.{IsMonomial, IsGreater, exponent, degree}
use Rattle.graded_polynomials.specs.Texts.{power}
use Rattle.graded_polynomials.proofs.Exponents.{exponent-joined, same-exponents}
use Rattle.graded_polynomials.proofs.MoreGenerators.{monomial-more}
use Rattle.graded_algebra.specs.Algebras.{Algebra, Generator, IsGradedCommutative, degrees, times}
use Rattle.graded_algebra.specs.Presentations.{IsStandard}
use Rattle.graded_algebra.proofs.Ideals.{degree-nil}
use Rattle.graded_algebra.proofs.Leading.{not-zero}
use Rattle.graded_algebra.proofs.MoreGenerators.{last-case, degrees-append, monomial-single, single}
use Rattle.presentation_rows.proofs.MoreMonomials.{greater-than-last, single-is-power}
use Rattle.ring_completion.specs.Candidates.{AreSome, IsListed, IsQuotient, HasLeadingQuotient, AreCandidates}
use Rattle.ring_completion.proofs.Constants.{constant-zero}
use Rattle.ring_completion.proofs.Factors.{power-here, power-elsewhere}
use Rattle.ring_completion.proofs.Quotients.{IsFactorOf, factor-of, degree-positive}
use Rattle.ring_completion.proofs.Stays.{monomial-up, monomial-down, standard-up, leading-up}

-- the only quotient of a generator is 1
quotient-of-generator : (q : ℕ) (ds : List ℕ) (i k e : ℕ) (r : List ℕ) → IsQuotient q ds i e r (power k 1)
    → r ≡ []
quotient-of-generator q ds i k e r Q = same-exponents r [] Q.monomial.trimmed tt
    (λ j. zero-at j (cases_eq i k))
  where
    sum : (j : ℕ) → exponent (power i 1) j + exponent r j ≡ exponent (power k 1) j
    sum j = sym (exponent-joined (power i 1) r j) ∙ ap (λ m. exponent m j) Q.product

    zero-at : (j : ℕ) → (i ≡ k) ⊎ (i ≢ k) → exponent r j ≡ exponent [] j
    zero-at j (inl s) = let z = sum j in let w = ap (λ x. exponent (power x 1) j) s in omega (arith, z, w)
    zero-at j (inr ne) = absurd
        (let z = sum i in let a = power-here i 1 in let b = power-elsewhere k 1 i ne in
        omega (arith, z, a, b))

module _ (q n : ℕ) (V : Type 0) (A : Algebra V) (In : ℕ → V → Type 0) (L : IsGradedCommutative q V A In)
    (gs : List (Generator V)) (g : Generator V) (degree-is : g.degree ≡ suc n)
    (positive : Each (λ d. 0 < d) (degrees gs)) (positive-all : Each (λ d. 0 < d) (degrees (gs ++ g ∷ [])))
    (free : (c : ℕ) → times A c A.one ≡ A.zero → IsCongruent (suc q) c 0) (ms : List (List ℕ))
    (C : AreCandidates q A gs (suc n) ms) where
  abbrev last : List ℕ
  last = power (length (degrees gs)) 1

  abbrev more : List (Generator V)
  more = gs ++ g ∷ []

  above : Each (λ e. n < e) (degrees (g ∷ []))
  above = (omega (arith, degree-is), tt)

  last-is : slice_index_or (ms ++ last ∷ []) (length ms) [] ≡ last
  last-is = get_or_push ms last [] (length ms) refl

  is-last : (i : ℕ) → i < length (ms ++ last ∷ []) → length ms ≤ i → i ≡ length ms
  is-last i l b = let e = length-append ms (last ∷ []) in omega (arith, l, b, e)

  one-standard : IsStandard q A more 0 []
  one-standard h = not-zero
      (constant-zero q V A In L more positive-all free h.member h.is_member.over h.is_member.vanishes [])
      h.here

  some-at : (i : ℕ) → i < length (ms ++ last ∷ []) → (i < length ms) ⊎ (length ms ≤ i)
      → IsMonomial q (degrees more) (suc n) (slice_index_or (ms ++ last ∷ []) i [])
  some-at i l (inl b) = rw (degrees-append gs (g ∷ []), get_or_append_left ms (last ∷ []) [] i b)
      (monomial-more q (degrees gs) (g.degree ∷ []) (suc n) (slice_index_or ms i []) (C.some.each i b))
  some-at i l (inr b) = rw (
    degrees-append gs (g ∷ []),
    is-last i l b,
    last-is,
    ← single-is-power (degrees gs),
    ← degree-is,
  ) (monomial-single q (degrees gs) g.degree)

  some : AreSome q (degrees more) (suc n) (ms ++ last ∷ [])
  some = record {
    each = λ i l. some-at i l (cases_lt i (length ms));
    descending = λ i j b l. descends i j b l (cases_lt j (length ms));
  }
    where
      descends : (i j : ℕ) → i < j → j < length (ms ++ last ∷ []) → (j < length ms) ⊎ (length ms ≤ j)
          → IsGreater (slice_index_or (ms ++ last ∷ []) i []) (slice_index_or (ms ++ last ∷ []) j [])
      descends i j b l (inl c) = rw (
        get_or_append_left ms (last ∷ []) [] i (omega (arith, b, c)),
        get_or_append_left ms (last ∷ []) [] j c,
      ) (C.some.descending i j b c)
      descends i j b l (inr c) = let e = is-last j l c in let f : i < length ms = omega (arith, e, b) in
          rw (e, last-is, get_or_append_left ms (last ∷ []) [] i f)
          (greater-than-last (degrees gs) (slice_index_or ms i []) (C.some.each i f).within
          (let z = (C.some.each i f).degree_is in omega (arith, z)))

  pub candidates-with-last : AreCandidates q A (gs ++ g ∷ []) (suc n)
      (ms ++ power (length (degrees gs)) 1 ∷ [])
  candidates-with-last = record {
    some = some;
    each = λ k i e r l Q. standard k i e r l Q (cases_lt k (length ms));
    all = λ m k. listed m
        (last-case q (degrees gs) g.degree (suc n) m positive (let z = degree-is in omega (arith, z))
        (let z = degree-is in omega (arith, z)) (rw (degrees-append gs (g ∷ [])) at k));
  }
    where
      standard : (k i e : ℕ) (r : List ℕ) → k < length (ms ++ last ∷ [])
          → IsQuotient q (degrees more) i e r (slice_index_or (ms ++ last ∷ []) k [])
          → (k < length ms) ⊎ (length ms ≤ k) → IsStandard q A more e r
      standard k i e r l Q (inl b) = standard-up q A gs (g ∷ []) n above e low r
          (C.each k i e r b (record { monomial = M; product = P.product }))
        where
          P : IsQuotient q (degrees more) i e r (slice_index_or ms k [])
          P = rw (get_or_append_left ms (last ∷ []) [] k b) at Q

          F : IsFactorOf q (degrees more) i e (suc n) r (slice_index_or ms k [])
          F = factor-of q (degrees more) i e (suc n) r (slice_index_or ms k [])
              (monomial-up q A gs (g ∷ []) (suc n) (slice_index_or ms k []) (C.some.each k b)) P

          low : e ≤ n
          low = let p = degree-positive (degrees more) i positive-all F.generator.within in
              let s = F.sum in omega (arith, p, s)

          M : IsMonomial q (degrees gs) e r
          M = monomial-down q A gs (g ∷ []) n above e low r P.monomial
      standard k i e r l Q (inr b) = rw (here, zero) one-standard
        where
          P : IsQuotient q (degrees more) i e r last
          P = rw (is-last k l b, last-is) at Q

          here : r ≡ []
          here = quotient-of-generator q (degrees more) i (length (degrees gs)) e r P

          zero : e ≡ 0
          zero = sym P.monomial.degree_is ∙ ap (degree (degrees more)) here ∙ degree-nil (degrees more)

      listed : (m : List ℕ) → IsMonomial q (degrees gs) (suc n) m
          ⊎ ((g.degree ≡ suc n) × (m ≡ single (degrees gs)))
          → IsListed (ms ++ last ∷ []) m ⊎ HasLeadingQuotient q A more m
      listed m (inl k) = go (C.all m k)
        where
          go : IsListed ms m ⊎ HasLeadingQuotient q A gs m
              → IsListed (ms ++ last ∷ []) m ⊎ HasLeadingQuotient q A more m
          go (inl i) = inl (
            i.0,
            (let e = length-append ms (last ∷ []) in let b = i.1 in omega (arith, b, e)),
            get_or_append_left ms (last ∷ []) [] i.0 i.1 ∙ i.2,
          )
          go (inr h) = inr record {
            generator = h.generator;
            degree = h.degree;
            quotient = h.quotient;
            is_quotient = record {
              monomial = monomial-up q A gs (g ∷ []) h.degree h.quotient h.is_quotient.monomial;
              product = h.is_quotient.product;
            };
            leads = leading-up q A gs (g ∷ []) h.degree h.quotient h.leads;
          }
      listed m (inr k) = inl (
        length ms,
        (let e = length-append ms (last ∷ []) in omega (arith, e)),
        last-is ∙ sym (k.1 ∙ single-is-power (degrees gs)),
      )
