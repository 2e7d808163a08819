-- The lists of standard monomials of the degrees that the relations reach, and a completion of the next
-- degree.
use Rattle.std.proofs.Common.{◌≡◌, ℕ, zero, suc, ◌<◌, ◌≤◌, List, [], ◌∷◌, ◌++◌, length, length-append, ◌⊎◌}
use Rattle.std.proofs.Common.{inl, inr, arith, ap, sym, ◌∙◌, refl}
use Rattle.std.specs.Prelude.{slice_index_or}
use Rattle.std.specs.List.{AllByRecursion as Each}
use Rattle.std.proofs.lemmas.Bool.{cases_lt}
use Rattle.std.proofs.lemmas.List.{get_or_append_left, get_or_push}
use Rattle.linear_algebra.specs.Modular.{IsCongruent, IsFieldModulo}
use Rattle.graded_polynomials.specs.Monomials.{IsMonomial, IsMonomials, IsGreater}
use Rattle.graded_polynomials.specs.Polynomials.{Term, Polynomial, IsOneOf}
use Rattle.graded_algebra.specs.Algebras.{Algebra, Generator, degrees, times, IsGradedCommutative}
use Rattle.graded_algebra.specs.Presentations.{IsLeading, IsRelation, IsStandard, IsRelations}
use Rattle.graded_algebra.specs.Vectors.{Vector, GradedAlgebra, IsOfDegree, algebra}
use Rattle.ring_completion.specs.Candidates.{AreSome, IsListed}
use Rattle.ring_completion.specs.Completions.{IsStandardOf}
use Rattle.ring_completion.specs.Left.{IsCompletion}
use Rattle.ring_completion.specs.Listings.{AreStandardLists, candidates_of}
use Rattle.graded_polynomials.proofs.Ordered.{Ordered}
use Rattle.graded_polynomials.specs.AllMonomials.{all_monomials}
use Rattle.graded_polynomials.proofs.AllMonomials.{all-monomials}
use Rattle.ring_completion.proofs.DescendingLists.{each-at, ordered-at, listed-at}
use Rattle.ring_completion.proofs.CriticalLists.{rows, are-critical}
use Rattle.ring_completion.proofs.Existence.{products, are-products, forms, are-forms, form-length}
use Rattle.ring_completion.proofs.ListedCandidates.{listed-candidates}
use Rattle.ring_completion.proofs.Listings.{falls-from, one-of-listed}
use Rattle.ring_completion.proofs.Lower.{Known, known}
use Rattle.ring_completion.proofs.Results.{free}

module _ (P Q : List ℕ → Type 0) where
  -- the members with the first property, where each has the first or the second
  part : (ms : List (List ℕ)) → Each (λ m. P m ⊎ Q m) ms → List (List ℕ)
  part [] h = []
  part (m ∷ ms) h = go h.0 (part ms h.1)
    where
      go : P m ⊎ Q m → List (List ℕ) → List (List ℕ)
      go (inl p) r = m ∷ r
      go (inr p) r = r

  part-each : (R : List ℕ → Type 0) (ms : List (List ℕ)) (h : Each (λ m. P m ⊎ Q m) ms) → Each R ms
      → Each (λ m. R m × P m) (part ms h)
  unfolding part
  part-each R [] h r = tt
  part-each R (m ∷ ms) (inl p, h) r = ((r.0, p), part-each R ms h r.1)
  part-each R (m ∷ ms) (inr p, h) r = part-each R ms h r.1

  part-below : (R : List ℕ → Type 0) (ms : List (List ℕ)) (h : Each (λ m. P m ⊎ Q m) ms) → Each R ms
      → Each R (part ms h)
  unfolding part
  part-below R [] h r = tt
  part-below R (m ∷ ms) (inl p, h) r = (r.0, part-below R ms h r.1)
  part-below R (m ∷ ms) (inr p, h) r = part-below R ms h r.1

  part-falls : (ms : List (List ℕ)) (h : Each (λ m. P m ⊎ Q m) ms) → Ordered ms → Ordered (part ms h)
  unfolding part
  part-falls [] h r = tt
  part-falls (m ∷ ms) (inl p, h) r = (part-below (IsGreater m) ms h r.0, part-falls ms h r.1)
  part-falls (m ∷ ms) (inr p, h) r = part-falls ms h r.1

  part-all : (m : List ℕ) (ms : List (List ℕ)) (h : Each (λ m. P m ⊎ Q m) ms) → (Q m → ⊥) → IsOneOf m ms
      → IsOneOf m (part ms h)
  unfolding part
  part-all m [] h n o = o
  part-all m (a ∷ ms) (inl p, h) n (inl e) = inl e
  part-all m (a ∷ ms) (inl p, h) n (inr o) = inr (part-all m ms h n o)
  part-all m (a ∷ ms) (inr p, h) n (inl e) = absurd (n (rw e p))
  part-all m (a ∷ ms) (inr p, h) n (inr o) = part-all m ms h n o

each-from : (P : List ℕ → Type 0) (ms : List (List ℕ))
    → ((i : ℕ) → i < length ms → P (slice_index_or ms i [])) → Each P ms
each-from P [] h = tt
each-from P (m ∷ ms) h = (h 0 (omega arith), each-from P ms (λ i l. h (suc i) (omega arith)))

module _ (q : ℕ) (V : Type 0) (A : Algebra V) (In : ℕ → V → Type 0) (L : IsGradedCommutative q V A In)
    (gs : List (Generator V))
    (field : IsFieldModulo (suc q)) (positive : Each (λ d. 0 < d) (degrees gs))
    (free : (c : ℕ) → times A c A.one ≡ A.zero → IsCongruent (suc q) c 0)
    (n : ℕ) (rs : List Polynomial) (R : IsRelations q A gs n rs) where
  -- the standard monomials of a degree
  record IsDegree (e : ℕ) (ms : List (List ℕ)) : Type 0 where
    some : AreSome q (degrees gs) e ms
    each : (k : ℕ) → k < length ms → IsStandard q A gs e (slice_index_or ms k [])
    all : (m : List ℕ) → IsStandardOf q A gs e m → IsListed ms m

  of-degree : (e : ℕ) → e ≤ n → (ms : List (List ℕ)) × IsDegree e ms
  of-degree e l = (
    part Std Lead K.monomials h,
    record {
      some = record {
        each = λ i b.
            (each-at (λ m. IsMonomial q (degrees gs) e m × Std m) (part Std Lead K.monomials h) both i b).0;
        descending = ordered-at (part Std Lead K.monomials h)
            (part-falls Std Lead K.monomials h (falls-from K.monomials K.all.descending));
      };
      each = λ k b.
          (each-at (λ m. IsMonomial q (degrees gs) e m × Std m) (part Std Lead K.monomials h) both k b).1;
      all = λ m X. listed-at m (part Std Lead K.monomials h)
          (part-all Std Lead m K.monomials h X.standard
          (one-of-listed m K.monomials (K.all.all m X.monomial)));
    },
  )
    where
      K : Known q V A In L gs e
      K = known q V A In L gs field positive free n rs R e l

      Std : List ℕ → Type 0
      Std m = IsStandard q A gs e m

      Lead : List ℕ → Type 0
      Lead m = IsLeading q A (IsRelation q A gs e) m

      h : Each (λ m. Std m ⊎ Lead m) K.monomials
      h = each-from (λ m. Std m ⊎ Lead m) K.monomials K.status

      both : Each (λ m. IsMonomial q (degrees gs) e m × Std m) (part Std Lead K.monomials h)
      both = part-each Std Lead (IsMonomial q (degrees gs) e) K.monomials h
          (each-from (IsMonomial q (degrees gs) e) K.monomials K.all.each)

  pub lists-to : (k : ℕ) → k ≤ n → (lists : List (List (List ℕ))) × (length lists ≡ k)
      × AreStandardLists q A gs k lists
  lists-to zero l = (
    [],
    refl,
    record {
      some = λ e b. absurd (omega (arith, b));
      each = λ e k b c. absurd (omega (arith, b));
      all =
          λ e m b X. absurd (omega (arith, b));
    },
  )
  lists-to (suc k) l = made (lists-to k (omega arith)) (of-degree (suc k) l)
    where
      made : (lists : List (List (List ℕ))) × (length lists ≡ k) × AreStandardLists q A gs k lists
          → (ms : List (List ℕ)) × IsDegree (suc k) ms
          → (lists : List (List (List ℕ))) × (length lists ≡ suc k) × AreStandardLists q A gs (suc k) lists
      made (lists, c, S) (ms, D) = (
        lists ++ ms ∷ [],
        (let e = length-append lists (ms ∷ []) in omega (arith, e, c)),
        record {
          some = λ e b. some-at e b (cases_lt e k);
          each = λ e i b d. each-at-degree e i b d (cases_lt e k);
          all = λ e m b X. all-at e m b X (cases_lt e k);
        },
      )
        where
          before : (e : ℕ) → e < k → slice_index_or (lists ++ ms ∷ []) e [] ≡ slice_index_or lists e []
          before e b = get_or_append_left lists (ms ∷ []) [] e (omega (arith, c, b))

          last : slice_index_or (lists ++ ms ∷ []) k [] ≡ ms
          last = ap (λ e. slice_index_or (lists ++ ms ∷ []) e []) (sym c)
              ∙ get_or_push lists ms [] (length lists) refl

          is-last : (e : ℕ) → e < suc k → k ≤ e → e ≡ k
          is-last e b d = omega (arith, b, d)

          some-at : (e : ℕ) → e < suc k → (e < k) ⊎ (k ≤ e)
              → AreSome q (degrees gs) (suc e) (slice_index_or (lists ++ ms ∷ []) e [])
          some-at e b (inl d) = rw (before e d) (S.some e d)
          some-at e b (inr d) = rw (is-last e b d, last) D.some

          each-at-degree : (e i : ℕ) → e < suc k → i < length (slice_index_or (lists ++ ms ∷ []) e [])
              → (e < k) ⊎ (k ≤ e)
              → IsStandard q A gs (suc e) (slice_index_or (slice_index_or (lists ++ ms ∷ []) e []) i [])
          each-at-degree e i b d (inl x) = rw (before e x) (S.each e i x (rw (before e x) at d))
          each-at-degree e i b d (inr x) = rw (is-last e b x, last) (D.each i (rw (is-last e b x, last) at d))

          all-at : (e : ℕ) (m : List ℕ) → e < suc k → IsStandardOf q A gs (suc e) m → (e < k) ⊎ (k ≤ e)
              → IsListed (slice_index_or (lists ++ ms ∷ []) e []) m
          all-at e m b X (inl d) = rw (before e d) (S.all e m d X)
          all-at e m b X (inr d) = rw (is-last e b d, last) (D.all m (rw (is-last e b d) at X))

-- each degree has a completion
pub completion-exists : (q n : ℕ) → IsFieldModulo (suc q)
    → (G : GradedAlgebra q) (gs : List (Generator (Vector q))) → Each (λ d. 0 < d) (degrees gs)
    → (rs : List Polynomial) → IsRelations q (algebra q G) gs n rs
    → (ms : List (List ℕ)) × (products : ℕ → List ℕ → List Term) × (forms : ℕ → List ℕ → List ℕ)
    × (rows : List (List ℕ))
    × IsCompletion q G.mul gs rs (suc n) ms products forms rows
completion-exists q n field G gs positive rs R =
    made (lists-to q (Vector q) (algebra q G) (IsOfDegree q G) G.laws gs field positive
    (free q n field G gs positive rs R) n rs R n (omega arith))
    (all_monomials q (degrees gs) (suc n), all-monomials q (degrees gs) positive (suc n))
  where
    made : (lists : List (List (List ℕ))) × (length lists ≡ n) × AreStandardLists q (algebra q G) gs n lists
        → (ns : List (List ℕ)) × IsMonomials q (degrees gs) (suc n) ns
        → (ms : List (List ℕ)) × (products : ℕ → List ℕ → List Term) × (forms : ℕ → List ℕ → List ℕ)
        × (rows : List (List ℕ))
        × IsCompletion q G.mul gs rs (suc n) ms products forms rows
    made (lists, c, S) (ns, M) =
        let f = free q n field G gs positive rs R in
        let ms = candidates_of q (degrees gs) lists (suc n) in
        let C = listed-candidates q (Vector q) (algebra q G) (IsOfDegree q G) G.laws gs field positive f n rs
        R lists S in
        let ps = products q field G.mul (IsOfDegree q G) G.laws gs positive f n rs R lists S in
        let fs = forms q field G.mul (IsOfDegree q G) G.laws gs positive f n rs R lists S ns M ms C in (
          ms,
          ps,
          fs,
          rows q field G.mul (IsOfDegree q G) G.laws gs positive f n rs R lists S (length ms) ps fs
              (form-length q field G.mul (IsOfDegree q G) G.laws gs positive f n rs R lists S ns M ms C),
          record {
            candidates = C;
            products_are = are-products q field G.mul (IsOfDegree q G) G.laws gs positive f n rs R lists S;
            forms_are = are-forms q field G.mul (IsOfDegree q G) G.laws gs positive f n rs R lists S
                ns M ms C;
            critical = are-critical q field G.mul (IsOfDegree q G) G.laws gs positive f n rs R lists S
                (length ms) ps fs
                (form-length q field G.mul (IsOfDegree q G) G.laws gs positive f n rs R lists S ns M ms C);
          },
        )
