-- A polynomial is reduced: at each place where a space leads, a member is added that clears it.
use Rattle.std.proofs.Common.{◌≡◌, ◌≢◌, ℕ, zero, suc, ◌+◌, ◌*◌, ◌%◌, ◌<◌, List, [], ◌++◌, length, ◌⊎◌, inl}
use Rattle.std.proofs.Common.{inr, arith, ap, sym, ◌∙◌}
use Rattle.std.specs.Prelude.{slice_index_or}
use Rattle.std.proofs.lemmas.Bool.{cases_eq, cases_order}
use Rattle.linear_algebra.specs.Modular.{IsCongruent, IsFieldModulo}
use Rattle.linear_algebra.proofs.Congruences.{congruent_eq, congruent_trans, congruent_add}
use Rattle.linear_algebra.proofs.Congruences.{congruent_mul_left, congruent_refl}
use Rattle.graded_polynomials.specs.Monomials.{IsMonomial, IsMonomials, IsGreater}
use Rattle.graded_polynomials.specs.Polynomials.{Term, coefficient, scaled, IsOver}
use Rattle.graded_polynomials.proofs.Terms.{coefficient-append, coefficient-scaled}
use Rattle.graded_algebra.specs.Algebras.{Algebra}
use Rattle.graded_algebra.specs.Presentations.{IsLeading}
use Rattle.graded_algebra.proofs.Leading.{zero-or-not, not-zero, cleared, LeadsAt}
use Rattle.graded_algebra.proofs.Places.{coefficient_at, place-of, at-leading, stands-before}
use Rattle.ring_completion.specs.Candidates.{IsListed}

module _ (q n : ℕ) (F : Type 0) (co : F → ℕ → ℕ) (field : IsFieldModulo (suc q)) (plus : F → ℕ → F → F)
    (co-plus : (f g : F) (c k : ℕ) → IsCongruent (suc q) (co (plus f c g) k) (co f k + c * co g k))
    (T Q : F → Type 0)
    (Kept : ℕ → Type 0) (status : (k : ℕ) → k < n → Kept k ⊎ ((Kept k → ⊥) × LeadsAt q n F co T k))
    (Q-plus : (f : F) (c k : ℕ) → Q f → (Kept k → ⊥) → (t : LeadsAt q n F co T k) → k < n → co f k % suc q ≢ 0
    → Q (plus f c t.member)) where
  abbrev Clean : F → ℕ → Type 0
  Clean f j = Kept j ⊎ IsCongruent (suc q) (co f j) 0

  reduced-from : (k i : ℕ) → i + k ≡ n → (f : F) → Q f → ((j : ℕ) → j < i → Clean f j)
      → (g : F) × Q g × ((j : ℕ) → j < n → Clean g j)
  reduced-from zero i e f m b = (f, m, (λ j l. b j (omega arith)))
  reduced-from (suc k) i e f m b = go (λ f m b. reduced-from k (suc i) (omega arith) f m b)
      (status i (omega arith)) (zero-or-not q (co f i))
    where
      Result : Type 0
      Result = (g : F) × Q g × ((j : ℕ) → j < n → Clean g j)

      next : (f : F) → ((j : ℕ) → j < i → Clean f j) → Clean f i → (j : ℕ) → j < suc i → Clean f j
      next f b z j l = pick (cases_eq j i)
        where
          pick : (j ≡ i) ⊎ (j ≡ i → ⊥) → Clean f j
          pick (inl e) = rw e z
          pick (inr d) = b j (omega arith)

      go : ((f : F) → Q f → ((j : ℕ) → j < suc i → Clean f j) → Result)
          → Kept i ⊎ ((Kept i → ⊥) × LeadsAt q n F co T i)
          → IsCongruent (suc q) (co f i) 0 ⊎ (co f i % suc q ≢ 0) → Result
      go ih (inl s) z = ih f m (next f b (inl s))
      go ih (inr s) (inl z) = ih f m (next f b (inr z))
      go ih (inr o) (inr z) = ih (plus f c s.member) (Q-plus f c i m o.0 s (omega arith) z)
          (next (plus f c s.member) (λ j l. before j l (b j l))
          (inr (congruent_trans (co-plus f s.member c i)
          (cleared q (co f i) (co s.member i) inverse.0 inverse.1))))
        where
          s : LeadsAt q n F co T i
          s = o.1

          inverse : (b : ℕ) × IsCongruent (suc q) (co s.member i * b) 1
          inverse = field.inverse (co s.member i) s.here

          c : ℕ
          c = q * (inverse.0 * co f i)

          before : (j : ℕ) → j < i → Clean f j → Clean (plus f c s.member) j
          before j l (inl k) = inl k
          before j l (inr z) = inr (congruent_trans (co-plus f s.member c j)
              (congruent_trans (congruent_add z (congruent_mul_left c (s.before j l)))
              (congruent_eq (omega arith))))

  pub reduced : (f : F) → Q f → (g : F) × Q g × ((j : ℕ) → j < n → Clean g j)
  reduced f m = reduced-from n 0 (omega arith) f m (λ j l. absurd (omega arith))

-- each monomial of degree d is on the list ms, or is not and leads in T
abbrev pub Separates : (q : ℕ) (ds : List ℕ) {V : Type 0} → Algebra V → (List Term → Type 0) → ℕ
    → List (List ℕ) → Type 0
Separates q ds A T d ms = (m : List ℕ) → IsMonomial q ds d m
    → IsListed ms m ⊎ ((IsListed ms m → ⊥) × IsLeading q A T m)

module _ (q : ℕ) (field : IsFieldModulo (suc q)) (ds : List ℕ) (d : ℕ) (ns : List (List ℕ))
    (M : IsMonomials q ds d ns) {V : Type 0} (A : Algebra V)
    (T : List Term → Type 0) (T-over : (f : List Term) → T f → IsOver q ds d f) (ms : List (List ℕ))
    (separates : Separates q ds A T d ms) where
  plus-at : (f g : List Term) (c k : ℕ)
      → IsCongruent (suc q) (coefficient_at ns (f ++ scaled c g) k)
      (coefficient_at ns f k + c * coefficient_at ns g k)
  plus-at f g c k = congruent_eq
      (coefficient-append f (scaled c g) _ ∙ ap (λ z. coefficient_at ns f k + z) (coefficient-scaled c g _))

  abbrev Kept : ℕ → Type 0
  Kept k = IsListed ms (slice_index_or ns k [])

  status : (k : ℕ) → k < length ns
      → Kept k ⊎ ((Kept k → ⊥) × LeadsAt q (length ns) (List Term) (coefficient_at ns) T k)
  status k l = go (separates (slice_index_or ns k []) (M.each k l))
    where
      go : Kept k ⊎ ((Kept k → ⊥) × IsLeading q A T (slice_index_or ns k []))
          → Kept k ⊎ ((Kept k → ⊥) × LeadsAt q (length ns) (List Term) (coefficient_at ns) T k)
      go (inl i) = inl i
      go (inr h) = inr (h.0, at-leading q ds d ns M A T T-over k l h.1)

  abbrev pub IsClean : List Term → Type 0
  IsClean f = (m : List ℕ) → IsMonomial q ds d m → IsListed ms m ⊎ IsCongruent (suc q) (coefficient f m) 0

  clean-from : (f : List Term)
      → ((j : ℕ) → j < length ns → Kept j ⊎ IsCongruent (suc q) (coefficient_at ns f j) 0) → IsClean f
  clean-from f h m x = let i = M.all m x in rw (← i.2) (h i.0 i.1)

  -- a polynomial is reduced to one over the list by members of T
  pub reduce : (Q : List Term → Type 0) → ((f t : List Term) (c : ℕ) → Q f → T t → Q (f ++ scaled c t))
      → (f : List Term) → Q f → (g : List Term) × Q g × IsClean g
  reduce Q Q-plus f m =
      let r = reduced q (length ns) (List Term) (coefficient_at ns) field (λ f c g. f ++ scaled c g) plus-at T
      Q Kept status
      (λ f c k x o t l nz. Q-plus f t.member c x t.is_member) f m in
      (r.0, r.1, clean-from r.0 r.2)

  -- where a space to which T is added leads at a member of the list, it does so by a polynomial over the list
  pub record LeadsClean (S : List Term → Type 0) (m : List ℕ) : Type 0 where
    pub member : List Term
    pub is_member : S member
    pub here : coefficient member m % suc q ≢ 0
    pub above : (n : List ℕ) → IsGreater n m → IsCongruent (suc q) (coefficient member n) 0
    pub clean : IsClean member

  pub leads-clean : (S : List Term → Type 0) → ((f : List Term) → S f → IsOver q ds d f)
      → ((f t : List Term) (c : ℕ) → S f → T t → S (f ++ scaled c t))
      → (m : List ℕ) → IsMonomial q ds d m → IsListed ms m → IsLeading q A S m → LeadsClean S m
  leads-clean S S-over S-plus m x i h =
      made (reduced q (length ns) (List Term) (coefficient_at ns) field (λ f c g. f ++ scaled c g) plus-at T Q
      Kept status Q-plus h.member start)
    where
      at : IsListed ns m
      at = M.all m x

      b : ℕ
      b = at.0

      Q : List Term → Type 0
      Q f = S f × ((j : ℕ) → j < b → IsCongruent (suc q) (coefficient_at ns f j) 0)
          × (coefficient f m % suc q ≢ 0)

      start : Q h.member
      start = (
        h.is_member,
        (λ j l. h.above (slice_index_or ns j [])
            (let g : IsGreater (slice_index_or ns j []) (slice_index_or ns b []) = M.descending j b l at.1 in
            rw at.2 at g)),
        h.here,
      )

      Q-plus : (f : List Term) (c k : ℕ) → Q f → (Kept k → ⊥)
          → (t : LeadsAt q (length ns) (List Term) (coefficient_at ns) T k) → k < length ns
          → coefficient_at ns f k % suc q ≢ 0 → Q (f ++ scaled c t.member)
      Q-plus f c k y o t l nz = go (cases_order k b)
        where
          go : (k ≡ b) ⊎ ((k < b) ⊎ (b < k)) → Q (f ++ scaled c t.member)
          go (inl e) = absurd
              (o (let z : slice_index_or ns k [] ≡ m = ap (λ j. slice_index_or ns j []) e ∙ at.2 in rw z i))
          go (inr (inl a)) = absurd (not-zero (y.1 k a) nz)
          go (inr (inr a)) = (
            S-plus f t.member c y.0 t.is_member,
            (λ j r. congruent_trans (plus-at f t.member c j)
                (congruent_trans (congruent_add (y.1 j r) (congruent_mul_left c (t.before j (omega arith))))
                (congruent_eq (omega arith)))),
            (λ z. y.2 (sym (same.same_remainder) ∙ z)),
          )
            where
              same : IsCongruent (suc q) (coefficient (f ++ scaled c t.member) m) (coefficient f m)
              same = rw (sym at.2) (congruent_trans (plus-at f t.member c b)
                  (congruent_trans
                  (congruent_add (congruent_refl (coefficient_at ns f b))
                  (congruent_mul_left c (t.before b a))) (congruent_eq (omega arith))))

      made : (g : List Term) × Q g
          × ((j : ℕ) → j < length ns → Kept j ⊎ IsCongruent (suc q) (coefficient_at ns g j) 0)
          → LeadsClean S m
      made r = record {
        member = r.0;
        is_member = r.1.0;
        here = r.1.2;
        above = λ n g. above n g (place-of q ds d ns M r.0 (S-over r.0 r.1.0) n);
        clean = clean-from r.0 r.2;
      }
        where
          above : (n : List ℕ) → IsGreater n m → IsListed ns n ⊎ (coefficient r.0 n ≡ 0)
              → IsCongruent (suc q) (coefficient r.0 n) 0
          above n g (inr z) = congruent_eq z
          above n g (inl p) =
              rw (← p.2) (r.1.1 p.0 (stands-before q ds d ns M p.0 b p.1 at.1 (rw (p.2, at.2) g)))
