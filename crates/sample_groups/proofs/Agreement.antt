-- Presentations that agree in more and more words, and at last are equal.
use Rattle.std.proofs.Common.{◌≡◌, ◌≢◌, ◌∙◌, ◌⊎◌, inl, inr, ℕ, ◌+◌, ◌-◌, ◌<◌, ◌≤◌, List, [], length, get_or}
use Rattle.std.proofs.Common.{set, refl, sym, ap, subst, arith, get_or-set_same, get_or-set_other}
use Rattle.std.proofs.lemmas.List.{ext_get_or}
use Rattle.power_commutator.specs.Presentations.{Presentation, IsPresentation, IsWord, commutator_word}
use Rattle.power_commutator.specs.Presentations.{power_word}
use Rattle.power_commutator.proofs.Cyclic.{less-or}
use Rattle.pc_group.specs.Parts.{elementary_abelian, with_power, with_commutator}
use Rattle.pc_group.proofs.MadeParts.{elementary-valid, with_power-valid, with_commutator-valid}
use Rattle.sample_groups.specs.Products.{Agrees}

-- P agrees with Q in the words of powers, in those of [g_m, g_k] for m < j, and in those of [g_j, g_k] for
-- each k below i
abbrev pub RowAgrees : Presentation → (j i : ℕ) → Presentation → Type 0
RowAgrees Q j i P = Agrees Q Q.gens (j - 1) P
    × ((k : ℕ) → 0 < k → k < i → commutator_word P j k ≡ commutator_word Q j k)

module _ (Q : Presentation) (V : IsPresentation Q) where
  pub none_agree : (p : ℕ) → 0 < p → p ≡ Q.prime → Agrees Q 0 0 (elementary_abelian p Q.gens)
  none_agree p positive e = record {
    valid = elementary-valid p Q.gens positive;
    prime = e;
    gens = refl;
    powers = λ k low high. absurd (omega (arith, low, high));
    commutators = λ m k low less high. absurd (omega (arith, low, less, high));
  }

  -- a word of Q is one of a presentation that agrees with it
  word_of : (P : Presentation) (i : ℕ) (w u : List ℕ) → P.prime ≡ Q.prime → P.gens ≡ Q.gens → w ≡ u
      → IsWord Q.prime Q.gens i u → IsWord P.prime P.gens i w
  word_of P i w u prime gens e W =
      subst (IsWord P.prime P.gens i) (sym e)
      (subst (λ p. IsWord p P.gens i u) (sym prime) (subst (λ n. IsWord Q.prime n i u) (sym gens) W))

  module _ (P : Presentation) (i : ℕ) (w : List ℕ) (h : Agrees Q (i - 1) 0 P) (low : 0 < i)
      (high : i ≤ Q.gens)
      (is : w ≡ power_word Q i) where
    pub power_fits : IsWord P.prime P.gens i w
    power_fits = word_of P i w (power_word Q i) h.prime h.gens is (V.power i low high)

    power_at : (k : ℕ) → 0 < k → k ≤ i → (k < i) ⊎ (i ≤ k) → power_word (with_power P i w) k ≡ power_word Q k
    power_at k a b (inl l) =
        let ne : k - 1 ≢ i - 1 = λ e. omega (arith, e, a, l) in
        get_or-set_other P.powers (i - 1) (k - 1) w [] ne ∙ h.powers k a (omega (arith, l))
    power_at k a b (inr l) =
        let e : k ≡ i = omega (arith, b, l) in
        let c = h.valid.power-count in
        let g = h.gens in
        ap (power_word (with_power P i w)) e
        ∙ get_or-set_same P.powers (i - 1) w [] (omega (arith, low, high, c, g)) ∙ is
        ∙ ap (power_word Q) (sym e)

    pub power_agrees : Agrees Q i 0 (with_power P i w)
    power_agrees = record {
      valid = with_power-valid P h.valid i w low (let g = h.gens in omega (arith, g, high)) power_fits;
      prime = h.prime;
      gens = h.gens;
      powers = λ k a b. power_at k a b (less-or k i);
      commutators = λ m k a b c. absurd (omega (arith, a, b, c));
    }

  pub no_row_agrees : (j : ℕ) (P : Presentation) → Agrees Q Q.gens (j - 1) P → RowAgrees Q j 1 P
  no_row_agrees j P h = (h, λ k a b. absurd (omega (arith, a, b)))

  module _ (P : Presentation) (j i : ℕ) (w : List ℕ) (h : RowAgrees Q j i P) (low : 0 < i) (less : i < j)
      (high : j ≤ Q.gens) (is : w ≡ commutator_word Q j i) where
    pub commutator_fits : IsWord P.prime P.gens j w
    commutator_fits = word_of P j w (commutator_word Q j i) h.0.prime h.0.gens is
        (V.commutator j i low less high)

    abbrev row : List (List ℕ)
    row = get_or P.commutators (j - 1) []

    to_gens : j ≤ P.gens
    to_gens = let g = h.0.gens in omega (arith, g, high)

    row_count : length row ≡ j - 1
    row_count = h.0.valid.row-count j (omega (arith, low, less)) to_gens

    -- the row was set
    row_is : get_or (with_commutator P j i w).commutators (j - 1) [] ≡ set row (i - 1) w
    row_is =
        let c = h.0.valid.commutator-count in
        let t = to_gens in
        get_or-set_same P.commutators (j - 1) (set row (i - 1) w) [] (omega (arith, low, less, t, c))

    other_at : (m k : ℕ) → 0 < k → k < m → m ≤ j - 1
        → commutator_word (with_commutator P j i w) m k ≡ commutator_word Q m k
    other_at m k a b c =
        let ne : m - 1 ≢ j - 1 = λ e. omega (arith, e, a, b, c) in
        ap (λ r. get_or r (k - 1) [])
        (get_or-set_other P.commutators (j - 1) (m - 1) (set row (i - 1) w) [] ne)
        ∙ h.0.commutators m k a b c

    row_at : (k : ℕ) → 0 < k → k < i + 1 → (k < i) ⊎ (i ≤ k)
        → commutator_word (with_commutator P j i w) j k ≡ commutator_word Q j k
    row_at k a b (inl l) =
        let ne : k - 1 ≢ i - 1 = λ e. omega (arith, e, a, l) in
        ap (λ r. get_or r (k - 1) []) row_is ∙ get_or-set_other row (i - 1) (k - 1) w [] ne ∙ h.1 k a l
    row_at k a b (inr l) =
        let e : k ≡ i = omega (arith, b, l) in
        let c = row_count in
        ap (λ r. get_or r (k - 1) []) row_is ∙ ap (λ k. get_or (set row (i - 1) w) (k - 1) []) e
        ∙ get_or-set_same row (i - 1) w [] (omega (arith, low, less, c)) ∙ is
        ∙ ap (commutator_word Q j) (sym e)

    pub row_agrees : RowAgrees Q j (i + 1) (with_commutator P j i w)
    row_agrees = (
      record {
        valid = with_commutator-valid P h.0.valid j i w low less to_gens commutator_fits;
        prime = h.0.prime;
        gens = h.0.gens;
        powers = h.0.powers;
        commutators = other_at;
      },
      λ k a b. row_at k a b (less-or k i),
    )

  pub next_row_agrees : (j : ℕ) (P : Presentation) → 0 < j → RowAgrees Q j j P → Agrees Q Q.gens j P
  next_row_agrees j P low h = record {
    valid = h.0.valid;
    prime = h.0.prime;
    gens = h.0.gens;
    powers = h.0.powers;
    commutators = λ m k a b c. at m k a b c (less-or m j);
  }
    where
      at : (m k : ℕ) → 0 < k → k < m → m ≤ j → (m < j) ⊎ (j ≤ m)
          → commutator_word P m k ≡ commutator_word Q m k
      at m k a b c (inl l) = h.0.commutators m k a b (omega (arith, l))
      at m k a b c (inr l) =
          let e : m ≡ j = omega (arith, c, l) in
          ap (λ m. commutator_word P m k) e ∙ h.1 k a (omega (arith, b, e))
          ∙ ap (λ m. commutator_word Q m k) (sym e)

  -- ---- where all words agree

  pub all_agree : (P : Presentation) (last : ℕ) → Q.gens ≤ last → Agrees Q Q.gens last P → P ≡ Q
  all_agree P last to h =
      ap (λ p. record { prime = p; gens = P.gens; powers = P.powers; commutators = P.commutators }) h.prime
      ∙ ap (λ n. record { prime = Q.prime; gens = n; powers = P.powers; commutators = P.commutators }) h.gens
      ∙ ap (λ ws. record { prime = Q.prime; gens = Q.gens; powers = ws; commutators = P.commutators }) powers
      ∙ ap (λ rs. record { prime = Q.prime; gens = Q.gens; powers = Q.powers; commutators = rs }) rows
    where
      one_less : (i : ℕ) → i + 1 - 1 ≡ i
      one_less i = omega arith

      powers : P.powers ≡ Q.powers
      powers =
          let a = h.valid.power-count in
          let b = V.power-count in
          let g = h.gens in
          ext_get_or [] P.powers Q.powers (omega (arith, a, b, g))
          (λ i l. subst (λ k. get_or P.powers k [] ≡ get_or Q.powers k []) (one_less i)
          (h.powers (i + 1) (omega arith) (omega (arith, l, a, g))))

      row : (j : ℕ) → j < Q.gens → get_or P.commutators j [] ≡ get_or Q.commutators j []
      row j l =
          let g = h.gens in
          let a = h.valid.row-count (j + 1) (omega arith) (omega (arith, l, g)) in
          let b = V.row-count (j + 1) (omega arith) (omega (arith, l)) in
          subst (λ m. get_or P.commutators m [] ≡ get_or Q.commutators m []) (one_less j)
          (ext_get_or [] (get_or P.commutators (j + 1 - 1) []) (get_or Q.commutators (j + 1 - 1) []) (a
          ∙ sym b)
          (λ i k. subst (λ n. get_or (get_or P.commutators (j + 1 - 1) []) n []
          ≡ get_or (get_or Q.commutators (j + 1 - 1) []) n []) (one_less i)
          (h.commutators (j + 1) (i + 1) (omega arith) (omega (arith, k, a)) (omega (arith, l, to)))))

      rows : P.commutators ≡ Q.commutators
      rows =
          let a = h.valid.commutator-count in
          let b = V.commutator-count in
          let g = h.gens in
          ext_get_or [] P.commutators Q.commutators (omega (arith, a, b, g))
          (λ j l. row j (omega (arith, l, a, g)))
