-- The words of a direct product, and that they keep the rules for words.
use Rattle.std.proofs.Common.{◌≡◌, ◌∙◌, ◌⊎◌, inl, inr, ℕ, ◌+◌, ◌-◌, ◌<◌, ◌≤◌, List, [], ◌++◌, map, length}
use Rattle.std.proofs.Common.{get_or, replicate, refl, sym, ap, subst, arith}
use Rattle.std.proofs.lemmas.List.{get_or_append_left, get_or-append_right, get_or-map, get_or-replicate}
use Rattle.std.proofs.lemmas.List.{length-append, length-map, length-replicate}
use Rattle.std.proofs.lemmas.List.Elements.{All-append}
use Rattle.power_commutator.specs.Presentations.{Presentation, IsPresentation, IsWord, commutator_word}
use Rattle.power_commutator.specs.Presentations.{identity, power_word}
use Rattle.power_commutator.proofs.Cyclic.{less-or}
use Rattle.pc_group.proofs.MadeParts.{identity-word}
use Rattle.sample_groups.specs.Products.{direct_product}

-- the exponents of a word, and then zeros; zeros, and then the exponents of a word
pub word_before : (p n j m : ℕ) (w : List ℕ) → 0 < p → IsWord p n j w → IsWord p (n + m) j (w ++ identity m)
word_before p n j m w positive W = record {
  len = length-append w (identity m) ∙ (let a = W.len in let b = empty.len in omega arith);
  small = All-append (λ e. e < p) w (identity m) W.small empty.small;
  later = λ k l. at k l (less-or k (length w));
}
  where
    empty : IsWord p m j (identity m)
    empty = identity-word p m j positive

    at : (k : ℕ) → k < j → (k < length w) ⊎ (length w ≤ k) → get_or (w ++ identity m) k 0 ≡ 0
    at k l (inl a) = get_or_append_left w (identity m) 0 k a ∙ W.later k l
    at k l (inr a) = get_or-append_right w (identity m) (length w) k 0 refl a
        ∙ empty.later (k - length w) (omega (arith, l))

pub word_after : (p n j m : ℕ) (w : List ℕ) → 0 < p → IsWord p n j w
    → IsWord p (m + n) (m + j) (identity m ++ w)
word_after p n j m w positive W = record {
  len = length-append (identity m) w ∙ (let a = W.len in let b = empty.len in omega arith);
  small = All-append (λ e. e < p) (identity m) w empty.small W.small;
  later = λ k l. at k l (less-or k m);
}
  where
    empty : IsWord p m m (identity m)
    empty = identity-word p m m positive

    at : (k : ℕ) → k < m + j → (k < m) ⊎ (m ≤ k) → get_or (identity m ++ w) k 0 ≡ 0
    at k l (inl a) =
        get_or_append_left (identity m) w 0 k (let b = empty.len in omega (arith, a, b)) ∙ empty.later k a
    at k l (inr a) = get_or-append_right (identity m) w m k 0 empty.len a
        ∙ W.later (k - m) (omega (arith, l, a))

module _ (P Q : Presentation) (V : IsPresentation P) (W : IsPresentation Q) where
  abbrev left_word : List ℕ → List ℕ
  left_word w = w ++ identity Q.gens

  abbrev right_word : List ℕ → List ℕ
  right_word w = identity P.gens ++ w

  abbrev left_row : List (List ℕ) → List (List ℕ)
  left_row row = map (λ w. w ++ identity Q.gens) row

  abbrev right_row : List (List ℕ) → List (List ℕ)
  right_row row = replicate P.gens (identity (P.gens + Q.gens)) ++ map (λ w. identity P.gens ++ w) row

  abbrev row_of : Presentation → ℕ → List (List ℕ)
  row_of R j = get_or R.commutators (j - 1) []

  power_left_count : length (map left_word P.powers) ≡ P.gens
  power_left_count = length-map P.powers left_word ∙ V.power-count

  row_left_count : length (map left_row P.commutators) ≡ P.gens
  row_left_count = length-map P.commutators left_row ∙ V.commutator-count

  -- ---- the words of powers

  pub left_power : (i : ℕ) → 0 < i → i ≤ P.gens
      → power_word (direct_product P Q) i ≡ power_word P i ++ identity Q.gens
  left_power i low high =
      let c = power_left_count in
      let d = V.power-count in
      get_or_append_left (map left_word P.powers) (map right_word Q.powers) [] (i - 1)
      (omega (arith, low, high, c))
      ∙ get_or-map left_word P.powers (i - 1) [] [] (omega (arith, low, high, d))

  pub right_power : (i : ℕ) → P.gens < i → i ≤ P.gens + Q.gens
      → power_word (direct_product P Q) i ≡ identity P.gens ++ power_word Q (i - P.gens)
  right_power i low high =
      let d = W.power-count in
      let e : (i - 1) - P.gens ≡ (i - P.gens) - 1 = omega arith in
      get_or-append_right (map left_word P.powers) (map right_word Q.powers) P.gens
      (i - 1) [] power_left_count
      (omega (arith, low))
      ∙ get_or-map right_word Q.powers ((i - 1) - P.gens) [] [] (omega (arith, low, high, d))
      ∙ ap (λ k. right_word (get_or Q.powers k [])) e

  -- ---- the words of commutators

  left_row_is : (j : ℕ) → 0 < j → j ≤ P.gens → row_of (direct_product P Q) j ≡ left_row (row_of P j)
  left_row_is j low high =
      let c = row_left_count in
      let d = V.commutator-count in
      get_or_append_left (map left_row P.commutators) (map right_row Q.commutators) [] (j - 1)
      (omega (arith, low, high, c))
      ∙ get_or-map left_row P.commutators (j - 1) [] [] (omega (arith, low, high, d))

  right_row_is : (j : ℕ) → P.gens < j → j ≤ P.gens + Q.gens
      → row_of (direct_product P Q) j ≡ right_row (row_of Q (j - P.gens))
  right_row_is j low high =
      let d = W.commutator-count in
      let e : (j - 1) - P.gens ≡ (j - P.gens) - 1 = omega arith in
      get_or-append_right (map left_row P.commutators) (map right_row Q.commutators) P.gens (j - 1) []
      row_left_count (omega (arith, low))
      ∙ get_or-map right_row Q.commutators ((j - 1) - P.gens) [] [] (omega (arith, low, high, d))
      ∙ ap (λ k. right_row (get_or Q.commutators k [])) e

  pub left_commutator : (j i : ℕ) → 0 < i → i < j → j ≤ P.gens
      → commutator_word (direct_product P Q) j i ≡ commutator_word P j i ++ identity Q.gens
  left_commutator j i low less high =
      let c = V.row-count j (omega (arith, low, less)) high in
      ap (λ row. get_or row (i - 1) []) (left_row_is j (omega (arith, low, less)) high)
      ∙ get_or-map left_word (row_of P j) (i - 1) [] [] (omega (arith, low, less, c))

  pub mixed_commutator : (j i : ℕ) → 0 < i → i ≤ P.gens → P.gens < j → j ≤ P.gens + Q.gens
      → commutator_word (direct_product P Q) j i ≡ identity (P.gens + Q.gens)
  mixed_commutator j i low small less high =
      let empty = identity (P.gens + Q.gens) in
      let c = length-replicate P.gens empty in
      ap (λ row. get_or row (i - 1) []) (right_row_is j less high)
      ∙ get_or_append_left (replicate P.gens empty) (map right_word (row_of Q (j - P.gens))) [] (i - 1)
      (omega (arith, low, small, c))
      ∙ get_or-replicate P.gens (i - 1) empty [] (omega (arith, low, small))

  pub right_commutator : (j i : ℕ) → P.gens < i → i < j → j ≤ P.gens + Q.gens
      → commutator_word (direct_product P Q) j i
      ≡ identity P.gens ++ commutator_word Q (j - P.gens) (i - P.gens)
  right_commutator j i low less high =
      let empty = identity (P.gens + Q.gens) in
      let c = W.row-count (j - P.gens) (omega (arith, low, less)) (omega (arith, high)) in
      let e : (i - 1) - P.gens ≡ (i - P.gens) - 1 = omega arith in
      ap (λ row. get_or row (i - 1) []) (right_row_is j (omega (arith, low, less)) high)
      ∙ get_or-append_right (replicate P.gens empty) (map right_word (row_of Q (j - P.gens))) P.gens
      (i - 1) []
      (length-replicate P.gens empty) (omega (arith, low))
      ∙ get_or-map right_word (row_of Q (j - P.gens)) ((i - 1) - P.gens) [] [] (omega (arith, low, less, c))
      ∙ ap (λ k. right_word (get_or (row_of Q (j - P.gens)) k [])) e

  -- ---- the rules

  module _ (positive : 0 < P.prime) (same : P.prime ≡ Q.prime) where
    right_valid : (i k : ℕ) (w : List ℕ) → P.gens ≤ i → IsWord Q.prime Q.gens (i - P.gens) w
        → IsWord P.prime (P.gens + Q.gens) i (identity P.gens ++ w)
    right_valid i k w low h =
        let e : P.gens + (i - P.gens) ≡ i = omega (arith, low) in
        subst (λ i. IsWord P.prime (P.gens + Q.gens) i (identity P.gens ++ w)) e
        (word_after P.prime Q.gens (i - P.gens) P.gens w positive
        (subst (λ p. IsWord p Q.gens (i - P.gens) w) (sym same) h))

    power_valid : (i : ℕ) → 0 < i → i ≤ P.gens + Q.gens
        → IsWord P.prime (P.gens + Q.gens) i (power_word (direct_product P Q) i)
    power_valid i low high = at (less-or P.gens i)
      where
        at : (P.gens < i) ⊎ (i ≤ P.gens)
            → IsWord P.prime (P.gens + Q.gens) i (power_word (direct_product P Q) i)
        at (inl l) = subst (IsWord P.prime (P.gens + Q.gens) i) (sym (right_power i l high))
            (right_valid i i (power_word Q (i - P.gens)) (omega (arith, l))
            (W.power (i - P.gens) (omega (arith, l)) (omega (arith, high))))
        at (inr l) = subst (IsWord P.prime (P.gens + Q.gens) i) (sym (left_power i low l))
            (word_before P.prime P.gens i Q.gens (power_word P i) positive (V.power i low l))

    commutator_valid : (j i : ℕ) → 0 < i → i < j → j ≤ P.gens + Q.gens
        → IsWord P.prime (P.gens + Q.gens) j (commutator_word (direct_product P Q) j i)
    commutator_valid j i low less high = at (less-or P.gens j) (less-or P.gens i)
      where
        at : (P.gens < j) ⊎ (j ≤ P.gens) → (P.gens < i) ⊎ (i ≤ P.gens)
            → IsWord P.prime (P.gens + Q.gens) j (commutator_word (direct_product P Q) j i)
        at (inr l) k = subst (IsWord P.prime (P.gens + Q.gens) j) (sym (left_commutator j i low less l))
            (word_before P.prime P.gens j Q.gens (commutator_word P j i) positive
            (V.commutator j i low less l))
        at (inl l) (inr k) = subst (IsWord P.prime (P.gens + Q.gens) j)
            (sym (mixed_commutator j i low k l high))
            (identity-word P.prime (P.gens + Q.gens) j positive)
        at (inl l) (inl k) = subst (IsWord P.prime (P.gens + Q.gens) j)
            (sym (right_commutator j i k less high))
            (right_valid j i (commutator_word Q (j - P.gens) (i - P.gens)) (omega (arith, l))
            (W.commutator (j - P.gens) (i - P.gens) (omega (arith, k)) (omega (arith, k, less))
            (omega (arith, high))))

    row_valid : (j : ℕ) → 0 < j → j ≤ P.gens + Q.gens → length (row_of (direct_product P Q) j) ≡ j - 1
    row_valid j low high = at (less-or P.gens j)
      where
        empty : List ℕ
        empty = identity (P.gens + Q.gens)

        at : (P.gens < j) ⊎ (j ≤ P.gens) → length (row_of (direct_product P Q) j) ≡ j - 1
        at (inr l) = ap length (left_row_is j low l) ∙ length-map (row_of P j) left_word ∙ V.row-count j low l
        at (inl l) =
            let row = row_of Q (j - P.gens) in
            let a = length-append (replicate P.gens empty) (map right_word row) in
            let b = length-replicate P.gens empty in
            let c = length-map row right_word in
            let d = W.row-count (j - P.gens) (omega (arith, l)) (omega (arith, high)) in
            ap length (right_row_is j l high) ∙ omega (arith, a, b, c, d, l)

    pub product_valid : IsPresentation (direct_product P Q)
    product_valid = record {
      power-count = length-append (map left_word P.powers) (map right_word Q.powers)
          ∙ (let a = power_left_count in let b = length-map Q.powers right_word in let c = W.power-count in
          omega (arith, a, b, c));
      commutator-count = length-append (map left_row P.commutators) (map right_row Q.commutators)
          ∙ (let a = row_left_count in let b = length-map Q.commutators right_row in
          let c = W.commutator-count in omega (arith, a, b, c));
      row-count = row_valid;
      power = power_valid;
      commutator = commutator_valid;
    }
