-- The layer basis, one layer at a time.
use Rattle.std.proofs.Common.{◌≡◌, ℕ, zero, suc, ◌+◌, ◌<◌, ◌≤◌, ◌⊎◌, List, [], ◌∷◌, ◌++◌, length, get_or, inl}
use Rattle.std.proofs.Common.{inr, arith, ap, ap₂, sym, ◌∙◌, refl, append_assoc}
use Rattle.std.proofs.lemmas.Bool.{cases_eq, cases_lt}
use Rattle.std.proofs.lemmas.List.{get_or_push, get_or_append_left, get_or_past, length_push, append-nil}
use mathlib.Core.Path.{subst}
use Rattle.group_table.specs.Tables.{order}
use Rattle.linear_algebra.specs.Rows.{IsMatrix, IsEchelon}
use Rattle.linear_algebra.specs.Choices.{rows_at, IsGreedy}
use Rattle.radical_layers.specs.Layers.{IsPowerList}
use Rattle.radical_layers.specs.LayerBasis.{AreLayerLists, layers_of, layer_basis, layer_sizes, joined}
use Rattle.radical_layers.specs.LayerBasis.{sizes_from}
use Rattle.radical_layers.proofs.LayerForm.{size-at-most}
use Rattle.radical_layers.proofs.SameDimension.{echelon-independent}
use Rattle.radical_layers.proofs.LayerLaws.{layer-claims}
use Rattle.radical_layers.proofs.LayersExist.{layers-one, layers-of-lists}
use Rattle.p_groups.specs.PGroups.{PGroup, largest_residue, group}
use Rattle.p_groups.proofs.Fields.{residues, field, prime_power}
use Rattle.group_algebra.specs.Coordinates.{sum_coordinates, layers}
use Rattle.group_algebra.proofs.LayerLaws.{layers_are}

-- the member before the last one and the last one
get-before : {A : Type 0} (xs : List A) (x d : A) (i : ℕ) → i < length xs
    → get_or (xs ++ x ∷ []) i d ≡ get_or xs i d
get-before xs x d i l = get_or_append_left xs (x ∷ []) d i l

-- an empty list at the end changes no member
get-padded : {A : Type 0} (xs : List (List A)) (i : ℕ) → get_or (xs ++ [] ∷ []) i [] ≡ get_or xs i []
get-padded xs i = go (cases_lt i (length xs)) (cases_eq (length xs) i)
  where
    go : (i < length xs) ⊎ (length xs ≤ i) → (length xs ≡ i) ⊎ (length xs ≡ i → ⊥)
        → get_or (xs ++ [] ∷ []) i [] ≡ get_or xs i []
    go (inl l) h = get-before xs [] [] i l
    go (inr l) (inl e) = get_or_push xs [] [] i e ∙ sym (get_or_past xs i [] l)
    go (inr l) (inr d) = get_or_past (xs ++ [] ∷ []) i []
        (let e : length (xs ++ [] ∷ []) ≡ length xs + 1 = length_push xs [] in omega (arith, e, l, d))
        ∙ sym (get_or_past xs i [] l)

-- the layers, with the next one
joined-next : (E : ℕ → List (List ℕ)) (P : ℕ → List ℕ) (i c : ℕ)
    → joined E P i (suc c) ≡ joined E P i c ++ rows_at (E (i + c)) (P (i + c))
joined-next E P i zero = append-nil (rows_at (E i) (P i))
    ∙ ap (λ k. rows_at (E k) (P k)) (let z : i ≡ i + 0 = omega arith in z)
joined-next E P i (suc c) = ap (λ rows. rows_at (E i) (P i) ++ rows) (joined-next E P (suc i) c
    ∙ ap (λ k. joined E P (suc i) c ++ rows_at (E k) (P k))
    (let z : suc i + c ≡ i + suc c = omega arith in z))
    ∙ sym (append_assoc (rows_at (E i) (P i)) (joined E P (suc i) c)
    (rows_at (E (i + suc c)) (P (i + suc c))))

joined-same : (E E' : ℕ → List (List ℕ)) (P P' : ℕ → List ℕ) (i c : ℕ)
    → ((j : ℕ) → j < i + c → (E j ≡ E' j) × (P j ≡ P' j)) → joined E P i c ≡ joined E' P' i c
joined-same E E' P P' i zero h = refl
joined-same E E' P P' i (suc c) h = ap₂ ◌++◌ (ap₂ rows_at (h i (omega arith)).0 (h i (omega arith)).1)
    (joined-same E E' P P' (suc i) c (λ j l. h j (omega (arith, l))))

sizes-next : (P : ℕ → List ℕ) (i c : ℕ) → sizes_from P i (suc c) ≡ sizes_from P i c ++ length (P (i + c)) ∷ []
sizes-next P i zero = ap (λ k. length (P k) ∷ []) (let z : i ≡ i + 0 = omega arith in z)
sizes-next P i (suc c) = ap (λ xs. length (P i) ∷ xs) (sizes-next P (suc i) c
    ∙ ap (λ k. sizes_from P (suc i) c ++ length (P k) ∷ [])
    (let z : suc i + c ≡ i + suc c = omega arith in z))

sizes-same : (P P' : ℕ → List ℕ) (i c : ℕ) → ((j : ℕ) → j < i + c → P j ≡ P' j)
    → sizes_from P i c ≡ sizes_from P' i c
sizes-same P P' i zero h = refl
sizes-same P P' i (suc c) h = ap₂ ◌∷◌ (ap length (h i (omega arith)))
    (sizes-same P P' (suc i) c (λ j l. h j (omega (arith, l))))

-- the rows of these layers, and their sizes
abbrev pub rows_of : List (List (List ℕ)) → List (List ℕ) → List (List ℕ)
rows_of Es xs = layer_basis (layers_of Es xs)

abbrev pub sizes_of : List (List (List ℕ)) → List (List ℕ) → List ℕ
sizes_of Es xs = layer_sizes (layers_of Es xs)

module _ (Es : List (List (List ℕ))) (xs : List (List ℕ)) (E : List (List ℕ)) (x : List ℕ)
    (same : length xs ≡ length Es) where
  kept : (j : ℕ) → j < 0 + length Es → (get_or (Es ++ E ∷ []) j [] ≡ get_or Es j [])
      × (get_or (xs ++ x ∷ []) j [] ≡ get_or xs j [])
  kept j l = (get-before Es E [] j (omega (arith, l)), get-before xs x [] j (omega (arith, l, same)))

  pub rows-next : rows_of (Es ++ E ∷ []) (xs ++ x ∷ []) ≡ rows_of Es xs ++ rows_at E x
  rows-next = ap (joined (λ i. get_or (Es ++ E ∷ []) i []) (λ i. get_or (xs ++ x ∷ []) i []) 0)
      (length_push Es E ∙ (let z : length Es + 1 ≡ suc (length Es) = omega arith in z))
      ∙ joined-next (λ i. get_or (Es ++ E ∷ []) i []) (λ i. get_or (xs ++ x ∷ []) i []) 0 (length Es)
      ∙ ap₂ ◌++◌ (joined-same (λ i. get_or (Es ++ E ∷ []) i []) (λ i. get_or Es i [])
      (λ i. get_or (xs ++ x ∷ []) i []) (λ i. get_or xs i []) 0 (length Es) kept)
      (ap₂ rows_at (get_or_push Es E [] (0 + length Es) (omega arith))
      (get_or_push xs x [] (0 + length Es) (omega (arith, same))))

  pub sizes-next-of : sizes_of (Es ++ E ∷ []) (xs ++ x ∷ []) ≡ sizes_of Es xs ++ length x ∷ []
  sizes-next-of = ap (sizes_from (λ i. get_or (xs ++ x ∷ []) i []) 0) (length_push Es E
      ∙ (let z : length Es + 1 ≡ suc (length Es) = omega arith in z))
      ∙ sizes-next (λ i. get_or (xs ++ x ∷ []) i []) 0 (length Es)
      ∙ ap₂ ◌++◌ (sizes-same (λ i. get_or (xs ++ x ∷ []) i []) (λ i. get_or xs i []) 0 (length Es)
      (λ j l. (kept j l).1))
      (ap (λ y. length y ∷ []) (get_or_push xs x [] (0 + length Es) (omega (arith, same))))

module _ (G : PGroup) where
  abbrev IsPower : ℕ → List (List ℕ) → Type 0
  IsPower i E = IsPowerList (largest_residue G) (group G) (sum_coordinates G) i E

  -- Es are the lists of the first powers, none of them empty, xs the positions of their layers, and E is the
  -- next power
  pub record AreFirstLayers (Es : List (List (List ℕ))) (xs : List (List ℕ))
      (E : List (List ℕ)) : Type 0 where
    pub powers_are : (i : ℕ) → i < length Es → IsPower i (get_or Es i [])
    pub next_is : IsPower (length Es) E
    pub not_empty : (i : ℕ) → i < length Es → 0 < length (get_or Es i [])
    pub positions_are : (i : ℕ) → i < length Es
        → IsGreedy (suc (largest_residue G)) (get_or Es i []) (get_or (Es ++ E ∷ []) (suc i) [])
        (get_or xs i [])
    pub same_count : length xs ≡ length Es

  pub first-start : (E : List (List ℕ)) → IsPower 0 E → AreFirstLayers [] [] E
  first-start E P = record {
    powers_are = λ i l. absurd (omega (arith, l));
    next_is = P;
    not_empty = λ i l. absurd (omega (arith, l));
    positions_are =
        λ i l. absurd (omega (arith, l));
    same_count = refl;
  }

  module _ (Es : List (List (List ℕ))) (xs : List (List ℕ)) (E : List (List ℕ))
      (A : AreFirstLayers Es xs E) where
    pub first-next : (E' : List (List ℕ)) (x : List ℕ) → 0 < length E → IsPower (suc (length Es)) E'
        → IsGreedy G.table.p E E' x → AreFirstLayers (Es ++ E ∷ []) (xs ++ x ∷ []) E'
    first-next E' x some P g = record {
      powers_are = λ i l. power i (before i l);
      next_is = subst (λ k. IsPower k E')
          (sym (length_push Es E ∙ (let z : length Es + 1 ≡ suc (length Es) = omega arith in z))) P;
      not_empty = λ i l. filled i (before i l);
      positions_are = λ i l. positions i (before i l);
      same_count = length_push xs x ∙ ap (λ k. k + 1) A.same_count ∙ sym (length_push Es E);
    }
      where
        before : (i : ℕ) → i < length (Es ++ E ∷ []) → (i < length Es) ⊎ (length Es ≡ i)
        before i l = go (cases_lt i (length Es))
          where
            go : (i < length Es) ⊎ (length Es ≤ i) → (i < length Es) ⊎ (length Es ≡ i)
            go (inl m) = inl m
            go (inr m) = inr (let e : length (Es ++ E ∷ []) ≡ length Es + 1 = length_push Es E in omega
                (arith, e, l, m))

        power : (i : ℕ) → (i < length Es) ⊎ (length Es ≡ i) → IsPower i (get_or (Es ++ E ∷ []) i [])
        power i (inl l) = subst (IsPower i) (sym (get-before Es E [] i l)) (A.powers_are i l)
        power i (inr e) = subst (IsPower i) (sym (get_or_push Es E [] i e))
            (subst (λ k. IsPower k E) e A.next_is)

        filled : (i : ℕ) → (i < length Es) ⊎ (length Es ≡ i) → 0 < length (get_or (Es ++ E ∷ []) i [])
        filled i (inl l) = subst (λ F. 0 < length F) (sym (get-before Es E [] i l)) (A.not_empty i l)
        filled i (inr e) = subst (λ F. 0 < length F) (sym (get_or_push Es E [] i e)) some

        positions : (i : ℕ) → (i < length Es) ⊎ (length Es ≡ i)
            → IsGreedy (suc (largest_residue G)) (get_or (Es ++ E ∷ []) i [])
            (get_or ((Es ++ E ∷ []) ++ E' ∷ []) (suc i) []) (get_or (xs ++ x ∷ []) i [])
        positions i (inl l) =
            rw (
              get-before Es E [] i l,
              get-before (Es ++ E ∷ []) E' [] (suc i)
                  (let e : length (Es ++ E ∷ []) ≡ length Es + 1 = length_push Es E in omega (arith, e, l)),
              get-before xs x [] i (let e = A.same_count in omega (arith, e, l)),
            ) (A.positions_are i l)
        positions i (inr e) =
            rw (
              get_or_push Es E [] i e,
              get_or_push (Es ++ E ∷ []) E' [] (suc i) (length_push Es E
                  ∙ (let z : length Es + 1 ≡ suc i = omega (arith, e) in z)),
              get_or_push xs x [] i (A.same_count ∙ e),
              residues G,
            ) g

    pub first-end : length E ≡ 0 → layers G ≡ layers_of Es xs
    first-end none = layers-one (largest_residue G) (field G) (group G) (sum_coordinates G) (layers G)
        (layers_of Es xs) (layers_are G)
        (layers-of-lists (largest_residue G) (field G) (group G) (sum_coordinates G) Es xs (at E none A))
      where
        at : (E : List (List ℕ)) → length E ≡ 0 → AreFirstLayers Es xs E
            → AreLayerLists (largest_residue G) (group G) (sum_coordinates G) Es xs
        at [] e A = record {
          powers_are = A.powers_are;
          last_is = A.next_is;
          not_empty = A.not_empty;
          positions_are = λ i l. subst (λ F. IsGreedy (suc (largest_residue G)) (get_or Es i []) F
              (get_or xs i [])) (get-padded Es (suc i)) (A.positions_are i l);
          same_count = A.same_count;
        }
        at (x ∷ ys) e A = absurd (omega (arith, e))

    -- the next power is shorter
    pub first-shorter : (E' : List (List ℕ)) → 0 < length E → IsPower (suc (length Es)) E'
        → length E' < length E
    first-shorter E' some P = (layer-claims (largest_residue G) (group G) (sum_coordinates G) (field G)
        (prime_power G)).shorter (length Es) E E' A.next_is P some

  -- a reduced echelon list has no more rows than places
  pub few-rows : (E : List (List ℕ)) → IsMatrix G.table.p (order G.table) E → IsEchelon E
      → length E ≤ order G.table
  few-rows E M e = size-at-most (field G) (order G.table) E
      (subst (λ p. IsMatrix p (order G.table) E) (sym (residues G)) M)
      (echelon-independent (suc (largest_residue G)) E e)
