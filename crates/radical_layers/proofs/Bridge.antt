-- Spans of rows and sums of tables.
use Rattle.std.proofs.Common.{◌≡◌, ℕ, zero, suc, ◌+◌, ◌*◌, ◌-◌, ◌<◌, ◌≤◌, ◌⊎◌, List, [], ◌∷◌, ◌++◌, length}
use Rattle.std.proofs.Common.{map, inl, inr, arith, ap, sym, ◌∙◌, refl}
use Rattle.std.proofs.lemmas.Bool.{cases_lt}
use Rattle.std.proofs.lemmas.List.{get_or_append_left, get_or-append-add, length-append, length-map}
use Rattle.std.proofs.lemmas.List.{get_or-map}
use Rattle.std.proofs.lemmas.Grind.{same_number_lists}
use mathlib.Core.Path.{subst, fun_ext}
use Rattle.group_modules.specs.Module.{Module, sub, times}
use Rattle.group_modules.proofs.Laws.{sub-add, map-times}
use Rattle.group_modules.specs.Field.{Below}
use Rattle.linear_algebra.proofs.Residues.{below-path}
use Rattle.group_modules.specs.Tables.{Group, monoid}
use Rattle.group_modules.specs.Sums.{below, up, total}
use Rattle.group_modules.proofs.SumLaws.{total-map, map-total}
use Rattle.augmentation_ideal.specs.Radical.{Moved, none, both, moved}
use Rattle.augmentation_ideal.proofs.Nakayama.{moved-times, neg-times}
use Rattle.linear_algebra.specs.Modular.{IsCongruent, sum_below}
use Rattle.linear_algebra.specs.Rows.{entry, row, combination, IsRow, IsMatrix, IsCombination, IsInSpan}
use Rattle.linear_algebra.proofs.Spans.{in_span_congruent, in_span_zero, in_span_row, in_span_add}
use Rattle.linear_algebra.proofs.Congruences.{congruent_refl, congruent_add, congruent_trans, congruent_eq}
use Rattle.linear_algebra.proofs.Congruences.{congruent_sym, congruent_cancel, same_below}
use Rattle.radical_layers.specs.Coordinates.{RowForm}
use Rattle.radical_layers.specs.Moves.{move_row, moves_by, moves}
use Rattle.linear_algebra.proofs.GreedyChoice.{in-left, in-right}

-- x is in the list
abbrev In : {A : Type 0} → A → List A → Type 0
In x [] = ⊥
In x (y ∷ ys) = (x ≡ y) ⊎ In x ys

in-map : {A B : Type 0} (f : A → B) (x : A) (xs : List A) → In x xs → In (f x) (map f xs)
in-map f x [] h = h
in-map f x (y ∷ ys) (inl e) = inl (ap f e)
in-map f x (y ∷ ys) (inr h) = inr (in-map f x ys h)

in-below : (n : ℕ) (g : Below n) → In g (below n)
in-below zero g = let l : g.0 < 0 = g.1 in omega (arith, l)
in-below (suc n) g = go (cases_lt g.0 n) (λ x. in-below n x)
  where
    go : (g.0 < n) ⊎ (n ≤ g.0) → ((x : Below n) → In x (below n)) → In g (below (suc n))
    go (inl l) ih = inr (subst (λ x. In x (map (λ i. up i) (below n))) (below-path _ g refl)
        (in-map (λ i. up i) (g.0, l) (below n) (ih (g.0, l))))
    go (inr l) ih = inl (below-path g _ (let k : g.0 < suc n = g.1 in omega (arith, k, l)))

module _ {n : ℕ} (q : ℕ) (Γ : Group n) (D : ℕ) (T : Module (suc q) (monoid Γ)) (K : RowForm D T) where
  -- entry j of the row of v
  abbrev pub at : T.of → ℕ → ℕ
  at v j = entry (K.row v) j

  pub at-zero : (j : ℕ) → IsCongruent (suc q) (at T.zero j) 0
  at-zero j = congruent_sym (congruent_cancel (at T.zero j) (congruent_trans (congruent_eq (omega arith))
      (congruent_trans (congruent_eq (ap (λ v. at v j) (sym (T.add-zero T.zero))))
      (K.row-add T.zero T.zero j))))

  pub at-times : (k : ℕ) (v : T.of) (j : ℕ) → IsCongruent (suc q) (at (times T.add T.zero k v) j) (k * at v j)
  at-times zero v j = congruent_trans (at-zero j) (congruent_eq (omega arith))
  at-times (suc k) v j = congruent_trans (K.row-add v (times T.add T.zero k v) j)
      (congruent_trans (congruent_add (congruent_refl (at v j)) (at-times k v j))
      (congruent_eq (omega arith)))

  pub at-sub : (v w : T.of) (j : ℕ) → IsCongruent (suc q) (at (sub T v w) j) (at v j + q * at w j)
  at-sub v w j = congruent_trans (congruent_eq
      (ap (λ x. at (T.add v x) j) (sym (neg-times T (λ x. Unit {0}) w))))
      (congruent_trans (K.row-add v (times T.add T.zero q w) j)
      (congruent_add (congruent_refl (at v j)) (at-times q w j)))

  pub at-total : (m : ℕ) (f : Below m → T.of) (h : ℕ → ℕ) (j : ℕ)
      → ((i : Below m) → IsCongruent (suc q) (at (f i) j) (h i.0))
      → IsCongruent (suc q) (at (total T (below m) f) j) (sum_below m h)
  at-total zero f h j e = at-zero j
  at-total (suc m) f h j e =
      congruent_trans (K.row-add _ _ j)
      (congruent_trans (congruent_add (e _)
      (congruent_trans (congruent_eq (ap (λ v. at v j) (total-map T (λ i. up i) (below m) f)))
      (at-total m (λ i. f (up i)) h j (λ i. e (up i)))))
      (congruent_eq (omega arith)))

  -- tables with rows that agree modulo p are equal
  pub same-table : (v w : T.of) → ((j : ℕ) → IsCongruent (suc q) (at v j) (at w j)) → v ≡ w
  same-table v w h = sym (K.table-row v) ∙ ap K.table rows-same ∙ K.table-row w
    where
      rows-same : K.row v ≡ K.row w
      rows-same = same_number_lists (K.row v) (K.row w) ((K.row-is v).length_is ∙ sym (K.row-is w).length_is)
          (λ j l. same_below (h j) ((K.row-is v).below j (inside j l)) ((K.row-is w).below j (inside j l)))
        where
          inside : (j : ℕ) → j < length (K.row v) → j < D
          inside j l = rw (K.row-is v).length_is at l

  -- a table whose row is a combination of rows is the sum of the multiples of their tables
  pub from-span : (E : List (List ℕ)) → IsMatrix (suc q) D E → (u : ℕ → ℕ) (v : T.of)
      → IsCombination (suc q) u E (at v)
      → v ≡ total T (below (length E)) (λ i. times T.add T.zero (u i.0) (K.table (row E i.0)))
  from-span E m u v c = same-table v _ (λ j. congruent_trans (congruent_sym (c.each j)) (congruent_sym
      (at-total (length E) (λ i. times T.add T.zero (u i.0) (K.table (row E i.0)))
      (λ i. u i * entry (row E i) j) j
      (λ i. congruent_trans (at-times (u i.0) (K.table (row E i.0)) j)
      (congruent_eq (ap (λ r. u i.0 * entry r j) (K.row-table (row E i.0) (m i.0 i.1))))))))

  -- the sum of multiples of the tables of c rows
  abbrev pub tabs : List (List ℕ) → (ℕ → ℕ) → ℕ → T.of
  tabs X u c = total T (below c) (λ i. times T.add T.zero (u i.0) (K.table (row X i.0)))

  pub at-tabs : (X : List (List ℕ)) → IsMatrix (suc q) D X → (u : ℕ → ℕ) (c : ℕ) → c ≡ length X → (j : ℕ)
      → IsCongruent (suc q) (at (tabs X u c) j) (combination u X j)
  at-tabs X m u c e j = congruent_trans
      (at-total c (λ i. times T.add T.zero (u i.0) (K.table (row X i.0))) (λ i. u i * entry (row X i) j) j
      (λ i. congruent_trans (at-times (u i.0) (K.table (row X i.0)) j)
      (congruent_eq (ap (λ r. u i.0 * entry r j)
      (K.row-table (row X i.0) (m i.0 (subst (λ k. i.0 < k) e i.1)))))))
      (congruent_eq (ap (λ k. sum_below k (λ i. u i * entry (row X i) j)) e))

  pub span-total : (R : List (List ℕ)) {A : Type 0} (xs : List A) (u : A → ℕ) (f : A → T.of)
      → ((i : A) → IsInSpan (suc q) R (at (f i)))
      → IsInSpan (suc q) R (at (total T xs (λ i. times T.add T.zero (u i) (f i))))
  span-total R [] u f h = in_span_congruent (λ j. congruent_sym (at-zero j)) in_span_zero
  span-total R (x ∷ xs) u f h = in_span_congruent
      (λ j. congruent_sym (congruent_trans (K.row-add _ _ j)
      (congruent_trans (congruent_add (at-times (u x) (f x) j)
      (congruent_refl (at (total T xs (λ i. times T.add T.zero (u i) (f i))) j)))
      (congruent_eq (omega arith)))))
      (in_span_add {f = at (total T xs (λ i. times T.add T.zero (u i) (f i)))} {g = at (f x)} (u x)
      (span-total R xs u f h) (h x))

  pub moved-total : (L : T.of → Type 0) {A : Type 0} (xs : List A) (u : A → ℕ) (f : A → T.of)
      → ((i : A) → Moved T L (f i))
      → Moved T L (total T xs (λ i. times T.add T.zero (u i) (f i)))
  moved-total L [] u f h = none
  moved-total L (x ∷ xs) u f h = both (moved-times T L (u x) (f x) (h x)) (moved-total L xs u f h)

  -- each row of a list has a property
  Each : (List ℕ → Type 0) → List (List ℕ) → Type 0
  Each P rows = (i : ℕ) → i < length rows → P (row rows i)

  each-append : (P : List ℕ → Type 0) (xs ys : List (List ℕ)) → Each P xs → Each P ys → Each P (xs ++ ys)
  unfolding Each
  each-append P xs ys h k i l = go (cases_lt i (length xs))
    where
      go : (i < length xs) ⊎ (length xs ≤ i) → P (row (xs ++ ys) i)
      go (inl m) = rw (get_or_append_left xs ys [] i m) (h i m)
      go (inr m) = let e : i ≡ length xs + (i - length xs) = omega arith in
          rw (e, get_or-append-add xs ys (i - length xs) [])
          (k (i - length xs) (let f : length
          (xs ++ ys) ≡ length xs + length ys = length-append xs ys in omega (arith, f, l, m)))

  each-map : (P : List ℕ → Type 0) (f : List ℕ → List ℕ) (xs : List (List ℕ))
      → ((i : ℕ) → i < length xs → P (f (row xs i))) → Each P (map f xs)
  unfolding Each
  each-map P f xs h i l = let m : i < length xs = (rw (length-map xs f) at l) in
      rw (get_or-map f xs i [] [] m) (h i m)

  module _ (L : T.of → Type 0) (E : List (List ℕ)) (matrix : IsMatrix (suc q) D E)
      (members : (i : ℕ) → i < length E → L (K.table (row E i))) (spans : (v : T.of) → L v
      → IsInSpan (suc q) E (at v)) where
    -- the row of a member of the span of all (g - 1) v with v in L
    abbrev IsMovedRow : List ℕ → Type 0
    IsMovedRow x = (v : T.of) × Moved T L v × (x ≡ K.row v)

    moves-each : (gs : List (Below n)) → Each IsMovedRow (moves_by Γ T K gs E)
    unfolding Each
    moves-each [] i l = absurd (omega (arith, l))
    moves-each (g ∷ gs) i l = each-append IsMovedRow (map (move_row Γ T K g) E) (moves_by Γ T K gs E)
        (each-map IsMovedRow (move_row Γ T K g) E
        (λ k m. (
          sub T (T.act g (K.table (row E k))) (K.table (row E k)),
          moved g (K.table (row E k)) (members k m),
          refl,
        )))
        (moves-each gs) i l

    pub moves-matrix : IsMatrix (suc q) D (moves Γ T K E)
    unfolding Each
    moves-matrix i l = let r : IsMovedRow (row (moves Γ T K E) i) = moves-each (below n) i l in
        subst (IsRow (suc q) D) (sym r.2) (K.row-is r.0)

    -- what is in the span of the moves
    pub moved-from-span : (v : T.of) → IsInSpan (suc q) (moves Γ T K E) (at v) → Moved T L v
    unfolding Each
    moved-from-span v h = subst (Moved T L) (sym (from-span (moves Γ T K E) moves-matrix h.0 v h.1))
        (moved-total L (below (length (moves Γ T K E))) (λ i. h.0 i.0)
        (λ i. K.table (row (moves Γ T K E) i.0))
        (λ i. let r : IsMovedRow (row (moves Γ T K E) i.0) = moves-each (below n) i.0 i.1 in subst (Moved T L)
        (sym (ap K.table r.2 ∙ K.table-row r.0)) r.1))

    move-in-by : (g : Below n) (gs : List (Below n)) → In g gs → (i : ℕ) → i < length E
        → IsInSpan (suc q) (moves_by Γ T K gs E) (entry (move_row Γ T K g (row E i)))
    move-in-by g [] h i l = absurd h
    move-in-by g (k ∷ gs) (inl e) i l = in-left (suc q) (map (move_row Γ T K k) E) (moves_by Γ T K gs E)
        (entry (move_row Γ T K g (row E i)))
        (rw e (let h : IsInSpan (suc q) (map (move_row Γ T K k) E)
        (entry (row (map (move_row Γ T K k) E) i)) =
        in_span_row (map (move_row Γ T K k) E) i (rw (length-map E (move_row Γ T K k)) l) in
        rw (get_or-map (move_row Γ T K k) E i [] [] l) at h))
    move-in-by g (k ∷ gs) (inr h) i l = in-right (suc q) (map (move_row Γ T K k) E) (moves_by Γ T K gs E)
        (entry (move_row Γ T K g (row E i))) (move-in-by g gs h i l)

    -- the span of the moves holds the row of each member of the span of all (g - 1) v with v in L
    pub span-from-moved : (v : T.of) → Moved T L v → IsInSpan (suc q) (moves Γ T K E) (at v)
    span-from-moved v none = in_span_congruent (λ j. congruent_sym (at-zero j)) in_span_zero
    span-from-moved v (both {x = x} {y = y} h k) = in_span_congruent
        (λ j. congruent_sym (congruent_trans (K.row-add x y j) (congruent_eq (omega arith))))
        (in_span_add {f = at x} {g = at y} 1 (span-from-moved x h) (span-from-moved y k))
    span-from-moved v (moved g w k) = subst (λ x. IsInSpan (suc q) (moves Γ T K E) (at x)) (sym expand)
        (span-total (moves Γ T K E) (below (length E)) (λ i. (spans w k).0 i.0)
        (λ i. step (K.table (row E i.0))) (λ i. move-in-by g (below n) (in-below n g) i.0 i.1))
      where
        step : T.of → T.of
        step x = sub T (T.act g x) x

        step-add : (x y : T.of) → step (T.add x y) ≡ T.add (step x) (step y)
        step-add x y = ap (λ z. sub T z (T.add x y)) (T.act-add g x y) ∙ sub-add T (T.act g x) (T.act g y) x y

        expand : step w ≡ total T (below (length E))
            (λ i. times T.add T.zero ((spans w k).0 i.0) (step (K.table (row E i.0))))
        expand = ap step (from-span E matrix (spans w k).0 w (spans w k).1)
            ∙ map-total T T step step-add (below (length E))
            (λ i. times T.add T.zero ((spans w k).0 i.0) (K.table (row E i.0)))
            ∙ ap (total T (below (length E)))
            (fun_ext (λ i. map-times T T step step-add ((spans w k).0 i.0) (K.table (row E i.0))))
