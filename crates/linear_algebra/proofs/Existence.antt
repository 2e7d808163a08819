-- Each list of rows has a reduced echelon list; so has each decidable set of rows that is closed under
-- combinations; and membership of a span is decidable.
use Rattle.std.proofs.Common.{◌≡◌, ◌≢◌, ℕ, zero, suc, ◌+◌, ◌*◌, ◌-◌, ◌%◌, ◌<◌, ◌≤◌, ◌⊎◌, List, [], ◌∷◌, ◌++◌}
use Rattle.std.proofs.Common.{length, map, inl, inr, arith, ap, ap₂, sym, ◌∙◌, refl}
use Rattle.std.specs.Prelude.{insert}
use Rattle.std.proofs.lemmas.Bool.{cases_eq, cases_lt, cases_order}
use Rattle.std.proofs.lemmas.List.{get_or-map, length-map, length_push}
use Rattle.std.proofs.Math.Nat.{mod-eq_of_lt}
use mathlib.Core.Path.{subst}
use Rattle.linear_algebra.specs.Modular.{IsCongruent, IsFieldModulo}
use Rattle.linear_algebra.specs.Rows.{entry, row, pivot, add_multiple, IsRow, IsMatrix, IsEchelon}
use Rattle.linear_algebra.specs.Rows.{IsEchelonOf, IsReduced, IsInSpan, AreInSpan}
use Rattle.linear_algebra.specs.Elimination.{IsPrepared, IsCleared, AreCleared}
use Rattle.linear_algebra.proofs.Congruences.{congruent_eq, same_below}
use Rattle.linear_algebra.proofs.PivotLemmas.{pivot-le-length, not_zero_at_pivot}
use Rattle.linear_algebra.proofs.Pivots.{zero_at_pivots}
use Rattle.linear_algebra.proofs.EchelonLists.{HasPivots-from_echelon, Combines-from_combination}
use Rattle.linear_algebra.proofs.Spans.{row_push, row_before_push, in_span_row, in_span_trans, in_span_pushed}
use Rattle.linear_algebra.proofs.Spans.{are_in_span_push, are_in_span_with, are_in_span_trans}
use Rattle.linear_algebra.proofs.AddedRow.{in_span_left, in_span_right, zeros_in_span, prepared_zero}
use Rattle.linear_algebra.proofs.AddedRow.{prepared_scaled, scaled_pivot, added_nothing, added_row}
use Rattle.linear_algebra.proofs.Reducing.{IsReducedUpTo, reduced_start, reduced_step, cleared_by}

empty_echelon : IsEchelon []
empty_echelon = record {
  not_zero = λ i l. absurd (omega (arith, l));
  ascending = λ i k l m. absurd (omega (arith, m));
  monic = λ i l. absurd (omega (arith, l));
  cleared = λ i k l m. absurd (omega (arith, m));
}

empty_matrix : (p width : ℕ) → IsMatrix p width []
empty_matrix p width i l = absurd (omega (arith, l))

after_first : (p : ℕ) (x : List ℕ) (xs : List (List ℕ)) → AreInSpan p (x ∷ xs) xs
after_first p x xs i l = in_span_row (x ∷ xs) (suc i)
    (let z : suc i < suc (length xs) = omega (arith, l) in z)

module _ {p width : ℕ} (F : IsFieldModulo p) where
  module _ (E : List (List ℕ)) (M : IsMatrix p width E) (e : IsEchelon E) where
    reduce_upto : (v : List ℕ) → IsRow p width v → (n : ℕ) → n ≤ length E → (w : List ℕ)
        × IsReducedUpTo p width E v w n
    reduce_upto v r zero l = (v, reduced_start E v F.above_one r)
    reduce_upto v r (suc n) l = go (reduce_upto v r n (omega (arith, l)))
      where
        go : (w : List ℕ) × IsReducedUpTo p width E v w n → (w : List ℕ) × IsReducedUpTo p width E v w (suc n)
        go h = (
          add_multiple p (p - entry h.0 (pivot (row E n))) h.0 (row E n),
          subst (λ k. IsReducedUpTo p width E v
              (add_multiple p (p - entry h.0 (pivot (row E n))) h.0 (row E n)) k) (let z : n + 1 ≡ suc n =
              omega arith in z)
              (reduced_step F.above_one M e (let m : n < length E = omega (arith, l) in m) h.1
              (p - entry h.0 (pivot (row E n))) refl),
        )

    -- v less a member of the span, 0 at each pivot
    pub reduce : (v : List ℕ) → IsRow p width v → (w : List ℕ) × IsRow p width w × IsReduced p E v w
    reduce v r = go (reduce_upto v r (length E) (omega arith))
      where
        go : (w : List ℕ) × IsReducedUpTo p width E v w (length E) → (w : List ℕ) × IsRow p width w
            × IsReduced p E v w
        go h = (h.0, h.1.is_row, record { difference = h.1.difference; zero_at_pivots = h.1.zero_below })

    -- a member of the span that is 0 at each pivot has no pivot
    pub no_pivot : (w : List ℕ) → IsRow p width w → ((i : ℕ) → i < length E → entry w (pivot (row E i)) ≡ 0)
        → IsInSpan p E (entry w) → pivot w < width → ⊥
    no_pivot w r z s l = not_zero_at_pivot w (let k = r.length_is in omega (arith, k, l))
        (same_below (zero_at_pivots p (length E) s.0 (λ i j. entry (row E i) j) (λ i. pivot (row E i))
        (entry w) (HasPivots-from_echelon e) (Combines-from_combination s.1)
        (λ i m. congruent_eq (z i m)) (pivot w)) (r.below (pivot w) l) (let o = F.above_one in
        omega (arith, o)))

    prepare : (v : List ℕ) → IsRow p width v → (s : List ℕ) × IsPrepared p width E v s
        × ((pivot s ≡ width) ⊎ (pivot s < width))
    prepare v r = go (reduce v r)
      where
        go : (w : List ℕ) × IsRow p width w × IsReduced p E v w → (s : List ℕ) × IsPrepared p width E v s
            × ((pivot s ≡ width) ⊎ (pivot s < width))
        go h = at (cases_lt (pivot h.0) width)
          where
            at : (pivot h.0 < width) ⊎ (width ≤ pivot h.0) → (s : List ℕ) × IsPrepared p width E v s
                × ((pivot s ≡ width) ⊎ (pivot s < width))
            at (inr l) = (h.0, prepared_zero E v h.0 F.above_one h.1 h.2 whole, inl whole)
              where
                whole : pivot h.0 ≡ width
                whole = let k = h.1.length_is in let m = pivot-le-length h.0 in omega (arith, k, m, l)
            at (inl l) = (
              map (λ x. inv.0 * x % p) h.0,
              prepared_scaled inv.0 (pivot h.0) E v h.0
                  (map (λ x. inv.0 * x % p) h.0) F.above_one h.1 h.2 refl one refl,
              inr (subst (λ k. k < width)
                  (sym (scaled_pivot inv.0 (pivot h.0) E v h.0
                  (map (λ x. inv.0 * x % p) h.0) F.above_one h.1 h.2 refl one refl)) l),
            )
              where
                inv : (b : ℕ) × IsCongruent p (entry h.0 (pivot h.0) * b) 1
                inv = F.inverse (entry h.0 (pivot h.0))
                    (λ z. not_zero_at_pivot h.0 (let k = h.1.length_is in omega (arith, k, l))
                    (sym (mod-eq_of_lt (h.1.below (pivot h.0) l)) ∙ z))

                one : inv.0 * entry h.0 (pivot h.0) % p ≡ 1
                one = ap (λ x. x % p) (let z : inv.0 * entry h.0 (pivot h.0) ≡ entry h.0
                    (pivot h.0) * inv.0 = omega arith in z) ∙ inv.1.same_remainder ∙ mod-eq_of_lt F.above_one

    clear : (t : ℕ) (v : List ℕ) → IsRow p width v → (D : List (List ℕ)) × AreCleared p width t v E D
    clear t v r = (
      map (λ x. add_multiple p (p - entry x t) x v) E,
      record {
        same_length = length-map E (λ x. add_multiple p (p - entry x t) x v);
        each = λ i l. subst (IsCleared p width t v (row E i))
            (sym (get_or-map (λ x. add_multiple p (p - entry x t) x v) E i [] [] l))
            (cleared_by v (row E i) (let o = F.above_one in omega (arith, o)) r (M i l));
      },
    )

    place_upto : (t : ℕ) → ((i : ℕ) → i < length E → pivot (row E i) ≢ t) → (n : ℕ) → n ≤ length E
        → (pos : ℕ) × (pos ≤ n) × ((i : ℕ) → i < pos → pivot (row E i) < t)
        × ((i : ℕ) → pos ≤ i → i < n → t < pivot (row E i))
    place_upto t d zero l = (
      0,
      (let z : 0 ≤ 0 = omega arith in z),
      (λ i b. absurd (omega (arith, b))),
      λ i a b. absurd (omega (arith, b)),
    )
    place_upto t d (suc n) l = go (cases_order (pivot (row E n)) t) (place_upto t d n (omega (arith, l)))
      where
        inside : n < length E
        inside = omega (arith, l)

        go : (pivot (row E n) ≡ t) ⊎ ((pivot (row E n) < t) ⊎ (t < pivot (row E n)))
            → (pos : ℕ) × (pos ≤ n) × ((i : ℕ) → i < pos → pivot (row E i) < t)
            × ((i : ℕ) → pos ≤ i → i < n → t < pivot (row E i))
            → (pos : ℕ) × (pos ≤ suc n) × ((i : ℕ) → i < pos → pivot (row E i) < t)
            × ((i : ℕ) → pos ≤ i → i < suc n → t < pivot (row E i))
        go (inl f) h = absurd (d n inside f)
        go (inr (inl b)) h = (
          suc n,
          (let z : suc n ≤ suc n = omega arith in z),
          (λ i m. low i m (cases_lt i n)),
          λ i a m. absurd (omega (arith, a, m)),
        )
          where
            low : (i : ℕ) → i < suc n → (i < n) ⊎ (n ≤ i) → pivot (row E i) < t
            low i m (inl k) = let z : pivot (row E i) < pivot (row E n) = e.ascending i n k inside in
                omega (arith, z, b)
            low i m (inr k) = subst (λ x. pivot (row E x) < t) (let z : n ≡ i = omega (arith, m, k) in z) b
        go (inr (inr a)) h = (
          h.0,
          (let z : h.0 ≤ n = h.1 in omega (arith, z)),
          h.2,
          λ i c m. high i c m (cases_lt i n),
        )
          where
            high : (i : ℕ) → h.0 ≤ i → i < suc n → (i < n) ⊎ (n ≤ i) → t < pivot (row E i)
            high i c m (inl k) = h.3 i c k
            high i c m (inr k) = subst (λ x. t < pivot (row E x)) (let z : n ≡ i = omega (arith, m, k) in z) a

    -- the reduced echelon list of the rows and one more
    pub add_row : (v : List ℕ) → IsRow p width v → (E' : List (List ℕ)) × IsEchelonOf p width (E ++ v ∷ []) E'
    add_row v r = go (prepare v r)
      where
        go : (s : List ℕ) × IsPrepared p width E v s × ((pivot s ≡ width) ⊎ (pivot s < width))
            → (E' : List (List ℕ)) × IsEchelonOf p width (E ++ v ∷ []) E'
        go (s, h, inl z) = (E, added_nothing v s M e h z)
        go (s, h, inr l) = at (clear (pivot s) s h.is_row)
            (place_upto (pivot s) differs (length E) (omega arith))
          where
            differs : (i : ℕ) → i < length E → pivot (row E i) ≢ pivot s
            differs i m f = let z : entry s (pivot (row E i)) ≡ 0 = h.zero_at_pivots i m in
                let o : entry s (pivot s) ≡ 1 = h.monic l in
                let g : entry s (pivot (row E i)) ≡ entry s (pivot s) = ap (entry s) f in
                omega (arith, z, o, g)

            at : (D : List (List ℕ)) × AreCleared p width (pivot s) s E D
                → (pos : ℕ) × (pos ≤ length E) × ((i : ℕ) → i < pos → pivot (row E i) < pivot s)
                × ((i : ℕ) → pos ≤ i → i < length E → pivot s < pivot (row E i))
                → (E' : List (List ℕ)) × IsEchelonOf p width (E ++ v ∷ []) E'
            at D P = (
              insert D.0 P.0 s,
              added_row v s (pivot s) P.0 F.above_one M e h refl l D.1
                  (record { within = P.1; below = P.2; above = P.3 }),
            )

    -- a row is in the span of an echelon list, or not
    pub decide_echelon : (v : List ℕ) → IsRow p width v → IsInSpan p E (entry v)
        ⊎ (IsInSpan p E (entry v) → ⊥)
    decide_echelon v r = go (reduce v r)
      where
        go : (w : List ℕ) × IsRow p width w × IsReduced p E v w → IsInSpan p E (entry v)
            ⊎ (IsInSpan p E (entry v) → ⊥)
        go h = at (cases_lt (pivot h.0) width)
          where
            at : (pivot h.0 < width) ⊎ (width ≤ pivot h.0) → IsInSpan p E (entry v)
                ⊎ (IsInSpan p E (entry v) → ⊥)
            at (inl l) = inr (λ s. no_pivot h.0 h.1 h.2.zero_at_pivots
                (in_span_left (entry h.0) (entry v) F.above_one h.2.difference s) l)
            at (inr l) = inl (in_span_right (entry h.0) (entry v) F.above_one h.2.difference
                (zeros_in_span h.0 (let k = h.1.length_is in let m = pivot-le-length h.0 in let z : pivot h.0
                ≡ length h.0 = omega (arith, k, m, l) in z)))

  -- the reduced echelon list of a list of rows
  pub echelon : (rows : List (List ℕ)) → IsMatrix p width rows → (E : List (List ℕ))
      × IsEchelonOf p width rows E
  echelon [] M = (
    [],
    record {
      matrix = empty_matrix p width;
      echelon = empty_echelon;
      spanned = λ i l. absurd (omega (arith, l));
      spans = λ i l. absurd (omega (arith, l));
    },
  )
  echelon (x ∷ xs) M = go (echelon xs (λ i l. M (suc i)
      (let z : suc i < suc (length xs) = omega (arith, l) in z)))
    where
      go : (E : List (List ℕ)) × IsEchelonOf p width xs E → (E : List (List ℕ))
          × IsEchelonOf p width (x ∷ xs) E
      go (E, h) = at (add_row E h.matrix h.echelon x (M 0 (let z : 0 < suc (length xs) = omega arith in z)))
        where
          at : (E' : List (List ℕ)) × IsEchelonOf p width (E ++ x ∷ []) E' → (E : List (List ℕ))
              × IsEchelonOf p width (x ∷ xs) E
          at (E', k) = (
            E',
            record {
              matrix = k.matrix;
              echelon = k.echelon;
              spanned = are_in_span_trans E'
                  (are_in_span_with E x (are_in_span_trans E (after_first p x xs) h.spanned)
                  (in_span_row (x ∷ xs) 0 (let z : 0 < suc (length xs) = omega arith in z))) k.spanned;
              spans = λ i l. each i l;
            },
          )
            where
              each : (i : ℕ) → i < suc (length xs) → IsInSpan p E' (entry (row (x ∷ xs) i))
              each zero l = in_span_trans k.spans (in_span_pushed E x)
              each (suc i) l = in_span_trans (are_in_span_trans E k.spans (are_in_span_push E x))
                  (h.spans i (let z : i < length xs = omega (arith, l) in z))

  -- a row is in the span of rows, or not
  pub decide_span : (rows : List (List ℕ)) → IsMatrix p width rows → (v : List ℕ) → IsRow p width v
      → IsInSpan p rows (entry v) ⊎ (IsInSpan p rows (entry v) → ⊥)
  decide_span rows M v r = go (echelon rows M)
    where
      go : (E : List (List ℕ)) × IsEchelonOf p width rows E → IsInSpan p rows (entry v)
          ⊎ (IsInSpan p rows (entry v) → ⊥)
      go (E, h) = at (decide_echelon E h.matrix h.echelon v r)
        where
          at : IsInSpan p E (entry v) ⊎ (IsInSpan p E (entry v) → ⊥) → IsInSpan p rows (entry v)
              ⊎ (IsInSpan p rows (entry v) → ⊥)
          at (inl s) = inl (in_span_trans h.spanned s)
          at (inr no-span) = inr (λ s. no-span (in_span_trans h.spans s))

-- x is in the list
abbrev pub In : {A : Type 0} → A → List A → Type 0
In x [] = ⊥
In x (y ∷ ys) = (x ≡ y) ⊎ In x ys

in-map : {A B : Type 0} (f : A → B) (x : A) (xs : List A) → In x xs → In (f x) (map f xs)
in-map f x [] h = h
in-map f x (y ∷ ys) (inl e) = inl (ap f e)
in-map f x (y ∷ ys) (inr h) = inr (in-map f x ys h)

in-first : {A : Type 0} (x : A) (xs ys : List A) → In x xs → In x (xs ++ ys)
in-first x [] ys h = absurd h
in-first x (y ∷ xs) ys (inl e) = inl e
in-first x (y ∷ xs) ys (inr h) = inr (in-first x xs ys h)

in-second : {A : Type 0} (x : A) (xs ys : List A) → In x ys → In x (xs ++ ys)
in-second x [] ys h = h
in-second x (y ∷ xs) ys h = inr (in-second x xs ys h)

-- the lists of ys with a number below c before them
abbrev with_heads : ℕ → List (List ℕ) → List (List ℕ)
with_heads zero ys = []
with_heads (suc c) ys = map (λ y. c ∷ y) ys ++ with_heads c ys

-- all rows of a width with entries below p
abbrev pub all_rows : ℕ → ℕ → List (List ℕ)
all_rows p zero = [] ∷ []
all_rows p (suc w) = with_heads p (all_rows p w)

in-heads : (c a : ℕ) (x : List ℕ) (ys : List (List ℕ)) → a < c → In x ys → In (a ∷ x) (with_heads c ys)
in-heads zero a x ys l h = absurd (omega (arith, l))
in-heads (suc c) a x ys l h = go (cases_lt a c) (λ m. in-heads c a x ys m h)
  where
    go : (a < c) ⊎ (c ≤ a) → (a < c → In (a ∷ x) (with_heads c ys)) → In (a ∷ x) (with_heads (suc c) ys)
    go (inl m) ih = in-second (a ∷ x) (map (λ y. c ∷ y) ys) (with_heads c ys) (ih m)
    go (inr m) ih = in-first (a ∷ x) (map (λ y. c ∷ y) ys) (with_heads c ys)
        (subst (λ k. In (k ∷ x) (map (λ y. c ∷ y) ys)) (let z : c ≡ a = omega (arith, l, m) in z)
        (in-map (λ y. c ∷ y) x ys h))

in-all-rows : (p w : ℕ) (x : List ℕ) → IsRow p w x → In x (all_rows p w)
in-all-rows p zero [] r = inl refl
in-all-rows p zero (a ∷ x) r = absurd (let k : suc (length x) ≡ 0 = r.length_is in omega (arith, k))
in-all-rows p (suc w) [] r = absurd (let k : 0 ≡ suc w = r.length_is in omega (arith, k))
in-all-rows p (suc w) (a ∷ x) r = in-heads p a x (all_rows p w)
    (r.below 0 (let z : 0 < suc w = omega arith in z))
    (in-all-rows p w x (record {
      length_is = let k : suc (length x) ≡ suc w = r.length_is in omega (arith, k);
      below = λ j l. r.below (suc j) (let z : suc j < suc w = omega (arith, l) in z);
    }))

-- a decidable set of rows that holds each row in the span of members has a reduced echelon list
module _ {p width : ℕ} (F : IsFieldModulo p) (S : List ℕ → Type 0) (R : (x : List ℕ) → S x
    → IsRow p width x) (D : (x : List ℕ) → S x ⊎ (S x → ⊥))
    (C : (rows : List (List ℕ)) → ((i : ℕ) → i < length rows → S (row rows i)) → (y : List ℕ)
    → IsRow p width y → IsInSpan p rows (entry y) → S y) where
  record Collected (xs E : List (List ℕ)) : Type 0 where
    matrix : IsMatrix p width E
    echelon-is : IsEchelon E
    members : (i : ℕ) → i < length E → S (row E i)
    spans : (x : List ℕ) → In x xs → S x → IsInSpan p E (entry x)

  collect : (xs : List (List ℕ)) → (E : List (List ℕ)) × Collected xs E
  collect [] = (
    [],
    record {
      matrix = empty_matrix p width;
      echelon-is = empty_echelon;
      members = λ i l. absurd (omega (arith, l));
      spans = λ x h. absurd h;
    },
  )
  collect (x ∷ xs) = go (collect xs) (D x)
    where
      go : (E : List (List ℕ)) × Collected xs E → S x ⊎ (S x → ⊥) → (E : List (List ℕ)) × Collected (x ∷ xs) E
      go (E, h) (inr out) = (
        E,
        record {
          matrix = h.matrix;
          echelon-is = h.echelon-is;
          members = h.members;
          spans = λ y k s. old y k s;
        },
      )
        where
          old : (y : List ℕ) → (y ≡ x) ⊎ In y xs → S y → IsInSpan p E (entry y)
          old y (inl e) s = absurd (out (subst S e s))
          old y (inr k) s = h.spans y k s
      go (E, h) (inl s) = at (add_row F E h.matrix h.echelon-is x (R x s))
        where
          at : (E' : List (List ℕ)) × IsEchelonOf p width (E ++ x ∷ []) E' → (E : List (List ℕ))
              × Collected (x ∷ xs) E
          at (E', k) = (
            E',
            record {
              matrix = k.matrix;
              echelon-is = k.echelon;
              members = λ i l. C (E ++ x ∷ []) both (row E' i) (k.matrix i l) (k.spanned i l);
              spans = new;
            },
          )
            where
              both : (i : ℕ) → i < length (E ++ x ∷ []) → S (row (E ++ x ∷ []) i)
              both i l = which (cases_lt i (length E))
                where
                  which : (i < length E) ⊎ (length E ≤ i) → S (row (E ++ x ∷ []) i)
                  which (inl m) = subst S (sym (row_before_push E x i m)) (h.members i m)
                  which (inr m) = let z : length E ≡ i =
                      (let c : length (E ++ x ∷ []) ≡ length E + 1 = length_push E x in omega (
                        arith,
                        c,
                        l,
                        m,
                      )) in
                      subst (λ j. S (row (E ++ x ∷ []) j)) z (subst S (sym (row_push E x)) s)

              new : (y : List ℕ) → (y ≡ x) ⊎ In y xs → S y → IsInSpan p E' (entry y)
              new y (inl e) t = subst (λ z. IsInSpan p E' (entry z)) (sym e)
                  (in_span_trans k.spans (in_span_pushed E x))
              new y (inr m) t = in_span_trans (are_in_span_trans E k.spans (are_in_span_push E x))
                  (h.spans y m t)

  pub echelon_of_set : (E : List (List ℕ)) × IsMatrix p width E × IsEchelon E
      × ((i : ℕ) → i < length E → S (row E i)) × ((x : List ℕ) → S x → IsInSpan p E (entry x))
  echelon_of_set = go (collect (all_rows p width))
    where
      go : (E : List (List ℕ)) × Collected (all_rows p width) E
          → (E : List (List ℕ)) × IsMatrix p width E × IsEchelon E × ((i : ℕ) → i < length E → S (row E i))
          × ((x : List ℕ) → S x → IsInSpan p E (entry x))
      go (E, h) = (E, h.matrix, h.echelon-is, h.members, λ x s. h.spans x (in-all-rows p width x (R x s)) s)

-- two lists of numbers are equal or not
pub same_list : (xs ys : List ℕ) → (xs ≡ ys) ⊎ (xs ≡ ys → ⊥)
same_list [] [] = inl refl
same_list [] (y ∷ ys) = inr (λ e. let k : 0 ≡ suc (length ys) = ap length e in omega (arith, k))
same_list (x ∷ xs) [] = inr (λ e. let k : suc (length xs) ≡ 0 = ap length e in omega (arith, k))
same_list (x ∷ xs) (y ∷ ys) = go (cases_eq x y) (same_list xs ys)
  where
    tail : List ℕ → List ℕ
    tail [] = []
    tail (z ∷ zs) = zs

    go : (x ≡ y) ⊎ (x ≡ y → ⊥) → (xs ≡ ys) ⊎ (xs ≡ ys → ⊥) → (x ∷ xs ≡ y ∷ ys) ⊎ (x ∷ xs ≡ y ∷ ys → ⊥)
    go (inl e) (inl f) = inl (ap₂ ◌∷◌ e f)
    go (inr d) f = inr (λ g. d (ap (λ z. entry z 0) g))
    go (inl e) (inr d) = inr (λ g. d (ap tail g))
