-- What a greedy choice of rows gives: with the rows before them they span, and they are independent modulo
-- these.
use Rattle.std.proofs.Common.{◌≡◌, ◌≢◌, ℕ, zero, suc, ◌+◌, ◌*◌, ◌-◌, ◌%◌, ◌<◌, ◌≤◌, ◌⊎◌, List, [], ◌∷◌, ◌++◌}
use Rattle.std.proofs.Common.{length, get_or, take, inl, inr, arith, ap, sym, ◌∙◌, refl}
use Rattle.std.proofs.lemmas.Bool.{cases_eq, cases_lt}
use Rattle.std.proofs.lemmas.List.{get_or_append_left, get_or-append-add, length-append, length_push}
use Rattle.std.proofs.lemmas.List.{length-map, get_or-map, get_or_push}
use Rattle.std.proofs.Math.Nat.{zero-mod, le_refl}
use Rattle.std.proofs.Math.Seq.{take-length}
use Rattle.std.proofs.lemmas.List.{take-append-le}
use mathlib.Core.Path.{subst}
use Rattle.linear_algebra.proofs.Sums.{sum_below-same}
use Rattle.linear_algebra.specs.Modular.{IsCongruent, IsFieldModulo, sum_below}
use Rattle.linear_algebra.specs.Rows.{entry, row, combination, IsInSpan, AreInSpan}
use Rattle.linear_algebra.specs.Choices.{rows_at, IsGreedyBelow}
use Rattle.linear_algebra.proofs.Spans.{in_span_congruent, in_span_zero, in_span_row, in_span_add}
use Rattle.linear_algebra.proofs.Spans.{in_span_trans, row_push, row_before_push, are_in_span_push}
use Rattle.linear_algebra.proofs.Spans.{in_span_pushed}
use Rattle.linear_algebra.proofs.Congruences.{congruent_refl, congruent_add, congruent_trans, congruent_eq}
use Rattle.linear_algebra.proofs.Congruences.{congruent_mul_left, congruent_mul_right, congruent_minus}

pub append-push : {A : Type 0} (xs ys : List A) (y : A) → xs ++ (ys ++ y ∷ []) ≡ (xs ++ ys) ++ y ∷ []
append-push [] ys y = refl
append-push (x ∷ xs) ys y = ap (λ zs. x ∷ zs) (append-push xs ys y)

pub rows-push : (s : List (List ℕ)) (xs : List ℕ) (n : ℕ)
    → rows_at s (xs ++ n ∷ []) ≡ rows_at s xs ++ row s n ∷ []
rows-push s [] n = refl
rows-push s (x ∷ xs) n = ap (λ zs. row s x ∷ zs) (rows-push s xs n)

-- the rows before are in the span of t and the rows taken
pub greedy-spans : (p : ℕ) (s t : List (List ℕ)) (n : ℕ) (xs : List ℕ) → IsGreedyBelow p s t n xs → (i : ℕ)
    → i < n → IsInSpan p (t ++ rows_at s xs) (entry (row s i))
greedy-spans p s t zero xs h i l = absurd (omega arith)
greedy-spans p s t (suc n) xs h i l = at h (cases_lt i n) (λ ys k m. greedy-spans p s t n ys k i m)
  where
    at : IsGreedyBelow p s t (suc n) xs → (i < n) ⊎ (n ≤ i)
        → ((ys : List ℕ) → IsGreedyBelow p s t n ys → i < n
        → IsInSpan p (t ++ rows_at s ys) (entry (row s i)))
        → IsInSpan p (t ++ rows_at s xs) (entry (row s i))
    at (inl k) (inl m) ih = ih xs k.0 m
    at (inl k) (inr m) ih = rw (let e : i ≡ n = omega arith in e) k.1
    at (inr k) (inl m) ih =
        rw (k.3, rows-push s k.0 n, append-push t (rows_at s k.0) (row s n))
        (in_span_trans (are_in_span_push (t ++ rows_at s k.0) (row s n)) (ih k.0 k.1 m))
    at (inr k) (inr m) ih =
        rw (let e : i ≡ n = omega arith in e, k.3, rows-push s k.0 n, append-push t (rows_at s k.0) (row s n))
        (in_span_pushed (t ++ rows_at s k.0) (row s n))

pub in-left : (p : ℕ) (t r : List (List ℕ)) (f : ℕ → ℕ) → IsInSpan p t f → IsInSpan p (t ++ r) f
in-left p t r f h = in_span_trans (λ i l. let k : IsInSpan p (t ++ r) (entry (row (t ++ r) i)) = in_span_row
    (t ++ r) i (let e : length (t ++ r) ≡ length t + length r = length-append t r in omega (arith, e, l)) in
    rw (get_or_append_left t r [] i l) at k) h

pub in-right : (p : ℕ) (t r : List (List ℕ)) (f : ℕ → ℕ) → IsInSpan p r f → IsInSpan p (t ++ r) f
in-right p t r f h = in_span_trans (λ i l. let k : IsInSpan p (t ++ r)
    (entry (row (t ++ r) (length t + i))) =
    in_span_row (t ++ r) (length t + i) (let e : length
    (t ++ r) ≡ length t + length r = length-append t r in
    omega (arith, e, l)) in rw (get_or-append-add t r i []) at k) h

combination-push : (c : ℕ → ℕ) (rows : List (List ℕ)) (v : List ℕ) (j : ℕ)
    → combination c (rows ++ v ∷ []) j ≡ combination c rows j + c (length rows) * entry v j
combination-push c rows v j =
    ap (λ n. sum_below n (λ i. c i * entry (row (rows ++ v ∷ []) i) j))
    (let e : length (rows ++ v ∷ []) ≡ length rows + 1 = length_push rows v in let k : length
    (rows ++ v ∷ []) ≡ suc (length rows) = omega (arith, e) in k)
    ∙ omega (
      arith,
      sum_below-same (length rows) (λ i. c i * entry (row (rows ++ v ∷ []) i) j)
          (λ i. c i * entry (row rows i) j) (λ i l. ap (λ r. c i * entry r j) (row_before_push rows v i l)),
      ap (λ r. c (length rows) * entry r j) (row_push rows v),
    )

pub in-combination : (p : ℕ) (c : ℕ → ℕ) (rows : List (List ℕ)) → IsInSpan p rows (combination c rows)
in-combination p c rows = (c, record { each = λ j. congruent_refl (combination c rows j) })

-- b (w - a) is x where w = a + k x and k b = 1
solve : (p w a k b x : ℕ) → 1 < p → w ≡ a + k * x → IsCongruent p (k * b) 1
    → IsCongruent p (0 + b * (w + (p - 1) * a)) x
solve p w a k b x h e i =
    congruent_trans (congruent_eq (ap (λ z. 0 + b * (z + (p - 1) * a)) e))
    (congruent_trans (congruent_eq (rearrange (p - 1)))
    (congruent_trans (congruent_add (congruent_mul_left b (congruent_minus a h)) (congruent_mul_right x i))
    (congruent_eq (omega arith))))
  where
    rearrange : (m : ℕ) → 0 + b * (a + k * x + m * a) ≡ b * (a + m * a) + k * b * x
    rearrange m = omega arith

-- the rows taken are independent modulo the span of t
pub greedy-independent : (p : ℕ) → IsFieldModulo p → (s t : List (List ℕ)) (n : ℕ) (xs : List ℕ)
    → IsGreedyBelow p s t n xs
    → (c : ℕ → ℕ) → IsInSpan p t (combination c (rows_at s xs)) → (i : ℕ) → i < length xs
    → IsCongruent p (c i) 0
greedy-independent p F s t zero xs h c m i l =
    absurd (let e : length xs ≡ 0 = ap length h in omega (arith, e, l))
greedy-independent p F s t (suc n) xs h c m i l = at h (λ ys k w. greedy-independent p F s t n ys k c w i)
  where
    at : IsGreedyBelow p s t (suc n) xs → ((ys : List ℕ) → IsGreedyBelow p s t n ys
        → IsInSpan p t (combination c (rows_at s ys)) → i < length ys → IsCongruent p (c i) 0)
        → IsCongruent p (c i) 0
    at (inl k) ih = ih xs k.0 m l
    at (inr k) ih = last (cases_eq (c (length k.0) % p) 0)
      where
        whole : IsInSpan p t (combination c (rows_at s k.0 ++ row s n ∷ []))
        whole = rw (k.3, rows-push s k.0 n) at m

        count : length (rows_at s k.0) ≡ length k.0
        count = length-map k.0 (row s)

        apart : (j : ℕ) → combination c (rows_at s k.0 ++ row s n ∷ []) j ≡ combination c
            (rows_at s k.0) j + c (length k.0) * entry (row s n) j
        apart j = combination-push c (rows_at s k.0) (row s n) j
            ∙ ap (λ m. combination c (rows_at s k.0) j + c m * entry (row s n) j) count

        last : (c (length k.0) % p ≡ 0) ⊎ (c (length k.0) % p ≡ 0 → ⊥) → IsCongruent p (c i) 0
        last (inl z) = place (cases_lt i (length k.0))
          where
            none : IsCongruent p (c (length k.0)) 0
            none = record { same_remainder = z ∙ sym (zero-mod p) }

            place : (i < length k.0) ⊎ (length k.0 ≤ i) → IsCongruent p (c i) 0
            place (inl b) = ih k.0 k.1 (in_span_congruent (λ j.
                congruent_trans (congruent_eq (apart j))
                (congruent_trans (congruent_add (congruent_refl (combination c (rows_at s k.0) j))
                (congruent_mul_right (entry (row s n) j) none)) (congruent_eq (omega arith)))) whole) b
            place (inr b) = rw (let e : i ≡ length k.0 =
                (let f : length xs ≡ length (k.0 ++ n ∷ []) = ap length k.3 in omega (
                  arith,
                  l,
                  b,
                  f,
                  length_push k.0 n,
                )) in e) none
        last (inr z) = absurd (k.2 (in_span_congruent each (in_span_add {f = λ j. 0} inv.0 in_span_zero
            (in_span_add {f = combination c (rows_at s k.0 ++ row s n ∷ [])} {g = combination c
            (rows_at s k.0)} (p - 1) (in-left p t (rows_at s k.0)
            (combination c (rows_at s k.0 ++ row s n ∷ [])) whole)
            (in-right p t (rows_at s k.0) (combination c (rows_at s k.0))
            (in-combination p c (rows_at s k.0)))))))
          where
            inv : (b : ℕ) × IsCongruent p (c (length k.0) * b) 1
            inv = F.inverse (c (length k.0)) z

            each : (j : ℕ) → IsCongruent p
                (0 + inv.0 * (combination c (rows_at s k.0 ++ row s n ∷ []) j + (p - 1) * combination c
                (rows_at s k.0) j)) (entry (row s n) j)
            each j = solve p (combination c (rows_at s k.0 ++ row s n ∷ []) j)
                (combination c (rows_at s k.0) j) (c (length k.0)) inv.0 (entry (row s n) j) F.above_one
                (apart j) inv.1

-- the positions taken are below n
pub greedy-below : (p : ℕ) (s t : List (List ℕ)) (n : ℕ) (xs : List ℕ) → IsGreedyBelow p s t n xs → (i : ℕ)
    → i < length xs → row (rows_at s xs) i ≡ row s (get_or xs i 0) × (get_or xs i 0 < n)
greedy-below p s t n xs h i l = (get_or-map (row s) xs i 0 [] l, below n xs h i l)
  where
    below : (n : ℕ) (xs : List ℕ) → IsGreedyBelow p s t n xs → (i : ℕ) → i < length xs → get_or xs i 0 < n
    below zero xs h i l = absurd (let e : length xs ≡ 0 = ap length h in omega (arith, e, l))
    below (suc n) xs h i l = at h (λ ys k j. below n ys k i j)
      where
        at : IsGreedyBelow p s t (suc n) xs
            → ((ys : List ℕ) → IsGreedyBelow p s t n ys → i < length ys → get_or ys i 0 < n)
            → get_or xs i 0 < suc n
        at (inl k) ih = let b : get_or xs i 0 < n = ih xs k.0 l in omega (arith, b)
        at (inr k) ih = place (cases_lt i (length k.0))
          where
            place : (i < length k.0) ⊎ (length k.0 ≤ i) → get_or xs i 0 < suc n
            place (inl b) = rw (k.3, get_or_append_left k.0 (n ∷ []) 0 i b)
                (let m : get_or k.0 i 0 < n = ih k.0 k.1 b in omega (arith, m))
            place (inr b) = let e : i ≡ length k.0 =
                (let f : length xs ≡ length (k.0 ++ n ∷ []) = ap length k.3 in omega (
                  arith,
                  l,
                  b,
                  f,
                  length_push k.0 n,
                )) in
                rw (k.3, e, get_or_push k.0 n 0 (length k.0) refl) (let m : n < suc n = omega arith in m)

-- a row that is not taken is in the span of t and the rows taken before it
pub greedy-before : (p : ℕ) (s t : List (List ℕ)) (n : ℕ) (xs : List ℕ) → IsGreedyBelow p s t n xs → (x : ℕ)
    → x < n → ((i : ℕ) → i < length xs → get_or xs i 0 ≢ x)
    → (k : ℕ) × (k ≤ length xs) × IsInSpan p (t ++ rows_at s (take k xs)) (entry (row s x))
    × ((i : ℕ) → i < k → get_or xs i 0 < x)
greedy-before p s t zero xs h x l free = absurd (omega (arith, l))
greedy-before p s t (suc n) xs h x l free = at h (cases_lt x n) (λ ys g d u. greedy-before p s t n ys g x d u)
  where
    at : IsGreedyBelow p s t (suc n) xs → (x < n) ⊎ (n ≤ x)
        → ((ys : List ℕ) → IsGreedyBelow p s t n ys → x < n → ((i : ℕ) → i < length ys → get_or ys i 0 ≢ x)
        → (k : ℕ) × (k ≤ length ys) × IsInSpan p (t ++ rows_at s (take k ys)) (entry (row s x))
        × ((i : ℕ) → i < k → get_or ys i 0 < x))
        → (k : ℕ) × (k ≤ length xs) × IsInSpan p (t ++ rows_at s (take k xs)) (entry (row s x))
        × ((i : ℕ) → i < k → get_or xs i 0 < x)
    at (inl g) (inl d) ih = ih xs g.0 d free
    at (inl g) (inr d) ih = let e : x ≡ n = omega (arith, l, d) in (
      length xs,
      le_refl (length xs),
      rw (take-length xs, e) g.1,
      λ i c. subst (λ y. get_or xs i 0 < y) (sym e) (greedy-below p s t n xs g.0 i c).1,
    )
    at (inr g) (inr d) ih = absurd (free (length g.0)
        (rw (g.3) (let z : length (g.0 ++ n ∷ []) ≡ length g.0 + 1 = length_push g.0 n in omega (arith, z)))
        (ap (λ ys. get_or ys (length g.0) 0) g.3 ∙ get_or_push g.0 n 0 (length g.0) refl
        ∙ (let e : n ≡ x = omega (arith, l, d) in e)))
    at (inr g) (inl d) ih = go (ih g.0 g.1 d
        (λ i c e. free i (rw g.3 (let z : length (g.0 ++ n ∷ []) ≡ length g.0 + 1 = length_push g.0 n in omega
        (arith, z, c)))
        (ap (λ ys. get_or ys i 0) g.3 ∙ get_or_append_left g.0 (n ∷ []) 0 i c ∙ e)))
      where
        go : (k : ℕ) × (k ≤ length g.0) × IsInSpan p (t ++ rows_at s (take k g.0)) (entry (row s x))
            × ((i : ℕ) → i < k → get_or g.0 i 0 < x)
            → (k : ℕ) × (k ≤ length xs) × IsInSpan p (t ++ rows_at s (take k xs)) (entry (row s x))
            × ((i : ℕ) → i < k → get_or xs i 0 < x)
        go r = (
          r.0,
          (rw g.3 (let z : length (g.0 ++ n ∷ []) ≡ length g.0 + 1 = length_push g.0 n in
              let w : r.0 ≤ length g.0 = r.1 in omega (arith, z, w))),
          (rw (g.3, take-append-le r.0 g.0 (n ∷ []) r.1) r.2),
          λ i c. rw (
            g.3,
            get_or_append_left g.0 (n ∷ []) 0 i
                (let w : r.0 ≤ length g.0 = r.1 in omega (arith, c, w)),
          ) (r.3 i c),
        )

-- the greedy choice depends on t only through its span
pub greedy-same-span : (p : ℕ) (s t t' : List (List ℕ)) → AreInSpan p t t' → AreInSpan p t' t
    → (n : ℕ) (xs : List ℕ) → IsGreedyBelow p s t n xs → IsGreedyBelow p s t' n xs
greedy-same-span p s t t' a b zero xs h = h
greedy-same-span p s t t' a b (suc n) xs h = at h (λ ys g. greedy-same-span p s t t' a b n ys g)
  where
    move : (u v R : List (List ℕ)) → AreInSpan p v u → (f : ℕ → ℕ) → IsInSpan p (u ++ R) f
        → IsInSpan p (v ++ R) f
    move u v R c f = in_span_trans (λ i l. go i l (cases_lt i (length u)))
      where
        go : (i : ℕ) → i < length (u ++ R) → (i < length u) ⊎ (length u ≤ i)
            → IsInSpan p (v ++ R) (entry (row (u ++ R) i))
        go i l (inl m) = rw (get_or_append_left u R [] i m) (in-left p v R (entry (row u i)) (c i m))
        go i l (inr m) = let e : i ≡ length u + (i - length u) = omega (arith, m) in
            rw (e, get_or-append-add u R (i - length u) [])
            (in-right p v R (entry (row R (i - length u)))
            (in_span_row R (i - length u)
            (let f : length (u ++ R) ≡ length u + length R = length-append u R in omega (
              arith,
              f,
              l,
              m,
            ))))

    at : IsGreedyBelow p s t (suc n) xs → ((ys : List ℕ) → IsGreedyBelow p s t n ys
        → IsGreedyBelow p s t' n ys) → IsGreedyBelow p s t' (suc n) xs
    at (inl g) ih = inl (ih xs g.0, move t t' (rows_at s xs) b (entry (row s n)) g.1)
    at (inr g) ih = inr (g.0, ih g.0 g.1, (λ k. g.2 (move t' t (rows_at s g.0) a (entry (row s n)) k)), g.3)
