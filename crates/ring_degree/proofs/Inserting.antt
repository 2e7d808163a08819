-- A monomial put into a descending list.
use Rattle.std.proofs.Common.{◌≡◌, ℕ, suc, ◌+◌, ◌-◌, ◌<◌, ◌≤◌, ◌⊎◌, inl, inr, List, [], ◌∷◌, length, ◌++◌}
use Rattle.std.proofs.Common.{get_or, arith, ap, sym, subst, ◌∙◌, refl}
use Rattle.std.proofs.lemmas.List.{get_or_append_left, get_or_default, length-append}
use Rattle.std.specs.Prelude.{insert}
use Rattle.std.proofs.lemmas.Bool.{cases_eq, cases_lt}
use Rattle.std.proofs.lemmas.List.Edits.{length-insert, get_or-insert_at, get_or-insert_below}
use Rattle.std.proofs.lemmas.List.Edits.{get_or-insert_above}
use Rattle.graded_polynomials.specs.Monomials.{IsGreater, IsTrimmed}
use Rattle.graded_polynomials.proofs.Exponents.{cases-greater, greater-trans}
use Rattle.gc_poly.specs.Lists.{IsDescending}
use Rattle.ring_completion.specs.Candidates.{IsListed}
use Rattle.ring_degree.specs.Products.{Gains}

module _ (ms : List (List ℕ)) (i : ℕ) (m : List ℕ) (l : i ≤ length ms) where
  -- a place of the new list is before the new member, its own, or after it
  data IsPlace (k : ℕ) : Type 0 where
    before : k < i → get_or (insert ms i m) k [] ≡ get_or ms k [] → IsPlace k
    here : k ≡ i → get_or (insert ms i m) k [] ≡ m → IsPlace k
    after : (j : ℕ) → k ≡ suc j → i ≤ j → get_or (insert ms i m) k [] ≡ get_or ms j [] → IsPlace k

  place : (k : ℕ) → IsPlace k
  place k = go (cases_lt k i) (cases_eq k i)
    where
      go : (k < i) ⊎ (i ≤ k) → (k ≡ i) ⊎ (k ≡ i → ⊥) → IsPlace k
      go (inl b) e = before b (get_or-insert_below ms i m [] k b l)
      go (inr b) (inl e) = here e (subst (λ k. get_or (insert ms i m) k [] ≡ m) (sym e)
          (get_or-insert_at ms i m [] l))
      go (inr b) (inr n) = after (k - 1) (omega (arith, b, n)) (omega (arith, b, n))
          (subst (λ a. get_or (insert ms i m) a [] ≡ get_or ms (k - 1) [])
          (let z : k - 1 + 1 ≡ k = omega (arith, b, n) in z)
          (get_or-insert_above ms i m [] (k - 1) (omega (arith, b, n)) l))

  pub gains-put : Gains (λ n. n ≡ m) ms (insert ms i m)
  gains-put v = (to, from)
    where
      to : IsListed (insert ms i m) v → IsListed ms v ⊎ (v ≡ m)
      to (k, b, e) = go (place k)
        where
          go : IsPlace k → IsListed ms v ⊎ (v ≡ m)
          go (before c z) = inl (k, omega (arith, c, l), sym z ∙ e)
          go (here c z) = inr (sym e ∙ z)
          go (after j c d z) = inl (j, omega (arith, b, c, length-insert ms i m l), sym z ∙ e)

      from : IsListed ms v ⊎ (v ≡ m) → IsListed (insert ms i m) v
      from (inr e) = (i, omega (arith, l, length-insert ms i m l), get_or-insert_at ms i m [] l ∙ sym e)
      from (inl (k, b, e)) = go (cases_lt k i)
        where
          go : (k < i) ⊎ (i ≤ k) → IsListed (insert ms i m) v
          go (inl c) = (k, omega (arith, b, length-insert ms i m l), get_or-insert_below ms i m [] k c l ∙ e)
          go (inr c) = (
            k + 1,
            omega (arith, b, length-insert ms i m l),
            get_or-insert_above ms i m [] k c l ∙ e,
          )

  module _ (D : IsDescending ms) (above : (k : ℕ) → k < i → IsGreater (get_or ms k []) m)
      (below : i < length ms → IsGreater m (get_or ms i [])) where
    smaller : (j : ℕ) → i ≤ j → j < length ms → IsGreater m (get_or ms j [])
    smaller j c b = go (cases_eq j i)
      where
        go : (j ≡ i) ⊎ (j ≡ i → ⊥) → IsGreater m (get_or ms j [])
        go (inl e) = rw e (below (omega (arith, b, e)))
        go (inr n) = greater-trans m (get_or ms i []) (get_or ms j []) (below (omega (arith, b, c)))
            (D i j [] (omega (arith, c, n)) b)

    greater : (a b : ℕ) → a < b → b < length (insert ms i m)
        → IsGreater (get_or (insert ms i m) a []) (get_or (insert ms i m) b [])
    greater a b o c = go (place a) (place b)
      where
        size : b < suc (length ms)
        size = omega (arith, c, length-insert ms i m l)

        go : IsPlace a → IsPlace b
            → IsGreater (get_or (insert ms i m) a []) (get_or (insert ms i m) b [])
        go (before x y) (before z w) = rw (y, w) (D a b [] o (omega (arith, z, l)))
        go (before x y) (here z w) = rw (y, w) (above a x)
        go (before x y) (after j z t w) = rw (y, w) (D a j [] (omega (arith, x, t)) (omega (arith, size, z)))
        go (here x y) (before z w) = absurd (omega (arith, x, z, o))
        go (here x y) (here z w) = absurd (omega (arith, x, z, o))
        go (here x y) (after j z t w) = rw (y, w) (smaller j t (omega (arith, size, z)))
        go (after k x s y) (before z w) = absurd (omega (arith, x, z, o, s))
        go (after k x s y) (here z w) = absurd (omega (arith, x, z, o, s))
        go (after k x s y) (after j z t w) = rw (y, w) (D k j [] (omega (arith, x, z, o))
            (omega (arith, size, z)))

    pub descending-put : IsDescending (insert ms i m)
    descending-put a b d o c = same-default a b d o c (greater a b o c)
      where
        same-default : (a b : ℕ) (d : List ℕ) → a < b → b < length (insert ms i m)
            → IsGreater (get_or (insert ms i m) a []) (get_or (insert ms i m) b [])
            → IsGreater (get_or (insert ms i m) a d) (get_or (insert ms i m) b d)
        same-default a b d o c g = rw (
          get_or_default (insert ms i m) a d [] (omega (arith, o, c)),
          get_or_default (insert ms i m) b d [] c,
        ) g

-- the same where the list was read as xs
pub put-descending : (ms xs new : List (List ℕ)) (i : ℕ) (m : List ℕ) → xs ≡ ms → new ≡ insert ms i m
    → i ≤ length xs → IsDescending ms → ((k : ℕ) → k < i → IsGreater (get_or xs k []) m)
    → (i < length xs → IsGreater m (get_or xs i [])) → IsDescending new
put-descending ms xs new i m e f l D a b = subst IsDescending (sym f)
    (descending-put ms i m (rw e at l) D (rw e at a) (rw e at b))

pub put-gains : (ms xs new : List (List ℕ)) (i : ℕ) (m : List ℕ) → xs ≡ ms → new ≡ insert ms i m
    → i ≤ length xs → Gains (λ n. n ≡ m) ms new
put-gains ms xs new i m e f l = subst (Gains (λ n. n ≡ m) ms) (sym f) (gains-put ms i m (rw e at l))

-- what stands before a member is greater
pub before-member : (done rest ms : List (List ℕ)) (m : List ℕ) → done ++ m ∷ rest ≡ ms → IsDescending ms
    → (k : ℕ) (d : List ℕ) → k < length done → IsGreater (get_or done k d) m
before-member done rest ms m e D k d l = rw (sym left, sym here)
    (D k (length done) d l (omega (arith, ap length (sym e), length-append done (m ∷ rest))))
  where
    left : get_or ms k d ≡ get_or done k d
    left = ap (λ xs. get_or xs k d) (sym e) ∙ get_or_append_left done (m ∷ rest) d k l

    here : get_or ms (length done) d ≡ m
    here = ap (λ xs. get_or xs (length done) d) (sym e) ∙ at-end done
      where
        at-end : (xs : List (List ℕ)) → get_or (xs ++ m ∷ rest) (length xs) d ≡ m
        at-end [] = refl
        at-end (x ∷ xs) = at-end xs

-- a member that is neither m nor greater is less
pub not-before : (ms : List (List ℕ)) (i : ℕ) (n m : List ℕ) → i < length ms → n ≡ get_or ms i n → IsTrimmed n
    → IsTrimmed m → (n ≡ m → ⊥) → (IsGreater n m → ⊥) → IsGreater m (get_or ms i [])
not-before ms i n m l e t u f g = rw (sym same) (go (cases-greater n m t u))
  where
    same : n ≡ get_or ms i []
    same = e ∙ get_or_default ms i n [] l

    go : (n ≡ m) ⊎ IsGreater n m ⊎ IsGreater m n → IsGreater m n
    go (inl z) = absurd (f z)
    go (inr (inl z)) = absurd (g z)
    go (inr (inr z)) = z
