-- The descending list of all monomials of a degree is determined.
use Rattle.std.proofs.Common.{◌≡◌, ℕ, zero, suc, ◌<◌, ◌≤◌, List, [], ◌∷◌, length, ◌⊎◌, inl, inr, arith, ap}
use Rattle.std.proofs.Common.{ap₂, sym, ◌∙◌, refl}
use Rattle.std.specs.Prelude.{slice_index_or}
use Rattle.std.proofs.lemmas.Bool.{cases_order}
use Rattle.graded_polynomials.specs.Monomials.{IsMonomials, IsGreater}
use Rattle.graded_polynomials.proofs.Order.{greater-self, greater-both}

-- descending lists with the same members are equal: the member at a place stands at the same place of the
-- other list
pub monomials-unique : (q : ℕ) (ds : List ℕ) (d : ℕ) (ms ns : List (List ℕ)) → IsMonomials q ds d ms
    → IsMonomials q ds d ns → ms ≡ ns
monomials-unique q ds d ms ns M N = lists ms ns (λ i l. there ms ns M N i l) (λ i l. there ns ms N M i l)
  where
    at : List (List ℕ) → ℕ → List ℕ
    at ms i = slice_index_or ms i []

    -- the first i members of the one stand in the other before place i + 1
    place : (ms ns : List (List ℕ)) → IsMonomials q ds d ms → IsMonomials q ds d ns → (i : ℕ) → i < length ms
        → (j : ℕ) × (j < length ns) × (i ≤ j) × (slice_index_or ns j [] ≡ slice_index_or ms i [])
    place ms ns M N zero l = let o = N.all (slice_index_or ms 0 []) (M.each 0 l) in
        (o.0, o.1, omega arith, o.2)
    place ms ns M N (suc i) l = go (place ms ns M N i (omega arith))
        (N.all (slice_index_or ms (suc i) []) (M.each (suc i) l))
      where
        go : (j : ℕ) × (j < length ns) × (i ≤ j) × (slice_index_or ns j [] ≡ slice_index_or ms i []) → (j : ℕ)
            × (j < length ns) × (slice_index_or ns j [] ≡ slice_index_or ms (suc i) [])
            → (j : ℕ) × (j < length ns) × (suc i ≤ j)
            × (slice_index_or ns j [] ≡ slice_index_or ms (suc i) [])
        go (j, b, o, e) (k, c, f) = (k, c, after (cases_order j k), f)
          where
            g : IsGreater (slice_index_or ns j []) (slice_index_or ns k [])
            g = rw (e, f) (M.descending i (suc i) (omega arith) l)

            after : (j ≡ k) ⊎ ((j < k) ⊎ (k < j)) → suc i ≤ k
            after (inl x) = absurd (greater-self (slice_index_or ns k [])
                (let y : IsGreater (slice_index_or ns k []) (slice_index_or ns k []) = rw x at g in y))
            after (inr (inl x)) = omega arith
            after (inr (inr x)) = absurd (greater-both _ _ g (N.descending k j x b))

    there : (ms ns : List (List ℕ)) → IsMonomials q ds d ms → IsMonomials q ds d ns → (i : ℕ) → i < length ms
        → (i < length ns) × (slice_index_or ns i [] ≡ slice_index_or ms i [])
    there ms ns M N i l = go (place ms ns M N i l)
      where
        go : (j : ℕ) × (j < length ns) × (i ≤ j) × (slice_index_or ns j [] ≡ slice_index_or ms i [])
            → (i < length ns) × (slice_index_or ns i [] ≡ slice_index_or ms i [])
        go (j, b, o, e) = back (place ns ms N M j b)
          where
            back : (k : ℕ) × (k < length ms) × (j ≤ k) × (slice_index_or ms k [] ≡ slice_index_or ns j [])
                → (i < length ns) × (slice_index_or ns i [] ≡ slice_index_or ms i [])
            back (k, c, u, f) = (omega arith, ap (λ n. slice_index_or ns n []) (i-is-j (cases_order i k)) ∙ e)
              where
                i-is-j : (i ≡ k) ⊎ ((i < k) ⊎ (k < i)) → i ≡ j
                i-is-j (inl x) = omega arith
                i-is-j (inr (inl x)) = absurd
                    (greater-self (slice_index_or ms k []) (rw (sym (f ∙ e)) at (M.descending i k x c)))
                i-is-j (inr (inr x)) = omega arith

    lists : (ms ns : List (List ℕ)) → ((i : ℕ) → i < length ms → (i < length ns)
        × (slice_index_or ns i [] ≡ slice_index_or ms i []))
        → ((i : ℕ) → i < length ns → (i < length ms) × (slice_index_or ms i [] ≡ slice_index_or ns i []))
        → ms ≡ ns
    lists [] [] h k = refl
    lists [] (n ∷ ns) h k = absurd (let x = (k 0 (omega arith)).0 in omega (arith, x))
    lists (m ∷ ms) [] h k = absurd (let x = (h 0 (omega arith)).0 in omega (arith, x))
    lists (m ∷ ms) (n ∷ ns) h k =
        ap₂ (λ m ms. m ∷ ms) (sym (h 0 (omega arith)).1)
        (lists ms ns (λ i l. let o = h (suc i) (omega arith) in (omega (arith, o.0), o.1))
        (λ i l. let o = k (suc i) (omega arith) in (omega (arith, o.0), o.1)))
