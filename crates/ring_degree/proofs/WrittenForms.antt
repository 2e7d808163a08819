-- The row of a generator times a monomial.
use Rattle.std.proofs.Common.{◌≡◌, ◌≢◌, ℕ, suc, ◌+◌, ◌*◌, ◌%◌, ◌<◌, ◌≤◌, true, false, cond, List, [], ◌∷◌}
use Rattle.std.proofs.Common.{length, get_or, replicate, Some, slice_get, ◌⊎◌, inl, inr, arith, ap, ap₂, sym}
use Rattle.std.proofs.Common.{◌∙◌, refl}
use Rattle.std.specs.Prelude.{slice_set}
use Rattle.std.proofs.Math.ListN.{length-set}
use Rattle.std.proofs.Math.Nat.{mod-eq_of_lt}
use Rattle.std.proofs.lemmas.Bool.{cases_lt, cases_eq}
use Rattle.std.proofs.lemmas.List.{ext_get_or, length-map, get_or-set_same, get_or-set_other}
use Rattle.std.proofs.lemmas.Option.{get_or_from_slice_get, slice_get_within}
use Rattle.linear_algebra.specs.Rows.{entry}
use Rattle.graded_polynomials.specs.Monomials.{fits, joined, same, sign, swaps}
use Rattle.graded_polynomials.specs.Polynomials.{Term, coefficient}
use Rattle.graded_polynomials.specs.Texts.{power}
use Rattle.graded_polynomials.proofs.Order.{greater-self}
use Rattle.graded_polynomials.proofs.Terms.{cases-same, same-self}
use Rattle.gc_poly.specs.Lists.{IsDescending}
use Rattle.presentation_rows.specs.RowPolynomials.{row_of}
use Rattle.presentation_rows.proofs.RowTerms.{entry-row-of}
use Rattle.ring_completion.specs.Completions.{generator_times}

pub row-of-nothing : (q : ℕ) (ms : List (List ℕ)) → replicate (length ms) 0 ≡ row_of q ms []
row-of-nothing q [] = refl
row-of-nothing q (m ∷ ms) = ap₂ (λ (x : ℕ) xs. x ∷ xs)
    (sym (mod-eq_of_lt (let l : 0 < suc q = omega arith in l))) (row-of-nothing q ms)

module _ (q : ℕ) (ms : List (List ℕ)) (D : IsDescending ms) (k c : ℕ) (m : List ℕ)
    (at : slice_get ms k ≡ Some m) (b : c < suc q) where
  one : List Term
  one = record { scalar = c; monomial = m } ∷ []

  inside : k < length ms
  inside = slice_get_within ms k m at

  read : get_or ms k [] ≡ m
  read = get_or_from_slice_get ms k m [] at

  zeros : List ℕ
  zeros = row_of q ms []

  length-zeros : length (row_of q ms []) ≡ length ms
  length-zeros = length-map ms (λ m. coefficient [] m % suc q)

  apart : (j : ℕ) → j < length ms → j ≢ k → m ≢ get_or ms j []
  apart j l n e = go (cases_lt j k)
    where
      go : (j < k) ⊎ (k ≤ j) → ⊥
      go (inl o) = greater-self m (let g = D j k [] o inside in rw (sym e, read) at g)
      go (inr o) = greater-self m (let g = D k j [] (omega (arith, o, n)) l in rw (read, sym e) at g)

  pub one-set : slice_set (row_of q ms []) k c
      ≡ row_of q ms (record { scalar = c; monomial = m } ∷ [])
  one-set = ext_get_or 0 (slice_set (row_of q ms []) k c)
      (row_of q ms (record { scalar = c; monomial = m } ∷ []))
      (length-set (row_of q ms []) k c ∙ length-zeros
      ∙ sym (length-map ms (λ n. coefficient (record { scalar = c; monomial = m } ∷ []) n % suc q)))
      (λ j l. go j (omega (arith, l, length-set (row_of q ms []) k c, length-zeros)) (cases_eq j k))
    where
      go : (j : ℕ) → j < length ms → (j ≡ k) ⊎ (j ≡ k → ⊥)
          → entry (slice_set (row_of q ms []) k c) j
          ≡ entry (row_of q ms (record { scalar = c; monomial = m } ∷ [])) j
      go j l (inl e) = rw e (get_or-set_same (row_of q ms []) k c 0 (omega (arith, inside, length-zeros))
          ∙ sym (entry-row-of q ms (record { scalar = c; monomial = m } ∷ []) k inside
          ∙ rw (read, same-self m) (ap (λ y. y % suc q) (let z : c + 0 ≡ c = omega arith in z)
          ∙ mod-eq_of_lt b)))
      go j l (inr n) = get_or-set_other (row_of q ms []) k j c 0 n ∙ entry-row-of q ms [] j l
          ∙ sym (entry-row-of q ms (record { scalar = c; monomial = m } ∷ []) j l
          ∙ pick (cases-same m (get_or ms j [])))
        where
          pick : ((same m (get_or ms j []) ≡ true) × (m ≡ get_or ms j []))
              ⊎ ((same m (get_or ms j []) ≡ false) × (m ≢ get_or ms j []))
              → (cond (same m (get_or ms j [])) c 0 + 0) % suc q ≡ 0 % suc q
          pick (inl e) = absurd (apart j l n e.1)
          pick (inr e) = rw e.0 refl

-- the row of a product that is 0, and of one that is listed
pub unfit-form : (q : ℕ) (ms : List (List ℕ)) (es : List ℕ) (i : ℕ) (s : List ℕ)
    → fits q es (joined (power i 1) s) ≡ false
    → replicate (length ms) 0 ≡ row_of q ms (generator_times q es i s)
unfit-form q ms es i s f = rw f (row-of-nothing q ms)

pub fit-form : (q : ℕ) (ms : List (List ℕ)) (es : List ℕ) (i k c : ℕ) (s : List ℕ) → IsDescending ms
    → fits q es (joined (power i 1) s) ≡ true → slice_get ms k ≡ Some (joined (power i 1) s)
    → c ≡ sign q (swaps es (power i 1) s) → c < suc q
    → slice_set (replicate (length ms) 0) k c ≡ row_of q ms (generator_times q es i s)
fit-form q ms es i k c s D f at e b = rw f
    (ap (λ r. slice_set r k c) (row-of-nothing q ms) ∙ one-set q ms D k c (joined (power i 1) s) at b
    ∙ ap (λ x. row_of q ms (record { scalar = x; monomial = joined (power i 1) s } ∷ []))
    (e ∙ (let z : sign q (swaps es (power i 1) s) ≡ 1 * (sign q (swaps es (power i 1) s) * 1) = omega arith
    in z)))
