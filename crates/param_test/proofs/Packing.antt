-- A list written into a row, entry by entry.
use Rattle.std.proofs.Common.{◌≡◌, ◌≢◌, ℕ, ◌+◌, ◌<◌, List, length, get_or, ◌⊎◌, inl, inr, arith, sym, subst}
use Rattle.std.proofs.Common.{◌∙◌, refl}
use Rattle.std.specs.Prelude.{slice_set, replicate}
use Rattle.std.specs.List.{AllByRecursion as Each}
use Rattle.std.proofs.lemmas.Bool.{cases_eq}
use Rattle.std.proofs.lemmas.List.{get_or-set_same, get_or-set_other, length-set, length-replicate}
use Rattle.std.proofs.lemmas.List.{ext_get_or}
use Rattle.std.proofs.lemmas.List.Elements.{All-from_recursion}
use Rattle.fp_rows.specs.Values.{RowValue}

-- the first i entries are written
pub record IsWritten (p : ℕ) (ys : List ℕ) (i : ℕ) (r : RowValue) : Type 0 where
  pub prime : r.p ≡ p
  pub size : length r.entries ≡ length ys
  pub entries : (k : ℕ) → k < i → get_or r.entries k 0 ≡ get_or ys k 0

pub written-more : (p : ℕ) (ys : List ℕ) (i v : ℕ) (r s : RowValue) → i < length ys → v ≡ get_or ys i 0
    → s ≡ record r { entries = slice_set r.entries i v } → IsWritten p ys i r → IsWritten p ys (i + 1) s
written-more p ys i v r s l e n w = subst (IsWritten p ys (i + 1)) (sym n) (record {
  prime = w.prime;
  size = length-set r.entries i v ∙ w.size;
  entries = λ k b. go k b (cases_eq k i);
})
  where
    go : (k : ℕ) → k < i + 1 → (k ≡ i) ⊎ (k ≢ i) → get_or (slice_set r.entries i v) k 0 ≡ get_or ys k 0
    go k b (inl z) = subst (λ k. get_or (slice_set r.entries i v) k 0 ≡ get_or ys k 0) (sym z)
        (get_or-set_same r.entries i v 0 (omega (arith, w.size, l)) ∙ e)
    go k b (inr z) = get_or-set_other r.entries i k v 0 z
        ∙ w.entries k (let c : k < i = grind (arith, b, z) in c)

pub written-all : (p : ℕ) (ys : List ℕ) (i : ℕ) (r : RowValue) → i ≡ length ys → IsWritten p ys i r
    → r ≡ record { p = p; entries = ys }
written-all p ys i r e w =
    value w.prime (ext_get_or 0 r.entries ys w.size (λ k l. w.entries k (omega (arith, l, w.size, e))))
  where
    value : {a : ℕ} {xs : List ℕ} → r.p ≡ a → r.entries ≡ xs → r ≡ record { p = a; entries = xs }
    value u v = rw (← u, ← v) refl

pub below-at : (p : ℕ) (ys : List ℕ) (i : ℕ) → Each (λ x. x < p) ys → i < length ys → get_or ys i 0 < p
below-at p ys i h l = All-from_recursion (λ (x : ℕ). x < p) ys h i 0 l

pub written-start : (p : ℕ) (ys : List ℕ) (r : RowValue)
    → r ≡ record { p = p; entries = replicate (length ys) 0 } → IsWritten p ys 0 r
written-start p ys r e = subst (IsWritten p ys 0) (sym e) (record {
  prime = refl;
  size = length-replicate (length ys) 0;
  entries = λ k l. absurd (omega (arith, l));
})
