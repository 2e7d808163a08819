-- The entries of a sum of rows.
use Rattle.std.proofs.Common.{◌≡◌, ℕ, zero, suc, ◌+◌, ◌*◌, ◌%◌, ◌<◌, List, [], ◌∷◌, length, map, arith, ap}
use Rattle.std.proofs.Common.{sym, ◌∙◌, refl}
use Rattle.std.proofs.lemmas.List.{ext_get_or, length-map, get_or-map}
use Rattle.linear_algebra.specs.Rows.{entry, add_multiple}

pub length-add_multiple : (p c : ℕ) (xs ys : List ℕ) → length (add_multiple p c xs ys) ≡ length xs
length-add_multiple p c [] ys = refl
length-add_multiple p c (x ∷ xs) [] = refl
length-add_multiple p c (x ∷ xs) (y ∷ ys) = ap suc (length-add_multiple p c xs ys)

pub entry-add_multiple : (p c : ℕ) (xs ys : List ℕ) (j : ℕ) → length ys ≡ length xs → j < length xs →
    entry (add_multiple p c xs ys) j ≡ (entry xs j + c * entry ys j) % p
entry-add_multiple p c [] ys j e l = absurd (omega arith)
entry-add_multiple p c (x ∷ xs) [] j e l = absurd (omega arith)
entry-add_multiple p c (x ∷ xs) (y ∷ ys) zero e l = refl
entry-add_multiple p c (x ∷ xs) (y ∷ ys) (suc j) e l =
    entry-add_multiple p c xs ys j (omega arith) (omega arith)

pub is_add_multiple : (p c : ℕ) (xs ys zs : List ℕ) → length ys ≡ length xs → length zs ≡ length xs →
    ((j : ℕ) → j < length xs → entry zs j ≡ (entry xs j + c * entry ys j) % p) → zs ≡ add_multiple p c xs ys
is_add_multiple p c xs ys zs e f h = ext_get_or 0 zs (add_multiple p c xs ys) (f
    ∙ sym (length-add_multiple p c xs ys))
    (λ j l. h j (omega arith) ∙ sym (entry-add_multiple p c xs ys j e (omega arith)))

pub is_scaled : (p c : ℕ) (xs zs : List ℕ) → length zs ≡ length xs
    → ((j : ℕ) → j < length xs → entry zs j ≡ c * entry xs j % p) → zs ≡ map (λ x. c * x % p) xs
is_scaled p c xs zs f h = ext_get_or 0 zs (map (λ x. c * x % p) xs) (f ∙ sym (length-map xs (λ x. c * x % p)))
    (λ j l. h j (omega arith) ∙ sym (get_or-map (λ x. c * x % p) xs j 0 0 (omega arith)))
