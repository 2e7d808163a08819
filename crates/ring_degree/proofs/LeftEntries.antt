-- The entries of a row at the places that are no pivots, written one after another.
use Rattle.std.proofs.Common.{◌≡◌, ℕ, zero, suc, ◌+◌, ◌<◌, ◌≤◌, Bool, true, false, cond, List, [], ◌∷◌, ◌++◌}
use Rattle.std.proofs.Common.{length, get_or, take, add-one, arith, ap, sym, ◌∙◌}
use Rattle.std.specs.Prelude.{slice_set}
use Rattle.std.proofs.Math.Seq.{take-suc-set}
use Rattle.std.proofs.lemmas.List.{length_push}
use Rattle.linear_algebra.specs.Rows.{is_pivot}
use Rattle.ring_completion.specs.Left.{without_pivots}
use Rattle.ring_completion.proofs.LeftPlaces.{taken}

longer : {A : Type 0} (b : Bool) (x : A) (xs ys : List A) → length xs ≤ length ys
    → length (cond b xs (x ∷ xs)) ≤ length (cond b ys (x ∷ ys))
longer true x xs ys l = l
longer false x xs ys l = omega (arith, l)

-- no more are left of the first ones
left-of-first : {A : Type 0} (rows : List (List ℕ)) (k i : ℕ) (xs : List A)
    → length (without_pivots rows k (take i xs)) ≤ length (without_pivots rows k xs)
left-of-first rows k zero xs = omega arith
left-of-first rows k (suc i) [] = omega arith
left-of-first rows k (suc i) (x ∷ xs) = longer (is_pivot rows k) x (without_pivots rows (suc k) (take i xs))
    (without_pivots rows (suc k) xs) (left-of-first rows (suc k) i xs)

-- there is room for the next entry
pub room : (rows : List (List ℕ)) (xs : List ℕ) (k at : ℕ) → k < length xs → is_pivot rows k ≡ false
    → at ≡ length (without_pivots rows 0 (take k xs)) → at < length (without_pivots rows 0 xs)
room rows xs k at l p e = let h = ap length (taken rows xs k 0 l p) in
    let b = left-of-first rows 0 (k + 1) xs in
    let g = length_push (without_pivots rows 0 (take k xs)) (get_or xs k 0) in omega (arith, e, h, b, g)

-- the next entry is written
pub next-written : (rows : List (List ℕ)) (xs out : List ℕ) (k at x : ℕ) → k < length xs
    → is_pivot rows k ≡ false → at ≡ length (without_pivots rows 0 (take k xs))
    → take at out ≡ without_pivots rows 0 (take k xs) → at < length out → x ≡ get_or xs k 0
    → (at + 1 ≡ length (without_pivots rows 0 (take (k + 1) xs)))
    × (take (at + 1) (slice_set out at x) ≡ without_pivots rows 0 (take (k + 1) xs))
next-written rows xs out k at x l p e w o y = (
  (let h = ap length (taken rows xs k 0 l p) in
      let g = length_push (without_pivots rows 0 (take k xs)) (get_or xs k 0) in omega (arith, e, h, g)),
  rw add-one (take-suc-set out at x o) ∙ ap (λ ys. ys ++ x ∷ []) w
      ∙ ap (λ z. without_pivots rows 0 (take k xs) ++ z ∷ []) y ∙ sym (taken rows xs k 0 l p),
)
