-- The sizes of honest records.
use Rattle.std.proofs.Common.{◌≡◌, ℕ, zero, suc, ◌*◌, ◌<◌, ◌≤◌, ◌⊎◌, true, List, [], ◌∷◌, ◌++◌, length}
use Rattle.std.proofs.Common.{get_or, refl, ap, arith, inl, inr}
use Rattle.std.proofs.Math.Dec.{leb}
use Rattle.std.proofs.Math.Nat.{mul-le-mul}
use Rattle.std.proofs.lemmas.Bool.{cases_lt, and_from, le-leb}
use Rattle.std.proofs.lemmas.List.{length_push, get_or_push, get_or_append_left}
use Rattle.linear_algebra.specs.Rows.{row, pivot, IsMatrix, IsEchelon}
use Rattle.linear_algebra.specs.Choices.{IsGreedyBelow}
use Rattle.linear_algebra.proofs.GreedyChoice.{greedy-below}
use Rattle.stage_records.specs.Records.{record_length}
use Rattle.stage_records.specs.Walks.{is_in_range}

-- a greedy choice ascends
pub greedy-ascends : (p : ℕ) (s t : List (List ℕ)) (n : ℕ) (xs : List ℕ) → IsGreedyBelow p s t n xs
    → (i j : ℕ) → i < j → j < length xs → get_or xs i 0 < get_or xs j 0
greedy-ascends p s t zero xs h i j k l = absurd (let e : length xs ≡ 0 = ap length h in omega (arith, e, l))
greedy-ascends p s t (suc n) xs h i j k l = at h (λ ys g m. greedy-ascends p s t n ys g i j k m)
  where
    at : IsGreedyBelow p s t (suc n) xs → ((ys : List ℕ) → IsGreedyBelow p s t n ys → j < length ys
        → get_or ys i 0 < get_or ys j 0) → get_or xs i 0 < get_or xs j 0
    at (inl g) ih = ih xs g.0 l
    at (inr g) ih = place (cases_lt j (length g.0))
      where
        place : (j < length g.0) ⊎ (length g.0 ≤ j) → get_or xs i 0 < get_or xs j 0
        place (inl b) = rw (
          g.3,
          get_or_append_left g.0 (n ∷ []) 0 i
              (omega (arith, k, b)),
          get_or_append_left g.0 (n ∷ []) 0 j b,
        ) (ih g.0 g.1 b)
        place (inr b) =
            let e : j ≡ length g.0 = (let f : length xs ≡ length (g.0 ++ n ∷ []) = ap length g.3 in
            omega (arith, l, b, f, length_push g.0 n)) in
            let c : i < length g.0 = omega (arith, k, e) in
            let m : get_or g.0 i 0 < n = (greedy-below p s t n g.0 g.1 i c).1 in
            rw (g.3, e, get_or_push g.0 n 0 (length g.0) refl, get_or_append_left g.0 (n ∷ []) 0 i c) m

-- numbers that ascend below a bound are no more than the bound
pub ascending-few : (xs : List ℕ) (top : ℕ)
    → ((i j : ℕ) → i < j → j < length xs → get_or xs i 0 < get_or xs j 0)
    → ((i : ℕ) → i < length xs → get_or xs i 0 < top) → length xs ≤ top
ascending-few xs top a b = go (length xs) refl
  where
    least : (i : ℕ) → i < length xs → i ≤ get_or xs i 0
    least zero l = omega arith
    least (suc i) l = omega (arith, least i (omega (arith, l)), a i (suc i) (omega arith) l)

    go : (m : ℕ) → m ≡ length xs → length xs ≤ top
    go zero e = omega (arith, e)
    go (suc m) e = omega (arith, e, least m (omega (arith, e)), b m (omega (arith, e)))

-- an echelon list has no more rows than places
pub echelon-few : (p width : ℕ) (E : List (List ℕ)) → IsMatrix p width E → IsEchelon E → length E ≤ width
echelon-few p width E M e = go (length E) refl
  where
    least : (i : ℕ) → i < length E → i ≤ pivot (row E i)
    least zero l = omega arith
    least (suc i) l = omega (arith, least i (omega (arith, l)), e.ascending i (suc i) (omega arith) l)

    go : (m : ℕ) → m ≡ length E → length E ≤ width
    go zero f = omega (arith, f)
    go (suc m) f = omega (
      arith,
      f,
      least m (omega (arith, f)),
      e.not_zero m (omega (arith, f)),
      (M m (omega (arith, f))).length_is,
    )

-- a record within the limit has a length in its range, where the group has two elements or the rank is at
-- most 1
pub range-is : (n b : ℕ) → n * b ≤ 4096 → (2 ≤ n) ⊎ (b ≤ 1) → is_in_range (record_length b (n * b)) ≡ true
range-is n b h w = and_from (leb 36 (record_length b (n * b))) (leb (record_length b (n * b)) 16781348)
    (le-leb 36 (record_length b (n * b)) (omega arith)) (le-leb (record_length b (n * b)) 16781348 (at w))
  where
    square : (n * b) * (n * b) ≤ 4096 * 4096
    square = mul-le-mul h h

    at : (2 ≤ n) ⊎ (b ≤ 1) → record_length b (n * b) ≤ 16781348
    at (inl t) = let d : 2 * b ≤ n * b = mul-le-mul t (let r : b ≤ b = omega arith in r) in
        omega (arith, d, h, square)
    at (inr o) = omega (arith, o, square)
