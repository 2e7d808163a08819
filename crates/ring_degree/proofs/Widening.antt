-- A row with zeros behind.
use Rattle.std.proofs.Common.{◌≡◌, ℕ, ◌+◌, ◌-◌, ◌*◌, ◌%◌, ◌<◌, ◌≤◌, ◌⊎◌, inl, inr, List, [], ◌∷◌, ◌++◌}
use Rattle.std.proofs.Common.{length, map, take, replicate, arith, ap, sym, ◌∙◌}
use Rattle.std.proofs.Math.Nat.{mod-eq_of_lt}
use Rattle.std.proofs.lemmas.Bool.{cases_lt}
use Rattle.std.proofs.lemmas.List.{ext_get_or, get_or_append_left, get_or-append-add, get_or-replicate}
use Rattle.std.proofs.lemmas.List.{length-append, length-replicate, take_more, map-append}
use Rattle.linear_algebra.specs.Rows.{entry, row}
use Rattle.fp_rows.specs.Parts.{GainsPart}

-- a row that is added to zeros
pub widened-is : (p : ℕ) (v new : List ℕ) (n : ℕ) → length v ≤ n
    → ((j : ℕ) → j < length v → entry v j < p) → GainsPart p 0 1 v (replicate n 0) new
    → new ≡ v ++ replicate (n - length v) 0
widened-is p v new n l below g = ext_get_or 0 new (v ++ replicate (n - length v) 0) lengths
    (λ j b. at j (let a = g.same_length in let c = length-replicate {A = ℕ} n 0 in omega (arith, a, b, c))
    (cases_lt j (length v)))
  where
    lengths : length new ≡ length (v ++ replicate (n - length v) 0)
    lengths = let a = g.same_length in let b = length-replicate {A = ℕ} n 0 in
        let c = length-replicate {A = ℕ} (n - length v) 0 in
        let d = length-append v (replicate (n - length v) 0) in omega (arith, a, b, c, d, l)

    at : (j : ℕ) → j < n → (j < length v) ⊎ (length v ≤ j)
        → entry new j ≡ entry (v ++ replicate (n - length v) 0) j
    at j h (inl b) = ap (entry new) (let z : j ≡ 0 + j = omega arith in z) ∙ g.inside j b
        ∙ ap (λ i. (entry (replicate n 0) i + 1 * entry v j) % p) (let z : 0 + j ≡ j = omega arith in z)
        ∙ ap (λ x. (x + 1 * entry v j) % p) (get_or-replicate n j 0 0 h)
        ∙ ap (λ x. x % p) (let z : 0 + 1 * entry v j ≡ entry v j = omega arith in z)
        ∙ mod-eq_of_lt (below j b)
        ∙ sym (get_or_append_left v (replicate (n - length v) 0) 0 j b)
    at j h (inr b) = g.after j (omega (arith, b)) ∙ get_or-replicate n j 0 0 h
        ∙ sym (ap (entry (v ++ replicate (n - length v) 0))
        (let z : j ≡ length v + (j - length v) = omega (arith, b) in z)
        ∙ get_or-append-add v (replicate (n - length v) 0) (j - length v) 0
        ∙ get_or-replicate (n - length v) (j - length v) 0 0 (omega (arith, h, b)))

pub widened-row : (v : List ℕ) (n w : ℕ) → n ≡ w → length v ≤ w
    → length (v ++ replicate (n - length v) 0) ≡ w
widened-row v n w e l = let a = length-append v (replicate (n - length v) 0) in
    let b = length-replicate {A = ℕ} (n - length v) 0 in omega (arith, a, b, e, l)

-- one more row
pub widened-rows : (width w : ℕ) (rows : List (List ℕ)) (k : ℕ) (old new : List (List ℕ)) (v u : List ℕ)
    → k < length rows → old ≡ map (λ v. v ++ replicate (w - width) 0) (take k rows) → v ≡ row rows k
    → length v ≡ width → u ≡ v ++ replicate (w - length v) 0 → new ≡ old ++ u ∷ []
    → new ≡ map (λ v. v ++ replicate (w - width) 0) (take (k + 1) rows)
widened-rows width w rows k old new v u l eo ev n eu en = en ∙ ap (λ xs. xs ++ u ∷ []) eo
    ∙ ap (λ x. map f (take k rows) ++ x ∷ []) (eu ∙ ap (λ j. v ++ replicate (w - j) 0) n ∙ ap f ev)
    ∙ sym (ap (map f) (take_more rows k [] l) ∙ map-append f (take k rows) (row rows k ∷ []))
  where
    f : List ℕ → List ℕ
    f v = v ++ replicate (w - width) 0
