-- The sizes of the first layers.
use Rattle.std.proofs.Common.{◌≡◌, ℕ, zero, suc, ◌+◌, List, [], ◌∷◌, ◌++◌, length, ◌∙◌, ap, arith}
use Rattle.radical_layers.specs.LayerBasis.{sizes_from}

sizes_more : (positions : ℕ → List ℕ) (i c : ℕ)
    → sizes_from positions i (suc c) ≡ sizes_from positions i c ++ length (positions (i + c)) ∷ []
sizes_more positions i zero = let same : i ≡ i + 0 = omega arith in ap (λ k. length (positions k) ∷ []) same
sizes_more positions i (suc c) =
    let same : suc i + c ≡ i + suc c = omega arith in
    ap (λ xs. length (positions i) ∷ xs) (sizes_more positions (suc i) c
    ∙ ap (λ k. sizes_from positions (suc i) c ++ length (positions k) ∷ []) same)

-- one layer more
pub sizes_next : (positions : ℕ → List ℕ) (c : ℕ)
    → sizes_from positions 0 (c + 1) ≡ sizes_from positions 0 c ++ length (positions c) ∷ []
sizes_next positions c =
    let more : c + 1 ≡ suc c = omega arith in
    let same : 0 + c ≡ c = omega arith in
    ap (sizes_from positions 0) more ∙ sizes_more positions 0 c
    ∙ ap (λ k. sizes_from positions 0 c ++ length (positions k) ∷ []) same
