-- The rows of a matrix, one after another.
use Rattle.std.proofs.Common.{◌≡◌, ℕ, ◌+◌, ◌<◌, List, [], ◌∷◌, ◌++◌, length, below_more, ap, sym, ◌∙◌, arith}
use Rattle.std.proofs.lemmas.List.{length_push}
use Rattle.linear_algebra.specs.Rows.{row}
use Rattle.linear_algebra.specs.Kernels.{unit_row}
use Rattle.linear_algebra.proofs.Spans.{row_push, row_before_push}

pub rows-step : (N j : ℕ) (V : List ℕ → List ℕ) (old new : List (List ℕ)) (value pushed u : List ℕ)
    → length old ≡ j → ((i : ℕ) → i < j → row old i ≡ V (unit_row N i))
    → value ≡ V u → u ≡ unit_row N j → pushed ≡ value → new ≡ old ++ pushed ∷ [] → (i : ℕ) → i < j + 1
    → row new i ≡ V (unit_row N i)
rows-step N j V old new value pushed u c b e f g n = below_more (λ i. row new i ≡ V (unit_row N i)) j
    (λ i l. ap (λ z. row z i) n ∙ row_before_push old pushed i
    (let z : i < length old = omega (arith, l, c) in z) ∙ b i l)
    (ap (λ z. row z j) n ∙ ap (λ k. row (old ++ pushed ∷ []) k) (sym c) ∙ row_push old pushed ∙ g ∙ e
    ∙ ap V f)

pub units-step : (n j : ℕ) (old new : List (List ℕ)) (pushed : List ℕ) → length old + 1 ≡ j
    → ((i : ℕ) → i < length old → row old i ≡ unit_row n (i + 1)) → pushed ≡ unit_row n j
    → new ≡ old ++ pushed ∷ [] → (i : ℕ) → i < length new → row new i ≡ unit_row n (i + 1)
units-step n j old new pushed c b e f i l = below_more (λ i. row new i ≡ unit_row n (i + 1)) (length old)
    (λ k m. ap (λ z. row z k) f ∙ row_before_push old pushed k m ∙ b k m)
    (ap (λ z. row z (length old)) f ∙ row_push old pushed ∙ e ∙ ap (unit_row n) (sym c)) i
    (let z : length new ≡ length old + 1 = ap (λ (x : List (List ℕ)). length x) f
    ∙ length_push old pushed in omega (arith, l, z))
