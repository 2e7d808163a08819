-- The greedy choice is one list, and a preimage that is 0 at the kernel's pivots is one row.
use Rattle.std.proofs.Common.{◌≡◌, ℕ, zero, suc, List, [], ◌∷◌, ◌++◌, inl, inr, ap, sym, ◌∙◌}
use Rattle.linear_algebra.specs.Choices.{IsGreedyBelow}

pub greedy_is_one : (p : ℕ) (s t : List (List ℕ)) (n : ℕ) (xs ys : List ℕ) → IsGreedyBelow p s t n xs
    → IsGreedyBelow p s t n ys → xs ≡ ys
greedy_is_one p s t zero xs ys a b = a ∙ sym b
greedy_is_one p s t (suc n) xs ys a b = go (greedy_is_one p s t n) a b
  where
    go : ((xs ys : List ℕ) → IsGreedyBelow p s t n xs → IsGreedyBelow p s t n ys → xs ≡ ys)
        → IsGreedyBelow p s t (suc n) xs → IsGreedyBelow p s t (suc n) ys → xs ≡ ys
    go ih (inl a) (inl b) = ih xs ys a.0 b.0
    go ih (inl a) (inr b) = absurd (b.2 (rw (ih b.0 xs b.1 a.0) a.1))
    go ih (inr a) (inl b) = absurd (a.2 (rw (ih a.0 ys a.1 b.0) b.1))
    go ih (inr a) (inr b) = a.3 ∙ ap (λ zs. zs ++ n ∷ []) (ih a.0 b.0 a.1 b.1) ∙ sym b.3
