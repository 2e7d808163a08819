-- One more member of a list.
use Rattle.std.proofs.Common.{◌≡◌, ℕ, ◌+◌, ◌<◌, ◌≤◌, ◌⊎◌, inl, inr, List, [], ◌∷◌, ◌++◌, length, get_or}
use Rattle.std.proofs.Common.{arith, sym, subst, ◌∙◌}
use Rattle.std.proofs.lemmas.Bool.{cases_lt}
use Rattle.std.proofs.lemmas.List.{get_or_append_left, get_or_push}

pub each-pushed : {X : Type 0} (P : ℕ → X → Type 0) (old new : List X) (i : ℕ) (x : X) → length old ≡ i
    → ((j : ℕ) (d : X) → j < i → P j (get_or old j d)) → P i x → new ≡ old ++ x ∷ []
    → (j : ℕ) (d : X) → j < i + 1 → P j (get_or new j d)
each-pushed {X} P old new i x c h p e j d l = subst (λ (ms : List X). P j (get_or ms j d)) (sym e)
    (go (cases_lt j i))
  where
    go : (j < i) ⊎ (i ≤ j) → P j (get_or (old ++ x ∷ []) j d)
    go (inl b) = subst (P j) (sym (get_or_append_left old (x ∷ []) d j (omega (arith, b, c)))) (h j d b)
    go (inr b) = let s : i ≡ j = omega (arith, b, l) in
        subst (P j) (sym (get_or_push old x d j (c ∙ s))) (subst (λ k. P k x) s p)
