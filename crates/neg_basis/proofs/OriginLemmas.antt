-- The origins of vectors, with one more vector.
use Rattle.std.proofs.Common.{◌≡◌, ℕ, ◌+◌, ◌<◌, ◌≤◌, ◌⊎◌, List, [], ◌∷◌, ◌++◌, length, inl, inr, arith, ap}
use Rattle.std.proofs.Common.{sym, ◌∙◌, refl}
use Rattle.std.proofs.lemmas.Bool.{cases_lt}
use Rattle.std.proofs.lemmas.List.{length_push, get_or_push, get_or_append_left}
use mathlib.Core.Path.{subst}
use Rattle.neg_basis.specs.Origins.{origin_at, IsBefore}
use Rattle.neg_basis.specs.Turns.{IsAdded, HaveOrigins}
use Rattle.neg_basis.specs.declared.origin.Origin.{Origin}
use Rattle.neg_basis.specs.declared.origin.Origin.TheVariants.{Chosen}

-- the list of origins with one more
pub origin_last : (origins : List Origin) (o : Origin) → origin_at (origins ++ o ∷ []) (length origins) ≡ o
origin_last origins o = get_or_push origins o (Chosen 0) (length origins) refl

pub origin_before : (origins : List Origin) (o : Origin) (i : ℕ) → i < length origins
    → origin_at (origins ++ o ∷ []) i ≡ origin_at origins i
origin_before origins o i l = get_or_append_left origins (o ∷ []) (Chosen 0) i l

pub no_origins : {E : List (List ℕ)} {origins : List Origin} → E ≡ [] → origins ≡ [] → HaveOrigins E origins
no_origins a b = rw (a, b) (record { count = refl; steps = λ i l. absurd (omega (arith, l)) })

origins_push : (E : List (List ℕ)) (w : List ℕ) (origins : List Origin) (o : Origin) → IsBefore o (length E)
    → HaveOrigins E origins → HaveOrigins (E ++ w ∷ []) (origins ++ o ∷ [])
origins_push E w origins o h H = record {
  count = length_push origins o ∙ ap (λ x. x + 1) H.count ∙ sym (length_push E w);
  steps = λ i l. go i l (cases_lt i (length E));
}
  where
    here : origin_at (origins ++ o ∷ []) (length E) ≡ o
    here = ap (origin_at (origins ++ o ∷ [])) (sym H.count) ∙ origin_last origins o

    go : (i : ℕ) → i < length (E ++ w ∷ []) → (i < length E) ⊎ (length E ≤ i)
        → IsBefore (origin_at (origins ++ o ∷ []) i) i
    go i l (inl b) = subst (λ (x : Origin). IsBefore x i)
        (sym (origin_before origins o i (omega (arith, b, H.count)))) (H.steps i b)
    go i l (inr b) = let q : i ≡ length E = omega (arith, l, b, length_push E w) in
        subst (λ (t : ℕ). IsBefore (origin_at (origins ++ o ∷ []) t) t) (sym q)
        (subst (λ (x : Origin). IsBefore x (length E)) (sym here) h)

-- where a vector is added, its origin is
pub origins_added : {p width : ℕ} {E E' : List (List ℕ)} {origins origins' : List Origin} (v : ℕ → ℕ)
    (o : Origin) → IsAdded p width E origins v o E' origins' → IsBefore o (length E)
    → HaveOrigins E origins → HaveOrigins E' origins'
origins_added v o (inl (a, b, s)) h H = rw (a, b) H
origins_added {E = E} {origins = origins} v o (inr (w, a, b, N)) h H =
    rw (a, b) (origins_push E w origins o h H)
