-- Different numbers below n are at most n.
use Rattle.std.proofs.Common.{◌≡◌, ℕ, zero, suc, ◌<◌, ◌≤◌, List, [], ◌∷◌, inl, inr, refl, sym, subst, arith}
use Rattle.std.proofs.Common.{length}
use Rattle.std.proofs.lemmas.Bool.{cases_lt}
use Rattle.elementary_subgroups.specs.Sets.{IsIn, IsAscending}

abbrev pub Differs : ℕ → ℕ → Type 0
Differs x y = x ≡ y → ⊥

-- the list without one that is n
pub without : (n : ℕ) (xs : List ℕ) → IsAscending Differs xs → ((x : ℕ) → IsIn x xs → x < suc n) →
    (ys : List ℕ) × IsAscending Differs ys × ((y : ℕ) → IsIn y ys → IsIn y xs × (y < n)) ×
    (length xs ≤ suc (length ys))
without n [] d h = ([], tt, (λ y k. absurd k), omega arith)
without n (x ∷ xs) d h = elim (cases_lt x n) [
  | inl l ↦ (let r = without n xs d.1 (λ z k. h z (inr k)) in (
    x ∷ r.0,
    ((λ y k. d.0 y (r.2 y k).0), r.1),
    (λ y k. elim k [
      | inl e ↦ (inl e, (let q : y < n = subst (λ w. w < n) (sym e) l in q))
      | inr i ↦
          (inr (r.2 y i).0, (r.2 y i).1)
    ]),
    (let q : length xs ≤ suc (length r.0) = r.3 in omega arith),
  ))
  | inr g ↦ (xs, d.1, (λ y k. (inr k, smaller y k g (h x (inl refl)) (h y (inr k)) (d.0 y k))), omega arith)
]
  where
    smaller : (y : ℕ) → IsIn y xs → n ≤ x → x < suc n → y < suc n → (x ≡ y → ⊥) → y < n
    smaller y k a b c e = elim (cases_lt y n) [ inl l ↦ l | inr r ↦ absurd (e (omega arith)) ]

pub at_most : (n : ℕ) (xs : List ℕ) → IsAscending Differs xs → ((x : ℕ) → IsIn x xs → x < n) → length xs ≤ n
at_most zero [] d h = omega arith
at_most zero (x ∷ xs) d h = absurd (let b : x < 0 = h x (inl refl) in omega arith)
at_most (suc n) xs d h =
    let r = without n xs d h in
    let a = at_most n r.0 r.1 (λ y k. (r.2 y k).1) in
    let b : length xs ≤ suc (length r.0) = r.3 in omega arith
