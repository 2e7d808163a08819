-- The first that passes, of the first so many of a set in a strict order, is one.
use Rattle.std.proofs.Common.{◌≡◌, ◌∙◌, ◌⊎◌, inl, inr, ℕ, zero, suc, ◌+◌, ◌<◌, ◌≤◌, List, [], ◌∷◌, ◌++◌}
use Rattle.std.proofs.Common.{length, take, refl, ap, subst, arith}
use Rattle.std.specs.Prelude.{MatchOption, Option, Some, None}
use Rattle.std.proofs.lemmas.Bool.{cases_order}
use Rattle.param_test.specs.Firsts.{IsOneOf, AreFirst, IsFirstPassing, NonePasses}
use Rattle.param_test.proofs.Lists.{each-one-of, one-of-last}
use Rattle.coho_report.proofs.FirstLists.{fewer, first_are_one}

one-of-take : {X : Type 0} (k : ℕ) (xs : List X) (y : X) → IsOneOf y (take k xs) → IsOneOf y xs
one-of-take zero xs y o = absurd o
one-of-take (suc k) [] y o = absurd o
one-of-take (suc k) (x ∷ xs) y (inl e) = inl e
one-of-take (suc k) (x ∷ xs) y (inr o) = inr (one-of-take k xs y o)

take-left : {X : Type 0} (k : ℕ) (xs ys : List X) → k ≤ length xs → take k (xs ++ ys) ≡ take k xs
take-left zero xs ys le = refl
take-left (suc k) [] ys le = absurd (omega (arith, le))
take-left (suc k) (x ∷ xs) ys le = ap (λ zs. x ∷ zs) (take-left k xs ys (omega (arith, le)))

-- the first member, and the others
abbrev first-of : {X : Type 0} → X → List X → X
first-of z [] = z
first-of z (w ∷ ws) = w

abbrev others-of : {X : Type 0} → List X → List X
others-of [] = []
others-of (v ∷ vs) = vs

last-same : {X : Type 0} (xs ys : List X) (x y : X) → length xs ≡ length ys
    → xs ++ x ∷ [] ≡ ys ++ y ∷ [] → x ≡ y
last-same [] [] x y l e = ap (first-of x) e
last-same [] (w ∷ ys) x y l e = absurd (omega (arith, l))
last-same (z ∷ xs) [] x y l e = absurd (omega (arith, l))
last-same (z ∷ xs) (w ∷ ys) x y l e = last-same xs ys x y (omega (arith, l)) (ap others-of e)

module _ {X : Type 0} (In : X → Type 0) (B : X → X → Type 0) (self : (x : X) → B x x → ⊥)
    (trans : (x y z : X) → B x y → B y z → B x z) (n : ℕ) (Passes : X → Type 0) where
  -- the first that passes is among the first n
  among-first : (xs : List X) (t : X) → AreFirst In B n xs → IsFirstPassing In B n Passes t → IsOneOf t xs
  among-first xs t F P =
      let m = length P.earlier + 1 in
      let less : m ≤ n = let l = P.among in omega (arith, l) in
      let same = first_are_one B self trans In m (P.earlier ++ t ∷ []) (take m xs) P.first
      (fewer B self trans In n m xs less F) in
      one-of-take m xs t (subst (IsOneOf t) same (one-of-last P.earlier t t refl))

  none-or-one : (t : X) → NonePasses In B n Passes → IsFirstPassing In B n Passes t → ⊥
  none-or-one t N P = each-one-of (λ x. Passes x → ⊥) N.tried t N.fail
      (among-first N.tried t N.first P) P.pass

  not-earlier : (t u : X) (P : IsFirstPassing In B n Passes t) (Q : IsFirstPassing In B n Passes u)
      → length P.earlier < length Q.earlier → ⊥
  not-earlier t u P Q l =
      let m = length P.earlier + 1 in
      let k = length Q.earlier + 1 in
      let le : m ≤ length Q.earlier = omega (arith, l) in
      let same = first_are_one B self trans In m (P.earlier ++ t ∷ []) (take m (Q.earlier ++ u ∷ [])) P.first
      (fewer B self trans In k m (Q.earlier ++ u ∷ []) (omega (arith, l)) Q.first)
      ∙ take-left m Q.earlier (u ∷ []) le in
      each-one-of (λ x. Passes x → ⊥) Q.earlier t Q.fail
      (one-of-take m Q.earlier t (subst (IsOneOf t) same (one-of-last P.earlier t t refl))) P.pass

  one-passing : (t u : X) → IsFirstPassing In B n Passes t → IsFirstPassing In B n Passes u → t ≡ u
  one-passing t u P Q = go (cases_order (length P.earlier) (length Q.earlier))
    where
      go : (length P.earlier ≡ length Q.earlier)
          ⊎ ((length P.earlier < length Q.earlier) ⊎ (length Q.earlier < length P.earlier)) → t ≡ u
      go (inl e) = last-same P.earlier Q.earlier t u e (first_are_one B self trans In (length Q.earlier + 1)
          (P.earlier ++ t ∷ []) (Q.earlier ++ u ∷ [])
          (subst (λ m. AreFirst In B (m + 1) (P.earlier ++ t ∷ [])) e P.first) Q.first)
      go (inr (inl l)) = absurd (not-earlier t u P Q l)
      go (inr (inr l)) = absurd (not-earlier u t Q P l)

  pub found_is_one : (a b : Option X)
      → MatchOption a (NonePasses In B n Passes) (λ t. IsFirstPassing In B n Passes t)
      → MatchOption b (NonePasses In B n Passes) (λ t. IsFirstPassing In B n Passes t) → a ≡ b
  found_is_one None None P Q = refl
  found_is_one None (Some u) P Q = absurd (none-or-one u P Q)
  found_is_one (Some t) None P Q = absurd (none-or-one t Q P)
  found_is_one (Some t) (Some u) P Q = ap Some (one-passing t u P Q)
