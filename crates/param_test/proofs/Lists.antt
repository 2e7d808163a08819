-- Lists with one more element at the end.
use Rattle.std.proofs.Common.{◌≡◌, ℕ, zero, suc, ◌+◌, inl, inr, List, [], ◌∷◌, ◌++◌, length, take, refl, sym}
use Rattle.std.proofs.Common.{subst, arith}
use Rattle.std.specs.List.{AllByRecursion as Each}
use Rattle.param_test.specs.Firsts.{IsOneOf, IsAscending}

pub each-map : {X : Type 0} {P Q : X → Type 0} (xs : List X) → ((x : X) → P x → Q x) → Each P xs → Each Q xs
each-map [] f h = tt
each-map (x ∷ xs) f h = (f x h.0, each-map xs f h.1)

pub each-snoc : {X : Type 0} (P : X → Type 0) (xs : List X) (y : X) → Each P xs → P y → Each P (xs ++ y ∷ [])
each-snoc P [] y h p = (p, tt)
each-snoc P (x ∷ xs) y h p = (h.0, each-snoc P xs y h.1 p)

pub each-one-of : {X : Type 0} (P : X → Type 0) (xs : List X) (y : X) → Each P xs → IsOneOf y xs → P y
each-one-of P [] y h o = absurd o
each-one-of P (x ∷ xs) y h (inl e) = subst P (sym e) h.0
each-one-of P (x ∷ xs) y h (inr o) = each-one-of P xs y h.1 o

pub ascending-snoc : {X : Type 0} (B : X → X → Type 0) (xs : List X) (y : X) → IsAscending B xs
    → Each (λ x. B x y) xs → IsAscending B (xs ++ y ∷ [])
ascending-snoc B [] y h b = (tt, tt)
ascending-snoc B (x ∷ xs) y h b = (each-snoc (λ z. B x z) xs y h.0 b.0, ascending-snoc B xs y h.1 b.1)

pub one-of-left : {X : Type 0} (xs zs : List X) (y : X) → IsOneOf y xs → IsOneOf y (xs ++ zs)
one-of-left [] zs y o = absurd o
one-of-left (x ∷ xs) zs y (inl e) = inl e
one-of-left (x ∷ xs) zs y (inr o) = inr (one-of-left xs zs y o)

pub one-of-last : {X : Type 0} (xs : List X) (y z : X) → y ≡ z → IsOneOf y (xs ++ z ∷ [])
one-of-last [] y z e = inl e
one-of-last (x ∷ xs) y z e = inr (one-of-last xs y z e)

pub length-snoc : {X : Type 0} (xs : List X) (y : X) → length (xs ++ y ∷ []) ≡ length xs + 1
length-snoc [] y = refl
length-snoc (x ∷ xs) y = let e : length (xs ++ y ∷ []) ≡ length xs + 1 = length-snoc xs y in omega arith

pub each-both : {X : Type 0} (P Q : X → Type 0) (xs : List X) → Each P xs → Each Q xs
    → Each (λ x. P x × Q x) xs
each-both P Q [] h k = tt
each-both P Q (x ∷ xs) h k = ((h.0, k.0), each-both P Q xs h.1 k.1)

pub each-take : {X : Type 0} (P : X → Type 0) (n : ℕ) (xs : List X) → Each P xs → Each P (take n xs)
each-take P zero xs h = tt
each-take P (suc n) [] h = tt
each-take P (suc n) (x ∷ xs) h = (h.0, each-take P n xs h.1)

pub each-last : {X : Type 0} (P : X → Type 0) (xs : List X) (y : X) → Each P (xs ++ y ∷ []) → P y
each-last P [] y h = h.0
each-last P (x ∷ xs) y h = each-last P xs y h.1
