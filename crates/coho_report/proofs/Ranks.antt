-- The greatest of a list, and lists that grow at the end.
use Rattle.std.proofs.Common.{◌≡◌, ◌∙◌, ◌⊎◌, inl, inr, Less, Equal, Greater, cond, ℕ, ◌+◌, ◌<◌}
use Rattle.std.proofs.Common.{◌≤◌, max, List, [], ◌∷◌, ◌++◌, length, map, take, sym, ap, arith}
use Rattle.std.specs.Prelude.{All, get_or, slice_index}
use Rattle.std.specs.Ordering.{is_lt, nat_cmp, ord_max}
use Rattle.std.specs.Cmp.{nat_cmp_is}
use Rattle.std.proofs.lemmas.Bool.{cases_lt}
use Rattle.std.proofs.lemmas.List.{map-append, take_more}
use Rattle.param_test.specs.Bounds.{greatest}

-- the greater of two numbers, by their comparison
pub ord-max-is : (a b : ℕ) → ord_max nat_cmp a b ≡ max a b
ord-max-is a b = go (cases_lt b a) (cases_lt a b)
  where
    go : (b < a) ⊎ (a ≤ b) → (a < b) ⊎ (b ≤ a) → ord_max nat_cmp a b ≡ max a b
    go (inl l) k = ap (λ o. cond (is_lt o) a b) (sym (nat_cmp_is b a Less l)) ∙ omega (arith, l)
    go (inr l) (inl k) = ap (λ o. cond (is_lt o) a b) (sym (nat_cmp_is b a Greater k)) ∙ omega (arith, k)
    go (inr l) (inr k) = ap (λ o. cond (is_lt o) a b) (sym (nat_cmp_is b a Equal (omega (arith, l, k))))
        ∙ omega (arith, l)

-- what holds of all members holds at each place
pub each-member : (P : ℕ → Type 0) (xs : List ℕ) → All P xs → (i : ℕ) → i < length xs → P (slice_index xs i)
each-member P xs all i l = all i 0 l

pub greatest-last : (xs : List ℕ) (x : ℕ) → greatest (xs ++ x ∷ []) ≡ max (greatest xs) x
greatest-last [] x = omega arith
greatest-last (y ∷ xs) x = let e = greatest-last xs x in omega (arith, e)

pub greatest-more : {X : Type 0} (f : X → ℕ) (xs : List X) (i m : ℕ) (x : X) → i < length xs
    → x ≡ get_or xs i x → m ≡ greatest (map f (take i xs)) → max m (f x) ≡ greatest (map f (take (i + 1) xs))
greatest-more f xs i m x l here e =
    let all : map f (take (i + 1) xs) ≡ map f (take i xs) ++ f x ∷ [] =
    ap (map f) (take_more xs i x l ∙ ap (λ y. take i xs ++ y ∷ []) (sym here))
    ∙ map-append f (take i xs) (x ∷ []) in
    let last = greatest-last (map f (take i xs)) (f x) in
    ap (λ m. max m (f x)) e ∙ sym last ∙ ap greatest (sym all)
