-- Finding a monomial in a descending list.
use Rattle.std.proofs.Common.{◌≡◌, ℕ, zero, suc, true, false, List, [], ◌∷◌, position, slice_get, Some, None}
use Rattle.std.proofs.Common.{Option, IsNone, IfSome, is_some, All, Contains, nat_eq, get_or, ◌⊎◌, inl, inr}
use Rattle.std.proofs.Common.{arith, ap, sym, ◌∙◌, refl}
use Rattle.std.specs.Cmp.Lexicographic.{pointwise, bytes_decides}
use Rattle.std.specs.List.{list_any}
use Rattle.std.proofs.lemmas.Bool.{cases_Bool, false≢true}
use Rattle.std.proofs.lemmas.List.Elements.{All-head, All-tail}
use Rattle.std.proofs.lemmas.List.Quantifiers.{position-Some}
use Rattle.std.proofs.lemmas.Option.{slice_get-get_or}
use Rattle.graded_polynomials.specs.Monomials.{IsGreater}
use Rattle.graded_polynomials.proofs.Order.{greater-self}

-- a monomial that is less than all is not there
pub absent-below : (ms : List (List ℕ)) (m : List ℕ) → All (λ n. IsGreater n m) ms
    → list_any (pointwise nat_eq m) ms ≡ false
absent-below [] m h = refl
absent-below (n ∷ ms) m h = go (cases_Bool (pointwise nat_eq m n))
    (absent-below ms m (All-tail (λ (n : List ℕ). IsGreater n m) n ms h))
  where
    go : (pointwise nat_eq m n ≡ true) ⊎ (pointwise nat_eq m n ≡ false)
        → list_any (pointwise nat_eq m) ms ≡ false → list_any (pointwise nat_eq m) (n ∷ ms) ≡ false
    go (inl e) r = absurd (greater-self n
        (rw ((bytes_decides m n).0 e) at (All-head (λ (n : List ℕ). IsGreater n m) n ms h)))
    go (inr e) r = rw e r

pub found-at : (ms : List (List ℕ)) (m : List ℕ) (i : ℕ) → position (pointwise nat_eq m) ms ≡ Some i
    → slice_get ms i ≡ Some m
found-at ms m i e = let p = position-Some (pointwise nat_eq m) ms i m e in
    slice_get-get_or ms i m p.0 ∙ ap (λ n. Some n) (sym ((bytes_decides m (get_or ms i m)).0 p.1))

-- what is there passes the test
any-there : (ms : List (List ℕ)) (m : List ℕ) → Contains ms m → list_any (pointwise nat_eq m) ms ≡ true
any-there [] m h = absurd (omega (arith, h.1))
any-there (n ∷ ms) m h = go (cases_Bool (pointwise nat_eq m n)) h (any-there ms m)
  where
    go : (pointwise nat_eq m n ≡ true) ⊎ (pointwise nat_eq m n ≡ false) → Contains (n ∷ ms) m
        → (Contains ms m → list_any (pointwise nat_eq m) ms ≡ true)
        → list_any (pointwise nat_eq m) (n ∷ ms) ≡ true
    go (inl e) h r = rw e refl
    go (inr e) (zero, l, k) r = absurd (false≢true (sym e ∙ (bytes_decides m n).1 (sym k)))
    go (inr e) (suc i, l, k) r = rw e (r (i, omega (arith, l), k))

there-any : (ms : List (List ℕ)) (m : List ℕ) → list_any (pointwise nat_eq m) ms ≡ true → Contains ms m
there-any [] m h = absurd (false≢true h)
there-any (n ∷ ms) m h = go (cases_Bool (pointwise nat_eq m n)) (there-any ms m)
  where
    go : (pointwise nat_eq m n ≡ true) ⊎ (pointwise nat_eq m n ≡ false)
        → (list_any (pointwise nat_eq m) ms ≡ true → Contains ms m) → Contains (n ∷ ms) m
    go (inl e) r = (0, omega arith, sym ((bytes_decides m n).0 e))
    go (inr e) r = let c = r (rw e at h) in (suc c.0, omega (arith, c.1), c.2)

pub found-some : (r : Option ℕ) (ms : List (List ℕ)) (m : List ℕ) → r ≡ position (pointwise nat_eq m) ms
    → IfSome r (λ i. slice_get ms i ≡ Some m)
found-some None ms m e = tt
found-some (Some i) ms m e = found-at ms m i (sym e)

pub found-none : (r : Option ℕ) (ms : List (List ℕ)) (m : List ℕ)
    → is_some r ≡ list_any (pointwise nat_eq m) ms → (IsNone r → Contains ms m → ⊥)
    × ((Contains ms m → ⊥) → IsNone r)
found-none None ms m e = ((λ n c. false≢true (e ∙ any-there ms m c)), (λ h. refl))
found-none (Some i) ms m e = ((λ n c. cc), (λ h. absurd (h (there-any ms m (sym e)))))
