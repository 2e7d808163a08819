-- Members by their places.
use Rattle.std.proofs.Common.{◌≡◌, ℕ, zero, suc, ◌<◌, List, [], ◌∷◌, inl, inr, refl, sym, subst, arith}
use Rattle.std.proofs.Common.{length, get_or}
use Rattle.std.specs.Prelude.{Some, None, slice_get}
use Rattle.elementary_subgroups.specs.Sets.{IsIn}

pub in_at : {A : Type 0} (xs : List A) (k : ℕ) (d : A) → k < length xs → IsIn (get_or xs k d) xs
in_at [] k d h = absurd (omega arith)
in_at (x ∷ xs) zero d h = inl refl
in_at (x ∷ xs) (suc k) d h = inr (in_at xs k d (omega arith))

pub at_in : (xs : List ℕ) (d x : ℕ) → IsIn x xs → (k : ℕ) × (k < length xs) × (get_or xs k d ≡ x)
at_in [] d x h = elim h [ ]
at_in (y ∷ xs) d x (inl e) = (0, omega arith, sym e)
at_in (y ∷ xs) d x (inr h) = let r = at_in xs d x h in
    (suc r.0, (let l : r.0 < length xs = r.1 in omega arith), r.2)

pub each_in : (P : ℕ → Type 0) (xs : List ℕ) → ((k : ℕ) → k < length xs → P (get_or xs k 0)) → (x : ℕ) →
    IsIn x xs → P x
each_in P xs h x m = let r = at_in xs 0 x m in subst P r.2 (h r.0 r.1)

pub in_get : {A : Type 0} (xs : List A) (k : ℕ) (x : A) → slice_get xs k ≡ Some x → IsIn x xs
in_get [] k x e = absurd (let bad : None ≡ Some x = e in cc)
in_get (y ∷ xs) zero x e = inl (let q : Some y ≡ Some x = e in cc)
in_get (y ∷ xs) (suc k) x e = inr (in_get xs k x e)
