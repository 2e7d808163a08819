-- Lists that are related place by place.
use Rattle.std.proofs.Common.{◌≡◌, ℕ, zero, suc, ◌+◌, ◌<◌, List, [], ◌∷◌, ◌++◌, length, take, refl, sym, ap}
use Rattle.std.proofs.Common.{subst, arith, map, Some}
use Rattle.std.specs.Prelude.{All, slice_get, slice_index_or}
use Rattle.std.specs.List.{AllByRecursion as Each}
use Rattle.coho_report.specs.Related.{AreRelated}

module _ {A B : Type 0} (R : A → B → Type 0) where
  pub related-length : (xs : List A) (ys : List B) → AreRelated R xs ys → length ys ≡ length xs
  related-length [] [] r = refl
  related-length [] (y ∷ ys) r = absurd r
  related-length (x ∷ xs) [] r = absurd r
  related-length (x ∷ xs) (y ∷ ys) r = ap suc (related-length xs ys r.1)

  -- one more member of each list
  related-push : (xs : List A) (i : ℕ) (ys : List B) (y : B) → AreRelated R (take i xs) ys → i < length xs
      → ((x : A) → R (slice_index_or xs i x) y) → AreRelated R (take (suc i) xs) (ys ++ y ∷ [])
  related-push [] i ys y r l h = absurd (omega (arith, l))
  related-push (x ∷ xs) zero [] y r l h = (h x, tt)
  related-push (x ∷ xs) zero (z ∷ ys) y r l h = absurd r
  related-push (x ∷ xs) (suc i) [] y r l h = absurd r
  related-push (x ∷ xs) (suc i) (z ∷ ys) y r l h = (r.0, related-push xs i ys y r.1 (omega (arith, l)) h)

  pub related-next : (xs : List A) (i : ℕ) (ys new : List B) (y : B) → AreRelated R (take i xs) ys
      → i < length xs → ((x : A) → R (slice_index_or xs i x) y) → new ≡ ys ++ y ∷ []
      → AreRelated R (take (i + 1) xs) new
  related-next xs i ys new y r l h e =
      let next : suc i ≡ i + 1 = omega arith in
      subst (λ n. AreRelated R (take n xs) new) next
      (subst (AreRelated R (take (suc i) xs)) (sym e) (related-push xs i ys y r l h))

  -- what follows from the relation holds of each
  pub all-related : (P : B → Type 0) → ((x : A) (y : B) → R x y → P y) → (xs : List A) (ys : List B)
      → AreRelated R xs ys → All P ys
  all-related P f [] [] r k d l = absurd (omega (arith, l))
  all-related P f [] (y ∷ ys) r k d l = absurd r
  all-related P f (x ∷ xs) [] r k d l = absurd r
  all-related P f (x ∷ xs) (y ∷ ys) r zero d l = f x y r.0
  all-related P f (x ∷ xs) (y ∷ ys) r (suc k) d l = all-related P f xs ys r.1 k d (omega (arith, l))

  -- a relation to at most one
  pub related-one : ((x : A) (y z : B) → R x y → R x z → y ≡ z) → (xs : List A) (ys zs : List B)
      → AreRelated R xs ys → AreRelated R xs zs → ys ≡ zs
  related-one f [] [] [] r s = refl
  related-one f [] [] (z ∷ zs) r s = absurd s
  related-one f [] (y ∷ ys) zs r s = absurd r
  related-one f (x ∷ xs) [] zs r s = absurd r
  related-one f (x ∷ xs) (y ∷ ys) [] r s = absurd s
  related-one f (x ∷ xs) (y ∷ ys) (z ∷ zs) r s =
      let head = f x y z r.0 s.0 in
      let tail = related-one f xs ys zs r.1 s.1 in
      λ i. head i ∷ tail i

  -- two lists after two others
  pub related-append : (xs zs : List A) (ys ws : List B) → AreRelated R xs ys → AreRelated R zs ws
      → AreRelated R (xs ++ zs) (ys ++ ws)
  related-append [] zs [] ws r s = s
  related-append [] zs (y ∷ ys) ws r s = absurd r
  related-append (x ∷ xs) zs [] ws r s = absurd r
  related-append (x ∷ xs) zs (y ∷ ys) ws r s = (r.0, related-append xs zs ys ws r.1 s)

  -- the members at one place
  pub related-place : (xs : List A) (ys : List B) → AreRelated R xs ys → (k : ℕ) (d : A) (e : B)
      → k < length ys → R (slice_index_or xs k d) (slice_index_or ys k e)
  related-place [] [] r k d e l = absurd (omega (arith, l))
  related-place [] (y ∷ ys) r k d e l = absurd r
  related-place (x ∷ xs) [] r k d e l = absurd r
  related-place (x ∷ xs) (y ∷ ys) r zero d e l = r.0
  related-place (x ∷ xs) (y ∷ ys) r (suc k) d e l = related-place xs ys r.1 k d e (omega (arith, l))

pub related-get : {A B : Type 0} (R : A → B → Type 0) (xs : List A) (ys : List B) → AreRelated R xs ys
    → (j : ℕ) (x : A) (d : B) → slice_get xs j ≡ Some x → R x (slice_index_or ys j d)
related-get R [] ys r j x d e = absurd (cc)
related-get R (z ∷ xs) [] r j x d e = absurd r
related-get R (z ∷ xs) (y ∷ ys) r zero x d e = let same : z ≡ x = cc in subst (λ x. R x y) same r.0
related-get R (z ∷ xs) (y ∷ ys) r (suc j) x d e = related-get R xs ys r.1 j x d e

pub get-map : {X Y : Type 0} (f : X → Y) (xs : List X) (j : ℕ) (x : X) → slice_get xs j ≡ Some x
    → slice_get (map f xs) j ≡ Some (f x)
get-map f [] j x e = absurd (cc)
get-map f (y ∷ xs) zero x e = let same : y ≡ x = cc in ap (λ z. Some (f z)) same
get-map f (y ∷ xs) (suc j) x e = get-map f xs j x e

-- what is related to the member at a place
pub related-from : {A B : Type 0} (R : A → B → Type 0) (xs : List A) (ys : List B) → AreRelated R xs ys
    → (j : ℕ) (y : B) → slice_get ys j ≡ Some y → (x : A) × (slice_get xs j ≡ Some x) × R x y
related-from R [] [] r j y e = absurd (cc)
related-from R (x ∷ xs) [] r j y e = absurd r
related-from R [] (z ∷ ys) r j y e = absurd r
related-from R (x ∷ xs) (z ∷ ys) r zero y e = let same : z ≡ y = cc in (x, refl, subst (R x) same r.0)
related-from R (x ∷ xs) (z ∷ ys) r (suc j) y e = related-from R xs ys r.1 j y e

pub each-get : {X : Type 0} (P : X → Type 0) (xs : List X) → Each P xs → (j : ℕ) (x : X)
    → slice_get xs j ≡ Some x → P x
each-get P [] h j x e = absurd (cc)
each-get P (y ∷ xs) h zero x e = let same : y ≡ x = cc in subst P same h.0
each-get P (y ∷ xs) h (suc j) x e = each-get P xs h.1 j x e
