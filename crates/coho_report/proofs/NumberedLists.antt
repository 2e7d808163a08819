-- Lines of members by their places.
use Rattle.std.proofs.Common.{◌≡◌, ◌∙◌, ℕ, zero, suc, ◌+◌, ◌<◌, List, [], ◌∷◌, ◌++◌, map, flat_map, length}
use Rattle.std.proofs.Common.{take, refl, sym, ap, arith, append_assoc}
use Rattle.std.specs.Prelude.{slice_index_or}
use Rattle.std.specs.List.{enumerate_from}
use Rattle.std.proofs.lemmas.List.{map-append, append-nil}

flat-append : {A : Type 0} (f : A → List (List ℕ)) (xs : List A) (x : A)
    → flat_map f (xs ++ x ∷ []) ≡ flat_map f xs ++ f x
flat-append f [] x = append-nil (f x)
flat-append f (y ∷ ys) x = ap (λ zs. f y ++ zs) (flat-append f ys x)
    ∙ sym (append_assoc (f y) (flat_map f ys) (f x))

module _ {X : Type 0} where
  enumerate-push : (xs : List X) (k j : ℕ) (x : X) → j ≡ k + length xs
      → enumerate_from k (xs ++ x ∷ []) ≡ enumerate_from k xs ++ (j, x) ∷ []
  enumerate-push [] k j x e = let same : k ≡ j = omega (arith, e) in ap (λ n. (n, x) ∷ []) same
  enumerate-push (y ∷ ys) k j x e = ap (λ zs. (k, y) ∷ zs) (enumerate-push ys (k + 1) j x (omega (arith, e)))

  take-next : (xs : List X) (i : ℕ) (x : X) → i < length xs → ((d : X) → slice_index_or xs i d ≡ x)
      → (take (i + 1) xs ≡ take i xs ++ x ∷ []) × (length (take i xs) ≡ i)
  take-next xs i x l at =
      let next : i + 1 ≡ suc i = omega arith in
      let r = go xs i l at in
      (ap (λ n. take n xs) next ∙ r.0, r.1)
    where
      go : (xs : List X) (i : ℕ) → i < length xs → ((d : X) → slice_index_or xs i d ≡ x)
          → (take (suc i) xs ≡ take i xs ++ x ∷ []) × (length (take i xs) ≡ i)
      go [] i l at = absurd (omega (arith, l))
      go (y ∷ ys) zero l at = (ap (λ z. z ∷ []) (at y), refl)
      go (y ∷ ys) (suc i) l at = let r = go ys i (omega (arith, l)) at in (ap (λ zs. y ∷ zs) r.0, ap suc r.1)

  -- the member at a place, whatever stands for one past the end
  pub at-place : (xs : List X) (i : ℕ) (x : X) → i < length xs → x ≡ slice_index_or xs i x → (d : X)
      → slice_index_or xs i d ≡ x
  at-place [] i x l e d = absurd (omega (arith, l))
  at-place (y ∷ ys) zero x l e d = sym e
  at-place (y ∷ ys) (suc i) x l e d = at-place ys i x (omega (arith, l)) e d

  pub some-member : (xs : List X) (i : ℕ) → i < length xs
      → (x : X) × ((d : X) → slice_index_or xs i d ≡ x)
  some-member [] i l = absurd (omega (arith, l))
  some-member (y ∷ ys) zero l = (y, λ d. refl)
  some-member (y ∷ ys) (suc i) l = some-member ys i (omega (arith, l))

  -- the places of the members before i, and of that at i
  numbered-next : (xs : List X) (i : ℕ) (x : X) → i < length xs → ((d : X) → slice_index_or xs i d ≡ x)
      → enumerate_from 0 (take (i + 1) xs) ≡ enumerate_from 0 (take i xs) ++ (i, x) ∷ []
  numbered-next xs i x l at =
      let r = take-next xs i x l at in
      let count = r.1 in
      ap (enumerate_from 0) r.0 ∙ enumerate-push (take i xs) 0 i x (omega (arith, count))

  -- a line for each member, and one more
  pub lines-next : (f : ℕ → X → List ℕ) (xs : List X) (i : ℕ) (x : X) → i < length xs
      → ((d : X) → slice_index_or xs i d ≡ x)
      → map (λ p. f p.0 p.1) (enumerate_from 0 (take (i + 1) xs))
      ≡ map (λ p. f p.0 p.1) (enumerate_from 0 (take i xs)) ++ f i x ∷ []
  lines-next f xs i x l at = ap (map (λ p. f p.0 p.1)) (numbered-next xs i x l at)
      ∙ map-append (λ p. f p.0 p.1) (enumerate_from 0 (take i xs)) ((i, x) ∷ [])

  -- the lines of each member, and of one more
  pub parts-next : (f : ℕ → X → List (List ℕ)) (xs : List X) (i : ℕ) (x : X) → i < length xs
      → ((d : X) → slice_index_or xs i d ≡ x)
      → flat_map (λ p. f p.0 p.1) (enumerate_from 0 (take (i + 1) xs))
      ≡ flat_map (λ p. f p.0 p.1) (enumerate_from 0 (take i xs)) ++ f i x
  parts-next f xs i x l at = ap (flat_map (λ p. f p.0 p.1)) (numbered-next xs i x l at)
      ∙ flat-append (λ p. f p.0 p.1) (enumerate_from 0 (take i xs)) (i, x)
