-- The first element that passes a test, by its index.
use Rattle.std.proofs.Common.{◌≡◌, ℕ, ◌+◌, ◌<◌, ◌≤◌, Bool, true, false, not, cond, List, [], ◌∷◌, map, length}
use Rattle.std.proofs.Common.{get_or, refl, sym, ◌∙◌, ap, subst, arith, Some, None, suc, slice_get}
use Rattle.std.proofs.Math.ListN.{set}
use Rattle.std.specs.List.{position, position_or_len, find}
use Rattle.std.proofs.lemmas.List.Folds.{find_at}
use Rattle.std.specs.Option.{option_map}
use Rattle.std.proofs.lemmas.Option.{slice_get-map, slice_get_past, slice_get-get_or}
use Rattle.std.proofs.lemmas.Grind.{common_steps}
use Rattle.coho_io.specs.MemFiles.{Entry, change_first}

module _ {A : Type 0} (v : A → Entry) (p : Entry → Bool) where
  abbrev at : A → Bool
  at x = p (v x)

  position_Some : (xs : List A) (i : ℕ) → position at xs ≡ Some i → (i ≡ position_or_len at xs)
      × (i < length xs)
  position_Some xs i e = (grind (arith, common_steps), grind (arith, common_steps))

  position_None : (xs : List A) → position at xs ≡ None → length xs ≤ position_or_len at xs
  position_None xs e = grind (arith, common_steps)

  position-map : (xs : List A) → position_or_len p (map v xs) ≡ position_or_len at xs
  position-map [] = refl
  position-map (x ∷ xs) = ap (λ n. cond (not (p (v x))) (1 + n) 0) (position-map xs)

  pub find_Some : (xs : List A) (i : ℕ) → position at xs ≡ Some i → find p (map v xs) ≡ slice_get (map v xs) i
  find_Some xs i e = find_at p (map v xs)
      ∙ ap (slice_get (map v xs)) (position-map xs ∙ sym (position_Some xs i e).0)

  pub find_None : (xs : List A) → position at xs ≡ None → find p (map v xs) ≡ None
  find_None xs e = find_at p (map v xs) ∙ ap (slice_get (map v xs)) (position-map xs)
      ∙ (slice_get-map v xs _ ∙ ap (option_map v) (slice_get_past xs _ (position_None xs e)))

  first_there : (change : Entry → Entry) (x : A) (xs : List A) (i : ℕ) (y d : A) → i ≡ 0
      → v y ≡ change (v (get_or (x ∷ xs) i d)) → change (v x) ∷ map v xs ≡ map v (set (x ∷ xs) i y)
  first_there change x xs i y d e h = rw e
      (ap (λ z. z ∷ map v xs) (sym (subst (λ n. v y ≡ change (v (get_or (x ∷ xs) n d))) e h)))

  later : (change : Entry → Entry) (x : A) (xs : List A) (i k : ℕ) (y d : A) → i ≡ suc k
      → change_first p change (map v xs) ≡ map v (set xs k y)
      → v x ∷ change_first p change (map v xs) ≡ map v (set (x ∷ xs) i y)
  later change x xs i k y d e h = rw e (ap (λ zs. v x ∷ zs) h)

  changed_at : (change : Entry → Entry) (xs : List A) (i : ℕ) (y d : A) → i ≡ position_or_len at xs
      → i < length xs → v y ≡ change (v (get_or xs i d))
      → change_first p change (map v xs) ≡ map v (set xs i y)
  changed_at change [] i y d e lt h = absurd (omega arith)
  changed_at change (x ∷ xs) i y d e lt h =
      elim (p (v x)) as (λ b. i ≡ cond (not b) (1 + position_or_len at xs) 0
      → cond b (change (v x) ∷ map v xs) (v x ∷ change_first p change (map v xs)) ≡ map v
      (set (x ∷ xs) i y)) [
        | true ↦ λ e. first_there change x xs i y d e h
        | false ↦ λ e. let s : i ≡ suc (position_or_len at xs) = e ∙ omega arith in
            later change x xs i _ y d s (changed_at change xs (position_or_len at xs) y d refl (omega arith)
            (subst (λ n. v y ≡ change (v (get_or (x ∷ xs) n d))) s h))
      ] e

  pub change_at : (change : Entry → Entry) (xs : List A) (i : ℕ) (y d : A) → position at xs ≡ Some i
      → v y ≡ change (v (get_or xs i d)) → change_first p change (map v xs) ≡ map v (set xs i y)
  change_at change xs i y d e h = let q = position_Some xs i e in changed_at change xs i y d q.0 q.1 h

  pub at_Some : (xs : List A) (i : ℕ) (d : A) → position at xs ≡ Some i
      → find p (map v xs) ≡ Some (v (get_or xs i d))
  at_Some xs i d e = find_Some xs i e ∙ slice_get-map v xs i
      ∙ ap (option_map v) (slice_get-get_or xs i d (position_Some xs i e).1)
