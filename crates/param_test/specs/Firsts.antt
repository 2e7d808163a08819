-- The first so many of a set of things, in an order.
use Rattle.std.specs.Prelude.{◌≡◌, ℕ, ◌+◌, ◌<◌, ◌≤◌, ◌⊎◌, List, [], ◌∷◌, ◌++◌, length}
use Rattle.std.specs.List.{AllByRecursion as Each}
pub use Rattle.graded_polynomials.specs.Polynomials.{IsOneOf}

-- place by place: at the first place where they differ, a has the smaller number
abbrev pub IsLess : List ℕ → List ℕ → Type 0
IsLess [] b = ⊥
IsLess (x ∷ a) [] = ⊥
IsLess (x ∷ a) (y ∷ b) = (x < y) ⊎ ((x ≡ y) × IsLess a b)

-- each is before all that come after it
abbrev pub IsAscending : {X : Type 0} → (X → X → Type 0) → List X → Type 0
IsAscending IsBefore [] = Unit {0}
IsAscending IsBefore (x ∷ xs) = Each (λ y. IsBefore x y) xs × IsAscending IsBefore xs

-- xs are the first n members, in order, or all where there are fewer
pub record AreFirst {X : Type 0} (IsMember : X → Type 0) (IsBefore : X → X → Type 0) (n : ℕ)
    (xs : List X) : Type 0 where
  pub members : Each IsMember xs
  pub ascending : IsAscending IsBefore xs
  pub at_most : length xs ≤ n
  -- a member that is not listed comes after n that are
  pub others : (y : X) → IsMember y → IsOneOf y xs ⊎ ((length xs ≡ n) × Each (λ x. IsBefore x y) xs)

-- t passes, is among the first n members, and none before it passes; earlier are the members before it
pub record IsFirstPassing {X : Type 0} (IsMember : X → Type 0) (IsBefore : X → X → Type 0) (n : ℕ)
    (Passes : X → Type 0) (t : X) : Type 0 where
  pub earlier : List X
  pub first : AreFirst IsMember IsBefore (length earlier + 1) (earlier ++ t ∷ [])
  pub among : length earlier < n
  pub fail : Each (λ x. Passes x → ⊥) earlier
  pub pass : Passes t

-- none of the first n members passes
pub record NonePasses {X : Type 0} (IsMember : X → Type 0) (IsBefore : X → X → Type 0) (n : ℕ)
    (Passes : X → Type 0) : Type 0 where
  pub tried : List X
  pub first : AreFirst IsMember IsBefore n tried
  pub fail : Each (λ x. Passes x → ⊥) tried
