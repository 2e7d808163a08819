-- One turn of the work: a vector is added, a map is applied, a generator is taken.
use Rattle.std.specs.Prelude.{◌≡◌, ℕ, ◌+◌, ◌*◌, ◌<◌, ◌⊎◌, List, [], ◌∷◌, ◌++◌, length, take}
use Rattle.linear_algebra.specs.Rows.{entry, row, pivot, IsRow, IsInSpan, AreInSpan}
use Rattle.linear_algebra.specs.Modular.{IsCongruent}
use Rattle.neg_basis.specs.Maps.{IsInSubmodule}
use Rattle.neg_basis.specs.Images.{AreImages}
use Rattle.neg_basis.specs.Bases.{IsBasis, IsReducedMultiple}
use Rattle.neg_basis.specs.Origins.{origin_at, source, IsBefore, IsOrigin, IsChosenRightly}
use Rattle.neg_basis.specs.declared.origin.Origin.{Origin}

-- w is a multiple of v, reduced by the vectors, with the entry 1 at its head
pub record IsNew (p width : ℕ) (vectors : List (List ℕ)) (v : ℕ → ℕ) (w : List ℕ) : Type 0 where
  pub is_row : IsRow p width w
  pub inside : pivot w < width
  pub monic : entry w (pivot w) ≡ 1
  pub multiple : IsReducedMultiple p vectors v w

-- w is a multiple of v, reduced by the vectors, and its first entry that is not 0 is 1
pub record IsMonicRest (p width : ℕ) (vectors : List (List ℕ)) (v : ℕ → ℕ) (w : List ℕ) : Type 0 where
  pub is_row : IsRow p width w
  pub monic : pivot w < width → entry w (pivot w) ≡ 1
  pub multiple : IsReducedMultiple p vectors v w

-- v is in the span and nothing is added, or what is left of v is added with this origin
abbrev pub IsAdded : ℕ → ℕ → List (List ℕ) → List Origin → (ℕ → ℕ) → Origin → List (List ℕ) → List Origin
    → Type 0
IsAdded p width vectors origins v origin vectors' origins' =
    ((vectors' ≡ vectors) × (origins' ≡ origins) × IsInSpan p vectors v)
    ⊎ ((w : List ℕ) × (vectors' ≡ vectors ++ w ∷ []) × (origins' ≡ origins ++ origin ∷ [])
    × IsNew p width vectors v w)

-- each vector has an origin, and a step goes out from a vector before
pub record HaveOrigins (vectors : List (List ℕ)) (origins : List Origin) : Type 0 where
  pub count : length origins ≡ length vectors
  pub steps : (i : ℕ) → i < length vectors → IsBefore (origin_at origins i) i

-- the first n generators are taken, all maps are applied to the vectors before position i, and the first k
-- maps to vector i
pub record IsWorked (p width m : ℕ) (image : ℕ → (ℕ → ℕ) → ℕ → ℕ) (gens vectors : List (List ℕ))
    (origins : List Origin) (n i k : ℕ) : Type 0 where
  pub basis : IsBasis p width vectors
  pub count : length origins ≡ length vectors
  pub named : (t : ℕ) → t < length vectors → IsOrigin n m (origin_at origins t) t
  pub made : (t : ℕ) → t < length vectors
      → IsReducedMultiple p (take t vectors) (source image gens vectors (origin_at origins t)) (row vectors t)
  pub taken : AreInSpan p vectors (take n gens)
  pub inside : (t : ℕ) → t < length vectors → IsInSubmodule p m image (take n gens) (entry (row vectors t))
  pub images : (h t : ℕ) → h < m → t < i → IsInSpan p vectors (image h (entry (row vectors t)))
  pub partly : (h : ℕ) → h < k → IsInSpan p vectors (image h (entry (row vectors i)))
  pub chosen : (r : ℕ) → r < n → IsChosenRightly p m image gens origins r

-- whatever generators the work is for, it goes on from vector i, map k to vector i', map k'
abbrev pub Continues : ℕ → ℕ → ℕ → (ℕ → (ℕ → ℕ) → ℕ → ℕ) → List (List ℕ) → List Origin → ℕ → ℕ → List (List ℕ)
    → List Origin → ℕ → ℕ → Type 0
Continues p width m image vectors origins i k vectors' origins' i' k' = (gens : List (List ℕ)) (n : ℕ) →
    IsWorked p width m image gens vectors origins n i k
    → IsWorked p width m image gens vectors' origins' n i' k'

-- whatever generators the work is for: where v is generator n, it is taken, and all maps are applied to all
-- vectors
abbrev pub TakesGenerator : ℕ → ℕ → ℕ → (ℕ → (ℕ → ℕ) → ℕ → ℕ) → (ℕ → ℕ) → ℕ → List (List ℕ) → List Origin
    → List (List ℕ) → List Origin → Type 0
TakesGenerator p width m image v n vectors origins vectors' origins' = (gens : List (List ℕ))
    → n < length gens → ((j : ℕ) → IsCongruent p (v j) (entry (row gens n) j))
    → IsWorked p width m image gens vectors origins n (length vectors) 0
    → IsWorked p width m image gens vectors' origins' (n + 1) (length vectors') 0

-- where the generators are the images of rows, those of row r under the first k of the m maps are taken, and
-- all maps are applied to all vectors
abbrev pub TakesImages : ℕ → ℕ → ℕ → (ℕ → (ℕ → ℕ) → ℕ → ℕ) → List ℕ → ℕ → ℕ → List (List ℕ) → List Origin
    → List (List ℕ) → List Origin → Type 0
TakesImages p width m image v r k vectors origins vectors' origins' = (rows images : List (List ℕ))
    → AreImages p m image rows images → r < length rows → row rows r ≡ v
    → IsWorked p width m image images vectors origins (r * m) (length vectors) 0
    → IsWorked p width m image images vectors' origins' (r * m + k) (length vectors') 0
