-- Rows, combinations, spans and reduced row echelon form (Hoffman and Kunze, "Linear Algebra", sections 1.4
-- and 2.5).
use Rattle.std.specs.Prelude.{◌≡◌, ◌≢◌, ℕ, zero, suc, ◌+◌, ◌-◌, ◌*◌, ◌%◌, ◌<◌, Bool, false, ◌||◌, eqb, List}
use Rattle.std.specs.Prelude.{[], ◌∷◌, length, replicate, slice_index_or}
use Rattle.linear_algebra.specs.Modular.{IsCongruent, sum_below}

-- the entry of a row at place j, and 0 past its end
abbrev pub entry : List ℕ → ℕ → ℕ
entry r j = slice_index_or r j 0

-- row i of a list of rows
abbrev pub row : List (List ℕ) → ℕ → List ℕ
row rows i = slice_index_or rows i []

-- a row of the given width with entries below p
pub record IsRow (p width : ℕ) (r : List ℕ) : Type 0 where
  pub length_is : length r ≡ width
  pub below : (j : ℕ) → j < width → entry r j < p

-- each of the rows is a row of the given width with entries below p
abbrev pub IsMatrix : ℕ → ℕ → List (List ℕ) → Type 0
IsMatrix p width rows = (i : ℕ) → i < length rows → IsRow p width (row rows i)

-- xs plus c times ys, modulo p
abbrev pub add_multiple : ℕ → ℕ → List ℕ → List ℕ → List ℕ
add_multiple p c [] ys = []
add_multiple p c (x ∷ xs) [] = x ∷ xs
add_multiple p c (x ∷ xs) (y ∷ ys) = ((x + c * y) % p) ∷ add_multiple p c xs ys

-- place j of u_0 row_0 + u_1 row_1 + .., not reduced modulo p
abbrev pub combination : (ℕ → ℕ) → List (List ℕ) → ℕ → ℕ
combination u rows j = sum_below (length rows) (λ i. u i * entry (row rows i) j)

-- the row of these numbers, each reduced modulo p
abbrev pub combination_row : ℕ → ℕ → (ℕ → ℕ) → List (List ℕ) → List ℕ
combination_row p width u [] = replicate width 0
combination_row p width u (r ∷ rows) = add_multiple p (u 0) (combination_row p width (λ i. u (suc i)) rows) r

-- x_0 y_0 + x_1 y_1 + .. for two rows of one length, modulo p
abbrev pub pairing : ℕ → List ℕ → List ℕ → ℕ
pairing p x y = sum_below (length x) (λ i. entry x i * entry y i) % p

-- the vector with the entries v is the combination of the rows with the coefficients u
pub record IsCombination (p : ℕ) (u : ℕ → ℕ) (rows : List (List ℕ)) (v : ℕ → ℕ) : Type 0 where
  pub each : (j : ℕ) → IsCongruent p (combination u rows j) (v j)

-- the vector with the entries v is in the span of the rows
abbrev pub IsInSpan : ℕ → List (List ℕ) → (ℕ → ℕ) → Type 0
IsInSpan p rows v = (u : ℕ → ℕ) × IsCombination p u rows v

-- each of these rows is in the span of those
abbrev pub AreInSpan : ℕ → List (List ℕ) → List (List ℕ) → Type 0
AreInSpan p rows vs = (i : ℕ) → i < length vs → IsInSpan p rows (entry (row vs i))

-- the place of the first entry that is not 0, and the length where each is 0
abbrev pub pivot : List ℕ → ℕ
pivot [] = 0
pivot (zero ∷ xs) = suc (pivot xs)
pivot (suc x ∷ xs) = 0

-- k is the pivot of one of the rows
abbrev pub IsPivot : List (List ℕ) → ℕ → Type 0
IsPivot rows k = (i : ℕ) × (i < length rows) × (pivot (row rows i) ≡ k)

-- the same as a test
abbrev pub is_pivot : List (List ℕ) → ℕ → Bool
is_pivot [] k = false
is_pivot (r ∷ rows) k = eqb (pivot r) k || is_pivot rows k

-- a reduced row echelon list: no row is 0, the pivots ascend, and each pivot's column is 1 in its own row and
-- 0 elsewhere
pub record IsEchelon (rows : List (List ℕ)) : Type 0 where
  pub not_zero : (i : ℕ) → i < length rows → pivot (row rows i) < length (row rows i)
  pub ascending : (i k : ℕ) → i < k → k < length rows → pivot (row rows i) < pivot (row rows k)
  pub monic : (i : ℕ) → i < length rows → entry (row rows i) (pivot (row rows i)) ≡ 1
  pub cleared : (i k : ℕ) → i < length rows → k < length rows → i ≢ k
      → entry (row rows k) (pivot (row rows i)) ≡ 0

-- rows is Ech of the span of these generators
pub record IsEchelonOf (p width : ℕ) (generators rows : List (List ℕ)) : Type 0 where
  pub matrix : IsMatrix p width rows
  pub echelon : IsEchelon rows
  pub spanned : AreInSpan p generators rows
  pub spans : AreInSpan p rows generators

-- w is v less a member of the span, and 0 at every pivot
pub record IsReduced (p : ℕ) (rows : List (List ℕ)) (v w : List ℕ) : Type 0 where
  pub difference : IsInSpan p rows (λ j. entry w j + (p - 1) * entry v j)
  pub zero_at_pivots : (i : ℕ) → i < length rows → entry w (pivot (row rows i)) ≡ 0
