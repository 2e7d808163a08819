-- What the next map along an embedding is made of: rows over the subgroup, its elements in the group, and
-- the map before.
use Rattle.std.specs.Prelude.{◌≡◌, ℕ, ◌*◌, ◌^◌, ◌<◌, List, length, slice_index}
use Rattle.group_modules.specs.Operations.{linear}
use Rattle.group_modules.specs.Module.{ops, times}
use Rattle.group_modules.specs.Field.{Below}
use Rattle.group_modules.specs.Sums.{below, total}
use Rattle.group_modules.specs.Tables.{terms}
use Rattle.linear_algebra.specs.Rows.{entry, row, IsRow}
use Rattle.fp_rows.specs.Values.{MatrixValue, RowValue}
use Rattle.p_groups.specs.PGroups.{PGroup, largest_residue, group, order_of, prime_of}
use Rattle.group_algebra.specs.Coordinates.{free_module, row_of, table_of}
use Rattle.min_res.specs.Values.{StageValue, boundary_of}
use Rattle.chain_maps_along.specs.Along.{along}
use Rattle.chain_lift.specs.Embeddings.{element_of}
use Rattle.chain_lift.specs.RowMaps.{image_row}

-- element e of E goes to the element of G with the number at place e of the list
abbrev pub listed : (E G : PGroup) → List ℕ → Below (order_of E) → Below (order_of G)
listed E G images e = element_of G (slice_index images e.0)

-- the sum of c_e times the translate of the row v by the element of G at place e, over the places of c
abbrev pub translates : (G : PGroup) (b : ℕ) → List ℕ → List ℕ → List ℕ → (free_module G b).of
translates G b images c v = total (free_module G b) (below (length c)) (λ e.
    times (free_module G b).add (free_module G b).zero (entry c e.0)
    ((free_module G b).act (element_of G (slice_index images e.0)) (table_of G b v)))

-- the value at x of the map to kG^b, linear along f, that takes basis element k to row k
abbrev pub value_along : (E G : PGroup) → (Below (order_of E) → Below (order_of G)) → (b : ℕ) → List (List ℕ)
    → List ℕ → List ℕ
value_along E G f b rows x = row_of G b (linear (along f (ops (free_module G b)))
    (λ (k : Below (length rows)). table_of G b (row rows k.0))
    (terms (largest_residue E) (group E) (length rows) (table_of E (length rows) x)))

-- the elements of E are listed by their numbers in G
pub record AreImages (E G : PGroup) (images : List ℕ) : Type 0 where
  pub same_prime : prime_of E ≡ prime_of G
  pub count : length images ≡ order_of E
  pub inside : (e : ℕ) → e < length images → slice_index images e < order_of G

-- a row over E, one for its coefficients, and one of the free module of this rank over G
pub record AreScratchRows (E G : PGroup) (rank : ℕ) (block coefficients moved : RowValue) : Type 0 where
  pub block_prime : block.p ≡ prime_of E
  pub block_length : length block.entries ≡ order_of E
  pub coefficients_prime : coefficients.p ≡ prime_of E
  pub coefficients_length : length coefficients.entries ≡ order_of E
  pub moved_prime : moved.p ≡ prime_of G
  pub moved_length : length moved.entries ≡ order_of G * rank

-- the rows of a map to a free module of this rank over G, and the stages of E and of G between which the
-- map after it goes
pub record FitAlong (E G : PGroup) (rank : ℕ) (before : MatrixValue) (source target : StageValue) : Type 0
  where
    pub source_above_zero : 0 < source.degree
    pub target_above_zero : 0 < target.degree
    pub before_prime : before.p ≡ prime_of G
    pub source_prime : source.kernel.p ≡ prime_of E
    pub target_prime : target.kernel.p ≡ prime_of G
    pub before_width : before.width ≡ order_of G * rank
    pub target_width : (boundary_of target).source.width ≡ order_of G * rank
    pub fits : order_of E * length before.rows < 2 ^ 64
    pub images : (i : ℕ) → i < source.rank → IsRow (prime_of E) (order_of E * length before.rows)
        (image_row source i)
