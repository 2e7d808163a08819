-- The values of a linear map of free modules at unit rows.
use Rattle.std.proofs.Common.{◌≡◌, ◌≢◌, ℕ, suc, ◌+◌, ◌*◌, ◌<◌, ◌≤◌, ◌⊎◌, List, [], length, replicate, inl}
use Rattle.std.proofs.Common.{inr, arith, ap}
use Rattle.std.proofs.Common.{sym, ◌∙◌}
use Rattle.std.proofs.lemmas.Bool.{cases_eq}
use Rattle.std.proofs.Math.Nat.{mul-le-mul_right}
use mathlib.Core.Path.{subst}
use Rattle.group_table.specs.Tables.{order}
use Rattle.linear_algebra.specs.Rows.{entry, row, IsRow}
use Rattle.linear_algebra.specs.Kernels.{unit_row}
use Rattle.linear_algebra.proofs.AugmentLemmas.{entry_unit_same, entry_unit_other, length-unit_row}
use Rattle.group_modules.specs.Module.{Module, times}
use Rattle.group_modules.specs.Field.{Below}
use Rattle.group_modules.proofs.Laws.{zero-add}
use Rattle.group_modules.proofs.SumLaws.{total-only}
use Rattle.group_modules.specs.Tables.{monoid}
use Rattle.radical_layers.specs.Placing.{place_of, size_of}
use Rattle.p_groups.specs.PGroups.{PGroup, largest_residue, group, prime_of}
use Rattle.p_groups.proofs.Fields.{residues}
use Rattle.linear_algebra.proofs.Fields.{field_of_prime}
use Rattle.group_algebra.specs.Coordinates.{free_module, row_of, table_of, member, product_with, sizes}
use Rattle.group_algebra.specs.Gains.{image_at, stepped, GainsImage}
use Rattle.group_algebra.specs.RowMaps.{map_row}
use Rattle.group_algebra.specs.Tables.{IsProductRow, EachRow}
use Rattle.group_algebra.proofs.BlockSums.{block, entry-block, block-is-row, map-is}
use Rattle.group_algebra.proofs.ImageLemmas.{row-back, zero-table, image-gained, block-product}
use Rattle.group_algebra.proofs.ImageLemmas.{product-additive}
use Rattle.group_algebra.proofs.ImageLemmas.{zeros-are-row, products-all, no-products}
use Rattle.group_algebra.proofs.LayerRows.{size-is}
use Rattle.group_algebra.proofs.PlaceLemmas.{place-differs-of}

unit-is-row : (p w j : ℕ) → 1 < p → IsRow p w (unit_row w j)
unit-is-row p w j l = record {
  length_is = length-unit_row w j;
  below = λ t m. at t m (cases_eq t j);
}
  where
    at : (t : ℕ) → t < w → (t ≡ j) ⊎ (t ≢ j) → entry (unit_row w j) t < p
    at t m (inl e) = let y : entry (unit_row w j) j ≡ 1 = entry_unit_same w j (omega (arith, m, e)) in
        rw e (omega (arith, y, l))
    at t m (inr d) = let y : entry (unit_row w j) t ≡ 0 = entry_unit_other w j t d in omega (arith, y, l)

module _ (G : PGroup) where
  abbrev q : ℕ
  q = largest_residue G

  abbrev n : ℕ
  n = order G.table

  abbrev M : (b : ℕ) → Module (suc q) (monoid (group G))
  M b = free_module G b

  -- member k times a table, written over zeros
  pub multiplied : (T : List (List ℕ)) → length T ≡ n * n → EachRow (IsProductRow G) T
      → (b k : ℕ) (ss v new : List ℕ) → ss ≡ sizes G → k < n
      → IsRow G.table.p (n * b) v
      → GainsImage G.table.p ss b (image_at T k n []) 1 v (replicate (n * b) 0) new
      → new ≡ row_of G b (product_with G b (member G k) (table_of G b v))
  multiplied T len H b k ss v new s l rv C = row-back G b new (product_with G b (member G k) (table_of G b v))
      (subst (λ m. IsRow G.table.p (m * b) new) (ap size_of s ∙ size-is G) C.is_row)
      (image-gained G (product_with G 1 (member G k)) (product-additive G 1 (member G k)) (stepped T k n)
      (λ j m. H (k + j * n) (inside j m) k j l m (let z : k + j * n ≡ j * n + k = omega arith in z))
      b 1 ss v (replicate (n * b) 0) new s rv
      (zeros-are-row G.table.p (n * b) (let z : suc q ≡ G.table.p = residues G in omega (arith, z))) C
      ∙ ap (λ z. (M b).add (table_of G b (replicate (n * b) 0)) (times (M b).add (M b).zero 1 z))
      (block-product G b (member G k) (table_of G b v))
      ∙ ap (λ z. (M b).add z (times (M b).add (M b).zero 1 value)) (zero-table G b)
      ∙ zero-add (M b) (times (M b).add (M b).zero 1 value)
      ∙ (M b).add-zero value)
    where
      value : (M b).of
      value = product_with G b (member G k) (table_of G b v)

      inside : (j : ℕ) → j < n → k + j * n < length T
      inside j m = let z : (j + 1) * n ≤ n * n =
          mul-le-mul_right n (let y : j + 1 ≤ n = omega (arith, m) in y) in omega (arith, z, l, len)

  -- the product of a row of zeros, and of a unit row
  zero-product : (b : ℕ) (a : List ℕ) (w : (M b).of) → IsRow G.table.p n a → ((l : ℕ) → l < n → entry a l ≡ 0)
      → product_with G b (table_of G 1 a) w ≡ (M b).zero
  zero-product b a w r h = sym (products-all G b a w r) ∙ no-products G b a w n h

  unit-product : (b k : ℕ) (a : List ℕ) (w : (M b).of) → IsRow G.table.p n a → k < n → entry a k ≡ 1
      → ((l : ℕ) → l < n → l ≢ k → entry a l ≡ 0)
      → product_with G b (table_of G 1 a) w ≡ product_with G b (member G k) w
  unit-product b k a w r l one others = sym (products-all G b a w r)
      ∙ total-only (M b) n
      (λ (i : Below n). times (M b).add (M b).zero (entry a i.0) (product_with G b (member G i.0) w)) (k, l)
      (λ y d. ap (λ c. times (M b).add (M b).zero c (product_with G b (member G y.0) w)) (others y.0 y.1 d))
      ∙ ap (λ c. times (M b).add (M b).zero c (product_with G b (member G k) w)) one
      ∙ (M b).add-zero (product_with G b (member G k) w)

  -- the value at the unit row of the place of member k in block i
  pub unit-value : (b : ℕ) (rows : List (List ℕ)) (j i k : ℕ) → j < n * length rows → i < length rows → k < n
      → place_of (sizes G) (length rows) i k ≡ j
      → map_row G b rows (unit_row (n * length rows) j)
      ≡ row_of G b (product_with G b (member G k) (table_of G b (row rows i)))
  unit-value b rows j i k l o m e = ap (row_of G b)
      (map-is G (length rows) x whole b (λ y. table_of G b (row rows y))
      ∙ total-only (M b) (length rows)
      (λ (y : Below (length rows)). product_with G b (table_of G 1 (block G (length rows) x y.0))
      (table_of G b (row rows y.0))) (i, o)
      (λ y d. zero-product b (block G (length rows) x y.0) (table_of G b (row rows y.0)) (part y.0)
      (λ t h. entry-block G (length rows) x y.0 t h
      ∙ entry_unit_other (n * length rows) j (place_of (sizes G) (length rows) y.0 t)
      (λ f. d (apart y.0 t y.1 h f).0)))
      ∙ unit-product b k (block G (length rows) x i) (table_of G b (row rows i)) (part i) m
      (entry-block G (length rows) x i k m ∙ ap (entry x) e ∙ entry_unit_same (n * length rows) j l)
      (λ t h d. entry-block G (length rows) x i t h
      ∙ entry_unit_other (n * length rows) j (place_of (sizes G) (length rows) i t)
      (λ f. d (apart i t o h f).1)))
    where
      x : List ℕ
      x = unit_row (n * length rows) j

      whole : IsRow (suc q) (n * length rows) x
      whole = unit-is-row (suc q) (n * length rows) j
          (let a : 1 < prime_of G = (field_of_prime (prime_of G) G.law.prime).above_one in omega (arith, a))

      part : (y : ℕ) → IsRow G.table.p n (block G (length rows) x y)
      part y = subst (λ p. IsRow p n (block G (length rows) x y)) (residues G)
          (block-is-row G (length rows) x whole y)

      apart : (y t : ℕ) → y < length rows → t < n → place_of (sizes G) (length rows) y t ≡ j
          → (y ≡ i) × (t ≡ k)
      apart y t a h f = place-differs-of (sizes G) (length rows) y t i k a
          (subst (λ z. t < z) (sym (size-is G)) h) o (subst (λ z. k < z) (sym (size-is G)) m) (f ∙ sym e)
