-- The sizes of the layers as a list.
use Rattle.std.proofs.Common.{◌≡◌, ℕ, zero, suc, ◌+◌, ◌*◌, ◌<◌, List, length, slice_index, arith, ap, sym}
use Rattle.std.proofs.Common.{◌∙◌, refl}
use mathlib.Core.Path.{subst}
use Rattle.group_table.specs.Tables.{order}
use Rattle.linear_algebra.specs.Rows.{entry, IsRow}
use Rattle.group_modules.specs.Tables.{block-sum}
use Rattle.radical_layers.specs.LayerBasis.{sizes_from}
use Rattle.p_groups.specs.PGroups.{PGroup, largest_residue, group}
use Rattle.p_groups.proofs.Fields.{residues}
use Rattle.group_algebra.specs.Coordinates.{layers, layer_coordinates, table_of, sizes}
use Rattle.group_algebra.proofs.LayerLaws.{layer_claims, sum_coordinates_are}

sizes-count : (P : ℕ → List ℕ) (i c : ℕ) → length (sizes_from P i c) ≡ c
sizes-count P i zero = refl
sizes-count P i (suc c) = ap suc (sizes-count P (suc i) c)

sizes-at : (P : ℕ → List ℕ) (i c k : ℕ) → k < c → slice_index (sizes_from P i c) k ≡ length (P (i + k))
sizes-at P i zero k l = absurd (omega (arith, l))
sizes-at P i (suc c) zero l = ap (λ j. length (P j)) (let z : i ≡ i + 0 = omega arith in z)
sizes-at P i (suc c) (suc k) l = sizes-at P (suc i) c k (omega (arith, l))
    ∙ ap (λ j. length (P j)) (let z : suc i + k ≡ i + suc k = omega arith in z)

module _ (G : PGroup) where
  pub layer-count : (ss : List ℕ) → ss ≡ sizes G → length ss ≡ (layers G).count
  layer-count ss e = ap length e ∙ sizes-count (layers G).positions 0 (layers G).count

  pub layer-size : (ss : List ℕ) (i : ℕ) → ss ≡ sizes G → i < (layers G).count
      → slice_index ss i ≡ length ((layers G).positions i)
  layer-size ss i e l = ap (λ s. slice_index s i) e ∙ sizes-at (layers G).positions 0 (layers G).count i l
      ∙ ap (λ j. length ((layers G).positions j)) (let z : 0 + i ≡ i = omega arith in z)

  -- the sum of a block stands at its place in layer 0
  pub sum-at-place : (b i : ℕ) (x : List ℕ) (l : i < b) → IsRow G.table.p (order G.table * b) x
      → entry x i ≡ (block-sum (largest_residue G) (group G) b (table_of G b x) (i, l)).0
  sum-at-place b i x l r = sym ((layer_claims G).sums (sum_coordinates_are G).first G.law.law.some b
      (table_of G b x) (i, l)
      ∙ ap (λ y. entry y i) ((layer_coordinates G b).row-table x
      (subst (λ p. IsRow p (order G.table * b) x) (sym (residues G)) r)))
