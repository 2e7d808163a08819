-- The value of a cocycle by the row where the comparison map takes a tuple.
use Rattle.std.proofs.Common.{◌≡◌, ℕ, suc, ◌*◌, ◌%◌, List, length, ap, ap₂, sym, ◌∙◌, refl}
use Rattle.std.proofs.Math.Nat.{zero-mod}
use Rattle.std.specs.List.{Contains}
use Rattle.group_modules.specs.Field.{Below}
use Rattle.linear_algebra.specs.Modular.{sum_below}
use Rattle.linear_algebra.specs.Rows.{entry, pairing, IsRow}
use Rattle.p_groups.specs.PGroups.{PGroup, largest_residue, group, prime_of}
use Rattle.p_groups.proofs.Fields.{residues}
use Rattle.group_algebra.proofs.Members.{residue-row}
use Rattle.group_algebra.specs.Coordinates.{layer_coordinates}
use Rattle.min_res.specs.Stages.{rank_of, stage_rows}
use Rattle.chain_maps.specs.Lifts.{pair}
use Rattle.chain_maps.specs.Vectors.{vector}
use Rattle.chain_lift.proofs.Pairings.{pair-is}
use Rattle.bar_comparison.proofs.Classes.{bar-normal, tuple-entries}
use Rattle.bar_eval.specs.Comparison.{tuple_of, compared, compared_row}
use Rattle.bar_eval.specs.ClassMap.{value_at}
use Rattle.bar_eval.proofs.ClassMaps.{minimal}
use Rattle.bar_eval.proofs.ComparisonRows.{has-identity}

module _ (G : PGroup) (xs c : List ℕ) where
  abbrev d : ℕ
  d = length xs

  pub value-is : (p : ℕ) (row : List ℕ) → row ≡ compared_row G d xs → p ≡ prime_of G
      → IsRow (prime_of G) (rank_of G d) c → pairing p c row ≡ value_at G c xs
  value-is p row e f r =
      ap₂ (λ s k. sum_below s (λ i. entry c i * entry row i) % k) r.length_is (f ∙ sym (residues G))
      ∙ ap (λ (v : Below (suc (largest_residue G))). v.0)
      (sym (pair-is G d c (compared G d (tuple_of G d xs)) row e (residue-row G r)))

  pub value-zero : Contains xs 0 → value_at G c xs ≡ 0
  value-zero (k, l, z) =
      ap (λ (v : Below (suc (largest_residue G))). v.0)
      (ap (λ t. pair (largest_residue G) (group G) (layer_coordinates G) (stage_rows G) d
      (λ i. vector (largest_residue G) c i.0) (compared G d t))
      (sym (tuple-entries (group G).one d (tuple_of G d xs)))
      ∙ bar-normal (minimal G) d (λ i. vector (largest_residue G) c i.0) (tuple_of G d xs)
      (has-identity G d xs refl k l z))
      ∙ zero-mod (suc (largest_residue G))
