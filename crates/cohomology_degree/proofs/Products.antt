-- Products of rows are products of vectors, and 1 times a class is the class.
use Rattle.std.proofs.Common.{◌≡◌, ℕ, suc, ◌+◌, ◌*◌, ◌<◌, ◌≤◌, ◌⊎◌, inl, inr, List, length, arith, ap, sym}
use Rattle.std.proofs.Common.{◌∙◌}
use Rattle.std.proofs.lemmas.Bool.{cases_lt}
use Rattle.std.proofs.Math.Nat.{mod-eq_of_lt}
use mathlib.Core.Path.{fun_ext}
use Rattle.group_modules.specs.Module.{times}
use Rattle.group_modules.specs.Field.{Below, Fp, plus}
use Rattle.linear_algebra.proofs.Residues.{residue-self, times-residue}
use Rattle.group_modules.specs.Field as field
use Rattle.group_modules.proofs.SumLaws.{total-only}
use Rattle.group_modules.specs.Tables.{monoid, Table, block-sum}
use Rattle.p_groups.specs.PGroups.{PGroup, largest_residue, group}
use Rattle.group_algebra.specs.Coordinates.{layer_coordinates}
use Rattle.p_groups.proofs.Fields.{field as prime-field}
use Rattle.graded_algebra.specs.Vectors.{Vector, residue, unit}
use Rattle.presentation_rows.specs.Values.{vector}
use Rattle.min_res.specs.Stages.{stage_rows, rank_of}
use Rattle.chain_maps.specs.Lifts.{lift, product}
use Rattle.chain_maps.proofs.ChainMaps.{pair-sums, sum-multiple}
use Rattle.chain_maps.proofs.Vectors.{vector-claims, product-claims, length-entries, extended-at}
use Rattle.chain_maps.proofs.Vectors.{extended-past}
use Rattle.chain_lift.specs.Products.{multiply, product_row}

module _ (G : PGroup) where
  abbrev q : ℕ
  q = largest_residue G

  -- the row of a product
  pub product-vector : (d e : ℕ) (a c : List ℕ)
      → vector q (product_row G d e a c) ≡ multiply G d e (vector q a) (vector q c)
  product-vector d e a c = (vector-claims q (rank_of G (d + e))).of_vector
      (multiply G d e (vector q a) (vector q c))
      (product-claims q (group G) (layer_coordinates G) (stage_rows G) d e (vector q a) (vector q c)).past

  pub length-product : (d e : ℕ) (a c : List ℕ) → length (product_row G d e a c) ≡ rank_of G (d + e)
  length-product d e a c = length-entries (rank_of G (d + e)) (multiply G d e (vector q a) (vector q c))

  one-at : (e : ℕ) (w : Vector q) (i : Below (rank_of G e))
      → product q (group G) (layer_coordinates G) (stage_rows G) e (λ k. w k.0) 0
      (λ k. unit q 0 k.0) i ≡ w i.0
  one-at e w i =
      pair-sums q (group G) 1 (λ k. unit q 0 k.0) v
      ∙ total-only (Fp q (monoid (group G))) 1 f (field.residue 0 0)
      (λ y ne. absurd (ne (let l : y.0 < 1 = y.1 in omega (arith, l))))
      ∙ ap (λ (b : Below (suc q)). times (plus q) (residue q 0) b.0 (residue q 1))
      (sum-multiple q (group G) (w i.0))
      ∙ times-residue q (w i.0).0 (residue q 1)
      ∙ ap (residue q) (ap (λ x. (w i.0).0 * x) (mod-eq_of_lt (prime-field G).above_one) ∙ omega arith)
      ∙ residue-self q (w i.0)
    where
      v : (Table q (group G) 1).of
      v = lift q (group G) (layer_coordinates G) (stage_rows G) e (λ k. w k.0) 0 i

      f : Below 1 → Below (suc q)
      f k = times (plus q) (residue q 0) (block-sum q (group G) 1 v k).0 (unit q 0 k.0)

  -- 1 times a class
  pub one-times : (e : ℕ) (w : Vector q) → ((k : ℕ) → rank_of G e ≤ k → w k ≡ residue q 0)
      → multiply G 0 e (unit q 0) w ≡ w
  one-times e w z = fun_ext (λ k. go k (cases_lt k (rank_of G e)))
    where
      u : Below (rank_of G e) → Below (suc q)
      u = product q (group G) (layer_coordinates G) (stage_rows G) e (λ k. w k.0) 0 (λ k. unit q 0 k.0)

      go : (k : ℕ) → (k < rank_of G e) ⊎ (rank_of G e ≤ k) → multiply G 0 e (unit q 0) w k ≡ w k
      go k (inl l) = extended-at (rank_of G e) u (k, l) ∙ one-at e w (k, l)
      go k (inr l) = extended-past (rank_of G e) u k l ∙ sym (z k l)
