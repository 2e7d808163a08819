-- The product of classes by inner products with the rows of a lift.
use Rattle.std.proofs.Common.{◌≡◌, ℕ, zero, suc, ◌+◌, ◌*◌, ◌%◌, ◌<◌, List, length, arith, ap, ap₂, sym, ◌∙◌}
use Rattle.std.proofs.Common.{refl}
use Rattle.std.proofs.lemmas.List.{ext_get_or}
use Rattle.std.proofs.Math.Nat.{mod-eq_of_lt}
use native.Mathlib.Nat.{lt-suc_self}
use Rattle.group_modules.specs.Module.{times}
use Rattle.group_modules.specs.Field.{Below, Fp, residue, plus}
use Rattle.linear_algebra.proofs.Residues.{plus-residue, times-residue}
use Rattle.group_modules.specs.Sums.{below, up, total}
use Rattle.group_modules.proofs.SumLaws.{total-map}
use Rattle.group_modules.specs.Tables.{Group, monoid, block-sum}
use Rattle.linear_algebra.specs.Modular.{sum_below}
use Rattle.linear_algebra.specs.Rows.{entry, pairing, row, IsRow}
use Rattle.fp_rows.specs.Values.{MatrixValue}
use Rattle.p_groups.specs.PGroups.{PGroup, largest_residue, group}
use Rattle.p_groups.proofs.Fields.{residues}
use Rattle.group_algebra.specs.Coordinates.{free_module, layer_coordinates}
use Rattle.group_algebra.proofs.LayerLaws.{layer_claims, sum_coordinates_are}
use Rattle.min_res.specs.Stages.{stage_rows, rank_of}
use Rattle.chain_maps.specs.Lifts.{ahead, lift, pair, product}
use Rattle.chain_maps.specs.Vectors.{vector}
use Rattle.chain_maps.proofs.ChainMaps.{pair-sums}
use Rattle.chain_maps.proofs.Vectors.{ahead-is, length-entries, entry-entries, extended-at}
use Rattle.chain_lift.specs.Maps.{IsLiftMap}
use Rattle.chain_lift.specs.Products.{multiply, product_row}

-- a sum of residues is the residue of the sum
total-number : {n : ℕ} (q : ℕ) (Γ : Group n) (b : ℕ) (f : Below b → Below (suc q)) (g : ℕ → ℕ)
    → ((k : Below b) → f k ≡ residue q (g k.0))
    → total (Fp q (monoid Γ)) (below b) f ≡ residue q (sum_below b g)
total-number q Γ zero f g e = refl
total-number q Γ (suc b) f g e =
    ap (plus q (f (b, lt-suc_self b))) (total-map (Fp q (monoid Γ)) (λ i. up i) (below b) f
    ∙ total-number q Γ b (λ i. f (up i)) g (λ k. e (up k)))
    ∙ ap (λ x. plus q x (residue q (sum_below b g))) (e (b, lt-suc_self b))
    ∙ plus-residue q (g b) (sum_below b g) ∙ ap (residue q) (omega arith)

module _ (G : PGroup) where
  abbrev q : ℕ
  q = largest_residue G

  -- the value of a class at a table, by the first entries of its row
  pub pair-is : (d : ℕ) (a : List ℕ) (v : (free_module G (rank_of G d)).of) (x : List ℕ)
      → x ≡ (layer_coordinates G (rank_of G d)).row v
      → IsRow (suc q) (rank_of G d) a
      → pair q (group G) (layer_coordinates G) (stage_rows G) d (λ k. vector q a k.0) v ≡ residue q
      (sum_below (rank_of G d) (λ k. entry a k * entry x k))
  pair-is d a v x e r = pair-sums q (group G) (rank_of G d) (λ k. vector q a k.0) v
      ∙ total-number q (group G) (rank_of G d)
      (λ k. times (plus q) (residue q 0) (block-sum q (group G) (rank_of G d) v k).0 (vector q a k.0))
      (λ k. entry a k * entry x k) each
    where
      each : (k : Below (rank_of G d))
          → times (plus q) (residue q 0) (block-sum q (group G) (rank_of G d) v k).0
          (vector q a k.0) ≡ residue q (entry a k.0 * entry x k.0)
      each k = times-residue q (block-sum q (group G) (rank_of G d) v k).0 (vector q a k.0)
          ∙ ap₂ (λ (s t : ℕ). residue q (s * t))
          ((layer_claims G).sums (sum_coordinates_are G).first G.law.law.some (rank_of G d) v k
          ∙ ap (λ y. entry y k.0) (sym e))
          (mod-eq_of_lt (r.below k.0 k.1))
          ∙ ap (residue q) (let z : entry x k.0 * entry a k.0 ≡ entry a k.0 * entry x k.0 = omega arith in z)

  -- the inner products with the rows of the map of degree d are the product
  pub product-is : (d e : ℕ) (a c : List ℕ) (m : MatrixValue) (out : List ℕ) → IsLiftMap G e c d m
      → IsRow (suc q) (rank_of G d) a
      → length out ≡ length m.rows
      → ((i : ℕ) → i < length m.rows → entry out i ≡ pairing m.p a (row m.rows i))
      → out ≡ product_row G d e a c
  product-is d e a c m out M r n v = ext_get_or 0 out (product_row G d e a c) (count
      ∙ sym (length-entries (rank_of G (d + e)) w))
      (λ i l. at i (let z : i < rank_of G (ahead e d) = (let t : length out ≡ rank_of G (ahead e d) = n
      ∙ M.count in omega (arith, t, l)) in z)
      ∙ sym (entry-entries (rank_of G (d + e)) w i
      (let t : length out ≡ rank_of G (d + e) = count in omega (arith, t, l))))
    where
      w : ℕ → Below (suc q)
      w = multiply G d e (vector q a) (vector q c)

      count : length out ≡ rank_of G (d + e)
      count = n ∙ M.count ∙ ap (rank_of G) (ahead-is e d)

      at : (i : ℕ) → i < rank_of G (ahead e d) → entry out i ≡ (w i).0
      at i l = v i (let t : length m.rows ≡ rank_of G (ahead e d) = M.count in omega (arith, t, l))
          ∙ ap₂ (λ (s p : ℕ). sum_below s (λ k. entry a k * entry (row m.rows i) k) % p) r.length_is (M.prime
          ∙ sym (residues G))
          ∙ ap (λ (x : Below (suc q)). x.0)
          (sym (pair-is d a (lift q (group G) (layer_coordinates G) (stage_rows G) e (λ k. vector q c k.0) d
          (i, l)) (row m.rows i)
          (M.each (i, l)) r)
          ∙ sym (extended-at (rank_of G (ahead e d))
          (product q (group G) (layer_coordinates G) (stage_rows G) e (λ k. vector q c k.0) d
          (λ k. vector q a k.0)) (i, l)))
