-- The products by the members of layer 1 on rows.
use Rattle.std.proofs.Common.{◌≡◌, ℕ, zero, suc, ◌+◌, ◌*◌, ◌^◌, ◌<◌, ◌≤◌, ◌⊎◌, List, length, inl, inr, arith, ap}
use Rattle.std.proofs.Common.{sym, ◌∙◌}
use Rattle.std.proofs.lemmas.Bool.{cases_lt}
use mathlib.Core.Path.{subst}
use Rattle.linear_algebra.specs.Modular.{IsCongruent}
use Rattle.linear_algebra.specs.Rows.{entry, IsRow}
use Rattle.linear_algebra.proofs.Congruences.{congruent_eq}
use Rattle.radical_layers.proofs.LayerForm.{basis-size}
use Rattle.radical_generators.specs.Claims.{PlaceClaims}
use Rattle.radical_generators.proofs.FirstLayerSize.{few-in-layer}
use Rattle.radical_generators.proofs.LayerPlaces.{place-claims}
use Rattle.radical_generators.proofs.Rows.{layer_map-row}
use Rattle.p_groups.specs.PGroups.{PGroup, largest_residue, group, order_of, prime_of}
use Rattle.p_groups.proofs.Fields.{residues, field}
use Rattle.group_algebra.specs.Coordinates.{free_module, layers, sum_coordinates, layer_coordinates, row_of}
use Rattle.group_algebra.specs.Coordinates.{table_of, product_with, member}
use Rattle.group_algebra.proofs.LayerLaws.{layers_are}
use Rattle.min_res.specs.LayerProducts.{layer_count, layer_products, AreFirst}

module _ (G : PGroup) where
  abbrev q : ℕ
  q = largest_residue G

  abbrev n : ℕ
  n = order_of G

  abbrev places : PlaceClaims q (group G) (sum_coordinates G) (layers G)
  places = place-claims q (field G) (group G) (sum_coordinates G) (layers G) (layers_are G)

  layer-inside : 1 < (layers G).count → (k : ℕ) → k < layer_count G
      → length ((layers G).positions 0) + k < order_of G
  layer-inside some k l = subst (λ c. length ((layers G).positions 0) + k < c)
      (basis-size q (field G) (group G) (sum_coordinates G) (layers G) (layers_are G))
      (places.inside some k l)

  -- the member of the layer basis is one
  pub member-inside : {before count : ℕ} → AreFirst G before count → (k : ℕ) → k < layer_count G
      → before + k < order_of G
  member-inside {before} {count} A k l = let z : 0 < count = omega (arith, l, A.count_is) in
      let e : before ≡ length ((layers G).positions 0) = A.before_is z in
      omega (arith, e, layer-inside (A.some z) k l)

  pub few-members : layer_count G ≤ order_of G
  few-members = go (cases_lt (layers G).count 2) (cases_lt 0 (layer_count G))
    where
      go : ((layers G).count < 2) ⊎ (2 ≤ (layers G).count) → (0 < layer_count G) ⊎ (layer_count G ≤ 0)
          → layer_count G ≤ order_of G
      go (inl l) h = let e : layer_count G ≡ 0 = places.none l in omega (arith, e)
      go (inr l) (inr z) = omega (arith, z)
      go (inr l) (inl h) = above (layer_count G) h (layer-inside (omega (arith, l)))
        where
          above : (m : ℕ) → 0 < m → ((k : ℕ) → k < m → length ((layers G).positions 0) + k < order_of G)
              → m ≤ order_of G
          above zero z f = omega arith
          above (suc m) z f = let y : length ((layers G).positions 0) + m < order_of G = f m (omega arith) in
              omega (arith, y)

  pub eight-members : order_of G ≤ 2 ^ 8 → layer_count G ≤ 8
  eight-members small = few-in-layer q (field G) (group G) (sum_coordinates G) (layers G) (layers_are G) small

  -- with fewer than two layers there is none
  pub no-members : (layers G).count < 2 → AreFirst G 0 0
  no-members l = record {
    count_is = sym (places.none l);
    before_is = λ z. absurd (omega (arith, z));
    some = λ z. absurd (omega (arith, z));
  }

  -- the layer coordinates of a member of kG^b are a row
  pub product-row : (b : ℕ) (v : (free_module G b).of) (out : List ℕ) → out ≡ row_of G b v
      → IsRow (prime_of G) (order_of G * b) out
  product-row b v out e = subst (λ p. IsRow p (order_of G * b) out) (residues G)
      (subst (λ (x : List ℕ). IsRow (suc q) (order_of G * b) x) (sym e) ((layer_coordinates G b).row-is v))

  -- the product with a member of the layer basis is the product with one of layer 1
  pub product-is : {before count : ℕ} → AreFirst G before count → (b k : ℕ) → k < layer_count G
      → (v out : List ℕ) → IsRow (prime_of G) (order_of G * b) v
      → out ≡ row_of G b (product_with G b (member G (before + k)) (table_of G b v))
      → (j : ℕ) → IsCongruent (prime_of G) (entry out j) (layer_products G b k (entry v) j)
  product-is {before} {count} A b k l v out r e j = congruent_eq (ap (λ x. entry x j)
      (e ∙ ap (λ a. row_of G b (product_with G b a (table_of G b v)))
      (ap (λ s. member G (s + k)) (A.before_is z) ∙ places.member (A.some z) k l))
      ∙ sym (layer_map-row q (group G) (n * b) (free_module G b) (layer_coordinates G b) (sum_coordinates G)
      (layers G) k v (subst (λ p. IsRow p (n * b) v) (sym (residues G)) r) j))
    where
      z : 0 < count
      z = omega (arith, l, A.count_is)
