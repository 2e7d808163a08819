-- A span that is closed under the products by layer 1 is a submodule.
use Rattle.std.proofs.Common.{ℕ, suc, List, arith}
use Rattle.linear_algebra.specs.Modular.{IsFieldModulo}
use Rattle.linear_algebra.proofs.Congruences.{congruent_trans, congruent_eq, congruent_sym}
use Rattle.linear_algebra.proofs.Spans.{in_span_congruent, in_span_zero, in_span_add}
use Rattle.group_modules.specs.Module.{Module}
use Rattle.group_modules.specs.Tables.{Group, monoid, Table}
use Rattle.augmentation_ideal.specs.Radical.{IsSubmodule}
use Rattle.augmentation_ideal.specs.Claims.{IsPrimePower}
use Rattle.augmentation_ideal.proofs.Laws.{finite-table}
use Rattle.radical_layers.specs.Coordinates.{RowForm}
use Rattle.radical_layers.specs.LayerBasis.{Layers, AreLayers}
use Rattle.radical_layers.proofs.Bridge.{at, at-zero}
use Rattle.neg_basis.specs.Maps.{IsClosed}
use Rattle.radical_generators.specs.FirstLayer.{layer_size}
use Rattle.radical_generators.specs.Claims.{Spanned, maps, MapClaims}
use Rattle.radical_generators.proofs.ClosedSets.{closed-submodule}
use Rattle.radical_generators.proofs.Rows.{layer_map-linear, layer_map-at}

module _ {n : ℕ} (q : ℕ) (F : IsFieldModulo (suc q)) (Γ : Group n) (P : IsPrimePower q n)
    (K : RowForm n (Table q Γ 1)) (Y : Layers) (A : AreLayers q Γ K Y) (b : ℕ) {width : ℕ}
    (C : RowForm width (Table q Γ b)) where
  abbrev T : Module (suc q) (monoid Γ)
  T = Table q Γ b

  pub span-submodule : (rows : List (List ℕ))
      → IsClosed (suc q) (layer_size q Γ K Y) (maps q Γ K Y b C) rows
      → IsSubmodule T (Spanned q Γ K Y b C rows)
  span-submodule rows closed = closed-submodule q F Γ P K Y A T (finite-table q Γ b)
      (Spanned q Γ K Y b C rows)
      (record {
        zero-in = in_span_congruent (λ j. congruent_sym (at-zero q Γ width T C j)) in_span_zero;
        add-in = λ v w h k. in_span_congruent
            (λ j. congruent_sym (congruent_trans (C.row-add v w j) (congruent_eq (omega arith))))
            (in_span_add {f = at q Γ width T C v} {g = at q Γ width T C w} 1 h k);
        product-in = λ k l v h. in_span_congruent (λ j. congruent_eq (layer_map-at q Γ width T C K Y k v j))
            (closed.each k l (at q Γ width T C v) h);
      })

  pub map-claims : MapClaims q Γ K Y b C
  map-claims = record { linear = layer_map-linear q Γ width T C K Y; submodule = span-submodule }
