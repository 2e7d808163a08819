-- The members of layer 1 are a basis of J modulo J^2, so they generate J.
use Rattle.std.proofs.Common.{ℕ, suc, ◌<◌, List, length, sym, refl}
use mathlib.Core.Path.{subst}
use Rattle.group_modules.specs.Module.{Module}
use Rattle.group_modules.specs.Tables.{Group, monoid, Table}
use Rattle.augmentation_ideal.specs.Radical.{Radical}
use Rattle.augmentation_ideal.specs.Generators.{IsBasisModuloMoved}
use Rattle.augmentation_ideal.specs.Claims.{IsPrimePower}
use Rattle.augmentation_ideal.proofs.Generators as generators
use Rattle.augmentation_ideal.proofs.Laws.{finite-table}
use Rattle.linear_algebra.specs.Modular.{IsFieldModulo}
use Rattle.linear_algebra.specs.Rows.{entry, row, IsMatrix, IsInSpan, AreInSpan}
use Rattle.linear_algebra.specs.Choices.{IsGreedy}
use Rattle.linear_algebra.proofs.Spans.{in_span_row}
use Rattle.linear_algebra.proofs.GreedyChoice.{greedy-same-span}
use Rattle.radical_layers.specs.Coordinates.{RowForm}
use Rattle.radical_layers.specs.Moves.{moves}
use Rattle.radical_layers.specs.LayerBasis.{Layers, AreLayers}
use Rattle.radical_layers.proofs.Bridge.{at, moves-matrix, moved-from-span, span-from-moved}
use Rattle.radical_layers.proofs.LayerLaws.{layer-members, layer-spans}
use Rattle.radical_layers.proofs.Basis.{basis}
use Rattle.radical_generators.specs.FirstLayer.{layer_size, layer_member}
use Rattle.radical_generators.specs.Claims.{IdealClaims}

module _ {n : ℕ} (q : ℕ) (F : IsFieldModulo (suc q)) (Γ : Group n)
    (K : RowForm n (Table q Γ 1)) (Y : Layers) (A : AreLayers q Γ K Y) where
  abbrev T : Module (suc q) (monoid Γ)
  T = Table q Γ 1

  abbrev J : T.of → Type 0
  J v = Radical T 1 v

  abbrev E1 : List (List ℕ)
  E1 = Y.powers 1

  abbrev E2 : List (List ℕ)
  E2 = Y.powers 2

  matrix : IsMatrix (suc q) n E1
  matrix = (A.powers_are 1).matrix

  members : (i : ℕ) → i < length E1 → J (K.table (row E1 i))
  members = layer-members q Γ n T K 1 E1 (A.powers_are 1)

  spans : (v : T.of) → J v → IsInSpan (suc q) E1 (at q Γ n T K v)
  spans = layer-spans q Γ n T K 1 E1 (A.powers_are 1)

  moves-are : IsMatrix (suc q) n (moves Γ T K E1)
  moves-are = moves-matrix q Γ n T K J E1 matrix members spans

  moves-in : AreInSpan (suc q) E2 (moves Γ T K E1)
  moves-in i l = subst (λ x. IsInSpan (suc q) E2 (entry x))
      (K.row-table (row (moves Γ T K E1) i) (moves-are i l))
      (layer-spans q Γ n T K 2 E2 (A.powers_are 2) (K.table (row (moves Γ T K E1) i))
      (moved-from-span q Γ n T K J E1 matrix members spans (K.table (row (moves Γ T K E1) i))
      (subst (λ x. IsInSpan (suc q) (moves Γ T K E1) (entry x))
      (sym (K.row-table (row (moves Γ T K E1) i) (moves-are i l))) (in_span_row (moves Γ T K E1) i l))))

  in-moves : AreInSpan (suc q) (moves Γ T K E1) E2
  in-moves i l = subst (λ x. IsInSpan (suc q) (moves Γ T K E1) (entry x))
      (K.row-table (row E2 i) ((A.powers_are 2).matrix i l))
      (span-from-moved q Γ n T K J E1 matrix members spans (K.table (row E2 i))
      (layer-members q Γ n T K 2 E2 (A.powers_are 2) i l))

  greedy : IsGreedy (suc q) E1 (moves Γ T K E1) (Y.positions 1)
  greedy = greedy-same-span (suc q) E1 E2 (moves Γ T K E1) moves-in in-moves (length E1) (Y.positions 1)
      (A.positions_are 1)

  pub layer-basis : IsBasisModuloMoved T J (layer_size q Γ K Y) (λ k. layer_member q Γ K Y k.0)
  layer-basis = basis q F Γ n T K J E1 matrix members spans (Y.positions 1) greedy (layer_size q Γ K Y) refl

pub ideal-claims : {n : ℕ} (q : ℕ) (F : IsFieldModulo (suc q)) (Γ : Group n) (P : IsPrimePower q n)
    (K : RowForm n (Table q Γ 1)) (Y : Layers) → AreLayers q Γ K Y → IdealClaims q Γ K Y
ideal-claims q F Γ P K Y A =
    let B : IsBasisModuloMoved (Table q Γ 1) (λ v. Radical (Table q Γ 1) 1 v) (layer_size q Γ K Y)
    (λ k. layer_member q Γ K Y k.0) = layer-basis q F Γ K Y A in
    record {
      members = λ k l. B.members (k, l);
      generate = generators.generate q Γ (Table q Γ 1) (λ v. Radical (Table q Γ 1) 1 v) (layer_size q Γ K Y)
          (λ k. layer_member q Γ K Y k.0) B P.exponent P.prime P.power (finite-table q Γ 1);
    }
