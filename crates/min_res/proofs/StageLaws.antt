-- The laws of the defined stages.
use Rattle.std.proofs.Common.{◌≡◌, ℕ, suc, ◌*◌, List, [], ◌∷◌, ap, ap₂, sym, ◌∙◌}
use mathlib.Core.Path.{subst}
use Rattle.group_table.specs.Tables.{order}
use Rattle.group_modules.specs.Module.{Module, sub, times, lin}
use Rattle.group_modules.proofs.Laws.{times-mod, sub-zero}
use Rattle.group_modules.specs.Field.{Below, residue}
use Rattle.group_modules.specs.Sums.{below, total}
use Rattle.group_modules.proofs.SumLaws.{total-zero}
use Rattle.group_modules.specs.Tables.{Group, monoid, Table, terms, part, unit, block-sum}
use Rattle.group_modules.proofs.TermLaws.{lin-terms}
use Rattle.group_modules.proofs.MapLaws.{terms-sum}
use Rattle.augmentation_ideal.specs.Radical.{Moved, Radical, IsSubmodule}
use Rattle.augmentation_ideal.specs.Generators.{combine}
use Rattle.augmentation_ideal.proofs.Generators.{split, kernel-minimal}
use Rattle.augmentation_ideal.proofs.Nakayama.{times-in}
use Rattle.resolution_stages.specs.Definitions.{StageRows}
use Rattle.resolution_stages.specs.Checks.{StageParts, IsSubmoduleList, IsNextStage}
use Rattle.resolution_stages.specs.Chain.{parts_of}
use Rattle.resolution_stages.proofs.NextList.{list-of-submodule}
use Rattle.resolution_stages.proofs.ChainLaws.{next-of, stage-claims}
use Rattle.resolution_stages.proofs.Unique.{next-is-one}
use Rattle.resolution_stages.proofs.FromDefinitions.{kernel-is-submodule, stage-basis, onto, fewest-rows}
use Rattle.resolution_stages.proofs.FromDefinitions.{rows}
use Rattle.p_groups.specs.PGroups.{PGroup, largest_residue, group}
use Rattle.p_groups.proofs.Fields.{field, prime_power}
use Rattle.group_algebra.specs.Coordinates.{layer_coordinates}
use Rattle.min_res.specs.Stages.{stage_rows, rank_of}
use Rattle.min_res.proofs.StageRows.{stage_rows_are}
use Rattle.min_res.specs.Defined.{free, K, IsExactMinimal, IsSectionOf}

module _ {n : ℕ} (q : ℕ) (Γ : Group n) where
  -- a table whose blocks have sum 0 is in J P
  blocks-radical : (b : ℕ) (v : (Table q Γ b).of) → ((i : Below b) → block-sum q Γ b v i ≡ residue q 0)
      → Radical (Table q Γ b) 1 v
  blocks-radical b v e = subst (Moved A (Radical A 0)) whole
      (split q Γ A (Radical A 0) b (unit q Γ b) (λ i. tt) v)
    where
      A : Module (suc q) (monoid Γ)
      A = Table q Γ b

      none-left : combine A b (unit q Γ b) (block-sum q Γ b v) ≡ A.zero
      none-left = total-zero A (below b) (λ i. times A.add A.zero (block-sum q Γ b v i).0 (unit q Γ b i))
          (λ i. ap (λ (c : Below (suc q)). times A.add A.zero c.0 (unit q Γ b i)) (e i)
          ∙ times-mod A 0 (unit q Γ b i))

      whole : sub A (lin A (unit q Γ b) (terms q Γ b v)) (combine A b (unit q Γ b) (block-sum q Γ b v)) ≡ v
      whole = ap₂ (sub A) (terms-sum q Γ b v) none-left ∙ sub-zero A v

  module _ (M : Module (suc q) (monoid Γ)) (L : M.of → Type 0) (U : IsSubmodule M L) where
    pub total-in : {A : Type 0} (xs : List A) (f : A → M.of) → ((a : A) → L (f a)) → L (total M xs f)
    total-in [] f h = U.zero-in
    total-in (x ∷ xs) f h = U.add-in (f x) (total M xs f) (h x) (total-in xs f h)

    -- a linear map that takes the basis into a submodule takes all into it
    lin-in : (b : ℕ) (u : Below b → M.of) → ((i : Below b) → L (u i)) → (v : (Table q Γ b).of)
        → L (lin M u (terms q Γ b v))
    lin-in b u h v = subst L (sym (lin-terms q Γ M b u v (below b)))
        (total-in (below b) (λ i. total M (below n) (part q Γ M b u v i))
        (λ i. total-in (below n) (part q Γ M b u v i)
        (λ g. times-in M L U (v i g).0 (M.act g (u i)) (U.act-in g (u i) (h i)))))

module _ (G : PGroup) where
  abbrev q : ℕ
  q = largest_residue G

  abbrev Γ : Group (order G.table)
  Γ = group G

  abbrev S : StageRows
  S = stage_rows G

  abbrev C : (b : ℕ) → Rattle.radical_layers.specs.Coordinates.RowForm (order G.table * b) (Table q Γ b)
  C b = layer_coordinates G b

  pub kernel-submodule-at : (d : ℕ) → IsSubmodule (free G d) (K G d)
  kernel-submodule-at d = kernel-is-submodule q (field G) Γ (layer_coordinates G) S (stage_rows_are G) d

  -- the list of K_d is that of a submodule
  pub submodule-list : (d : ℕ) → IsSubmoduleList q Γ (layer_coordinates G) (rank_of G d) (S.kernel d)
  submodule-list d = list-of-submodule q Γ (layer_coordinates G) (rank_of G d) (K G d) (kernel-submodule-at d)
      (S.kernel d) ((stage_rows_are G).kernel_is d)

  -- the parts of the defined stage
  pub parts-are : (d : ℕ) → IsNextStage q Γ (layer_coordinates G) (rank_of G d) (S.kernel d) (parts_of S d)
  parts-are d = next-of q (field G) Γ (layer_coordinates G) S (stage_rows_are G) d

  -- what is the next stage is the defined one
  pub parts-one : (d : ℕ) (Q : StageParts)
      → IsNextStage q Γ (layer_coordinates G) (rank_of G d) (S.kernel d) Q → Q ≡ parts_of S d
  parts-one d Q N = next-is-one q (field G) Γ (layer_coordinates G) (rank_of G d) (S.kernel d) Q
      (parts_of S d) N (parts-are d)

  pub exact-minimal : (d : ℕ) → IsExactMinimal G d
  exact-minimal d = record {
    image_in = λ u. lin-in q Γ (free G d) (K G d) (kernel-submodule-at d) (rank_of G (suc d))
        (rows q (field G) Γ (layer_coordinates G) S (stage_rows_are G) d)
        (stage-basis q (field G) Γ (layer_coordinates G) S (stage_rows_are G) d).members u;
    in_image = λ v k. onto q (field G) Γ (layer_coordinates G) S (stage_rows_are G) (prime_power G) d v k;
    minimal = λ u k. blocks-radical q Γ (rank_of G (suc d)) u
        (λ i. kernel-minimal q Γ (free G d) (K G d) (rank_of G (suc d))
        (rows q (field G) Γ (layer_coordinates G) S (stage_rows_are G) d)
        (stage-basis q (field G) Γ (layer_coordinates G) S (stage_rows_are G) d) u k i);
    fewest = λ l s m g. fewest-rows q (field G) Γ (layer_coordinates G) S (stage_rows_are G)
        (prime_power G) d l s m g;
  }

  pub section-is : (d : ℕ) → IsSectionOf G d
  section-is d = record {
    is_row = λ x k. ((stage_rows_are G).section_is d x k).is_row;
    boundary_is = λ x k. ((stage_rows_are G).section_is d x k).boundary_is;
    zero_at_pivots = λ x k. ((stage_rows_are G).section_is d x k).zero_at_pivots;
    by_table = λ x k. (stage-claims q (field G) Γ (layer_coordinates G) S (stage_rows_are G)).by_table d x k;
  }
