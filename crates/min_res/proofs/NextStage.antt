-- What elimination finds from the stage of degree d is the stage of degree d + 1.
use Rattle.std.proofs.Common.{◌≡◌, ℕ, suc, ◌<◌, List, [], length, sym}
use mathlib.Core.Path.{subst}
use Rattle.group_table.specs.Tables.{order}
use Rattle.group_modules.specs.Tables.{Group}
use Rattle.linear_algebra.specs.Rows.{row, AreInSpan}
use Rattle.linear_algebra.specs.Choices.{IsPreimage}
use Rattle.linear_algebra.specs.Kernels.{IsKernelOf}
use Rattle.resolution_stages.specs.Definitions.{StageRows}
use Rattle.resolution_stages.specs.Checks.{StageParts}
use Rattle.resolution_stages.specs.Chain.{parts_of}
use Rattle.resolution_stages.specs.Computed.{IsMatrixOf}
use Rattle.resolution_stages.proofs.Computed.{computed-claims}
use Rattle.p_groups.specs.PGroups.{PGroup, largest_residue, group}
use Rattle.p_groups.proofs.Fields.{residues, field, prime_power}
use Rattle.group_algebra.specs.Coordinates.{layer_coordinates}
use Rattle.min_res.specs.Stages.{stage_rows, rank_of}
use Rattle.min_res.proofs.StageRows.{stage_rows_are}
use Rattle.min_res.specs.Defined.{∂}
use Rattle.min_res.proofs.StageLaws.{submodule-list, parts-one}

module _ (G : PGroup) (d : ℕ) where
  abbrev q : ℕ
  q = largest_residue G

  abbrev Γ : Group (order G.table)
  Γ = group G

  abbrev S : StageRows
  S = stage_rows G

  abbrev E : List (List ℕ)
  E = (stage_rows G).kernel d

  module _ (M : List (List ℕ)) (matrix : IsMatrixOf (layer_coordinates G (rank_of G (suc d)))
      (layer_coordinates G (rank_of G d)) (∂ G d) M) where
    abbrev parts : List (List ℕ) → List (List ℕ) → StageParts
    parts kernel sections = record { positions = S.positions d; kernel = kernel; sections = sections }

    -- each row of the list of K_d is in the span of the matrix
    pub targets : AreInSpan G.table.p M E
    targets = subst (λ p. AreInSpan p M E) (residues G)
        ((computed-claims q (field G) (prime_power G) Γ (layer_coordinates G) (rank_of G d) E (parts [] []) M
        (submodule-list G d)).targets ((stage_rows_are G).rows_are d) matrix)

    -- the kernel of the matrix and the preimages of the rows
    pub parts-found : (kernel sections : List (List ℕ)) → IsKernelOf G.table.p M kernel
        → length sections ≡ length E
        → ((k : ℕ) → k < length E → IsPreimage G.table.p M kernel (row E k) (row sections k))
        → parts kernel sections ≡ parts_of S d
    parts-found kernel sections k c p = parts-one G d (parts kernel sections)
        ((computed-claims q (field G) (prime_power G) Γ (layer_coordinates G) (rank_of G d) E
        (parts kernel sections) M (submodule-list G d)).next (record {
          positions_are = (stage_rows_are G).rows_are d;
          matrix_is = matrix;
          kernel_is = subst (λ p. IsKernelOf p M kernel) (sym (residues G)) k;
          section_count = c;
          sections_are = λ i l. subst (λ r. IsPreimage r M kernel (row E i) (row sections i))
              (sym (residues G)) (p i l);
        }))
