-- The rows in the span of the list of K_d are those of K_d.
use Rattle.std.proofs.Common.{◌≡◌, ℕ, suc, ◌*◌, List, length, sym}
use mathlib.Core.Path.{subst}
use Rattle.group_table.specs.Tables.{order}
use Rattle.linear_algebra.specs.Rows.{entry, row, IsRow, IsInSpan}
use Rattle.group_modules.specs.Sums.{below}
use Rattle.augmentation_ideal.proofs.Nakayama.{times-in}
use Rattle.radical_layers.specs.Moves.{IsEchelonFor}
use Rattle.radical_layers.proofs.Bridge.{from-span}
use Rattle.p_groups.specs.PGroups.{PGroup, largest_residue, group}
use Rattle.p_groups.proofs.Fields.{residues}
use Rattle.group_algebra.specs.Coordinates.{layer_coordinates, table_of, row_of}
use Rattle.fp_rows.specs.Values.{MatrixValue}
use Rattle.min_res.specs.Stages.{stage_rows, rank_of}
use Rattle.min_res.proofs.StageRows.{stage_rows_are}
use Rattle.min_res.specs.Defined.{free, K, InK, kernel_value}
use Rattle.min_res.proofs.StageLaws.{kernel-submodule-at, total-in}

module _ (G : PGroup) (d : ℕ) where
  abbrev q : ℕ
  q = largest_residue G

  abbrev E : List (List ℕ)
  E = (stage_rows G).kernel d

  list : IsEchelonFor (suc q) (order G.table * rank_of G d) (InK G d) E
  list = (stage_rows_are G).kernel_is d

  -- a combination of members is a member
  pub combined : (v : (free G d).of) → IsInSpan (suc q) E (entry (row_of G (rank_of G d) v)) → K G d v
  combined v s = subst (K G d) (sym (from-span q (group G) (order G.table * rank_of G d) (free G d)
      (layer_coordinates G (rank_of G d)) E list.matrix s.0 v s.1))
      (total-in q (group G) (free G d) (K G d) (kernel-submodule-at G d) (below (length E)) _
      (λ i. times-in (free G d) (K G d) (kernel-submodule-at G d) (s.0 i.0)
      (table_of G (rank_of G d) (row E i.0)) (list.members i.0 i.1).1))

  in-kernel : (x : List ℕ) → IsRow (suc q) (order G.table * rank_of G d) x → IsInSpan (suc q) E (entry x)
      → InK G d x
  in-kernel x r s = (
    r,
    combined (table_of G (rank_of G d) x)
        (subst (λ y. IsInSpan (suc q) E (entry y))
        (sym ((layer_coordinates G (rank_of G d)).row-table x r)) s),
  )

  -- a row in the span of the list
  pub in-kernel-list : (m : MatrixValue) (x : List ℕ) → m ≡ kernel_value G d → IsRow G.table.p m.width x
      → IsInSpan m.p m.rows (entry x) → InK G d x
  in-kernel-list m x e = let P : MatrixValue → Type 0 = λ m. IsRow G.table.p m.width x
      → IsInSpan m.p m.rows (entry x) → InK G d x in
      subst P (sym e) (subst (λ p. IsRow p (order G.table * rank_of G d) x → IsInSpan p E (entry x)
      → InK G d x) (residues G) (in-kernel x))
