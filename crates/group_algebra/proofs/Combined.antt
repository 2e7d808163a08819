-- Combinations of as many rows as there are places, place by place.
use Rattle.std.proofs.Common.{◌≡◌, ℕ, suc, ◌*◌, ◌<◌, List, [], ◌∷◌, length, arith, sym, ◌∙◌}
use Rattle.std.proofs.lemmas.List.{length-replicate}
use mathlib.Core.Path.{subst}
use Rattle.linear_algebra.specs.Modular.{IsCongruent, sum_below}
use Rattle.linear_algebra.specs.Rows.{entry, row, combination_row, IsRow, IsMatrix}
use Rattle.linear_algebra.proofs.CombinationRows.{combination_row-is_row, combination_row-each}
use Rattle.linear_algebra.proofs.RowLemmas.{length-add_multiple}
use Rattle.p_groups.specs.PGroups.{PGroup, largest_residue}
use Rattle.p_groups.proofs.Fields.{residues}

-- r is the combination of R_0 to R_(n - 1) with the coefficients c
pub record IsCombined (p n : ℕ) (c : List ℕ) (R : ℕ → List ℕ) (r : List ℕ) : Type 0 where
  pub is_row : IsRow p n r
  pub each : (j : ℕ) → IsCongruent p (entry r j) (sum_below n (λ k. entry c k * entry (R k) j))

pub combined : {p n : ℕ} (c : List ℕ) (rows : List (List ℕ)) (r : List ℕ) → 0 < p → IsMatrix p n rows
    → length rows ≡ n
    → r ≡ combination_row p n (entry c) rows → IsCombined p n c (row rows) r
combined {p} {n} c rows r some M len e = subst (λ x. IsCombined p n c (row rows) x) (sym e) (record {
  is_row = combination_row-is_row p n some (entry c) rows M;
  each = λ j. subst (λ m. IsCongruent p (entry (combination_row p n (entry c) rows) j)
      (sum_below m (λ k. entry c k * entry (row rows k) j)))
      len (combination_row-each p n some (entry c) rows M j);
})

-- a combination of any lists is as wide as it is to be
pub length-combination_row : (p width : ℕ) (u : ℕ → ℕ) (rows : List (List ℕ))
    → length (combination_row p width u rows) ≡ width
length-combination_row p width u [] = length-replicate width 0
length-combination_row p width u (r ∷ rows) =
    length-add_multiple p (u 0) (combination_row p width (λ i. u (suc i)) rows) r
    ∙ length-combination_row p width (λ i. u (suc i)) rows

-- the prime is not 0
pub positive : (G : PGroup) → 0 < G.table.p
positive G = let e : suc (largest_residue G) ≡ G.table.p = residues G in omega (arith, e)
