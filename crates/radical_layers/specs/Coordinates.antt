-- Rows of numbers for the members of a module, and for the tables of the free modules.
use Rattle.std.specs.Prelude.{◌≡◌, ℕ, suc, List, ◌+◌, ◌*◌}
use Rattle.group_modules.specs.Module.{Monoid, Module}
use Rattle.group_modules.specs.Tables.{Group, Table}
use Rattle.linear_algebra.specs.Modular.{IsCongruent}
use Rattle.linear_algebra.specs.Rows.{entry, IsRow}

-- a row of the given width for each member of M and a member for each row, inverse to each other and
-- respecting sums
pub record RowForm {q : ℕ} {G : Monoid} (width : ℕ) (M : Module (suc q) G) : Type 0 where
  pub table : List ℕ → M.of
  pub row : M.of → List ℕ
  pub row-is : (v : M.of) → IsRow (suc q) width (row v)
  pub table-row : (v : M.of) → table (row v) ≡ v
  pub row-table : (x : List ℕ) → IsRow (suc q) width x → row (table x) ≡ x
  pub row-add : (v w : M.of) (j : ℕ) → IsCongruent (suc q) (entry (row (M.add v w)) j)
      (entry (row v) j + entry (row w) j)

-- rows for the tables of b blocks, for each b
abbrev pub Coordinates : {n : ℕ} (q : ℕ) → Group n → Type 0
Coordinates {n} q Γ = (b : ℕ) → RowForm (n * b) (Table q Γ b)
