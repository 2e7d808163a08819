use Rattle.std.proofs.Common.{◌≡◌, ℕ, suc, ◌*◌, List, arith, ap, sym, ◌∙◌}
use Rattle.std.proofs.Math.Nat.{mod-eq_of_lt}
use mathlib.Core.Path.{subst}
use Rattle.group_table.specs.Tables.{order}
use Rattle.linear_algebra.specs.Rows.{entry, IsRow}
use Rattle.group_modules.specs.Field.{residue}
use Rattle.p_groups.specs.PGroups.{PGroup, largest_residue}
use Rattle.group_algebra.specs.Coordinates.{layer_coordinates, free_module, table_of, AreCoefficients}
use Rattle.group_algebra.specs.Inverse.{AreLayersOf, AreCoefficientsOf}
use Rattle.group_algebra.proofs.Members.{residue-row, same-coefficients}
use Rattle.group_algebra.proofs.laws.inverse_law.Goals as goal

module _ (G : PGroup) where
  -- the member with these coefficients
  abbrev member_of : List ℕ → (free_module G 1).of
  member_of a z g = residue (largest_residue G) (entry a g.0)

  has-coefficients : (a : List ℕ) → IsRow G.table.p (order G.table) a → AreCoefficients G a (member_of a)
  has-coefficients a r = record {
    is_row = r;
    each = λ g. sym (mod-eq_of_lt ((residue-row G r).below g.0 g.1));
  }

  back-again : (a x b : List ℕ) → IsRow G.table.p (order G.table) a → AreLayersOf G a x
      → AreCoefficientsOf G x b → b ≡ a
  back-again a x b r L C = same-coefficients G b a (member_of a) (subst (AreCoefficients G b) same C)
      (has-coefficients a r)
    where
      same : table_of G 1 x ≡ member_of a
      same = ap (table_of G 1) (L (member_of a) (has-coefficients a r))
          ∙ (layer_coordinates G 1).table-row (member_of a)

  forth-again : (x a y : List ℕ) → IsRow G.table.p (order G.table) x → AreCoefficientsOf G x a
      → AreLayersOf G a y → y ≡ x
  forth-again x a y r C L = L (table_of G 1 x) C ∙ (layer_coordinates G 1).row-table x
      (subst (λ w. IsRow (suc (largest_residue G)) w x)
      (let z : order G.table ≡ order G.table * 1 = omega arith in z) (residue-row G r))

pub returns : goal.returns
returns c G = record { back = back-again G; forth = forth-again G }
