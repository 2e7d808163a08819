-- The powers of the augmentation ideal by reduced echelon lists.
use Rattle.std.specs.Prelude.{ℕ, suc, List, length, ◌<◌}
use Rattle.group_modules.specs.Module.{Monoid, Module}
use Rattle.group_modules.specs.Tables.{Group, Table}
use Rattle.linear_algebra.specs.Rows.{IsRow, IsEchelonOf}
use Rattle.augmentation_ideal.specs.Radical.{Radical}
use Rattle.radical_layers.specs.Coordinates.{RowForm}
use Rattle.radical_layers.specs.Moves.{moves, IsEchelonFor}

-- the rows of the members of J
abbrev pub RowIn : {q D : ℕ} {G : Monoid} {M : Module (suc q) G} → RowForm D M → (M.of → Type 0) → List ℕ
    → Type 0
RowIn {q} {D} K J x = IsRow (suc q) D x × J (K.table x)

module _ {n : ℕ} (q : ℕ) (Γ : Group n) (K : RowForm n (Table q Γ 1)) where
  -- E is the reduced echelon list of J^i
  abbrev pub IsPowerList : ℕ → List (List ℕ) → Type 0
  IsPowerList i E = IsEchelonFor (suc q) n (RowIn K (Radical (Table q Γ 1) i)) E

  -- the echelon list of all (g - 1) v with v in the list of J^i is that of J^(i+1), and it is shorter
  pub record LayerClaims : Type 0 where
    pub next : (i : ℕ) (E E' : List (List ℕ)) → IsPowerList i E
        → IsEchelonOf (suc q) n (moves Γ (Table q Γ 1) K E) E' → IsPowerList (suc i) E'
    pub shorter : (i : ℕ) (E E' : List (List ℕ)) → IsPowerList i E → IsPowerList (suc i) E' → 0 < length E
        → length E' < length E
