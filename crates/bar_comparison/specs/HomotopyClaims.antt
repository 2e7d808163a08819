-- What holds of the chain map back and of the homotopies.
use Rattle.std.specs.Prelude.{◌≡◌, ℕ, suc, [], ◌++◌}
use Rattle.group_modules.specs.Module.{sub, lin}
use Rattle.group_modules.specs.Operations.{linear}
use Rattle.group_modules.specs.Field.{Below}
use Rattle.group_modules.specs.Tables.{Group, monoid, unit}
use Rattle.group_modules.specs.Resolutions.{rank}
use Rattle.radical_layers.specs.Coordinates.{Coordinates}
use Rattle.resolution_stages.specs.Definitions.{StageRows}
use Rattle.resolution_stages.specs.Definitions as stages
use Rattle.resolution_stages.specs.Claims.{row_table}
use Rattle.chain_maps.specs.Lifts.{free, row_terms}
use Rattle.bar_complex.specs.Tuples.{Tuple, HasIdentity}
use Rattle.bar_complex.specs.Boundary.{boundary}
use Rattle.bar_complex.specs.Contraction.{chains, chain_minus, single, chain_boundary, AreSame}
use Rattle.bar_comparison.specs.Comparison.{comparison}
use Rattle.bar_comparison.specs.Homotopies.{back, to_bar, to_stages, stage_homotopy, bar_homotopy}

module _ {n : ℕ} (q : ℕ) (Γ : Group n) (K : Coordinates q Γ) (S : StageRows) where
  pub record HomotopyClaims : Type 0 where
    -- the way back is a chain map
    pub back_chain_map : (d : ℕ) (i : Below (rank q Γ S.ranks (suc d)))
        → AreSame q (monoid Γ) d (chain_boundary q (monoid Γ) d (back q Γ K S (suc d) i))
        (to_bar q Γ K S d (row_table q Γ K S d i))
    -- on the stages, the boundary of h and h of the boundary make the way to the bar complex and back less
    -- the identity
    pub stages_start : (i : Below (rank q Γ S.ranks 0))
        → stages.boundary q Γ K S 0 (stage_homotopy q Γ K S 0 i)
        ≡ sub (free q Γ K S 0) (to_stages q Γ K S 0 (back q Γ K S 0 i)) (unit q Γ (rank q Γ S.ranks 0) i)
    pub stages_next : (d : ℕ) (i : Below (rank q Γ S.ranks (suc d)))
        → (free q Γ K S (suc d)).add (stages.boundary q Γ K S (suc d) (stage_homotopy q Γ K S (suc d) i))
        (lin (free q Γ K S (suc d)) (stage_homotopy q Γ K S d) (row_terms q Γ K S d i))
        ≡ sub (free q Γ K S (suc d)) (to_stages q Γ K S (suc d) (back q Γ K S (suc d) i))
        (unit q Γ (rank q Γ S.ranks (suc d)) i)
    -- and on the bar complex, where h is 0 at the tuples with an identity entry
    pub vanishes : (d : ℕ) (t : Tuple (Below n) d) → HasIdentity (monoid Γ) d t
        → AreSame q (monoid Γ) (suc d) (bar_homotopy q Γ K S d t) []
    pub bar_start : (t : Tuple (Below n) 0)
        → AreSame q (monoid Γ) 0 (chain_boundary q (monoid Γ) 0 (bar_homotopy q Γ K S 0 t))
        (chain_minus q (monoid Γ) 0 (to_bar q Γ K S 0 (comparison q Γ K S 0 t)) (single q (monoid Γ) 0 t))
    pub bar_next : (d : ℕ) (t : Tuple (Below n) (suc d))
        → AreSame q (monoid Γ) (suc d)
        (chain_boundary q (monoid Γ) (suc d) (bar_homotopy q Γ K S (suc d) t)
        ++ linear (chains q (monoid Γ) (suc d)) (bar_homotopy q Γ K S d) (boundary q (monoid Γ) d t))
        (chain_minus q (monoid Γ) (suc d) (to_bar q Γ K S (suc d) (comparison q Γ K S (suc d) t))
        (single q (monoid Γ) (suc d) t))
