-- What holds of the comparison map, and of the class map, which sends a class to its cocycle.
use Rattle.std.specs.Prelude.{◌≡◌, ℕ, suc, List, ◌*◌}
use Rattle.group_modules.specs.Module.{lin}
use Rattle.group_modules.specs.Field.{Below, residue, plus}
use Rattle.group_modules.specs.Tables.{Group, monoid}
use Rattle.radical_layers.specs.Coordinates.{Coordinates}
use Rattle.resolution_stages.specs.Definitions.{StageRows}
use Rattle.resolution_stages.specs.Definitions as stages
use Rattle.chain_maps.specs.Lifts.{free, Class}
use Rattle.bar_complex.specs.Tuples.{Tuple, HasIdentity}
use Rattle.bar_complex.specs.Boundary.{boundary}
use Rattle.bar_comparison.specs.Comparison.{comparison, bar_cocycle}

module _ {n : ℕ} (q : ℕ) (Γ : Group n) (K : Coordinates q Γ) (S : StageRows) where
  pub record ComparisonClaims : Type 0 where
    -- the comparison map is 0 where an entry is the identity
    pub vanishes : (d : ℕ) (t : Tuple (Below n) d) → HasIdentity (monoid Γ) d t
        → comparison q Γ K S d t ≡ (λ i g. residue q 0)
    -- and a chain map
    pub chain_map : (d : ℕ) (t : Tuple (Below n) (suc d))
        → stages.boundary q Γ K S d (comparison q Γ K S (suc d) t)
        ≡ lin (free q Γ K S d) (comparison q Γ K S d) (boundary q (monoid Γ) d t)

  -- the class map is linear
  pub record ClassMapClaims : Type 0 where
    pub zero : (d : ℕ) (xs : List (Below n)) → bar_cocycle q Γ K S d (λ i. residue q 0) xs ≡ residue q 0
    pub sum : (d : ℕ) (a c : Class q Γ K S d) (xs : List (Below n))
        → bar_cocycle q Γ K S d (λ i. plus q (a i) (c i)) xs
        ≡ plus q (bar_cocycle q Γ K S d a xs) (bar_cocycle q Γ K S d c xs)
    pub multiple : (d k : ℕ) (c : Class q Γ K S d) (xs : List (Below n))
        → bar_cocycle q Γ K S d (λ i. residue q (k * (c i).0)) xs
        ≡ residue q (k * (bar_cocycle q Γ K S d c xs).0)
