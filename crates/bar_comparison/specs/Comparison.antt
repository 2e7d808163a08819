-- The comparison map from the normalised bar complex to a minimal resolution by its sections, and the cocycle
-- of a class (Brown, "Cohomology of Groups", I.7).
use Rattle.std.specs.Prelude.{ℕ}
use Rattle.group_modules.specs.Module.{ops}
use Rattle.group_modules.specs.Field.{Below, residue}
use Rattle.group_modules.specs.Tables.{Group, monoid, unit}
use Rattle.radical_layers.specs.Coordinates.{Coordinates}
use Rattle.resolution_stages.specs.Definitions.{StageRows}
use Rattle.resolution_stages.specs.Claims.{section_table}
use Rattle.chain_maps.specs.Lifts.{steps, free, Class, pair}
use Rattle.bar_complex.specs.Tuples.{Tuple, tuple}
use Rattle.bar_complex.specs.Boundary.{boundary}
use Rattle.bar_complex.specs.Cochains.{Cochain}

module _ {n : ℕ} (q : ℕ) (Γ : Group n) (K : Coordinates q Γ) (S : StageRows) where
  -- the empty tuple goes to 1, and a tuple of higher degree to the section of the value at its boundary
  abbrev pub comparison : (d : ℕ) → Tuple (Below n) d → (free q Γ K S d).of
  comparison =
      steps (Tuple (Below n)) (boundary q (monoid Γ)) (λ d. ops (free q Γ K S d)) (section_table q Γ K S)
      (λ t. unit q Γ 1 (residue 0 0))

  -- the cocycle of a class: the value of the class at the comparison map
  abbrev pub bar_cocycle : (d : ℕ) → Class q Γ K S d → Cochain q (monoid Γ)
  bar_cocycle d c xs = pair q Γ K S d c (comparison d (tuple Γ.one d xs))
