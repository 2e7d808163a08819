-- The product of vectors of classes.
use Rattle.std.specs.Prelude.{ℕ}
use Rattle.group_modules.specs.Tables.{Group}
use Rattle.group_modules.specs.Resolutions.{rank}
use Rattle.radical_layers.specs.Coordinates.{Coordinates}
use Rattle.resolution_stages.specs.Definitions.{StageRows}
use Rattle.chain_maps.specs.Lifts.{ahead, product}
use Rattle.chain_maps.specs.Vectors.{Vector, extended}

-- the product of the class v of degree d and the class w of degree e, of which w is lifted; 0 from the rank
-- of degree d + e on
abbrev pub multiply : {n : ℕ} (q : ℕ) (Γ : Group n) (K : Coordinates q Γ) (S : StageRows) → ℕ → ℕ → Vector q
    → Vector q → Vector q
multiply q Γ K S d e v w = extended (rank q Γ S.ranks (ahead e d))
    (product q Γ K S e (λ i. w i.0) d (λ i. v i.0))
