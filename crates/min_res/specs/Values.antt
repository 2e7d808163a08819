-- What contracts see of a stage and of a resolution.
use Rattle.std.specs.Prelude.{ℕ, Bool, false, List, [], Option, unwrap_or, refl}
use Rattle.std.specs.Coded.{Coded, code_by, coded×, coded_ℕ, coded_bool}
use Rattle.fp_rows.specs.Values.{MatrixValue}
use Rattle.p_groups.specs.PGroups.{PGroup}
use Rattle.group_algebra.specs.Coded.{coded_p_group}

-- a boundary map and its section
pub record BoundaryValue : Type 0 where
  -- the reduced echelon list of the kernel before
  pub source : MatrixValue
  -- the places in it of the boundary's rows
  pub positions : List ℕ
  -- the rows, in layer coordinates, of the values of the boundary at the unit rows
  pub matrix : MatrixValue
  -- the section of each row of the source
  pub sections : MatrixValue

-- a stage: its degree, its rank, the reduced echelon list of its kernel, and its boundary in degrees above 0
pub record StageValue : Type 0 where
  pub degree : ℕ
  pub rank : ℕ
  pub kernel : MatrixValue
  pub boundary : Option BoundaryValue

-- no rows
abbrev pub no_rows : MatrixValue
no_rows = record { p = 0; width = 0; rows = [] }

-- the boundary of a stage, and an empty one in degree 0
abbrev pub boundary_of : StageValue → BoundaryValue
boundary_of s =
    unwrap_or s.boundary (record { source = no_rows; positions = []; matrix = no_rows; sections = no_rows })

-- the stages 0 to last of a group: that of a degree is IsStageAt of specs/Defined, so these two say all
pub record ResolutionValue : Type 0 where
  pub group : PGroup
  pub last : ℕ
  -- how many of them elimination made
  pub computed : ℕ
  -- whether it made the last of them
  pub extended : Bool

-- the stage of degree 0 alone
abbrev pub first_alone : PGroup → ResolutionValue
first_alone G = record { group = G; last = 0; computed = 0; extended = false }

-- how it is stored
abbrev pub coded_resolution : Coded ResolutionValue
coded_resolution =
    code_by (PGroup × (ℕ × (ℕ × Bool))) (coded× coded_p_group (coded× coded_ℕ (coded× coded_ℕ coded_bool)))
    (λ r. (r.group, (r.last, (r.computed, r.extended))))
    (λ p. record { group = p.0; last = p.1.0; computed = p.1.1.0; extended = p.1.1.1 })
    (λ _. refl)
