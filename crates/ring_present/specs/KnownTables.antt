-- The tables and the candidates that a ring keeps.
use Rattle.std.specs.Prelude.{◌≡◌, ◌⊎◌, ◌<◌, ℕ, List, [], ◌∷◌, length, Option, MatchOption}
use Rattle.p_groups.specs.PGroups.{PGroup}
use Rattle.chain_lift.specs.Values.{LiftValue}
use Rattle.ring_degree.specs.declared.table.Table.{Table}
use Rattle.cohomology_degree.specs.KnownTables.{AreCandidatesOf, HasTables}
use Rattle.cohomology_degree.specs.declared.degree.Degree.{Degree}

-- the table of degree 0 alone, in which 1 is standard
pub record IsFirstTable (tables : List Table) : Type 0 where
  pub table : Table
  pub alone : tables ≡ table ∷ []
  pub one : table.standard ≡ [] ∷ []
  pub none : table.products.items ≡ []

-- where there is no table yet, first has that of degree 0, and else none
abbrev pub IsFirst : List Table → List Table → Type 0
IsFirst tables first = ((tables ≡ []) × IsFirstTable first) ⊎ ((0 < length tables) × (first ≡ []))

-- a ring through degree 0 has no table, and one of a group has those through its degree
abbrev pub IsTableStore : Option PGroup → List LiftValue → List Degree → List Table → Type 0
IsTableStore group lifts Ds tables =
    MatchOption group (tables ≡ []) (λ G. HasTables G (length Ds) lifts tables)

-- a ring through degree 0 has no candidates, and one of a group has those of its last degree
abbrev pub IsCandidateStore : Option PGroup → List LiftValue → List Degree → List (List ℕ) → Type 0
IsCandidateStore group lifts Ds ms =
    MatchOption group (ms ≡ []) (λ G. AreCandidatesOf G (length Ds) lifts ms)
