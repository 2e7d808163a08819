-- What is asked for: the stages of a group to a degree, with a file to take them from and a file to save them
-- to, each where one is named; and how the walk over the one file goes.
use Rattle.std.specs.Prelude.{◌≡◌, ◌⊎◌, ℕ, List}
use Rattle.std.specs.Borrow.{Bor}
use Rattle.std.specs.declared.option.Option.{Option}
use Rattle.std.specs.declared.option.Option.TheVariants.{None, Some}
use Rattle.std.specs.Option.{option_map}
use Rattle.coho_io.specs.Content.{Content, file}
use Rattle.power_commutator.specs.Presentations.{Presentation}
use Rattle.pc_text.specs.Canonical.{canonical}
use Rattle.p_groups.specs.PGroups.{PGroup}
use Rattle.stage_records.specs.Walks.{Walked, WalkFault, ended}
use Rattle.stage_file.specs.Honest.{walk_of}

-- the group, the canonical text of its presentation, the last degree, and the two paths
pub record Asked : Type 0 where
  pub group : PGroup
  pub text : List ℕ
  pub degree : ℕ
  pub from : Option (List ℕ)
  pub save : Option (List ℕ)

-- the bytes of a path that may be named
abbrev pub path_of : Option (Bor (List ℕ)) → Option (List ℕ)
path_of path = option_map (λ p. p.now) path

-- the same by the program's own values
abbrev pub asked : PGroup → Presentation → ℕ → Option (Bor (List ℕ)) → Option (Bor (List ℕ)) → Asked
asked G P n from save = record {
  group = G;
  text = canonical P;
  degree = n;
  from = path_of from;
  save = path_of save;
}

-- the walk over the file that is named, to the last degree, and None where the file is missing; where none is
-- named, no record is taken and nothing is refused
abbrev pub walk_from : Asked → Option (List ℕ) → Content → Option Walked
walk_from A None files = Some ended
walk_from A (Some path) files = option_map (walk_of A.group A.text A.degree) (file files path)

-- nothing is refused, and c records are taken
abbrev pub Takes : Asked → Content → ℕ → Type 0
Takes A files c = walk_from A A.from files ≡ Some (record { taken = c; fault = None })

abbrev pub Refuses : Asked → Content → WalkFault → Type 0
Refuses A files fault = (c : ℕ) × (walk_from A A.from files ≡ Some (record { taken = c; fault = Some fault }))

-- files over which the walk is known: those that are told, and any where no file is named
abbrev pub AreKnown : Asked → Option Content → Content → Type 0
AreKnown A known files = (known ≡ Some files) ⊎ (A.from ≡ None)

-- over known files nothing is refused, and it holds of the number of records that are taken
abbrev pub AfterWalk : Asked → Option Content → (ℕ → Type 0) → Type 0
AfterWalk A known Holds = (files : Content) → AreKnown A known files → (c : ℕ) × Takes A files c × Holds c

-- over known files this is refused
abbrev pub WalkRefuses : Asked → Option Content → WalkFault → Type 0
WalkRefuses A known fault = (files : Content) → AreKnown A known files → Refuses A files fault

-- the same with a file to take stages from alone
abbrev pub asked_from : PGroup → Presentation → ℕ → List ℕ → Asked
asked_from G P n path = record { group = G; text = canonical P; degree = n; from = Some path; save = None }
