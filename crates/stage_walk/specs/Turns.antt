-- What comes of the header and of one record of a file.
use Rattle.std.specs.Prelude.{◌≡◌, ℕ, suc, ◌≤◌, ◌^◌, Bool, true, false, not, List, drop, ⊤}
use Rattle.std.specs.declared.option.Option.{Option}
use Rattle.std.specs.declared.option.Option.TheVariants.{None, Some}
use Rattle.coho_io.specs.Causes.{Rose}
use Rattle.coho_io.specs.Content.{Content, file}
use Rattle.limits.specs.declared.TheConstants.{GREATEST_DIMENSION}
use Rattle.p_groups.specs.PGroups.{PGroup}
use Rattle.min_res.specs.Values.{ResolutionValue}
use Rattle.stage_records.specs.Walks.{walk, walk_records, Ends, Takes, Refuses, Next, next}
use Rattle.stage_records.specs.Walks.{WalkFault}
use Rattle.stage_records.specs.Walks as walks
use Rattle.stage_file.specs.Honest.{records_of}
use Rattle.stage_walk.specs.declared.fault.StagesFault.{StagesFault}
use Rattle.stage_walk.specs.declared.fault.StagesFault.TheVariants as fault
use Rattle.stage_walk.specs.Dimensions.{dimension}
use Rattle.stage_walk.specs.Faults.{IsNumbered}

-- it holds of the bytes under a path, where files are told; and then they are there
abbrev pub OfBytes : Option Content → List ℕ → (List ℕ → Type 0) → Type 0
OfBytes known path Holds = (told : Content) → known ≡ Some told
    → (bytes : List ℕ) × (file told path ≡ Some bytes) × Holds bytes

-- the walk over a file goes on to its records, or ends before them, or refuses this
abbrev pub EndsAtHeader : List ℕ → List ℕ → Type 0
EndsAtHeader honest bytes = (records : ℕ → Option (List ℕ)) (c : ℕ)
    → walk honest records c bytes ≡ record { taken = 0; fault = None }

abbrev pub GoesOn : List ℕ → List ℕ → Type 0
GoesOn honest bytes = (records : ℕ → Option (List ℕ)) (c : ℕ)
    → walk honest records c bytes ≡ walk_records records c 1 (drop 40 bytes)

abbrev pub RefusesHeader : List ℕ → WalkFault → List ℕ → Type 0
RefusesHeader honest fault bytes = (records : ℕ → Option (List ℕ)) (c : ℕ)
    → walk honest records c bytes ≡ record { taken = 0; fault = Some fault }

-- a header goes on to records exactly where it is told so
abbrev pub IsHeaderAnswer : List ℕ → Bool → List ℕ → Type 0
IsHeaderAnswer honest true bytes = GoesOn honest bytes
IsHeaderAnswer honest false bytes = EndsAtHeader honest bytes

-- why a file is not walked past its header
abbrev pub IsHeaderStop : List ℕ → List ℕ → Option Content → (before now : List ℕ → ℕ) → StagesFault → Type 0
IsHeaderStop honest path known before now fault.Read = Rose (before path) (now path)
IsHeaderStop honest path known before now fault.Header =
    OfBytes known path (RefusesHeader honest walks.Header)
IsHeaderStop honest path known before now fault.Presentation =
    OfBytes known path (RefusesHeader honest walks.Presentation)
IsHeaderStop honest path known before now fault.Memory = ⊤
IsHeaderStop honest path known before now _ = ⊥

-- how the walk goes on at the record of degree d + 1, which is due at a place
abbrev pub GoesAt : PGroup → ℕ → ℕ → (List ℕ → Next → Type 0) → List ℕ → Type 0
GoesAt G d at Holds bytes = Holds (drop at bytes) (next (records_of G (suc d)) (drop at bytes))

module _ (old new : ResolutionValue) (path : List ℕ) (at : ℕ) (known : Option Content) where
  -- one stage more, of a record of as many bytes, which the walk takes
  pub record TakesOne (len : ℕ) : Type 0 where
    pub grown : new.last ≡ suc old.last
    pub within : dimension old.group (suc old.last) ≤ GREATEST_DIMENSION
    pub short : len ≤ 2 ^ 25
    pub takes : OfBytes known path (GoesAt old.group old.last at (λ rest way. way ≡ Takes (drop len rest)))

  -- the walk ends
  pub record EndsHere : Type 0 where
    pub same : new ≡ old
    pub ends : OfBytes known path (GoesAt old.group old.last at (λ rest way. way ≡ Ends))

  abbrev pub IsTurn : Option ℕ → Type 0
  IsTurn (Some len) = TakesOne len
  IsTurn None = EndsHere

  -- why a record is not taken
  abbrev pub IsTurnStop : (before now : List ℕ → ℕ) → StagesFault → Type 0
  IsTurnStop before now fault.Read = Rose (before path) (now path)
  IsTurnStop before now (fault.Record d) = (d ≡ suc old.last)
      × OfBytes known path (GoesAt old.group old.last at (λ rest way. way ≡ Refuses))
  IsTurnStop before now fault.Memory = ⊤
  IsTurnStop before now _ = ⊥

-- the walk over the records of a file
module _ (G : PGroup) (n : ℕ) (path : List ℕ) (known : Option Content) where
  -- c records from the first on are taken, and nothing is refused
  abbrev pub TakesRecords : ℕ → Type 0
  TakesRecords c = OfBytes known path
      (λ bytes. walk_records (records_of G) n 1 (drop 40 bytes) ≡ record { taken = c; fault = None })

  -- record d is refused
  abbrev pub RefusesRecord : ℕ → Type 0
  RefusesRecord d = OfBytes known path (λ bytes. (c : ℕ)
      × (walk_records (records_of G) n 1 (drop 40 bytes)
      ≡ record { taken = c; fault = Some (walks.Record d) }))

  -- why the records are not all taken
  abbrev pub IsRecordsStop : (before now : List ℕ → ℕ) → StagesFault → Type 0
  IsRecordsStop before now fault.Read = Rose (before path) (now path)
  IsRecordsStop before now (fault.Record d) = RefusesRecord d × IsNumbered G n (fault.Record d)
  IsRecordsStop before now fault.Memory = ⊤
  IsRecordsStop before now _ = ⊥
