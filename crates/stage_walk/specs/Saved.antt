-- What the file that stages are saved to holds.
use Rattle.std.specs.Prelude.{◌≡◌, ◌⊎◌, ℕ, List, take}
use Rattle.std.specs.declared.option.Option.{Option}
use Rattle.std.specs.declared.option.Option.TheVariants.{None, Some}
use Rattle.coho_io.specs.Content.{Content, with_file}
use Rattle.stage_file.specs.Honest.{file_of}
use Rattle.stage_walk.specs.declared.fault.StagesFault.{StagesFault}
use Rattle.stage_walk.specs.declared.fault.StagesFault.TheVariants as fault
use Rattle.stage_walk.specs.Asked.{Asked, Takes}

-- the files with these bytes under the path, where one is named; all others stay
abbrev pub saved : Option (List ℕ) → List ℕ → Content → Content
saved None bytes files = files
saved (Some path) bytes files = with_file files path bytes

-- the honest file to the last degree
abbrev pub honest_file : Asked → List ℕ
honest_file A = file_of A.group A.text A.degree

module _ (A : Asked) (old new : Option Content) where
  -- the honest file was saved, where files are told
  abbrev pub SavesAll : Type 0
  SavesAll = (told : Content) → old ≡ Some told → new ≡ Some (saved A.save (honest_file A) told)

  -- told files are as before; or nothing was refused, and the first bytes of the honest file were saved
  abbrev pub SavesFront : Type 0
  SavesFront = (told : Content) → old ≡ Some told → (new ≡ Some told)
      ⊎ ((k c : ℕ) × Takes A told c × (new ≡ Some (saved A.save (take k (honest_file A)) told)))

  -- what stands after a fault: the honest file, which stops before the first dimension above the limit, after
  -- that one; the front of it after a fault of writing, and for want of memory
  abbrev pub Leaves : StagesFault → Type 0
  Leaves (fault.TooLarge d X) = SavesAll
  Leaves fault.Write = SavesFront
  Leaves fault.Memory = SavesFront
  Leaves e = new ≡ old
