-- The bytes of all files.
use Rattle.std.specs.Prelude.{◌≡◌, ◌⊎◌, ℕ, ◌≤◌, Bool, if◌then◌else◌, List, [], ◌++◌, length, take, drop}
use Rattle.std.specs.Prelude.{IfSome}
use Rattle.std.specs.declared.option.Option.{Option}
use Rattle.std.specs.declared.option.Option.TheVariants.{None, Some}
use Rattle.std.specs.Ordering.{nat_cmp}
use Rattle.std.specs.Cmp.Lexicographic.{slice_cmp}
use Rattle.std.specs.FinMap.{FinMap, get, insert}

-- a finite map from paths to bytes
abbrev pub FileMap : Type 0
FileMap = FinMap (slice_cmp nat_cmp) (List ℕ)

pub record Content : Type 0 where
  pub files : FileMap
  -- a path outside the map is an empty file, and else a missing one
  pub outside_is_empty : Bool

-- the bytes where they are found, and else those of a path outside
abbrev pub or_outside : Bool → Option (List ℕ) → Option (List ℕ)
or_outside empty (Some bytes) = Some bytes
or_outside empty None = if empty then Some [] else None

-- the bytes of a file, and None where it is missing
abbrev pub file : Content → List ℕ → Option (List ℕ)
file content path = or_outside content.outside_is_empty (get content.files path)

-- the content with these bytes under a path
abbrev pub with_file : Content → List ℕ → List ℕ → Content
with_file content path bytes = record content { files = insert content.files path bytes }

-- a read at a place gave the first k bytes of buf: those of the file from there on,
-- and none only at its end or where buf has no room
abbrev pub ReadsAt : Option (List ℕ) → ℕ → List ℕ → ℕ → Type 0
ReadsAt None place buf k = ⊥
ReadsAt (Some bytes) place buf k =
    (take k buf ≡ take k (drop place bytes))
    × (k ≡ 0 → (length buf ≡ 0) ⊎ (length bytes ≤ place))

-- the bytes of a file that is there, and none of one that is missing
abbrev pub or_empty : Option (List ℕ) → List ℕ
or_empty None = []
or_empty (Some bytes) = bytes

-- the content with a piece behind the bytes of a file; one that is missing is made
abbrev pub with_piece : Content → List ℕ → List ℕ → Content
with_piece content path piece = with_file content path (or_empty (file content path) ++ piece)

-- known content with an empty file in the place of a path's
abbrev pub Creates : Option Content → Option Content → List ℕ → Type 0
Creates old new path = IfSome old (λ files. new ≡ Some (with_file files path []))

-- known content as before, or with an empty file in the place of a path's
abbrev pub CreatesOrStays : Option Content → Option Content → List ℕ → Type 0
CreatesOrStays old new path =
    IfSome old (λ files. (new ≡ Some files) ⊎ (new ≡ Some (with_file files path [])))

-- known content that gains a piece behind a file
abbrev pub AppendsPiece : Option Content → Option Content → List ℕ → List ℕ → Type 0
AppendsPiece old new path piece = IfSome old (λ files. new ≡ Some (with_piece files path piece))

-- known content as before, or with the first bytes of a piece behind a file
abbrev pub AppendsFrontOrStays : Option Content → Option Content → List ℕ → List ℕ → Type 0
AppendsFrontOrStays old new path piece = IfSome old (λ files.
    (new ≡ Some files) ⊎ ((k : ℕ) × (new ≡ Some (with_piece files path (take k piece)))))
