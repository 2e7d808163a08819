-- Files that are told, or may be: what holds of them before and after a call.
use Rattle.std.specs.Prelude.{◌≡◌, ℕ, List, ◌<◌, length, take}
use Rattle.std.specs.declared.option.Option.{Option}
use Rattle.std.specs.declared.option.Option.TheVariants.{Some}
use Rattle.coho_io.specs.Content.{Content, file}
use Rattle.std.specs.Io.KnownBytes.{Appends}
use Rattle.coho_io.specs.Causes.{Rose}

-- it holds of the files that are told, where any are told
abbrev pub WhereTold : Option Content → (Content → Type 0) → Type 0
WhereTold known Holds = (told : Content) → known ≡ Some told → Holds told

-- these are the files that are told, where any are told
abbrev pub Agrees : Option Content → Content → Type 0
Agrees known files = (told : Content) → known ≡ Some told → told ≡ files

-- the files after a run are told where they were told before, and are these
abbrev pub Leaves : Option Content → Option Content → Content → Type 0
Leaves before now files = (told : Content) → before ≡ Some told → now ≡ Some files

-- it holds of the files that are told, and where none are told of some files
abbrev pub OfFiles : Option Content → (Content → Type 0) → Type 0
OfFiles known P = (files : Content) × Agrees known files × P files

-- the sink gained a line whole, or the first bytes of it and its count rose
abbrev pub Tells : Option (List ℕ) → Option (List ℕ) → ℕ → ℕ → List ℕ → Type 0
Tells old new before now line =
    (k : ℕ) × Appends old new (take k line) × (k < length line → Rose before now)

-- files that are told are told afterwards too, and so it holds of both
abbrev pub OfTold : Option Content → Option Content → (Content → Content → Type 0) → Type 0
OfTold known now P = (told : Content) → known ≡ Some told → (left : Content) × (now ≡ Some left) × P told left

-- it holds of some files before and after, which are those that are told
abbrev pub FromTo : Option Content → Option Content → (Content → Content → Type 0) → Type 0
FromTo known now P = (files : Content) ×
    (left : Content) × Agrees known files × Leaves known now left × P files left

-- every file but the one that is named is the same
abbrev pub AreSameBut : Option (List ℕ) → Content → Content → Type 0
AreSameBut named one other = (path : List ℕ) → (named ≡ Some path → ⊥) → file other path ≡ file one path

-- the same from any files that agree, where none are told after other bytes were put under the path that is
-- named
abbrev pub FromAny : Option (List ℕ) → Option Content → Option Content → (Content → Content → Type 0) → Type 0
FromAny named known now P = (seen : Content) → Agrees known seen
    → FromTo known now (λ files left. AreSameBut named seen files × P files left)
