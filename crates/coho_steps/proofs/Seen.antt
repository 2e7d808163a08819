-- Files that agree with what is told.
use Rattle.std.proofs.Common.{◌≡◌, ◌∙◌, sym, ap, subst, refl, List, ℕ, [], ◌+◌, ◌≤◌, length, take, cond, true}
use Rattle.std.proofs.Common.{false, arith}
use Rattle.std.proofs.lemmas.List.{take_all}
use Rattle.std.proofs.lemmas.Slice.Eq.{bytes_eq-Decides}
use Rattle.std.proofs.lemmas.Map.Text.{is_eq-slice_cmp}
use Rattle.std.specs.declared.option.Option.{Option}
use Rattle.std.specs.declared.option.Option.TheVariants.{None, Some}
use Rattle.std.specs.declared.result.Result.TheVariants.{Ok}
use Rattle.std.specs.Option.{option_map}
use Rattle.std.specs.Str.{bytes_eq}
use Rattle.std.specs.Cmp.Lexicographic.{nat_list_cmp_total}
use Rattle.std.specs.FinMap.{from_entries, get, get-insert}
use Rattle.limits.specs.declared.TheConstants.{LONGEST_TEXT}
use Rattle.coho_io.specs.Content.{Content, FileMap, file, or_outside, with_file}
use Rattle.coho_steps.specs.Steps.{OrRefuse}
use Rattle.coho_steps.specs.Refusals.{read_refused}
use Rattle.coho_steps.specs.Loading.{ReadFront}
use Rattle.coho_steps.specs.Told.{Agrees, OfFiles}

no_map : FileMap
no_map = from_entries []

abbrev no_files : Content
no_files = record { files = no_map; outside_is_empty = false }

none_told : (files : Content) → Agrees None files
none_told files told e = absurd (let no : ◌≡◌ {A = Option Content} None (Some told) = e in cc)

some_told : (files : Content) → Agrees (Some files) files
some_told files told e = let same : ◌≡◌ {A = Option Content} (Some files) (Some told) = e in cc

-- there are files that agree
pub some_files : (known : Option Content) → (files : Content) × Agrees known files
some_files None = (no_files, none_told no_files)
some_files (Some files) = (files, some_told files)

same_bytes : (xs : List ℕ) → bytes_eq xs xs ≡ true
same_bytes xs = grind (arith, bytes_eq-Decides xs xs)

-- the file at a path under which bytes were put
put_is_there : (path bytes : List ℕ) → file (with_file no_files path bytes) path ≡ Some bytes
put_is_there path bytes =
    ap (or_outside false) (get-insert nat_list_cmp_total no_map path bytes path)
    ∙ ap (λ b. or_outside false (cond b (Some bytes) (get no_map path))) (is_eq-slice_cmp path path
    ∙ same_bytes path)

reads_front : (path text : List ℕ) (files : Content)
    → option_map (take (LONGEST_TEXT + 1)) (file files path) ≡ Some text
    → ReadFront path files (Ok text) files
reads_front path text files e = subst (λ o. OrRefuse (read_refused path) o files (Ok text) files) (sym e)
    (refl, refl)

-- a text that was read is the front of a file, that of some files where none are told
pub read_of_some_files : (known : Option Content) (path text : List ℕ)
    → ((told : Content) → known ≡ Some told → ReadFront path told (Ok text) told)
    → length text ≤ LONGEST_TEXT + 1 → OfFiles known (λ files. ReadFront path files (Ok text) files)
read_of_some_files (Some files) path text read bound = (files, some_told files, read files refl)
read_of_some_files None path text read bound =
    let files = with_file no_files path text in
    let front = ap (option_map (take (LONGEST_TEXT + 1))) (put_is_there path text)
    ∙ ap (λ t. Some t) (take_all (LONGEST_TEXT + 1) text bound) in
    (files, none_told files, reads_front path text files front)
