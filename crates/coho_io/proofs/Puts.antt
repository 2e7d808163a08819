-- What a put does to the bytes and to the counts.
use Rattle.std.proofs.Common.{◌≡◌, ℕ, ◌≤◌, Bool, true, false, cond, List, [], ◌∷◌, ◌++◌, map, refl, sym, ◌∙◌}
use Rattle.std.proofs.Common.{ap, subst, arith, Some, None, is_some}
use Rattle.std.specs.declared.option.Option.{Option}
use Rattle.std.specs.Option.{option_map, option_map_or}
use Rattle.std.specs.Str.{bytes_eq}
use Rattle.std.specs.List.{find}
use Rattle.std.specs.Ordering.{nat_cmp}
use Rattle.std.specs.Ordering.{eq_by_cmp}
use Rattle.std.proofs.lemmas.List.{map-append}
use Rattle.std.proofs.lemmas.Slice.Eq.{bytes_eq-Decides}
use Rattle.std.specs.Cmp.Lexicographic.{slice_cmp, nat_list_cmp_total}
use Rattle.std.specs.FinMap.{from_entries, get, get-from_entries, insert, get-insert, same_map}
use Rattle.std.specs.FinMap.{from_entries_push, slice_cmp-IsAntisymmetric, nat_cmp-IsAntisymmetric}
use Rattle.std.specs.FinMap.Entries as entries
use Rattle.std.proofs.lemmas.Map.Text.{is_eq-slice_cmp}
use Rattle.coho_io.specs.declared.counts.Counts.{Counts}
use Rattle.coho_io.specs.declared.counts.Kind.{Kind}
use Rattle.coho_io.specs.Causes.{NoneFell}
use Rattle.coho_io.specs.Counts.{count_of}
use Rattle.coho_io.specs.Content.{file, or_outside, or_empty, with_file, with_piece}
use Rattle.coho_io.specs.MemFiles.{Entry, FilesState, is_at, named, content_of, bytes_at, counts_at}
use Rattle.coho_io.specs.MemFiles.{fault_count, change_first, is_there, with_bytes, new_entry, after_put}
use Rattle.coho_io.specs.MemFiles.{extended}
use Rattle.coho_io.specs.NoFaultFiles.{content_within}
use Rattle.coho_io.proofs.Faults.{counts_of}

-- what a path's file is
find_named : (path : List ℕ) (es : List Entry)
    → entries.find (slice_cmp nat_cmp) path (map named es) ≡ option_map (λ e. e.bytes) (find (is_at path) es)
find_named path [] = refl
find_named path (e ∷ es) = ap (λ b. cond b (Some e.bytes)
    (entries.find (slice_cmp nat_cmp) path (map named es))) (is_eq-slice_cmp path e.path)
    ∙ elim (is_at path e) as (λ b. cond b (Some e.bytes)
    (entries.find (slice_cmp nat_cmp) path (map named es)) ≡ option_map (λ e. e.bytes)
    (cond b (Some e) (find (is_at path) es))) [ true ↦ refl | false ↦ find_named path es ]

or_missing : (o : Option (List ℕ)) → or_outside false o ≡ o
or_missing None = refl
or_missing (Some bytes) = refl

pub get-content_of : (s : FilesState) (path : List ℕ) → get (content_of s).files path ≡ bytes_at s path
get-content_of s path = get-from_entries nat_list_cmp_total _ path ∙ find_named path s.files

pub file-content_of : (s : FilesState) (path : List ℕ) → file (content_of s) path ≡ bytes_at s path
file-content_of s path = or_missing _ ∙ get-content_of s path

-- where paths outside are empty files
or_none : (o : Option (List ℕ)) → or_outside true o ≡ Some (or_empty o)
or_none None = refl
or_none (Some bytes) = refl

pub file-content_within : (s : FilesState) (path : List ℕ)
    → file (content_within (map named s.files)) path ≡ Some (or_empty (bytes_at s path))
file-content_within s path = ap (or_outside true) (get-content_of s path) ∙ or_none (bytes_at s path)

same_text : (xs ys : List ℕ) → bytes_eq xs ys ≡ true → xs ≡ ys
same_text xs ys h = grind (arith, bytes_eq-Decides xs ys)

other_text : (xs ys : List ℕ) → bytes_eq xs ys ≡ false → bytes_eq ys xs ≡ false
other_text xs ys h = grind (arith, bytes_eq-Decides xs ys, bytes_eq-Decides ys xs)

not_there : (o : Option Entry) → is_some o ≡ false → o ≡ None
not_there None h = refl
not_there (Some e) h = cc

-- what a put changes
rewritten_there : (q path bytes : List ℕ) (e : Entry) (o : Option Entry) → path ≡ e.path
    → option_map (λ e. e.bytes) (cond (bytes_eq q e.path) (Some (with_bytes bytes e)) o) ≡ cond
    (bytes_eq q path) (Some bytes) (option_map (λ e. e.bytes) (cond (bytes_eq q e.path) (Some e) o))
rewritten_there q path bytes e o same = subst
    (λ p. option_map (λ e. e.bytes) (cond (bytes_eq q e.path) (Some (with_bytes bytes e)) o) ≡ cond
    (bytes_eq q p) (Some bytes) (option_map (λ e. e.bytes) (cond (bytes_eq q e.path) (Some e) o))) (sym same)
    (elim (bytes_eq q e.path) as (λ b. option_map (λ e. e.bytes)
    (cond b (Some (with_bytes bytes e)) o) ≡ cond b (Some bytes)
    (option_map (λ e. e.bytes) (cond b (Some e) o))) [ true ↦ refl | false ↦ refl ])

find_rewritten : (path q bytes : List ℕ) (es : List Entry) → is_some (find (is_at path) es) ≡ true
    → option_map (λ e. e.bytes) (find (is_at q) (change_first (is_at path) (with_bytes bytes) es)) ≡ cond
    (bytes_eq q path) (Some bytes) (option_map (λ e. e.bytes) (find (is_at q) es))
find_rewritten path q bytes [] there = cc
find_rewritten path q bytes (e ∷ es) there =
    elim (is_at path e) as (λ b. bytes_eq path e.path ≡ b
    → is_some (cond b (Some e) (find (is_at path) es)) ≡ true
    → option_map (λ e. e.bytes) (find (is_at q)
    (cond b (with_bytes bytes e ∷ es) (e ∷ change_first (is_at path) (with_bytes bytes) es))) ≡ cond
    (bytes_eq q path) (Some bytes) (option_map (λ e. e.bytes)
    (cond (bytes_eq q e.path) (Some e) (find (is_at q) es)))) [
      | true ↦ λ h there. rewritten_there q path bytes e (find (is_at q) es) (same_text path e.path h)
      | false ↦ λ h there. elim (bytes_eq q e.path) as (λ b. bytes_eq q e.path ≡ b
          → option_map (λ e. e.bytes) (cond b (Some e)
          (find (is_at q) (change_first (is_at path) (with_bytes bytes) es))) ≡ cond (bytes_eq q path)
          (Some bytes)
          (option_map (λ e. e.bytes) (cond b (Some e) (find (is_at q) es)))) [
            | true ↦ λ k. ap (λ b. cond b (Some bytes) (Some e.bytes))
                (sym (subst (λ p. bytes_eq p path ≡ false) (sym (same_text q e.path k))
                (other_text path e.path h)))
            | false ↦ λ k. find_rewritten path q bytes es there
          ] refl
    ] refl there

put_there : (path bytes : List ℕ) (es : List Entry) → is_some (find (is_at path) es) ≡ true
    → from_entries {R = slice_cmp nat_cmp}
    (map named (change_first (is_at path) (with_bytes bytes) es)) ≡ insert
    (from_entries (map named es)) path bytes
put_there path bytes es there = same_map nat_list_cmp_total
    (slice_cmp-IsAntisymmetric nat_cmp-IsAntisymmetric) _ _ (λ q.
    get-from_entries nat_list_cmp_total _ q ∙ find_named q _ ∙ find_rewritten path q bytes es there
    ∙ ap (λ b. cond b (Some bytes) (option_map (λ e. e.bytes) (find (is_at q) es)))
    (sym (is_eq-slice_cmp q path))
    ∙ ap (cond (eq_by_cmp (slice_cmp nat_cmp) q path) (Some bytes)) (sym (find_named q es)
    ∙ sym (get-from_entries nat_list_cmp_total _ q))
    ∙ sym (get-insert nat_list_cmp_total _ path bytes q))

put_new : (path bytes : List ℕ) (n : Counts) (es : List Entry) → is_some (find (is_at path) es) ≡ false
    → from_entries {R = slice_cmp nat_cmp}
    (map named (es ++ record { path = path; bytes = bytes; faults = n } ∷ [])) ≡ insert
    (from_entries (map named es)) path bytes
put_new path bytes n es none = ap from_entries (map-append _ _ _)
    ∙ from_entries_push nat_list_cmp_total (slice_cmp-IsAntisymmetric nat_cmp-IsAntisymmetric)
    (map named es) path bytes (find_named path es
    ∙ ap (option_map (λ e. e.bytes)) (not_there (find (is_at path) es) none))

pub content-put : (s : FilesState) (path bytes : List ℕ)
    → content_of (after_put s path bytes) ≡ with_file (content_of s) path bytes
content-put s path bytes = elim (is_there s path) as (λ b. is_there s path ≡ b
    → content_of (cond b (record s { files = change_first (is_at path) (with_bytes bytes) s.files })
    (record s {
      files = s.files ++ record {
        path = path;
        bytes = bytes;
        faults = s.outside;
      } ∷ [];
    })) ≡ with_file (content_of s) path bytes) [
      | true ↦ λ there. ap (λ m. record { files = m; outside_is_empty = false })
          (put_there path bytes s.files there)
      | false ↦ λ none. ap (λ m. record { files = m; outside_is_empty = false })
          (put_new path bytes s.outside s.files none)
    ] refl

pub content-extended : (s : FilesState) (path piece : List ℕ)
    → content_of (extended s path piece) ≡ with_piece (content_of s) path piece
content-extended s path piece = content-put s path (or_empty (bytes_at s path) ++ piece)
    ∙ ap (λ o. with_file (content_of s) path (or_empty o ++ piece)) (sym (file-content_of s path))

-- a put changes no count
same_count : (p q : Entry → Bool) (bytes : List ℕ) (outside : Counts) (es : List Entry)
    → ((e : Entry) → q (with_bytes bytes e) ≡ q e)
    → counts_of outside (find q (change_first p (with_bytes bytes) es)) ≡ counts_of outside (find q es)
same_count p q bytes outside [] same = refl
same_count p q bytes outside (e ∷ es) same = elim (p e) as
    (λ b. counts_of outside (find q (cond b (with_bytes bytes e ∷ es)
    (e ∷ change_first p (with_bytes bytes) es))) ≡ counts_of outside (cond (q e) (Some e) (find q es))) [
      | true ↦ subst (λ b. counts_of outside (cond b (Some (with_bytes bytes e)) (find q es)) ≡ counts_of
          outside (cond (q e) (Some e) (find q es))) (sym (same e))
          (elim (q e) as (λ b. counts_of outside (cond b (Some (with_bytes bytes e)) (find q es)) ≡ counts_of
          outside (cond b (Some e) (find q es))) [ true ↦ refl | false ↦ refl ])
      | false ↦ elim (q e) as
          (λ b. counts_of outside (cond b (Some e) (find q
          (change_first p (with_bytes bytes) es))) ≡ counts_of
          outside (cond b (Some e) (find q es)))
          [ true ↦ refl | false ↦ same_count p q bytes outside es same ]
    ]

pushed_count : (q : Entry → Bool) (e : Entry) (es : List Entry)
    → counts_of e.faults (find q (es ++ e ∷ [])) ≡ counts_of e.faults (find q es)
pushed_count q e [] = elim (q e) as
    (λ b. counts_of e.faults (cond b (Some e) None) ≡ e.faults) [ true ↦ refl | false ↦ refl ]
pushed_count q e (x ∷ es) = elim (q x) as
    (λ b. counts_of e.faults (cond b (Some x) (find q (es ++ e ∷ []))) ≡ counts_of e.faults
    (cond b (Some x) (find q es))) [ true ↦ refl | false ↦ pushed_count q e es ]

pub counts-put : (s : FilesState) (path bytes q : List ℕ)
    → counts_at (after_put s path bytes) q ≡ counts_at s q
counts-put s path bytes q = elim (is_there s path) as
    (λ b. counts_at (cond b (record s { files = change_first (is_at path) (with_bytes bytes) s.files })
    (record s { files = s.files ++ new_entry s path bytes ∷ [] })) q ≡ counts_at s q) [
      | true ↦ same_count (is_at path) (is_at q) bytes s.outside s.files (λ e. refl)
      | false ↦ pushed_count (is_at q) (new_entry s path bytes) s.files
    ]

pub later-put : (k : Kind) (s : FilesState) (path bytes : List ℕ)
    → NoneFell (fault_count k s) (fault_count k (after_put s path bytes))
later-put k s path bytes q =
    let e : fault_count k (after_put s path bytes) q ≡ fault_count k s q
    = ap (λ c. count_of k c) (counts-put s path bytes q) in
    omega (arith, e)
