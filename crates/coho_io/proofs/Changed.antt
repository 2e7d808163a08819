-- What a write at the index of a path's file does to the state.
use Rattle.std.proofs.Common.{◌≡◌, ℕ, cond, List, [], ◌∷◌, ◌++◌, map, get_or, sym, ◌∙◌, ap, Some, None}
use Rattle.std.proofs.Common.{is_some}
use Rattle.std.specs.declared.option.Option.{Option}
use Rattle.std.proofs.Math.ListN.{set}
use Rattle.std.specs.List.{position}
use Rattle.std.proofs.lemmas.List.{map-append}
use Rattle.coho_io.specs.declared.mem_files.MemFile.{MemFile}
use Rattle.coho_io.specs.MemFiles.{FilesState, is_at, change_first, failed_once_more, fault_at, after_put}
use Rattle.coho_io.specs.declared.counts.Counts.{Counts}
use Rattle.coho_io.specs.declared.counts.Kind.{Kind}
use Rattle.coho_io.specs.Counts.{raised}
use Rattle.coho_io.specs.Stored.{entry_of}
use Rattle.coho_io.proofs.Places.{at_Some, find_None, change_at}

abbrev pub state : List MemFile → Counts → ℕ → List (ℕ × ℕ) → FilesState
state fs outside calls failing = record {
  files = map entry_of fs;
  outside = outside;
  calls = calls;
  failing = failing;
}

module _ (fs : List MemFile) (outside : Counts) (calls : ℕ) (failing : List (ℕ × ℕ)) (path : List ℕ) where
  abbrev place : Option ℕ
  place = position (λ f. is_at path (entry_of f)) fs

  pub fault_there : (kind : Kind) (i : ℕ) (y d : MemFile) → place ≡ Some i
      → entry_of y ≡ failed_once_more kind (entry_of (get_or fs i d))
      → state (set fs i y) outside calls failing ≡ fault_at kind (state fs outside calls failing) path
  fault_there kind i y d e h =
      ap (λ es. record { files = es; outside = outside; calls = calls; failing = failing })
      (sym (change_at entry_of (is_at path)
      (λ e. failed_once_more kind e) fs i y d e h))
      ∙ ap (λ b. cond b (record (state fs outside calls failing) {
        files = change_first (is_at path)
            (λ e. failed_once_more kind e) (map entry_of fs);
      })
      (record (state fs outside calls failing) { outside = raised kind outside }))
      (sym (ap is_some (at_Some entry_of (is_at path) fs i d e)))

  pub fault_outside : (kind : Kind) → place ≡ None
      → state fs (raised kind outside) calls failing ≡ fault_at kind
      (state fs outside calls failing) path
  fault_outside kind e =
      ap (λ b. cond b (record (state fs outside calls failing) {
        files = change_first (is_at path)
            (λ e. failed_once_more kind e) (map entry_of fs);
      })
      (record (state fs outside calls failing) { outside = raised kind outside }))
      (sym (ap is_some (find_None entry_of (is_at path) fs e)))

  pub put_there : (bytes : List ℕ) (i : ℕ) (y d : MemFile) → place ≡ Some i
      → entry_of y ≡ record (entry_of (get_or fs i d)) { bytes = bytes }
      → state (set fs i y) outside calls failing ≡ after_put (state fs outside calls failing) path bytes
  put_there bytes i y d e h =
      ap (λ es. record { files = es; outside = outside; calls = calls; failing = failing })
      (sym (change_at entry_of (is_at path) (λ e. record e { bytes = bytes }) fs i y d e h))
      ∙ ap (λ b. cond b (record (state fs outside calls failing) {
        files = change_first (is_at path)
            (λ e. record e { bytes = bytes }) (map entry_of fs);
      })
      (record (state fs outside calls failing) {
        files = map entry_of fs ++ record {
          path = path;
          bytes = bytes;
          faults = outside;
        } ∷ [];
      }))
      (sym (ap is_some (at_Some entry_of (is_at path) fs i d e)))

  pub put_outside : (bytes : List ℕ) (y : MemFile) → place ≡ None
      → entry_of y ≡ record { path = path; bytes = bytes; faults = outside }
      → state (fs ++ y ∷ []) outside calls failing ≡ after_put (state fs outside calls failing) path bytes
  put_outside bytes y e h =
      ap (λ es. record { files = es; outside = outside; calls = calls; failing = failing })
      (map-append _ _ _ ∙ ap (λ z. map entry_of fs ++ z ∷ []) h)
      ∙ ap (λ b. cond b (record (state fs outside calls failing) {
        files = change_first (is_at path)
            (λ e. record e { bytes = bytes }) (map entry_of fs);
      })
      (record (state fs outside calls failing) {
        files = map entry_of fs ++ record {
          path = path;
          bytes = bytes;
          faults = outside;
        } ∷ [];
      }))
      (sym (ap is_some (find_None entry_of (is_at path) fs e)))
