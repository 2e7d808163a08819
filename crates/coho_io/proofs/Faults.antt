-- What a fault does to the counts and to the bytes.
use Rattle.std.proofs.Common.{◌≡◌, ◌≤◌, Bool, true, false, cond, List, [], ◌∷◌, map, refl, sym, ◌∙◌, ap}
use Rattle.std.proofs.Common.{subst, arith, Some, None, is_some, ℕ}
use Rattle.std.specs.declared.option.Option.{Option}
use Rattle.std.specs.Option.{option_map_or}
use Rattle.std.specs.List.{find}
use Rattle.std.specs.FinMap.{from_entries}
use Rattle.coho_io.specs.declared.counts.Counts.{Counts}
use Rattle.coho_io.specs.declared.counts.Kind.{Kind}
use Rattle.coho_io.specs.declared.counts.Kind.TheVariants.{Read, Write}
use Rattle.coho_io.specs.Causes.{one_more, Rose, NoneFell}
use Rattle.coho_io.specs.Counts.{count_of, raised}
use Rattle.coho_io.specs.MemFiles.{Entry, FilesState, is_at, named, content_of, fault_count, change_first}
use Rattle.coho_io.specs.MemFiles.{is_there, failed_once_more, fault_at}

-- how often calls on a file have failed
abbrev pub counts_of : Counts → Option Entry → Counts
counts_of outside o = option_map_or (λ e. e.faults) o outside

-- one more of a kind has no count fall, and its own rise
raised-later : (k kind : Kind) (c : Counts) → count_of k c ≤ count_of k (raised kind c)
raised-later Read Read c = omega arith
raised-later Read Write c = omega arith
raised-later Write Read c = omega arith
raised-later Write Write c = omega arith

raised-one : (kind : Kind) (c : Counts) → one_more (count_of kind c) ≤ count_of kind (raised kind c)
raised-one Read c = omega arith
raised-one Write c = omega arith

module _ (kind : Kind) where
  abbrev raise : Entry → Entry
  raise = failed_once_more kind

  -- the bytes stay
  same_named : (p : Entry → Bool) (es : List Entry) → map named (change_first p raise es) ≡ map named es
  same_named p [] = refl
  same_named p (e ∷ es) = elim (p e) as (λ b. map named
      (cond b (raise e ∷ es) (e ∷ change_first p raise es)) ≡ named e ∷ map named es) [
        | true ↦ refl
        | false ↦ ap (λ zs. named e ∷ zs) (same_named p es)
      ]

  pub content-fault : (s : FilesState) (path : List ℕ) → content_of (fault_at kind s path) ≡ content_of s
  content-fault s path = elim (is_there s path) as
      (λ b. content_of (cond b (record s { files = change_first (is_at path) raise s.files })
      (record s { outside = raised kind s.outside })) ≡ content_of s) [
        | true ↦ ap (λ ns. record { files = from_entries ns; outside_is_empty = false })
            (same_named (is_at path) s.files)
        | false ↦ refl
      ]

  -- no count falls where one file's rises
  none_falls : (k : Kind) (p q : Entry → Bool) (outside : Counts) (es : List Entry)
      → ((e : Entry) → q (raise e) ≡ q e)
      → count_of k (counts_of outside (find q es))
      ≤ count_of k (counts_of outside (find q (change_first p raise es)))
  none_falls k p q outside [] same = omega arith
  none_falls k p q outside (e ∷ es) same = elim (p e) as
      (λ b. count_of k (counts_of outside (cond (q e) (Some e) (find q es)))
      ≤ count_of k (counts_of outside (find q (cond b (raise e ∷ es) (e ∷ change_first p raise es))))) [
        | true ↦ subst (λ b. count_of k (counts_of outside (cond (q e) (Some e) (find q es)))
            ≤ count_of k (counts_of outside (cond b (Some (raise e)) (find q es)))) (sym (same e))
            (elim (q e) as (λ b. count_of k (counts_of outside (cond b (Some e) (find q es)))
            ≤ count_of k (counts_of outside (cond b (Some (raise e)) (find q es)))) [
              | true ↦ raised-later k kind e.faults
              | false ↦ omega arith
            ])
        | false ↦ elim (q e) as (λ b. count_of k (counts_of outside (cond b (Some e) (find q es)))
            ≤ count_of k (counts_of outside (cond b (Some e) (find q (change_first p raise es))))) [
              | true ↦ omega arith
              | false ↦ none_falls k p q outside es same
            ]
      ]

  -- the count of a file that is there rises
  rises : (p : Entry → Bool) (outside : Counts) (es : List Entry) → ((e : Entry) → p (raise e) ≡ p e)
      → is_some (find p es) ≡ true
      → one_more (count_of kind (counts_of outside (find p es)))
      ≤ count_of kind (counts_of outside (find p (change_first p raise es)))
  rises p outside [] same there = cc
  rises p outside (e ∷ es) same there = elim (p e) as (λ b. p (raise e) ≡ b
      → is_some (cond b (Some e) (find p es)) ≡ true
      → one_more (count_of kind (counts_of outside (cond b (Some e) (find p es))))
      ≤ count_of kind (counts_of outside (find p (cond b (raise e ∷ es) (e ∷ change_first p raise es))))) [
        | true ↦ λ h there. subst (λ b. one_more (count_of kind e.faults)
            ≤ count_of kind (counts_of outside (cond b (Some (raise e)) (find p es)))) (sym h)
            (raised-one kind e.faults)
        | false ↦ λ h there. subst (λ b. one_more (count_of kind (counts_of outside (find p es)))
            ≤ count_of kind (counts_of outside (cond b (Some e) (find p (change_first p raise es)))))
            (sym (sym (same e) ∙ h)) (rises p outside es same there)
      ] (same e) there

  pub later-fault : (k : Kind) (s : FilesState) (path : List ℕ)
      → NoneFell (fault_count k s) (fault_count k (fault_at kind s path))
  later-fault k s path q = elim (is_there s path) as
      (λ b. fault_count k s q ≤ fault_count k (cond b
      (record s { files = change_first (is_at path) raise s.files })
      (record s { outside = raised kind s.outside })) q) [
        | true ↦ none_falls k (is_at path) (is_at q) s.outside s.files (λ e. refl)
        | false ↦ elim (find (is_at q) s.files) as
            (λ o. count_of k (counts_of s.outside o) ≤ count_of k (counts_of (raised kind s.outside) o)) [
              | None ↦ raised-later k kind s.outside
              | Some e ↦ omega arith
            ]
      ]

  pub rose-fault : (s : FilesState) (path : List ℕ)
      → Rose (fault_count kind s path) (fault_count kind (fault_at kind s path) path)
  rose-fault s path = elim (is_there s path) as (λ b. is_there s path ≡ b
      → Rose (fault_count kind s path) (fault_count kind (cond b
      (record s { files = change_first (is_at path) raise s.files })
      (record s { outside = raised kind s.outside })) path)) [
        | true ↦ λ there. let h = rises (is_at path) s.outside s.files (λ e. refl) there in omega (arith, h)
        | false ↦ λ there. elim (find (is_at path) s.files) as (λ o. is_some o ≡ false
            → Rose (count_of kind (counts_of s.outside o)) (count_of kind
            (counts_of (raised kind s.outside) o))) [
              | None ↦ λ h. let g = raised-one kind s.outside in omega (arith, g)
              | Some e ↦ λ h. absurd (cc)
            ] there
      ] refl
