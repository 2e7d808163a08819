-- The walk over a file, and the stages with both files, from their parts.
use Rattle.std.proofs.Common.{◌≡◌, ℕ, ◌+◌, ◌-◌, ◌≤◌, List, take, drop, Some, None, inl}
use Rattle.std.proofs.Common.{inr, refl, sym, ◌∙◌, ap, subst, arith}
use Rattle.std.specs.Prelude.{⊤}
use Rattle.std.specs.declared.option.Option.{Option}
use Rattle.std.specs.Option.{option_map}
use Rattle.coho_io.specs.Causes.{NoneFell, Rose}
use Rattle.coho_io.specs.Content.{Content, file}
use Rattle.power_commutator.specs.Presentations.{Presentation}
use Rattle.pc_text.specs.Canonical.{canonical}
use Rattle.p_groups.specs.PGroups.{PGroup}
use Rattle.stage_records.specs.Records.{header_bytes}
use Rattle.stage_records.specs.Walks.{Walked, WalkFault, walk_records}
use Rattle.stage_records.specs.Walks as walks
use Rattle.stage_file.specs.Honest.{records_of, walk_of}
use Rattle.stage_walk.specs.declared.fault.StagesFault.{StagesFault}
use Rattle.stage_walk.specs.declared.fault.StagesFault.TheVariants as fault
use Rattle.stage_walk.specs.Asked.{Asked, AfterWalk, AreKnown, WalkRefuses, asked_from}
use Rattle.stage_walk.specs.Asked.{walk_from}
use Rattle.stage_walk.specs.Dimensions.{IsFirstAbove}
use Rattle.stage_walk.specs.Faults.{IsNumbered, IsStagesFault, IsWalkStop}
use Rattle.stage_walk.specs.Growing.{Holds, HoldsFront, IsStagesStop, IsWriteStop, LeavesStages, file_with}
use Rattle.stage_walk.specs.Saved.{Leaves, SavesAll, SavesFront, saved}
use Rattle.stage_walk.specs.Turns.{EndsAtHeader, GoesOn, IsHeaderStop, IsRecordsStop, OfBytes, RefusesHeader}
use Rattle.stage_walk.specs.Turns.{TakesRecords}

-- the bytes under a path are one
pub at_bytes : (known : Option Content) (path : List ℕ) (Have : List ℕ → Type 0) (told : Content)
    (bytes : List ℕ) → OfBytes known path Have → known ≡ Some told → file told path ≡ Some bytes → Have bytes
at_bytes known path Have told bytes o k e =
    let p = o told k in
    let z : Some p.0 ≡ Some bytes = sym p.1 ∙ e in
    let same : p.0 ≡ bytes = cc in
    subst Have same p.2

pub rose_later : (path : List ℕ) (before mid now : List ℕ → ℕ) → NoneFell before mid
    → Rose (mid path) (now path) → Rose (before path) (now path)
rose_later path before mid now l r = let h : before path ≤ mid path = l path in omega (arith, h, r)

pub none_later : (before mid now : List ℕ → ℕ) → NoneFell before mid → NoneFell mid now → NoneFell before now
none_later before mid now l m path =
    let h : before path ≤ mid path = l path in
    let k : mid path ≤ now path = m path in
    omega (arith, h, k)

module _ (G : PGroup) (P : Presentation) (n : ℕ) (path : List ℕ) (known : Option Content) (honest : List ℕ)
    (header : honest ≡ header_bytes (canonical P)) where
  abbrev A : Asked
  A = asked_from G P n path

  walked : (files : Content) (bytes : List ℕ) (w : Walked) → file files path ≡ Some bytes
      → walks.walk honest (records_of G) n bytes ≡ w → walk_from A (Some path) files ≡ Some w
  walked files bytes w e h =
      ap (option_map (walk_of G (canonical P) n)) e
      ∙ ap (λ x. Some x) (ap (λ x. walks.walk x (records_of G) n bytes) (sym header) ∙ h)

  told_files : (files : Content) → AreKnown A known files → known ≡ Some files
  told_files files (inl e) = e
  told_files files (inr e) = let z : Some path ≡ None = e in absurd (cc)

  -- the file ends inside its header, or goes on to records
  pub after_header : (last : ℕ) → last ≡ 0 → OfBytes known path (EndsAtHeader honest)
      → AfterWalk A known (λ count. last ≡ count)
  after_header last z o files k =
      let p = o files (told_files files k) in
      (0, walked files p.0 _ p.1 (p.2 (records_of G) n), z)

  records_at : OfBytes known path (GoesOn honest) → (files : Content) → known ≡ Some files → (bytes : List ℕ)
      → file files path ≡ Some bytes → (w : Walked) → walk_records (records_of G) n 1 (drop 40 bytes) ≡ w
      → walk_from A (Some path) files ≡ Some w
  records_at o files k bytes e w h =
      walked files bytes w e (at_bytes known path (GoesOn honest) files bytes o k e (records_of G) n ∙ h)

  pub after_records : (last : ℕ) → OfBytes known path (GoesOn honest) → TakesRecords G n path known last
      → AfterWalk A known (λ count. last ≡ count)
  after_records last o t files k =
      let p = t files (told_files files k) in
      (last, records_at o files (told_files files k) p.0 p.1 _ p.2, refl)

  refused_header : (f : WalkFault) → OfBytes known path (RefusesHeader honest f) → WalkRefuses A known f
  refused_header f o files k =
      let p = o files (told_files files k) in
      (0, walked files p.0 _ p.1 (p.2 (records_of G) n))

  module _ (before now : List ℕ → ℕ) where
    pub header_stop : (e : StagesFault) → IsHeaderStop honest path known before now e
        → IsWalkStop A known before now e
    header_stop fault.Read h = (path, refl, h)
    header_stop fault.Header h = refused_header walks.Header h
    header_stop fault.Presentation h = refused_header walks.Presentation h
    header_stop (fault.Record d) h = absurd h
    header_stop (fault.TooLarge d X) h = absurd h
    header_stop fault.Write h = absurd h
    header_stop fault.Memory h = tt

    pub header_numbered : (e : StagesFault) → IsHeaderStop honest path known before now e → IsNumbered G n e
    header_numbered fault.Read h = tt
    header_numbered fault.Header h = tt
    header_numbered fault.Presentation h = tt
    header_numbered (fault.Record d) h = absurd h
    header_numbered (fault.TooLarge d X) h = tt
    header_numbered fault.Write h = tt
    header_numbered fault.Memory h = tt

    pub records_stop : (e : StagesFault) → OfBytes known path (GoesOn honest)
        → IsRecordsStop G n path known before now e → IsWalkStop A known before now e
    records_stop fault.Read o h = (path, refl, h)
    records_stop fault.Header o h = absurd h
    records_stop fault.Presentation o h = absurd h
    records_stop (fault.Record d) o h = λ files k.
        let p = h.0 files (told_files files k) in
        (p.2.0, records_at o files (told_files files k) p.0 p.1 _ p.2.1)
    records_stop (fault.TooLarge d X) o h = absurd h
    records_stop fault.Write o h = absurd h
    records_stop fault.Memory o h = tt

    pub records_numbered : (e : StagesFault) → IsRecordsStop G n path known before now e → IsNumbered G n e
    records_numbered fault.Read h = tt
    records_numbered fault.Header h = tt
    records_numbered fault.Presentation h = tt
    records_numbered (fault.Record d) h = h.1
    records_numbered (fault.TooLarge d X) h = tt
    records_numbered fault.Write h = tt
    records_numbered fault.Memory h = tt

-- the counts of reads go on rising
pub stop_later : (A : Asked) (known : Option Content) (before mid now : List ℕ → ℕ) (e : StagesFault)
    → NoneFell before mid → IsWalkStop A known mid now e → IsWalkStop A known before now e
stop_later A known before mid now fault.Read l h =
    (h.0, h.1, rose_later h.0 before mid now l h.2)
stop_later A known before mid now fault.Header l h = h
stop_later A known before mid now fault.Presentation l h = h
stop_later A known before mid now (fault.Record d) l h = h
stop_later A known before mid now (fault.TooLarge d X) l h = h
stop_later A known before mid now fault.Write l h = h
stop_later A known before mid now fault.Memory l h = h

-- where no file is named, no stage is taken
pub after_none : (A : Asked) (known : Option Content) (last : ℕ) → A.from ≡ None → last ≡ 0
    → AfterWalk A known (λ c. last ≡ c)
after_none A known last e z files k = (0, ap (λ from. walk_from A from files) e, z)

-- the walk is the same whatever is saved
module _ (G : PGroup) (text : List ℕ) (n : ℕ) where
  abbrev with_paths : (from save : Option (List ℕ)) → Asked
  with_paths from save = record { group = G; text = text; degree = n; from = from; save = save }

  same_walk : (from save : Option (List ℕ)) (files : Content)
      → walk_from (with_paths from save) from files ≡ walk_from (with_paths from None) from files
  same_walk None save files = refl
  same_walk (Some path) save files = refl

  module _ (from save : Option (List ℕ)) (known : Option Content) where
    pub after_saving : (Held : ℕ → Type 0) → AfterWalk (with_paths from None) known Held
        → AfterWalk (with_paths from save) known Held
    after_saving Held w files k = let t = w files k in (t.0, same_walk from save files ∙ t.1, t.2)

    refuses_saving : (f : WalkFault) → WalkRefuses (with_paths from None) known f
        → WalkRefuses (with_paths from save) known f
    refuses_saving f w files k = let t = w files k in (t.0, same_walk from save files ∙ t.1)

    pub stop_saving : (before now : List ℕ → ℕ) (e : StagesFault)
        → IsWalkStop (with_paths from None) known before now e
        → IsWalkStop (with_paths from save) known before now e
    stop_saving before now fault.Read h = h
    stop_saving before now fault.Header h = refuses_saving walks.Header h
    stop_saving before now fault.Presentation h = refuses_saving walks.Presentation h
    stop_saving before now (fault.Record d) h = refuses_saving (walks.Record d) h
    stop_saving before now (fault.TooLarge d X) h = h
    stop_saving before now fault.Write h = h
    stop_saving before now fault.Memory h = h

-- stages after a walk

module _ (A : Asked) (old new : Option Content) (same : new ≡ old) where
  -- a walk that stops leaves the files
  pub walk_leaves : (before now : List ℕ → ℕ) (e : StagesFault) → IsWalkStop A old before now e
      → Leaves A old new e
  walk_leaves before now fault.Read h = same
  walk_leaves before now fault.Header h = same
  walk_leaves before now fault.Presentation h = same
  walk_leaves before now (fault.Record d) h = same
  walk_leaves before now (fault.TooLarge d X) h = absurd h
  walk_leaves before now fault.Write h = absurd h
  walk_leaves before now fault.Memory h = λ told k. inl (same ∙ k)

pub walk_fault : (A : Asked) (known : Option Content) (reads reads_now writes writes_now : List ℕ → ℕ)
    (e : StagesFault) → IsWalkStop A known reads reads_now e
    → IsStagesFault A known reads reads_now writes writes_now e
walk_fault A known reads reads_now writes writes_now fault.Read h = h
walk_fault A known reads reads_now writes writes_now fault.Header h = h
walk_fault A known reads reads_now writes writes_now fault.Presentation h = h
walk_fault A known reads reads_now writes writes_now (fault.Record d) h = h
walk_fault A known reads reads_now writes writes_now (fault.TooLarge d X) h = absurd h
walk_fault A known reads reads_now writes writes_now fault.Write h = absurd h
walk_fault A known reads reads_now writes writes_now fault.Memory h = tt

module _ (A : Asked) (H : PGroup) (group : H ≡ A.group) (header : List ℕ)
    (honest : header ≡ header_bytes A.text)
    (old mid new : Option Content) (same : mid ≡ old) where
  file_is : file_with header H A.degree ≡ file_with (header_bytes A.text) A.group A.degree
  file_is = ap (λ G. file_with header G A.degree) group ∙ ap (λ h. file_with h A.group A.degree) honest

  pub all_saved : Holds A.save (file_with header H A.degree) mid new → SavesAll A old new
  all_saved h told k =
      h told (same ∙ k) ∙ ap (λ bytes. Some (saved A.save bytes told)) file_is

  pub front_saved : (count : ℕ) → AfterWalk A old (λ c. count ≡ c)
      → HoldsFront A.save (file_with header H A.degree) mid new → SavesFront A old new
  front_saved count w h told k =
      let t = w told (inl k) in
      elim (h told (same ∙ k)) [
        | inl s ↦ inl s
        | inr p ↦ inr (
          p.0,
          t.0,
          t.1,
          p.1 ∙ ap (λ bytes. Some (saved A.save (take p.0 bytes) told)) file_is,
        )
      ]

  module _ (count : ℕ) (w : AfterWalk A old (λ c. count ≡ c)) where
    pub stop_leaves : (before now : List ℕ → ℕ) (e : StagesFault)
        → IsStagesStop H A.degree A.save before now e
        → LeavesStages A.save (file_with header H A.degree) mid new e → Leaves A old new e
    stop_leaves before now fault.Read h l = absurd h
    stop_leaves before now fault.Header h l = absurd h
    stop_leaves before now fault.Presentation h l = absurd h
    stop_leaves before now (fault.Record d) h l = absurd h
    stop_leaves before now (fault.TooLarge d X) h l = all_saved l
    stop_leaves before now fault.Write h l = front_saved count w l
    stop_leaves before now fault.Memory h l = front_saved count w l

    -- nothing was refused
    passed : AfterWalk A old (λ _. ⊤)
    passed files k = let t = w files k in (t.0, t.1, tt)

    pub stop_fault : (reads reads_now writes writes_mid writes_now : List ℕ → ℕ) (e : StagesFault)
        → NoneFell writes writes_mid → IsStagesStop H A.degree A.save writes_mid writes_now e
        → IsStagesFault A old reads reads_now writes writes_now e
    stop_fault reads reads_now writes writes_mid writes_now fault.Read l h = absurd h
    stop_fault reads reads_now writes writes_mid writes_now fault.Header l h = absurd h
    stop_fault reads reads_now writes writes_mid writes_now fault.Presentation l h = absurd h
    stop_fault reads reads_now writes writes_mid writes_now (fault.Record d) l h = absurd h
    stop_fault reads reads_now writes writes_mid writes_now (fault.TooLarge d X) l h =
        (subst (λ G. IsFirstAbove G A.degree d X) group h, passed)
    stop_fault reads reads_now writes writes_mid writes_now fault.Write l h =
        ((h.0, h.1, rose_later h.0 writes writes_mid writes_now l h.2), passed)
    stop_fault reads reads_now writes writes_mid writes_now fault.Memory l h = tt

-- what a header that is not written leaves
pub begin_left : (named : Option (List ℕ)) (bytes : List ℕ) (old new : Option Content)
    (before now : List ℕ → ℕ)
    (e : StagesFault) → IsWriteStop named before now e → HoldsFront named bytes old new
    → LeavesStages named bytes old new e
begin_left named bytes old new before now fault.Read h f = absurd h
begin_left named bytes old new before now fault.Header h f = absurd h
begin_left named bytes old new before now fault.Presentation h f = absurd h
begin_left named bytes old new before now (fault.Record d) h f = absurd h
begin_left named bytes old new before now (fault.TooLarge d X) h f = absurd h
begin_left named bytes old new before now fault.Write h f = f
begin_left named bytes old new before now fault.Memory h f = f

-- records that are refused are those of the walk
pub stop_numbered : (H G : PGroup) (n d : ℕ) (named : Option (List ℕ)) (before now : List ℕ → ℕ)
    (e : StagesFault) → IsStagesStop H d named before now e → IsNumbered G n e
stop_numbered H G n d named before now fault.Read h = tt
stop_numbered H G n d named before now fault.Header h = tt
stop_numbered H G n d named before now fault.Presentation h = tt
stop_numbered H G n d named before now (fault.Record k) h = absurd h
stop_numbered H G n d named before now (fault.TooLarge k X) h = tt
stop_numbered H G n d named before now fault.Write h = tt
stop_numbered H G n d named before now fault.Memory h = tt

-- the stages that were not taken were computed
pub rest_computed : (A : Asked) (known : Option Content) (last first new n : ℕ)
    → AfterWalk A known (λ c. last ≡ c) → first ≡ 0 → new + last ≡ first + n
    → AfterWalk A known (λ count. new + count ≡ n)
rest_computed A known last first new n w z e files k =
    let t = w files k in let same : last ≡ t.0 = t.2 in
    (t.0, t.1, omega (arith, same, z, e))
