-- The stops at faults of stages, as the steps that find them are refused.
use Rattle.std.proofs.Common.{◌≡◌, ◌∙◌, ℕ, List, refl, sym, ap, subst, arith}
use Rattle.std.specs.Prelude.{IsSome, ⊤}
use Rattle.std.specs.declared.option.Option.{Option}
use Rattle.std.specs.declared.option.Option.TheVariants.{None, Some}
use Rattle.std.specs.declared.result.Result.{Result}
use Rattle.std.specs.declared.result.Result.TheVariants.{Ok, Err}
use Rattle.std.specs.Borrow.{Bor}
use Rattle.coho_io.specs.Causes.{Rose}
use Rattle.coho_io.specs.Content.{Content}
use Rattle.p_groups.specs.PGroups.{PGroup}
use Rattle.pc_text.specs.Canonical.{canonical}
use Rattle.min_res.specs.Values.{ResolutionValue}
use Rattle.power_commutator.specs.Presentations.{Presentation}
use Rattle.stage_file.specs.Honest.{walk_of}
use Rattle.stage_walk.specs.Asked.{AfterWalk, Asked}
use Rattle.stage_walk.specs.Dimensions.{Fit}
use Rattle.stage_walk.specs.Faults.{IsNumbered, IsStagesFault, RoseAt}
use Rattle.stage_walk.specs.Saved.{SavesAll}
use Rattle.stage_walk.specs.declared.fault.StagesFault.{StagesFault}
use Rattle.coho_words.specs.declared.ring_words.StageFiles.{StageFiles as NamedFiles}
use Rattle.coho_steps.specs.declared.stop.Stop.{Stop}
use Rattle.coho_steps.specs.Groups.{IsTableOf}
use Rattle.coho_steps.specs.Refusals.{file_refused, stage_refused}
use Rattle.coho_steps.specs.Told.{FromAny}
use Rattle.stage_answers.specs.Works.{Works}
use Rattle.stage_answers.specs.StageFiles.{AreTaken, FindStages, IsFrontSaved}
use Rattle.stage_answers.specs.Stopping.{HasPath, IsStopAt}
use Rattle.coho_steps.specs.Stops.{Meets}
use Rattle.coho_words.specs.Words.{path_in, stage_files}
use Rattle.stage_answers.proofs.FoundStages.{anyhow, are_taken, choose_goes, choose_stops, goes, left_all}
use Rattle.stage_answers.proofs.FoundStages.{left_front, left_same, stops}
use Rattle.stage_answers.proofs.SomeFiles.{ends_so, refusing_header, refusing_presentation, refusing_record}
use Rattle.stage_answers.proofs.SomeFiles.{taking}
use Rattle.stage_answers.proofs.Working.{Counts}
use Rattle.stage_records.specs.Walks as walks
use Rattle.stage_walk.specs.Asked as walking
use Rattle.stage_walk.specs.Saved as saving
use Rattle.stage_walk.specs.declared.fault.StagesFault.TheVariants as fault
use Rattle.coho_steps.specs.declared.cause.Cause.TheVariants as cause
use Rattle.coho_steps.specs.declared.cause.FilePart.TheVariants as part
use Rattle.coho_steps.specs.declared.stop.Stop.TheVariants as stop

none_fit : (G : PGroup) → Fit G 0
none_fit G d from to = absurd (omega (arith, from, to))

-- a count of a path that is named rose
pub rose_at : (path : Option (Bor (List ℕ))) (one : Bor (List ℕ)) (before now : Counts) → path ≡ Some one
    → RoseAt (path_in path) before now → (path_in path ≡ Some one.now) × Rose (before one.now) (now one.now)
rose_at path one before now e h =
    let is : path_in path ≡ Some one.now = ap path_in e in
    let both : ◌≡◌ {A = Option (List ℕ)} (Some h.0) (Some one.now) = sym h.1 ∙ is in
    let same : h.0 ≡ one.now = cc in
    (is, subst (λ (p : List ℕ). Rose (before p) (now p)) same h.2)

is_named : (path : Option (Bor (List ℕ))) (one : List ℕ) → path_in path ≡ Some one → IsSome path
is_named None one e = absurd (let no : ◌≡◌ {A = Option (List ℕ)} None (Some one) = e in cc)
is_named (Some path) one e = refl

module _ (P : Presentation) (G : PGroup) (is : IsTableOf P G) (n : ℕ) (named : NamedFiles)
    (known now : Option Content) (reads reads_now writes writes_now : Counts) where
  abbrev from : Option (List ℕ)
  from = path_in named.from

  abbrev save : Option (List ℕ)
  save = path_in named.save

  abbrev A : Asked
  A = record { group = G; text = canonical P; degree = n; from = from; save = save }

  abbrev Found : Result ResolutionValue Stop → Type 0
  Found r = Works (λ (x : ResolutionValue). tt) (FindStages P n (stage_files named)) from save
      (IsFrontSaved P n (stage_files named)) (AreTaken P n from)
      known now reads reads_now writes writes_now r

  some_taken : (bytes : List ℕ) × ((c : ℕ) × (walk_of G (canonical P) n bytes ≡ ends_so c None))
  some_taken = let t = taking G (canonical P) n 0 (omega arith) (none_fit G) in (t.0, (0, t.1))

  -- they were found
  pub found : (r : ResolutionValue) → Fit G n → SavesAll A known now → AfterWalk A known (λ c. ⊤)
      → Found (Ok r)
  found r fit saves walk = record {
    ends = goes P G is n save from known now (Ok tt) (λ files. (
      record {
        group = G;
        is_table = is;
        holds =
            fit;
      },
      refl,
    ))
        saves (λ seen agrees. choose_goes P G is n save known from seen agrees
        (λ files k. (let w = walk files k in (w.0, w.1))) some_taken);
    cause = tt;
    left = left_all P G is n save from known now saves walk;
    kept = tt;
  }

  abbrev Failed : Stop → Type 0
  Failed s = Found (Err s)

  -- a refusal of the file that stages are taken from
  refused : (what : walks.WalkFault) (why : Stop) → ((files left : Content)
      → FindStages P n (stage_files named) files (Err (file_refused what)) left
      → Meets (λ (x : ResolutionValue). tt) (FindStages P n (stage_files named)) files left (Err why))
      → now ≡ known → walking.WalkRefuses A known what
      → ((bytes : List ℕ) × ((c : ℕ) × (walk_of G (canonical P) n bytes ≡ ends_so c (Some what))))
      → FromAny from known now (λ files left. Meets (λ (x : ResolutionValue). tt)
      (FindStages P n (stage_files named)) files left (Err why))
  refused what why f same walk some = λ seen agrees.
      (let r = stops P G is n save from known now what same
      (λ seen agrees. choose_stops P G is n save known from seen what agrees walk some) seen agrees in
      (r.0, r.1, r.2, r.3, (r.4.0, f r.0 r.1 r.4.1)))

  pub failed : (e : StagesFault) (s : Stop) → IsStopAt named e s
      → IsStagesFault A known reads reads_now writes writes_now e → saving.Leaves A known now e
      → IsNumbered G n e
      → Failed s
  failed fault.Header s at h l m = subst Failed (sym at) (record {
    ends = refused walks.Header (stop.Refused (cause.StageFile part.Header)) (λ files left r. r) l h
        (refusing_header G (canonical P) n);
    cause = tt;
    left = left_same P G is n save from known now l;
    kept = tt;
  })
  failed fault.Presentation s at h l m = subst Failed (sym at) (record {
    ends = refused walks.Presentation (stop.Refused (cause.StageFile part.Presentation))
        (λ files left r. r) l h
        (refusing_presentation G (canonical P) n);
    cause = tt;
    left = left_same P G is n save from known now l;
    kept = tt;
  })
  failed (fault.Record d) s at h l m = subst Failed (sym at) (record {
    ends = refused (walks.Record d) (stop.Refused (cause.StageFile (part.Record d))) (λ files left r. r) l h
        (refusing_record G (canonical P) n d m.0 m.1 m.2);
    cause = tt;
    left = left_same P G is n save from known now l;
    kept = tt;
  })
  failed (fault.TooLarge d X) s at h l m = subst Failed (sym at) (record {
    ends = goes P G is n save from known now (Err (stage_refused d X))
        (λ files. (record { group = G; is_table = is; holds = (d, X, h.0, refl) }, refl)) l
        (λ seen agrees. choose_goes P G is n save known from seen agrees
        (λ files k. (let w = h.1 files k in (w.0, w.1))) some_taken);
    cause = tt;
    left = left_all P G is n save from known now l h.1;
    kept = tt;
  })
  failed fault.Memory s at h l m = subst Failed (sym at) (record {
    ends = anyhow P G is n save from known now (λ files left. Meets (λ (x : ResolutionValue). tt)
        (FindStages P n (stage_files named)) files left (Err stop.Memory)) (λ files left. tt)
        (left_front P G is n save from known now l);
    cause = tt;
    left = left_front P G is n save from known now l;
    kept = tt;
  })
  failed fault.Read (stop.Read path) at h l m = record {
    ends = anyhow P G is n save from known now (λ files left. Meets (λ (x : ResolutionValue). tt)
        (FindStages P n (stage_files named)) files left (Err (stop.Read path))) (λ files left. tt)
        (left_same P G is n save from known now l);
    cause = rose_at named.from path reads reads_now at h;
    left = left_same P G is n save from known now l;
    kept = l;
  }
  failed fault.Read (stop.Refused why) at h l m = absurd at
  failed fault.Read stop.Write at h l m = absurd at
  failed fault.Read (stop.Save path) at h l m = absurd at
  failed fault.Read stop.Memory at h l m = absurd at
  failed fault.Write (stop.Save path) at h l m = record {
    ends = anyhow P G is n save from known now (λ files left. Meets (λ (x : ResolutionValue). tt)
        (FindStages P n (stage_files named)) files left (Err (stop.Save path))) (λ files left. tt)
        (left_front P G is n save from known now l);
    cause =
        let r = rose_at named.save path writes writes_now at h.0 in
        ((r.0, are_taken P G is n save from known now h.1), r.1);
    left = left_front P G is n save from known now l;
    kept = tt;
  }
  failed fault.Write (stop.Refused why) at h l m = absurd at
  failed fault.Write stop.Write at h l m = absurd at
  failed fault.Write (stop.Read path) at h l m = absurd at
  failed fault.Write stop.Memory at h l m = absurd at

-- the paths of faults are named
pub has_path : (named : NamedFiles) (A : Asked) (known : Option Content)
    (reads reads_now writes writes_now : Counts)
    → A.from ≡ path_in named.from → A.save ≡ path_in named.save → (e : StagesFault)
    → IsStagesFault A known reads reads_now writes writes_now e → HasPath named e
has_path named A known reads reads_now writes writes_now reads_at saves_at fault.Read h =
    is_named named.from h.0 (sym reads_at ∙ h.1)
has_path named A known reads reads_now writes writes_now reads_at saves_at fault.Write h =
    is_named named.save h.0.0 (sym saves_at ∙ h.0.1)
has_path named A known reads reads_now writes writes_now reads_at saves_at fault.Header h = tt
has_path named A known reads reads_now writes writes_now reads_at saves_at fault.Presentation h = tt
has_path named A known reads reads_now writes writes_now reads_at saves_at (fault.Record d) h = tt
has_path named A known reads reads_now writes writes_now reads_at saves_at (fault.TooLarge d X) h = tt
has_path named A known reads reads_now writes writes_now reads_at saves_at fault.Memory h = tt
