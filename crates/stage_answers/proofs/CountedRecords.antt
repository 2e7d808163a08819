-- The number of records of a stage file, or the stop at its fault.
use Rattle.std.proofs.Common.{◌≡◌, ◌∙◌, inl, ℕ, ◌≤◌, List, refl, sym, ap, subst}
use Rattle.std.specs.declared.option.Option.{Option}
use Rattle.std.specs.declared.option.Option.TheVariants.{None, Some}
use Rattle.std.specs.declared.result.Result.{Result}
use Rattle.std.specs.declared.result.Result.TheVariants.{Ok, Err}
use Rattle.std.specs.Borrow.{Bor}
use Rattle.coho_io.specs.Content.{Content, file, with_file}
use Rattle.limits.specs.declared.TheConstants.{GREATEST_DEGREE}
use Rattle.p_groups.specs.PGroups.{PGroup}
use Rattle.pc_text.specs.Canonical.{canonical}
use Rattle.power_commutator.specs.Presentations.{Presentation}
use Rattle.stage_file.specs.Honest.{walk_of}
use Rattle.stage_walk.specs.Asked.{AfterWalk, Asked, WalkRefuses}
use Rattle.stage_walk.specs.Dimensions.{Fit}
use Rattle.stage_walk.specs.Faults.{IsNumbered, IsWalkStop}
use Rattle.stage_walk.specs.declared.fault.StagesFault.{StagesFault}
use Rattle.coho_words.specs.declared.ring_words.StageFiles.{StageFiles as NamedFiles}
use Rattle.coho_steps.specs.declared.stop.Stop.{Stop}
use Rattle.coho_steps.specs.Groups.{IsTableOf}
use Rattle.coho_steps.specs.Refusals.{file_refused}
use Rattle.coho_steps.specs.Told.{Agrees, FromAny}
use Rattle.stage_answers.specs.Works.{Works}
use Rattle.stage_answers.specs.StageFiles.{WalkFile}
use Rattle.stage_answers.specs.Stopping.{HasPath, IsStopAt}
use Rattle.coho_steps.specs.Stops.{Meets}
use Rattle.stage_answers.proofs.FaultStops.{rose_at}
use Rattle.stage_answers.proofs.FoundStages.{Chosen, Stops, bytes_of, choose_put, choose_stops, choose_told}
use Rattle.stage_answers.proofs.FoundStages.{walk_taken}
use Rattle.stage_answers.proofs.PutFiles.{there_file}
use Rattle.stage_answers.proofs.SomeFiles.{ends_so, refusing_header, refusing_presentation, refusing_record}
use Rattle.stage_answers.proofs.SomeFiles.{taking}
use Rattle.stage_answers.proofs.Working.{Counts}
use Rattle.stage_records.specs.Walks as walks
use Rattle.stage_walk.specs.declared.fault.StagesFault.TheVariants as fault
use Rattle.coho_steps.specs.declared.stop.Stop.TheVariants as stop

module _ (P : Presentation) (G : PGroup) (is : IsTableOf P G) (path : Bor (List ℕ))
    (known now : Option Content) (reads reads_now writes writes_now : Counts) (same : now ≡ known) where
  abbrev named : NamedFiles
  named = record { from = Some path; save = None }

  abbrev A : Asked
  A = record { group = G; text = canonical P; degree = GREATEST_DEGREE; from = Some path.now; save = None }

  abbrev Counted : Result ℕ Stop → Type 0
  Counted r = Works (λ (count : ℕ). count) (WalkFile P GREATEST_DEGREE path.now) (Some path.now) None
      (λ old left. left ≡ old) (λ files. ⊥) known now reads reads_now writes writes_now r

  abbrev Counts_to : ℕ → Content → Type 0
  Counts_to count files = WalkFile P GREATEST_DEGREE path.now files (Ok count) files

  -- the walk over files that agree
  over : (Q : Content → Type 0) → ((seen : Content) → Agrees known seen
      → Chosen P G is GREATEST_DEGREE None known (Some path.now) seen Q)
      → (R : Content → Content → Type 0) → ((files : Content) → Q files → R files files)
      → FromAny (Some path.now) known now R
  over Q chosen R f = λ seen agrees. (let found = chosen seen agrees in (
    found.files,
    found.files,
    found.agrees,
    (λ told e. same ∙ e ∙ ap (λ (c : Content). Some c) (found.agrees told e)),
    (found.same, f found.files found.holds),
  ))

  choose_count : (o : Option Content) (count : ℕ) (seen : Content) → Agrees o seen → count ≤ GREATEST_DEGREE
      → Fit G count
      → AfterWalk A o (λ c. count ≡ c)
      → Chosen P G is GREATEST_DEGREE None o (Some path.now) seen (Counts_to count)
  choose_count (Some told) count seen agrees few fit walk =
      let w = walk told (inl refl) in
      let b = bytes_of P G is (file told path.now) (walk_of G (canonical P) GREATEST_DEGREE)
      (ends_so w.0 None) w.1 in
      choose_told P G is GREATEST_DEGREE None told (Some path.now) seen (Counts_to count) agrees
      (subst (λ (c : ℕ). Counts_to c told) (sym w.2)
      (walk_taken P G is GREATEST_DEGREE path.now b.0 told w.0 b.1 b.2))
  choose_count None count seen agrees few fit walk =
      let t = taking G (canonical P) GREATEST_DEGREE count few fit in
      choose_put P G is GREATEST_DEGREE None path.now t.0 seen (Counts_to count)
      (walk_taken P G is GREATEST_DEGREE path.now t.0 (with_file seen path.now t.0) count
      (there_file seen path.now t.0) t.1)

  pub counted : (count : ℕ) → count ≤ GREATEST_DEGREE → Fit G count → AfterWalk A known (λ c. count ≡ c)
      → Counted (Ok count)
  counted count few fit walk = record {
    ends = over (Counts_to count) (λ seen agrees. choose_count known count seen agrees few fit walk)
        (λ files left. WalkFile P GREATEST_DEGREE path.now files (Ok count) left) (λ files h. h);
    cause = tt;
    left = λ told e. (told, same ∙ e, refl);
    kept = tt;
  }

  refused : (what : walks.WalkFault) → WalkRefuses A known what
      → ((bytes : List ℕ) × ((c : ℕ) × (walk_of G (canonical P) GREATEST_DEGREE bytes ≡ ends_so c
      (Some what))))
      → FromAny (Some path.now) known now
      (λ files left. WalkFile P GREATEST_DEGREE path.now files (Err (file_refused what)) left)
  refused what walk some =
      over (Stops P G is GREATEST_DEGREE None what (Some path.now))
      (λ seen agrees. choose_stops P G is GREATEST_DEGREE None known
      (Some path.now) seen what agrees walk some)
      (λ files left. WalkFile P GREATEST_DEGREE path.now files (Err (file_refused what)) left) (λ files h. h)

  any : (R : Content → Content → Type 0) → ((files left : Content) → R files left)
      → FromAny (Some path.now) known now R
  any R r = λ seen agrees. (
    seen,
    seen,
    agrees,
    (λ told e. same ∙ e ∙ ap (λ (c : Content). Some c) (agrees told e)),
    ((λ p other. refl), r seen seen),
  )

  left_same : (told : Content) → known ≡ Some told → (left : Content) × (now ≡ Some left) × (left ≡ told)
  left_same told e = (told, same ∙ e, refl)

  abbrev Failed : Stop → Type 0
  Failed s = Counted (Err s)

  pub failed : (e : StagesFault) (s : Stop) → IsStopAt named e s → IsWalkStop A known reads reads_now e
      → IsNumbered G GREATEST_DEGREE e → Failed s
  failed fault.Header s at h m = subst Failed (sym at) (record {
    ends = refused walks.Header h (refusing_header G (canonical P) GREATEST_DEGREE);
    cause = tt;
    left = left_same;
    kept = tt;
  })
  failed fault.Presentation s at h m = subst Failed (sym at) (record {
    ends = refused walks.Presentation h (refusing_presentation G (canonical P) GREATEST_DEGREE);
    cause = tt;
    left = left_same;
    kept = tt;
  })
  failed (fault.Record d) s at h m = subst Failed (sym at) (record {
    ends = refused (walks.Record d) h (refusing_record G (canonical P) GREATEST_DEGREE d m.0 m.1 m.2);
    cause = tt;
    left = left_same;
    kept = tt;
  })
  failed (fault.TooLarge d X) s at h m = absurd h
  failed fault.Write s at h m = absurd h
  failed fault.Memory s at h m = subst Failed (sym at) (record {
    ends = any (λ files left. Meets (λ (count : ℕ). count) (WalkFile P GREATEST_DEGREE path.now) files left
        (Err stop.Memory)) (λ files left. tt);
    cause = tt;
    left = left_same;
    kept = tt;
  })
  failed fault.Read (stop.Read one) at h m = record {
    ends = any (λ files left. Meets (λ (count : ℕ). count) (WalkFile P GREATEST_DEGREE path.now) files left
        (Err (stop.Read one))) (λ files left. tt);
    cause = rose_at named.from one reads reads_now at h;
    left = left_same;
    kept = same;
  }
  failed fault.Read (stop.Refused why) at h m = absurd at
  failed fault.Read stop.Write at h m = absurd at
  failed fault.Read (stop.Save one) at h m = absurd at
  failed fault.Read stop.Memory at h m = absurd at

  pub has_path : (e : StagesFault) → IsWalkStop A known reads reads_now e → HasPath named e
  has_path fault.Read h = refl
  has_path fault.Write h = absurd h
  has_path fault.Header h = tt
  has_path fault.Presentation h = tt
  has_path (fault.Record d) h = tt
  has_path (fault.TooLarge d X) h = tt
  has_path fault.Memory h = tt
