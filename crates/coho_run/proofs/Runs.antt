-- The clauses of a run, from those of its calls.
use Rattle.std.proofs.Common.{◌≡◌, ◌≢◌, ◌⊎◌, List, ℕ, [], refl, sym, ap, subst, ◌∙◌, inl, inr, arith}
use Rattle.std.specs.declared.option.Option.{Option}
use Rattle.std.specs.declared.option.Option.TheVariants.{None, Some}
use Rattle.std.specs.declared.result.Result.{Result}
use Rattle.std.specs.declared.result.Result.TheVariants.{Ok, Err}
use Rattle.std.specs.List.{concat}
use Rattle.std.specs.Io.KnownBytes.{Appends}
use Rattle.std.proofs.lemmas.List.{append-nil}
use Rattle.coho_io.specs.Bytes.{AppendsFront}
use Rattle.coho_io.specs.Causes.{Rose}
use Rattle.coho_io.specs.Content.{Content}
use Rattle.coho_steps.specs.declared.status.Status.{Status}
use Rattle.coho_steps.specs.declared.stop.Stop.{Stop}
use Rattle.coho_run.specs.InTurn.{MayRead, MaySave}
use Rattle.coho_run.specs.Outcome.{Ending, ending, Outcome, Comes}
use Rattle.coho_steps.specs.declared.cause.Cause.{Cause}
use Rattle.coho_steps.specs.Refusals.{words_refused, read_refused, write_refused, memory_refused}
use Rattle.coho_steps.specs.Told.{FromTo, OfFiles, Leaves, Tells}
use Rattle.coho_steps.specs.Steps.{Refusal}
use Rattle.coho_steps.specs.Stops.{refusal_of, told, HasCause, KeepsAtRead, Meets, IsWriteStop}
use Rattle.coho_run.specs.Run.{Answers, IsSettled, EndsAs, AnswersFront, FailsOnOut, FailsOnSave, IsReadFault}
use Rattle.coho_run.specs.Run.{IsSaveFault, MayTell, ToldFront, WantsMemory, NoReadFault, NoSaveFault}
use Rattle.coho_words.specs.Words.{AskForValue, Command, command}
use Rattle.coho_steps.proofs.Lines.{Lines, lines_of}
use Rattle.coho_run.proofs.Outcomes.{none_comes, outcome_unique, usage_is}
use Rattle.coho_run.proofs.Settled.{IsOrMemory, is_memory, no_fault, not_memory}
use Rattle.coho_steps.specs.declared.status.Status.TheVariants as status
use Rattle.coho_steps.specs.declared.stop.Stop.TheVariants as stop

pub Appends_nothing : (known : Option (List ℕ)) → Appends known known []
Appends_nothing None = tt
Appends_nothing (Some bytes) = sym (append-nil bytes)

-- what a report says
abbrev pub Reported : Stop → Status → Option (List ℕ) → Option (List ℕ) → ℕ → ℕ → Type 0
Reported s answer err err_now n m = answer ≢ status.Memory → (answer ≡ (told s).status)
    × Tells err err_now n m (told s).line

module _ (answer : Status) (err err_now : Option (List ℕ)) (n m : ℕ) where
  abbrev ReportedHere : Stop → Type 0
  ReportedHere s = Reported s answer err err_now n m

  -- the status of a stop that was reported
  reported_status : (s : Stop) → ReportedHere s → IsOrMemory (told s).status answer
  reported_status s r = elim (is_memory answer) [ inl is ↦ inr is | inr isnt ↦ inl (r isnt).0 ]

  reported_memory : ReportedHere stop.Memory → answer ≡ status.Memory
  reported_memory r = elim (reported_status stop.Memory r) [ inl is ↦ is | inr is ↦ is ]

  -- a stop in writing
  pub write_status : (s : Stop) (before now : ℕ) → ReportedHere s → IsWriteStop before now s
      → IsOrMemory status.Write answer
  write_status (stop.Refused why) before now r h = absurd h
  write_status (stop.Read path) before now r h = absurd h
  write_status (stop.Save path) before now r h = absurd h
  write_status stop.Write before now r h = reported_status stop.Write r
  write_status stop.Memory before now r h = inr (reported_memory r)

  -- it has the status of a fault
  pub write_unsettled : {A : Type 0} (s : Stop) (before now : ℕ) → ReportedHere s → IsWriteStop before now s
      → IsSettled answer → A
  write_unsettled s before now r h settled = absurd (elim (write_status s before now r h)
      [ inl is ↦ subst IsSettled is settled | inr is ↦ subst IsSettled is settled ])

  -- where its status is that of a write, the count rose
  pub write_told : (s : Stop) (before now : ℕ) → ReportedHere s → IsWriteStop before now s
      → answer ≡ status.Write → Rose before now × Tells err err_now n m write_refused.line
  write_told (stop.Refused why) before now r h e = absurd h
  write_told (stop.Read path) before now r h e = absurd h
  write_told (stop.Save path) before now r h e = absurd h
  write_told stop.Write before now r h e = (
    h,
    (r (λ is. let no : status.Write ≡ status.Memory = sym e ∙ is in cc)).1,
  )
  write_told stop.Memory before now r h e =
      absurd (let no : status.Write ≡ status.Memory = sym e ∙ reported_memory r in cc)

  -- with no fault of writing it wanted memory
  pub write_complete : (s : Stop) (before now : ℕ) → ReportedHere s → IsWriteStop before now s
      → (Rose before now → ⊥) → answer ≡ status.Memory
  write_complete (stop.Refused why) before now r h none = absurd h
  write_complete (stop.Read path) before now r h none = absurd h
  write_complete (stop.Save path) before now r h none = absurd h
  write_complete stop.Write before now r h none = absurd (none h)
  write_complete stop.Memory before now r h none = reported_memory r

  module _ (words : List (List ℕ)) (known : Option Content) (before now writes writes_now : List ℕ → ℕ) where
    abbrev CauseHere : Stop → Type 0
    CauseHere s = HasCause (MayRead words known) (MaySave words known) before now writes writes_now s

    no_command : (c : Command) → command words ≡ Some c → command words ≡ None → ⊥
    no_command c is none = let no : ◌≡◌ {A = Option Command} (Some c) None = sym is ∙ none in absurd (cc)

    -- where the words are not those of a command
    pub words_stop : (left : Option Content) (s : Stop) → ReportedHere s
        → FromTo known left (λ files after. Meets lines_of (Comes words) files after (Err s)) → CauseHere s
        → command words ≡ None → IsOrMemory status.Usage answer
    words_stop left (stop.Refused why) r k h none =
        let same = none_comes words k.0 k.1 (Err (refusal_of why)) k.4 none in
        let is : refusal_of why ≡ words_refused = cc in
        subst (λ s. IsOrMemory s answer) (ap (λ q. q.status) is) (reported_status (stop.Refused why) r)
    words_stop left (stop.Read path) r k h none = absurd (no_command h.0.0.0 h.0.0.1 none)
    words_stop left stop.Write r k h none = absurd h
    words_stop left (stop.Save path) r k h none = absurd (no_command h.0.0.0 h.0.0.1 none)
    words_stop left stop.Memory r k h none = inr (reported_memory r)

    at_read : (s : Stop) → ReportedHere s → answer ≡ status.Read → (told s).status ≡ status.Read
    at_read s r e = sym (r (λ is. let no : status.Read ≡ status.Memory = sym e ∙ is in cc)).0 ∙ e

    at_write : (s : Stop) → ReportedHere s → answer ≡ status.Write → (told s).status ≡ status.Write
    at_write s r e = sym (r (λ is. let no : status.Write ≡ status.Memory = sym e ∙ is in cc)).0 ∙ e

    refused_read : (why : Cause) → ReportedHere (stop.Refused why) → answer ≡ status.Read → ⊥
    refused_read why r e = subst IsSettled (at_read (stop.Refused why) r e) (no_fault why)

    refused_write : (why : Cause) → ReportedHere (stop.Refused why) → answer ≡ status.Write → ⊥
    refused_write why r e = subst IsSettled (at_write (stop.Refused why) r e) (no_fault why)

    abbrev ReadTold : Type 0
    ReadTold = (path : List ℕ) × IsReadFault words known before now path
        × Tells err err_now n m (read_refused path).line

    -- where the status is that of a read, it is the fault of a path that the words name
    pub read_told : (s : Stop) → ReportedHere s → CauseHere s → answer ≡ status.Read → ReadTold
    read_told (stop.Refused why) r h e = absurd (refused_read why r e)
    read_told (stop.Read path) r h e = (
      path.now,
      h,
      (r (λ is. let no : status.Read ≡ status.Memory = sym e ∙ is in cc)).1,
    )
    read_told stop.Write r h e = absurd h
    read_told (stop.Save path) r h e = absurd (let no : status.Write ≡ status.Read =
        at_read (stop.Save path) r e in cc)
    read_told stop.Memory r h e = absurd (let no : status.Memory ≡ status.Read =
        at_read stop.Memory r e in cc)

    -- the files are as before then
    pub read_kept : (left : Option Content) (s : Stop) → ReportedHere s → KeepsAtRead known left s
        → answer ≡ status.Read → left ≡ known
    read_kept left (stop.Refused why) r h e = absurd (refused_read why r e)
    read_kept left (stop.Read path) r h e = h
    read_kept left stop.Write r h e = absurd (let no : status.Write ≡ status.Read =
        at_read stop.Write r e in cc)
    read_kept left (stop.Save path) r h e =
        absurd (let no : status.Write ≡ status.Read = at_read (stop.Save path) r e in cc)
    read_kept left stop.Memory r h e = absurd (let no : status.Memory ≡ status.Read =
        at_read stop.Memory r e in cc)

    -- where it is that of a write before out was written, it is the fault of a path that the words save to
    pub save_told : (out : Option (List ℕ)) (s : Stop) → ReportedHere s → CauseHere s → answer ≡ status.Write
        → FailsOnSave words known out out err err_now writes writes_now n m
    save_told out (stop.Refused why) r h e = absurd (refused_write why r e)
    save_told out (stop.Read path) r h e =
        absurd (let no : status.Read ≡ status.Write = at_write (stop.Read path) r e in cc)
    save_told out stop.Write r h e = absurd h
    save_told out (stop.Save path) r h e = record {
      path = path.now;
      fault = h;
      line = (r (λ is. let no : status.Write ≡ status.Memory = sym e ∙ is in cc)).1;
      unwritten = refl;
    }
    save_told out stop.Memory r h e = absurd (let no : status.Memory ≡ status.Write =
        at_write stop.Memory r e in cc)

    usage_of : (left : Option Content) (s : Stop) → (told s).status ≡ status.Usage
        → FromTo known left (λ files after. Meets lines_of (Comes words) files after (Err s))
        → (command words ≡ None) ⊎ AskForValue words
    usage_of left (stop.Refused why) e k = usage_is words k.0 k.1 (refusal_of why) k.4 e
    usage_of left (stop.Read path) e k = absurd (cc)
    usage_of left stop.Write e k = absurd (cc)
    usage_of left (stop.Save path) e k = absurd (cc)
    usage_of left stop.Memory e k = absurd (cc)

    -- where the status is that of the words
    pub usage_stop : (left : Option Content) (s : Stop) → ReportedHere s
        → FromTo known left (λ files after. Meets lines_of (Comes words) files after (Err s))
        → answer ≡ status.Usage
        → (command words ≡ None) ⊎ AskForValue words
    usage_stop left s r k e =
        let isnt : answer ≢ status.Memory = λ is. let no : status.Usage ≡ status.Memory = sym e ∙ is in cc in
        usage_of left s (sym (r isnt).0 ∙ e) k

    module _ (files after : Content) (e : Ending) (is : Outcome words files e) where
      same_status : (r : Refusal) → Comes words files (Err r) after → r.status ≡ e.status
      same_status r k = ap (λ d. d.status)
          (outcome_unique words files (ending (Err r) after) e (Err r, after, k, refl) is)

      -- with no fault of reading and none of saving the status is that of the outcome
      pub complete_stop : (s : Stop) → ReportedHere s → Meets lines_of (Comes words) files after (Err s)
          → CauseHere s → NoReadFault words before now → NoSaveFault words writes writes_now
          → IsOrMemory e.status answer
      complete_stop (stop.Refused why) r k h none nor =
          subst (λ s. IsOrMemory s answer) (same_status (refusal_of why) k)
          (reported_status (stop.Refused why) r)
      complete_stop (stop.Read path) r k h none nor = absurd (none path.now h.0.0 h.1)
      complete_stop stop.Write r k h none nor = absurd h
      complete_stop (stop.Save path) r k h none nor = absurd (nor path.now h.0.0 h.1)
      complete_stop stop.Memory r k h none nor = inr (reported_memory r)

module _ (words : List (List ℕ)) (files after : Content) (lines : List (List ℕ))
    (k : Comes words files (Ok lines) after) where
  -- where the run came to an answer, so does the outcome
  pub answers : (e : Ending) → Outcome words files e → e.status ≡ status.Answered
  answers e is = ap (λ d. d.status) (outcome_unique words files e (ending (Ok lines) after) is (
    Ok lines,
    after,
    k,
    refl,
  ))

  pub has_command : command words ≡ None → ⊥
  has_command none = let no = none_comes words files after (Ok lines) k none in absurd (cc)

module _ (words : List (List ℕ)) (known now : Option Content) where
  -- over the files that are told
  pub told_meets : (r : Result Lines Stop)
      → FromTo known now (λ files after. Meets lines_of (Comes words) files after r) → (told : Content)
      → known ≡ Some told → (after : Content) × Meets lines_of (Comes words) told after r
  told_meets r k told is =
      (k.1, subst (λ files. Meets lines_of (Comes words) files k.1 r) (sym (k.2 told is)) k.4)

module _ (words : List (List ℕ)) (known now : Option Content)
    (out err err_now : Option (List ℕ)) (n m : ℕ) where
  abbrev EndsHere : Status → Option (List ℕ) → Content → Type 0
  EndsHere answer out_after files = (e : Ending) × Outcome words files e
      × EndsAs e answer known now out out_after err err_now n m

  -- the run stopped before it wrote
  refused : (s : Stop) (answer : Status) → IsSettled answer → Reported s answer err err_now n m
      → (files after : Content) → Leaves known now after → Comes words files (Err (told s)) after
      → EndsHere answer out files
  refused s answer h r files after leaves k =
      let t = r (not_memory answer h) in (
        ending (Err (told s)) after,
        (Err (told s), after, k, refl),
        record {
          same_status = t.0;
          same_files = leaves;
          on_out = Appends_nothing out;
          on_err = t.1;
        },
      )

  unsettled : {A : Type 0} (s : Stop) (answer : Status) → IsSettled answer → Reported s answer err err_now n m
      → (IsSettled (told s).status → ⊥) → A
  unsettled s answer h r none = absurd (none (subst IsSettled (r (not_memory answer h)).0 h))

  pub stopped : (s : Stop) (answer : Status) → IsSettled answer → Reported s answer err err_now n m
      → FromTo known now (λ files after. Meets lines_of (Comes words) files after (Err s))
      → OfFiles known (EndsHere answer out)
  stopped (stop.Refused why) answer h r k =
      (k.0, k.2, refused (stop.Refused why) answer h r k.0 k.1 k.3 k.4)
  stopped (stop.Read path) answer h r k = unsettled (stop.Read path) answer h r (λ h. h)
  stopped stop.Write answer h r k = unsettled stop.Write answer h r (λ h. h)
  stopped (stop.Save path) answer h r k = unsettled (stop.Save path) answer h r (λ h. h)
  stopped stop.Memory answer h r k = unsettled stop.Memory answer h r (λ h. h)

module _ (words : List (List ℕ)) (known now : Option Content) (out out_now err err_now : Option
    (List ℕ)) where
  abbrev MeetsHere : Result Lines Stop → Type 0
  MeetsHere r = FromTo known now (λ files after. Meets lines_of (Comes words) files after r)

  -- the run wrote all of the answer
  pub wrote_all : (lines : Lines) (n : ℕ) → MeetsHere (Ok lines)
      → Appends out out_now (concat (lines_of lines))
      → OfFiles known (λ files. (e : Ending) × Outcome words files e
      × EndsAs e status.Answered known now out out_now err err n n)
  wrote_all lines n k h = (
    k.0,
    k.2,
    (
      ending (Ok (lines_of lines)) k.1,
      (Ok (lines_of lines), k.1, k.4, refl),
      record {
        same_status = refl;
        same_files = k.3;
        on_out = h;
        on_err = (0, Appends_nothing err, λ lt. absurd (omega arith));
      },
    ),
  )

  -- the run wrote the first bytes of the answer
  pub wrote_front : (lines : Lines) → MeetsHere (Ok lines)
      → AppendsFront out out_now (concat (lines_of lines)) → OfFiles known (AnswersFront words out out_now)
  wrote_front lines k h = (
    k.0,
    k.2,
    (
      ending (Ok (lines_of lines)) k.1,
      (Ok (lines_of lines), k.1, k.4, refl),
      refl,
      h,
    ),
  )

  -- a write to out failed
  pub fails_on_out : (lines : Lines) (s : Stop) (answer : Status) (before after n m : ℕ)
      → Reported s answer err err_now n m → IsWriteStop before after s → MeetsHere (Ok lines)
      → AppendsFront out out_now (concat (lines_of lines)) → answer ≡ status.Write
      → FailsOnOut words known out out_now err err_now before after n m
  fails_on_out lines s answer before after n m r h k front e =
      let told = write_told answer err err_now n m s before after r h e in
      record { rose = told.0; line = told.1; front = wrote_front lines k front }

  module _ (before after writes writes_now : List ℕ → ℕ) (Written : Type 0) where
    abbrev ReadFailed : List ℕ → Type 0
    ReadFailed path = IsReadFault words known before after path

    abbrev SaveFailed : List ℕ → Type 0
    SaveFailed path = IsSaveFault words known writes writes_now path

    abbrev CauseOf : Stop → Type 0
    CauseOf s = HasCause (MayRead words known) (MaySave words known) before after writes writes_now s

    may_tell : (s : Stop) (files left : Content) → Meets lines_of (Comes words) files left (Err s)
        → CauseOf s → MayTell words ReadFailed SaveFailed Written (told s).line files
    may_tell (stop.Refused why) files left k h =
        inr (inl (ending (Err (refusal_of why)) left, (Err (refusal_of why), left, k, refl), refl))
    may_tell (stop.Read path) files left k h = inr (inr (inl (path.now, h, refl)))
    may_tell stop.Write files left k h = absurd h
    may_tell (stop.Save path) files left k h = inr (inr (inr (inl (path.now, h, refl))))
    may_tell stop.Memory files left k h = inl refl

    own_line : (s : Stop) (files left : Content) → Meets lines_of (Comes words) files left (Err s)
        → CauseOf s → AppendsFront err err_now (told s).line
        ⊎ AppendsFront err err_now memory_refused.line
        → ToldFront words ReadFailed SaveFailed Written err err_now files
    own_line s files left k h (inl own) = ((told s).line, own, may_tell s files left k h)
    own_line s files left k h (inr other) = (memory_refused.line, other, inl refl)

    -- a run that stopped before it wrote, and then wanted memory
    pub memory_of_stop : (s : Stop) → out ≡ out_now → MeetsHere (Err s)
        → CauseOf s → AppendsFront err err_now (told s).line
        ⊎ AppendsFront err err_now memory_refused.line
        → OfFiles known (WantsMemory words ReadFailed SaveFailed Written out out_now err err_now)
    memory_of_stop s same k h told = (
      k.0,
      k.2,
      record { on_out = inl same; on_err = own_line s k.0 k.1 k.4 h told },
    )

  module _ (before after writes writes_now : List ℕ → ℕ) (n m : ℕ) where
    abbrev ReadRose : List ℕ → Type 0
    ReadRose path = IsReadFault words known before after path

    abbrev SaveRose : List ℕ → Type 0
    SaveRose path = IsSaveFault words known writes writes_now path

    written_line : (s : Stop) (files : Content) → Answers words files → IsWriteStop n m s
        → AppendsFront err err_now (told s).line ⊎ AppendsFront err err_now memory_refused.line
        → ToldFront words ReadRose SaveRose (Rose n m) err err_now files
    written_line (stop.Refused why) files is h line = absurd h
    written_line (stop.Read path) files is h line = absurd h
    written_line stop.Write files is h (inl own) =
        (write_refused.line, own, inr (inr (inr (inr (h, is, refl)))))
    written_line stop.Write files is h (inr other) = (memory_refused.line, other, inl refl)
    written_line (stop.Save path) files is h line = absurd h
    written_line stop.Memory files is h (inl own) = (memory_refused.line, own, inl refl)
    written_line stop.Memory files is h (inr other) = (memory_refused.line, other, inl refl)

    -- a run that wrote the first bytes of the answer, and then wanted memory
    pub memory_of_write : (s : Stop) → OfFiles known (AnswersFront words out out_now) → IsWriteStop n m s
        → AppendsFront err err_now (told s).line ⊎ AppendsFront err err_now memory_refused.line
        → OfFiles known (WantsMemory words ReadRose SaveRose (Rose n m) out out_now err err_now)
    memory_of_write s w h line = let is = w.2 in
        (w.0, w.1, record { on_out = inr is; on_err = written_line s w.0 (is.0, is.1, is.2) h line })
