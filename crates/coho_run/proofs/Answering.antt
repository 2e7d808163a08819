-- The answer to words, from the calls that read them, load a presentation and answer.
use Rattle.std.proofs.Common.{◌≡◌, ◌∙◌, inl, inr, ℕ, zero, suc, List, [], ◌∷◌, true, false, refl, sym, ap}
use Rattle.std.proofs.Common.{subst, arith}
use Rattle.std.specs.List.{Contains}
use Rattle.std.proofs.lemmas.List.Elements.{Contains-append_left, Contains-append_right}
use Rattle.std.specs.declared.option.Option.{Option}
use Rattle.std.specs.declared.option.Option.TheVariants.{None, Some}
use Rattle.std.specs.declared.result.Result.{Result}
use Rattle.std.specs.declared.result.Result.TheVariants.{Ok, Err}
use Rattle.std.specs.Result.{IfErr}
use Rattle.coho_io.specs.Causes.{NoneFell}
use Rattle.coho_io.specs.Content.{Content, file}
use Rattle.power_commutator.specs.Presentations.{Presentation}
use Rattle.coho_steps.specs.declared.stop.Stop.{Stop}
use Rattle.coho_words.specs.declared.words.Command.{Command as Named}
use Rattle.coho_run.specs.InTurn.{IsSavedInTurn, MayRead, MaySave}
use Rattle.coho_steps.specs.Told.{WhereTold, Agrees, FromTo}
use Rattle.coho_run.specs.Outcome.{Answer, Ask, Comes, Given, Reply}
use Rattle.coho_run.specs.Saving.{Answered, ComesToSave, CommandLeaves, WordsLeave, reads_twice}
use Rattle.stage_answers.specs.Works.{Works}
use Rattle.coho_steps.specs.Steps.{Step}
use Rattle.coho_steps.specs.Stops.{HasCause, HasReadCause, KeepsAtRead, Meets, Settles}
use Rattle.coho_words.specs.Words.{Command, Group, Resolve, Ring, Check, Value, Sample, IsRead, IsSaved}
use Rattle.coho_words.specs.Words.{asked, command, from_of, path_of, paths_of, save_of}
use Rattle.coho_steps.proofs.Chain.{after_ok}
use Rattle.coho_steps.proofs.Lines.{Lines, MeetsOf, itself, lines_of}
use Rattle.coho_run.proofs.Replies.{ask_stop, ask_then, given_stop}
use Rattle.coho_run.proofs.Twice.{given_same, twice}
use Rattle.stage_answers.proofs.Working.{Counts, cause_map, has_cause, is_kept, read_cause, same_kept}
use Rattle.coho_steps.specs.declared.cause.Cause.TheVariants as cause
use Rattle.coho_steps.specs.declared.cause.FilePart.TheVariants as part
use Rattle.coho_steps.specs.declared.stop.Stop.TheVariants as stop

-- ---- the paths of the words are those of their command

there : (path : List ℕ) → Contains (path ∷ []) path
there path = (0, omega arith, refl)

of_path : (o : Option (List ℕ)) (path : List ℕ) → o ≡ Some path → Contains (paths_of o) path
of_path o path e = subst (λ (o : Option (List ℕ)). Contains (paths_of o) path) (sym e) (there path)

one_path : (o : Option (List ℕ)) (path : List ℕ) → Contains (paths_of o) path → o ≡ Some path
one_path None path (i, l, e) = absurd (omega (arith, l))
one_path (Some other) path (zero, l, e) = ap (λ (p : List ℕ). Some p) e
one_path (Some other) path (suc i, l, e) = absurd (omega (arith, l))

module _ (words : List (List ℕ)) (c : Command) (is : command words ≡ Some c) where
  text_read : (path : List ℕ) → Contains (paths_of (path_of c)) path → IsRead words path
  text_read path h = (c, is, Contains-append_left (paths_of (path_of c)) (paths_of (from_of c)) path h)

  -- the file of the presentation is read first
  text_may_read : (known : Option Content) (path : List ℕ) → Contains (paths_of (path_of c)) path
      → MayRead words known path
  text_may_read known path h = (text_read path h, λ told e. (c, is, inl (one_path (path_of c) path h)))

  stages_read : (path : List ℕ) → from_of c ≡ Some path → IsRead words path
  stages_read path e = (
    c,
    is,
    Contains-append_right (paths_of (path_of c)) (paths_of (from_of c)) path (of_path
        (from_of c) path e),
  )

  pub stages_saved : (path : List ℕ) → save_of c ≡ Some path → IsSaved words path
  stages_saved path e = (c, is, of_path (save_of c) path e)

-- ---- the files that a step was met over, where they stay

met : {A : Type 0} (view : Lines → A) (step : Step A) (known now : Option Content) (r : Result Lines Stop)
    → now ≡ known → MeetsOf view step known r → FromTo known now (λ files left. Meets view step files left r)
met view step known now r same h =
    (h.0, h.0, h.1, (λ told e. same ∙ e ∙ ap (λ (c : Content). Some c) (h.1 told e)), h.2)

kept_from : (known mid now : Option Content) → mid ≡ known → (s : Stop) → KeepsAtRead mid now s
    → KeepsAtRead known now s
kept_from known mid now same (stop.Refused why) h = tt
kept_from known mid now same (stop.Read path) h = h ∙ same
kept_from known mid now same stop.Write h = tt
kept_from known mid now same (stop.Save path) h = tt
kept_from known mid now same stop.Memory h = tt

module _ (words : List (List ℕ)) (known : Option Content) (reads writes : Counts) where
  -- the words were refused
  pub at_words : (s : Stop) → Settles asked (Ask words) (Err s)
      → Answered words known known reads reads writes writes (Err s)
  at_words s h = record {
    ends = met lines_of (Comes words) known known (Err s) refl (ask_stop known words s h);
    cause = has_cause asked (Ask words) (MayRead words known) (MaySave words known)
        reads reads writes writes (Err s) h;
    left = λ told e. (told, e, inl refl);
    kept = is_kept asked (Ask words) known known (Err s) h;
  }

  module _ (c : Named) (is : command words ≡ Some (asked c)) (ask : Settles asked (Ask words) (Ok c))
      (mid : Option Content) (reads_mid writes_mid : Counts) (same : mid ≡ known) where
    -- the presentation could not be had
    pub at_given : (s : Stop) → MeetsOf itself (Given (asked c)) known (Err s)
        → HasReadCause (λ path. Contains (paths_of (path_of (asked c))) path) reads reads_mid s
        → Answered words known mid reads reads_mid writes writes_mid (Err s)
    at_given s h cause = record {
      ends = met lines_of (Comes words) known mid (Err s) same
          (ask_then known words c (Err s) ask (given_stop known (asked c) s h));
      cause = read_cause (λ path. Contains (paths_of (path_of (asked c))) path) (MayRead words known)
          (MaySave words known) (text_may_read words (asked c) is known) reads reads_mid writes writes_mid s
          cause;
      left = λ told e. (told, same ∙ e, inl refl);
      kept = same_kept known mid same s;
    }

    module _ (P : Presentation) (given : MeetsOf itself (Given (asked c)) known (Ok P)) where
      comes : (files left : Content) (r : Result Lines Stop) → Given (asked c) files (Ok P) files
          → Meets lines_of (Answer (asked c) P) files left r → Meets lines_of (Comes words) files left r
      comes files left r h m =
          after_ok asked lines_of (Ask words) Reply files files left c r (ask files)
          (after_ok itself lines_of (Given (asked c)) (Answer (asked c)) files files left P r h m)

      abbrev header : Stop
      header = stop.Refused (cause.StageFile part.Header)

      -- the stage file is the file of the presentation
      pub at_twice : reads_twice (asked c) ≡ true
          → Answered words known mid reads reads_mid writes writes_mid (Err header)
      at_twice e = record {
        ends = met lines_of (Comes words) known mid (Err header) same (
          given.0,
          given.1,
          comes given.0 given.0 (Err header) given.2 (twice (asked c) P given.0 e given.2),
        );
        cause = tt;
        left = λ told e. (told, same ∙ e, inl refl);
        kept = tt;
      }

      leaves : (told left : Content) (c : Command) → command words ≡ Some c → Given c told (Ok P) told
          → CommandLeaves c P told left → WordsLeave words told left
      leaves told left (Group path) is h l = inl l
      leaves told left (Resolve path n) is h l = inl l
      leaves told left (Ring path n stages) is h l = inr (record {
        path = path;
        n = n;
        stages = stages;
        asked = is;
        presentation = P;
        loaded = h;
        saved = l;
      })
      leaves told left (Check path stages) is h l = inl l
      leaves told left (Value path k es) is h l = inl l
      leaves told left (Sample k) is h l = inl l

      saves : (told : Content) (path : List ℕ) (c : Command) → command words ≡ Some c
          → Given c told (Ok P) told
          → save_of c ≡ Some path → ComesToSave c P told → IsSavedInTurn words path told
      saves told path (Ring file n stages) is h e t = record {
        file = file;
        n = n;
        stages = stages;
        asked = is;
        named = e;
        presentation = P;
        loaded = h;
        taken = t;
      }
      saves told path (Group file) is h e t = absurd t
      saves told path (Resolve file n) is h e t = absurd t
      saves told path (Check file stages) is h e t = absurd t
      saves told path (Value file k es) is h e t = absurd t
      saves told path (Sample k) is h e t = absurd t

      told_given : (told : Content) → known ≡ Some told → Given (asked c) told (Ok P) told
      told_given told e = subst (λ (files : Content). Given (asked c) files (Ok P) files) (sym
          (given.1 told e)) given.2

      abbrev Reads : List ℕ → Type 0
      Reads path = from_of (asked c) ≡ Some path

      abbrev Saves : List ℕ → Type 0
      Saves path = (save_of (asked c) ≡ Some path) × WhereTold mid (ComesToSave (asked c) P)

      may_read : (path : List ℕ) → Reads path → MayRead words known path
      may_read path e = (
        stages_read words (asked c) is path e,
        λ told k. (asked c, is, inr (e, (P, told_given told k))),
      )

      may_save : (path : List ℕ) → Saves path → MaySave words known path
      may_save path h = (
        stages_saved words (asked c) is path h.0,
        λ told k. saves told path (asked c) is (told_given told k) h.0 (h.1 told (same ∙ k)),
      )

      module _ (now : Option Content) (reads_now writes_now : Counts) (r : Result Lines Stop)
          (once : reads_twice (asked c) ≡ false) (l : NoneFell reads reads_mid)
          (m : NoneFell writes writes_mid)
          (w : Works lines_of (Answer (asked c) P) (from_of (asked c)) (save_of (asked c))
          (CommandLeaves (asked c) P) (ComesToSave (asked c) P) mid now reads_mid reads_now writes_mid
          writes_now r) where
        agrees : Agrees mid given.0
        agrees told e = given.1 told (sym same ∙ e)

        -- the command was answered, or stopped
        pub at_answer : Answered words known now reads reads_now writes writes_now r
        at_answer = let found = w.ends given.0 agrees in record {
          ends = (
            found.0,
            found.1,
            (λ told e. found.2 told (same ∙ e)),
            (λ told e. found.3 told (same ∙ e)),
            comes found.0 found.1 r (given_same (asked c) P given.0 given.0 found.0 once found.4.0 given.2)
                found.4.1,
          );
          cause = caused r w.cause;
          left = λ told e. (let left = w.left told (same ∙ e) in
              (left.0, left.1, leaves told left.0 (asked c) is (told_given told e) left.2));
          kept = stays r w.kept;
        }
          where
            caused : (r : Result Lines Stop)
                → IfErr r (HasCause Reads Saves reads_mid reads_now writes_mid writes_now)
                → IfErr r (HasCause (MayRead words known) (MaySave words known) reads reads_now writes
                writes_now)
            caused (Ok x) h = tt
            caused (Err s) h =
                cause_map Reads (MayRead words known) Saves (MaySave words known) may_read may_save
                reads reads_mid reads_now writes writes_mid writes_now l m s h

            stays : (r : Result Lines Stop) → IfErr r (KeepsAtRead mid now) → IfErr r (KeepsAtRead known now)
            stays (Ok x) h = tt
            stays (Err s) h = kept_from known mid now same s h
