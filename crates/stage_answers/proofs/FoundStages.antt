-- The stages of a group, found as the walk over one file goes and saved to another.
use Rattle.std.proofs.Common.{◌≡◌, ◌∙◌, ◌⊎◌, inl, inr, ℕ, List, length, take, refl, sym, ap, subst, arith}
use Rattle.std.specs.Prelude.{⊤}
use Rattle.std.proofs.lemmas.List.{take_all}
use Rattle.std.specs.Option.{option_map}
use Rattle.std.specs.declared.option.Option.{Option}
use Rattle.std.specs.declared.option.Option.TheVariants.{None, Some}
use Rattle.std.specs.declared.result.Result.{Result}
use Rattle.std.specs.declared.result.Result.TheVariants.{Ok, Err}
use Rattle.coho_io.specs.Content.{Content, file, with_file}
use Rattle.p_groups.specs.PGroups.{PGroup}
use Rattle.pc_text.specs.Canonical.{canonical}
use Rattle.power_commutator.specs.Presentations.{Presentation}
use Rattle.stage_records.specs.Walks.{WalkFault, Walked}
use Rattle.stage_file.specs.Honest.{file_of, walk_of}
use Rattle.stage_walk.specs.Asked.{AfterWalk, Asked, Refuses, WalkRefuses}
use Rattle.stage_walk.specs.Saved.{SavesAll, SavesFront, saved}
use Rattle.coho_steps.specs.Groups.{IsTableOf}
use Rattle.coho_steps.specs.Told.{WhereTold, Agrees, Leaves, AreSameBut, FromAny, FromTo, OfTold}
use Rattle.coho_steps.specs.Refusals.{file_refused}
use Rattle.stage_answers.specs.StageFiles.{AreTaken, FindStages, FitStages, IsFrontSaved, IsWalkRefusal}
use Rattle.stage_answers.specs.StageFiles.{OrMissing, TakeStages, Walk}
use Rattle.coho_steps.specs.Steps.{Refusal}
use Rattle.coho_words.specs.Words.{StageFiles}
use Rattle.stage_answers.proofs.PutFiles.{other_file, there_file}
use Rattle.stage_answers.proofs.SomeFiles.{ends_so}
use Rattle.stage_walk.specs.Asked as walking

abbrev fault_in : Option Walked → Option WalkFault
fault_in None = None
fault_in (Some w) = w.fault

module _ (P : Presentation) (G : PGroup) (is : IsTableOf P G) where
  -- ---- what the walk comes to, the step comes to

  pub bytes_of : (o : Option (List ℕ)) (f : List ℕ → Walked) (w : Walked) → option_map f o ≡ Some w
      → (bytes : List ℕ) × (o ≡ Some bytes) × (f bytes ≡ w)
  bytes_of None f w e = absurd (let no : ◌≡◌ {A = Option Walked} None (Some w) = e in cc)
  bytes_of (Some bytes) f w e = (bytes, refl, (let same : f bytes ≡ w = cc in same))

  pub walk_taken : (n : ℕ) (path bytes : List ℕ) (files : Content) (c : ℕ) → file files path ≡ Some bytes
      → walk_of G (canonical P) n bytes ≡ ends_so c None → TakeStages P n (Some path) files (Ok c) files
  walk_taken n path bytes files c there walked =
      subst (λ (o : Option (List ℕ)). OrMissing path o (Walk P n) files (Ok c) files) (sym there)
      (record { group = G; is_table = is; holds = walked }, refl)

  pub walk_refused : (n : ℕ) (path bytes : List ℕ) (files : Content) (c : ℕ) (fault : WalkFault)
      → file files path ≡ Some bytes → walk_of G (canonical P) n bytes ≡ ends_so c (Some fault)
      → TakeStages P n (Some path) files (Err (file_refused fault)) files
  walk_refused n path bytes files c fault there walked =
      subst (λ (o : Option (List ℕ)). OrMissing path o (Walk P n) files (Err (file_refused fault)) files)
      (sym there) (
        record {
          group = G;
          is_table = is;
          holds = subst (λ (w : Walked). IsWalkRefusal w (file_refused fault)) (sym walked) refl;
        },
        refl,
      )

  module _ (n : ℕ) (save : Option (List ℕ)) where
    abbrev of_from : Option (List ℕ) → Asked
    of_from from = record { group = G; text = canonical P; degree = n; from = from; save = save }

    -- so it is refused
    abbrev pub Stops : WalkFault → Option (List ℕ) → Content → Type 0
    Stops fault from files = TakeStages P n from files (Err (file_refused fault)) files

    known_goes : (from : Option (List ℕ)) (files : Content) (c : ℕ) → walking.Takes (of_from from) files c
        → AreTaken P n from files
    known_goes None files c h = (0, (refl, refl))
    known_goes (Some path) files c h =
        let b = bytes_of (file files path) (walk_of G (canonical P) n) (ends_so c None) h in
        (c, walk_taken n path b.0 files c b.1 b.2)

    known_stops : (fault : WalkFault) (from : Option (List ℕ)) (files : Content)
        → Refuses (of_from from) files fault → Stops fault from files
    known_stops fault None files h = absurd (let no : ◌≡◌ {A = Option WalkFault} None (Some fault) =
        ap (λ (o : Option Walked). fault_in o) h.1 in cc)
    known_stops fault (Some path) files h =
        let b = bytes_of (file files path) (walk_of G (canonical P) n) (ends_so h.0 (Some fault)) h.1 in
        walk_refused n path b.0 files h.0 fault b.1 b.2

    -- ---- files over which it goes so, where none are told

    put : (path bytes : List ℕ) (seen : Content) → AreSameBut (Some path) seen (with_file seen path bytes)
    put path bytes seen = λ p other. other_file seen path p bytes (λ same. other (ap (λ q. Some q) same))

    -- files that agree, other than seen only where none are told
    pub record Chosen (known : Option Content) (from : Option (List ℕ)) (seen : Content)
        (Q : Content → Type 0) : Type 0 where
      pub files : Content
      pub same : AreSameBut from seen files
      pub agrees : Agrees known files
      pub holds : Q files

    nothing_told : (files : Content) → Agrees None files
    nothing_told files told e = absurd (let no : ◌≡◌ {A = Option Content} None (Some told) = e in cc)

    pub choose_told : (told : Content) (from : Option (List ℕ)) (seen : Content) (Q : Content → Type 0)
        → Agrees (Some told) seen → Q told → Chosen (Some told) from seen Q
    choose_told told from seen Q agrees q = record {
      files = seen;
      same = λ path other. refl;
      agrees = agrees;
      holds = subst Q (agrees told refl) q;
    }

    pub choose_put : (path bytes : List ℕ) (seen : Content) (Q : Content → Type 0)
        → Q (with_file seen path bytes) → Chosen None (Some path) seen Q
    choose_put path bytes seen Q q = record {
      files = with_file seen path bytes;
      same = put path bytes seen;
      agrees = nothing_told (with_file seen path bytes);
      holds = q;
    }

    choose_seen : (seen : Content) (from : Option (List ℕ)) (Q : Content → Type 0) → Q seen
        → Chosen None from seen Q
    choose_seen seen from Q q =
        record { files = seen; same = λ path other. refl; agrees = nothing_told seen; holds = q }

    -- where the walk refuses nothing
    pub choose_goes : (known : Option Content) (from : Option (List ℕ)) (seen : Content) → Agrees known seen
        → ((files : Content) → walking.AreKnown (of_from from) known files
        → (c : ℕ) × walking.Takes (of_from from) files c)
        → ((bytes : List ℕ) × ((c : ℕ) × (walk_of G (canonical P) n bytes ≡ ends_so c None)))
        → Chosen known from seen (AreTaken P n from)
    choose_goes (Some told) from seen agrees walk some =
        let w = walk told (inl refl) in choose_told told from seen (AreTaken P n from) agrees
        (known_goes from told w.0 w.1)
    choose_goes None None seen agrees walk some = choose_seen seen None (AreTaken P n None) (0, (refl, refl))
    choose_goes None (Some path) seen agrees walk some =
        choose_put path some.0 seen (AreTaken P n (Some path)) (
          some.1.0,
          walk_taken n path some.0 (with_file seen path some.0) some.1.0
              (there_file seen path some.0) some.1.1,
        )

    -- where it refuses this
    pub choose_stops : (known : Option Content) (from : Option (List ℕ)) (seen : Content) (fault : WalkFault)
        → Agrees known seen → WalkRefuses (of_from from) known fault
        → ((bytes : List ℕ) × ((c : ℕ) × (walk_of G (canonical P) n bytes ≡ ends_so c (Some fault))))
        → Chosen known from seen (Stops fault from)
    choose_stops (Some told) from seen fault agrees walk some =
        choose_told told from seen (Stops fault from) agrees (known_stops fault from told (walk told
        (inl refl)))
    choose_stops None None seen fault agrees walk some =
        choose_seen seen None (Stops fault None) (known_stops fault None seen (walk seen (inr refl)))
    choose_stops None (Some path) seen fault agrees walk some =
        choose_put path some.0 seen (Stops fault (Some path))
        (walk_refused n path some.0 (with_file seen path some.0) some.1.0 fault
        (there_file seen path some.0) some.1.1)

    -- ---- the stages are then saved, or those before the first that is too large

    module _ (from : Option (List ℕ)) (known now : Option Content) where
      abbrev named : StageFiles
      named = record { from = from; save = save }

      abbrev all : Content → Content
      all files = saved save (file_of G (canonical P) n) files

      abbrev Ends : Result (Unit {0}) Refusal → Type 0
      Ends end = FromAny from known now (λ files left. FindStages P n named files end left)

      save_leaves : SavesAll (of_from from) known now → (files : Content) → Agrees known files
          → Leaves known now (all files)
      save_leaves saves files agrees told e = saves told e
          ∙ ap (λ (c : Content). Some (all c)) (agrees told e)

      pub goes : (end : Result (Unit {0}) Refusal)
          → ((files : Content) → FitStages P n files end files) → SavesAll (of_from from) known now
          → ((seen : Content) → Agrees known seen → Chosen known from seen (AreTaken P n from)) → Ends end
      goes end fit saves chosen = λ seen agrees. (let found = chosen seen agrees in (
        found.files,
        all found.files,
        found.agrees,
        save_leaves saves found.files found.agrees,
        (
          found.same,
          inl (
            found.holds.0,
            found.files,
            found.holds.1,
            (fit found.files, record { group = G; is_table = is; holds = refl }),
          ),
        ),
      ))

      -- or nothing is saved
      pub stops : (fault : WalkFault) → now ≡ known
          → ((seen : Content) → Agrees known seen → Chosen known from seen (Stops fault from))
          → Ends (Err (file_refused fault))
      stops fault same chosen = λ seen agrees. (let found = chosen seen agrees in (
        found.files,
        found.files,
        found.agrees,
        (λ told e. same ∙ e ∙ ap (λ (c : Content). Some c) (found.agrees told e)),
        (found.same, inr (file_refused fault, found.holds, refl)),
      ))

      -- ---- what is left

      -- where files are told, nothing is refused
      pub are_taken : AfterWalk (of_from from) known (λ _. ⊤) → WhereTold known (AreTaken P n from)
      are_taken walk told e = let w = walk told (inl e) in known_goes from told w.0 w.1

      pub left_all : SavesAll (of_from from) known now → AfterWalk (of_from from) known (λ _. ⊤)
          → OfTold known now (IsFrontSaved P n named)
      left_all saves walk told e = (
        all told,
        saves told e,
        inr (
          are_taken walk told e,
          record {
            group = G;
            is_table = is;
            holds = (
              length (file_of G (canonical P) n),
              ap (λ (bytes : List ℕ). saved save bytes told)
                  (sym (take_all (length (file_of G (canonical P) n)) (file_of G (canonical P) n)
                  (omega arith))),
            );
          },
        ),
      )

      pub left_front : SavesFront (of_from from) known now → OfTold known now (IsFrontSaved P n named)
      left_front saves told e = go (saves told e)
        where
          go : (now ≡ Some told) ⊎ ((k : ℕ) × (c : ℕ) × walking.Takes (of_from from) told c
              × (now ≡ Some (saved save (take k (file_of G (canonical P) n)) told)))
              → (left : Content) × (now ≡ Some left) × IsFrontSaved P n named told left
          go (inl same) = (told, same, inl refl)
          go (inr s) = (
            saved save (take s.0 (file_of G (canonical P) n)) told,
            s.3,
            inr (known_goes from told s.1 s.2, record { group = G; is_table = is; holds = (s.0, refl) }),
          )

      pub left_same : now ≡ known → OfTold known now (IsFrontSaved P n named)
      left_same same told e = (told, same ∙ e, inl refl)

      -- a fault of reading or saving, and want of memory, say nothing of the step
      pub anyhow : (Q : Content → Content → Type 0) → ((files left : Content) → Q files left)
          → OfTold known now (IsFrontSaved P n named) → FromAny from known now Q
      anyhow Q q left = λ seen agrees. at known refl left seen agrees
        where
          at : (o : Option Content) → known ≡ o → OfTold known now (IsFrontSaved P n named) → (seen : Content)
              → Agrees known seen → FromTo known now (λ files after. AreSameBut from seen files × Q files
              after)
          at (Some told) e left seen agrees =
              let l = left told e in
              (seen, l.0, agrees, (λ other f. l.1), ((λ path other. refl), q seen l.0))
          at None e left seen agrees = (
            seen,
            seen,
            agrees,
            (λ other f. absurd (let no : ◌≡◌ {A = Option Content} None (Some other) = sym e ∙ f in cc)),
            ((λ path other. refl), q seen seen),
          )
