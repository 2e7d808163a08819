-- The presentation of a file is the same where that file is, and its text is no stage file.
use Rattle.std.proofs.Common.{◌≡◌, ◌∙◌, inl, inr, ℕ, suc, ◌+◌, min, List, [], ◌∷◌, Bool, true, false, length}
use Rattle.std.proofs.Common.{take, refl, sym, ap, subst, true≢false, arith, ◌==◌}
use Rattle.std.proofs.lemmas.Bool.Decides.{nat_tests}
use Rattle.std.specs.List.{slice_split, onto_first}
use Rattle.std.proofs.lemmas.Slice.Eq.{bytes_eq-Decides}
use Rattle.std.specs.Option.{option_map}
use Rattle.std.specs.declared.option.Option.{Option}
use Rattle.std.specs.declared.option.Option.TheVariants.{None, Some}
use Rattle.std.specs.declared.result.Result.{Result}
use Rattle.std.specs.declared.result.Result.TheVariants.{Ok, Err}
use Rattle.limits.specs.declared.TheConstants.{GREATEST_DEGREE, LONGEST_TEXT}
use Rattle.coho_io.specs.Content.{Content, file}
use Rattle.p_groups.specs.PGroups.{PGroup}
use Rattle.pc_text.specs.Canonical.{canonical}
use Rattle.pc_text.specs.Faults.{Fault}
use Rattle.pc_text.specs.Lines.{numbered}
use Rattle.pc_text.specs.Texts.{Content as Said, presentation_of, read, reads}
use Rattle.stage_records.specs.Records.{header_bytes}
use Rattle.stage_records.specs.Walks.{Walked, agrees}
use Rattle.stage_records.proofs.Cuts.{walk-header}
use Rattle.stage_file.specs.Honest.{records_of}
use Rattle.coho_steps.specs.Groups.{IsTableOf}
use Rattle.stage_answers.specs.StageFiles.{IsWalkRefusal, OrMissing, TakeStages, Walk, WalkFile}
use Rattle.coho_steps.proofs.Loaded.{loaded, table_of, text_is}
use Rattle.power_commutator.specs.declared.TestName.{TestName}
use Rattle.power_commutator.specs.Presentations.{Presentation, first_fault}
use Rattle.coho_steps.specs.Loading.{Accept, FitLength, FitOrder, Load, OrFault, ReadText, UnlessFalse}
use Rattle.coho_run.specs.Outcome.{Answer, Given}
use Rattle.coho_steps.specs.Refusals.{file_refused, read_refused}
use Rattle.coho_steps.specs.Told.{AreSameBut}
use Rattle.coho_run.specs.Saving.{reads_twice, same_path}
use Rattle.sample_groups.specs.Samples.{sample}
use Rattle.coho_steps.specs.Steps.{Refusal, Step, ◌>>=◌, OrRefuse, RefuseIf}
use Rattle.coho_words.specs.Words.{Command, Group, Resolve, Ring, Check, Value, Sample, from_of}
use Rattle.coho_steps.proofs.Loads.{after_length, after_order, after_text}
use Rattle.pc_text.specs.Faults as texts
use Rattle.stage_records.specs.Walks as walks

-- ---- steps that read no file

-- where such a step goes on from some files, it does from all
abbrev IsBlind : {A : Type 0} → Step A → Type 0
IsBlind {A} step = (x : A) (old new files : Content) → step old (Ok x) new → step files (Ok x) files

blind_then : {A B : Type 0} (first : Step A) (next : A → Step B) → IsBlind first → ((x : A)
    → IsBlind (next x))
    → IsBlind (first >>= next)
blind_then first next f n x old new files (inl h) =
    inl (h.0, files, f h.0 old h.1 files h.2, n h.0 x h.1 new files h.3)
blind_then first next f n x old new files (inr h) = absurd (let no = h.2 in cc)

blind_if : (b : Bool) (q : Refusal) → IsBlind (RefuseIf b q)
blind_if true q x old new files h = absurd (let no = h.0 in cc)
blind_if false q x old new files h = (h.0, refl)

blind_fault : (r : Result Presentation Fault) → IsBlind (OrFault r)
blind_fault (Ok P) x old new files h = (h.0, refl)
blind_fault (Err fault) x old new files h = absurd (let no = h.0 in cc)

blind_false : (P : Presentation) (o : Option TestName) → IsBlind (UnlessFalse P o)
blind_false P None x old new files h = (h.0, refl)
blind_false P (Some name) x old new files h = absurd (let no = h.0 in cc)

blind_accept : (P : Presentation) → IsBlind (Accept P)
blind_accept P = blind_then (FitOrder P) (after_order P) (blind_if _ _) (λ _. blind_false P (first_fault P))

blind_text : (text : List ℕ) → IsBlind (after_text text)
blind_text text = blind_then (ReadText text) Accept
    (blind_then (FitLength text) (after_length text) (blind_if _ _) (λ _. blind_fault
    (read text))) blind_accept

-- ---- a file that is read is read so in all files that have it

front_is : (path : List ℕ) (o : Option (List ℕ)) (text : List ℕ) (old new : Content)
    → OrRefuse (read_refused path) o old (Ok text) new → o ≡ Some text
front_is path None text old new h = absurd (let no = h.0 in cc)
front_is path (Some other) text old new h = let e : Ok other ≡ Ok text = sym h.0 in cc

front_of : (path : List ℕ) (o : Option (List ℕ)) (text : List ℕ) (files : Content) → o ≡ Some text
    → OrRefuse (read_refused path) o files (Ok text) files
front_of path o text files e = subst (λ (o : Option (List ℕ)). OrRefuse (read_refused path) o files
    (Ok text) files)
    (sym e) (refl, refl)

abbrev front : Content → List ℕ → Option (List ℕ)
front files path = option_map (take (LONGEST_TEXT + 1)) (file files path)

pub load_same : (path : List ℕ) (P : Presentation) (seen new files : Content)
    → file files path ≡ file seen path
    → Load path seen (Ok P) new → Load path files (Ok P) files
load_same path P seen new files e (inl h) =
    let is : front seen path ≡ Some h.0 = front_is path (front seen path) h.0 seen h.1 h.2 in
    inl (
      h.0,
      files,
      front_of path (front files path) h.0 files (ap (option_map (take (LONGEST_TEXT + 1))) e ∙ is),
      blind_text h.0 P h.1 new files h.3,
    )
load_same path P seen new files e (inr h) = absurd (let no = h.2 in cc)

other_path : (path : List ℕ) (named : Option (List ℕ)) → same_path (Some path) named ≡ false
    → named ≡ Some path → ⊥
other_path path None h e = let no : ◌≡◌ {A = Option (List ℕ)} None (Some path) = e in cc
other_path path (Some other) h e =
    let same : other ≡ path = cc in
    true≢false (sym ((bytes_eq-Decides path other).1 (sym same)) ∙ h)

-- the presentation is the same where every file but the stage file that is read is
pub given_same : (c : Command) (P : Presentation) (seen new files : Content) → reads_twice c ≡ false
    → AreSameBut (from_of c) seen files → Given c seen (Ok P) new → Given c files (Ok P) files
given_same (Group path) P seen new files once same h =
    load_same path P seen new files (same path (other_path path None refl)) h
given_same (Resolve path n) P seen new files once same h =
    load_same path P seen new files (same path (other_path path None refl)) h
given_same (Ring path n stages) P seen new files once same h =
    load_same path P seen new files (same path (other_path path stages.from once)) h
given_same (Check path stages) P seen new files once same h =
    load_same path P seen new files (same path (other_path path (Some stages) once)) h
given_same (Value path k es) P seen new files once same h =
    load_same path P seen new files (same path (other_path path None refl)) h
given_same (Sample k) P seen new files once same h = blind_accept (sample k) P seen new files h

-- ---- a text begins with another byte than a stage file

-- the file that was loaded is there, and a text that was read stands at its front
pub loaded_front : (path : List ℕ) (P : Presentation) (seen new : Content) → Load path seen (Ok P) new
    → (text : List ℕ) × (front seen path ≡ Some text) × ((old : Content)
    → (new : Content) × after_text text old (Ok P) new)
loaded_front path P seen new (inl h) = (
  h.0,
  front_is path (front seen path) h.0 seen h.1 h.2,
  λ old. (old, blind_text h.0 P h.1 new old h.3),
)
loaded_front path P seen new (inr h) = absurd (let no = h.2 in cc)

bytes_of : (o : Option (List ℕ)) (text : List ℕ) → option_map (take (LONGEST_TEXT + 1)) o ≡ Some text
    → (bytes : List ℕ) × (o ≡ Some bytes) × (take (LONGEST_TEXT + 1) bytes ≡ text)
bytes_of None text e = absurd (let no : ◌≡◌ {A = Option (List ℕ)} None (Some text) = e in cc)
bytes_of (Some bytes) text e = (bytes, refl, (let same : take (LONGEST_TEXT + 1) bytes ≡ text = cc in same))

abbrev stood : Result Said Fault → Result Presentation Fault
stood r = texts.◌>>=◌ r (λ c. Ok (presentation_of c))

-- such a text does not begin with the first letter of a stage file
no_letter : (parts : List (List ℕ)) (P : Presentation)
    → stood (reads (numbered 1 (onto_first 99 parts))) ≡ Ok P → ⊥
no_letter [] P h = let no : ◌≡◌ {A = Result Presentation Fault} _ (Ok P) = h in cc
no_letter (part ∷ []) P h = let no : ◌≡◌ {A = Result Presentation Fault} _ (Ok P) = h in cc
no_letter (part ∷ next ∷ parts) P h = let no : ◌≡◌ {A = Result Presentation Fault} _ (Ok P) = h in cc

not_letter : (b : ℕ) (bs : List ℕ) (P : Presentation) → read (b ∷ bs) ≡ Ok P → (b == 99) ≡ false
not_letter b bs P h = go (b == 99) refl
  where
    go : (t : Bool) → (b == 99) ≡ t → (b == 99) ≡ false
    go false e = e
    go true e =
        let is : b ≡ 99 = grind (arith, nat_tests) in
        absurd (no_letter (slice_split (λ x. x == 10) bs) P (subst (λ x. read (x ∷ bs) ≡ Ok P) is h))

min_suc : (n : ℕ) → min 8 (suc n) ≡ suc (min 7 n)
min_suc n = omega arith

differs : (text : List ℕ) (b : ℕ) (bs : List ℕ) → (b == 99) ≡ false
    → agrees 8 (header_bytes text) (b ∷ bs) ≡ false
unfolding agrees header_bytes
differs text b bs e = rw (min_suc (length bs), e) refl

other_header : (text bytes : List ℕ) (P : Presentation) → read (take (LONGEST_TEXT + 1) bytes) ≡ Ok P
    → agrees 8 (header_bytes text) bytes ≡ false
other_header text [] P h = absurd (let no : ◌≡◌ {A = Result Presentation Fault} _ (Ok P) = h in cc)
other_header text (b ∷ bs) P h = differs text b bs (not_letter b (take LONGEST_TEXT bs) P h)

-- so it is refused as one
module _ (path : List ℕ) (P : Presentation) (seen : Content) (h : Load path seen (Ok P) seen) where
  refuses_header : (G : PGroup) → IsTableOf P G → (c : ℕ)
      → WalkFile P c path seen (Err (file_refused walks.Header)) seen
  refuses_header G is c =
      let front = loaded_front path P seen seen h in
      let bytes = bytes_of (file seen path) front.0 front.1 in
      let reads = front.2 seen in
      let text = first_step front.0 seen reads.0 reads.1 in
      let read_is : read (take (LONGEST_TEXT + 1) bytes.0) ≡ Ok text.0
      = ap read bytes.2 ∙ text_is front.0 text.0 seen text.1 text.2 in
      let walked = walk-header (header_bytes (canonical P)) (records_of G) c bytes.0
      (other_header (canonical P) bytes.0 text.0 read_is) in
      subst (λ (o : Option (List ℕ)). OrMissing path o (Walk P c) seen (Err (file_refused walks.Header)) seen)
      (sym bytes.1) (
        record {
          group = G;
          is_table = is;
          holds = subst (λ (w : Walked). IsWalkRefusal w (file_refused walks.Header)) (sym walked) refl;
        },
        refl,
      )
    where
      first_step : (text : List ℕ) (old new : Content) → after_text text old (Ok P) new
          → (Q : Presentation) × (mid : Content) × ReadText text old (Ok Q) mid
      first_step text old new (inl k) = (k.0, k.1, k.2)
      first_step text old new (inr k) = absurd (let no = k.2 in cc)

same_is : (path : List ℕ) (named : Option (List ℕ)) → same_path (Some path) named ≡ true → named ≡ Some path
same_is path None e = absurd (true≢false (sym e))
same_is path (Some other) e = ap (λ p. Some p) (sym ((bytes_eq-Decides path other).0 e))

-- a command whose stage file is the file of its presentation is refused by the header
pub twice : (c : Command) (P : Presentation) (seen : Content) → reads_twice c ≡ true
    → Given c seen (Ok P) seen
    → Answer c P seen (Err (file_refused walks.Header)) seen
twice (Group path) P seen e h = absurd (true≢false (sym e))
twice (Resolve path n) P seen e h = absurd (true≢false (sym e))
twice (Ring path n stages) P seen e h =
    let t = table_of P (loaded path P seen seen h) in
    let walked = refuses_header path P seen h t.0 t.1 n in
    let taken = subst (λ (from : Option (List ℕ)). TakeStages P n from seen (Err
    (file_refused walks.Header)) seen)
    (sym (same_is path stages.from e)) walked in
    inr (file_refused walks.Header, inr (file_refused walks.Header, taken, refl), refl)
twice (Check path stages) P seen e h =
    let t = table_of P (loaded path P seen seen h) in
    let walked = refuses_header path P seen h t.0 t.1 GREATEST_DEGREE in
    let same : ◌≡◌ {A = Option (List ℕ)} (Some stages) (Some path) = same_is path (Some stages) e in
    let is : path ≡ stages = cc in
    inr (
      file_refused walks.Header,
      subst (λ p. WalkFile P GREATEST_DEGREE p seen (Err (file_refused walks.Header)) seen) is walked,
      refl,
    )
twice (Value path k es) P seen e h = absurd (true≢false (sym e))
twice (Sample k) P seen e h = absurd (true≢false (sym e))
