-- The stages that are taken from a file, by its header and its records.
use Rattle.std.proofs.Common.{◌≡◌, ℕ, Bool, true, false, List, subst}
use Rattle.std.specs.declared.option.Option.{Option}
use Rattle.coho_io.specs.Causes.{NoneFell}
use Rattle.coho_io.specs.Content.{Content}
use Rattle.power_commutator.specs.Presentations.{Presentation}
use Rattle.pc_text.specs.Canonical.{canonical}
use Rattle.p_groups.specs.PGroups.{PGroup}
use Rattle.stage_records.specs.Records.{header_bytes}
use Rattle.stage_walk.specs.declared.fault.StagesFault.{StagesFault}
use Rattle.stage_walk.specs.Asked.{AfterWalk, asked_from}
use Rattle.stage_walk.specs.Faults.{IsNumbered, IsWalkStop}
use Rattle.stage_walk.specs.Turns.{EndsAtHeader, GoesOn, IsHeaderAnswer, IsRecordsStop, OfBytes, TakesRecords}
use Rattle.stage_walk.proofs.Whole.{after_header, after_records, records_numbered, records_stop, stop_later}

module _ (G : PGroup) (P : Presentation) (n : ℕ) (path : List ℕ) (known : Option Content) (honest : List ℕ)
    (header : honest ≡ header_bytes (canonical P)) (whole : Bool)
    (answer : OfBytes known path (IsHeaderAnswer honest whole)) where
  -- the file ends in its header
  pub taken_none : whole ≡ false → (last : ℕ) → last ≡ 0
      → AfterWalk (asked_from G P n path) known (λ count. last ≡ count)
  taken_none is last none =
      let ends : OfBytes known path (EndsAtHeader honest) =
      subst (λ b. OfBytes known path (IsHeaderAnswer honest b)) is answer in
      after_header G P n path known honest header last none ends

  -- the file goes on to its records
  module _ (is : whole ≡ true) (now : Option Content) (same : now ≡ known) (H : PGroup) (group : H ≡ G) where
    goes : OfBytes known path (GoesOn honest)
    goes = subst (λ b. OfBytes known path (IsHeaderAnswer honest b)) is answer

    pub taken_all : (last : ℕ) → TakesRecords H n path now last
        → AfterWalk (asked_from G P n path) known (λ count. last ≡ count)
    taken_all last t =
        after_records G P n path known honest header last goes
        (subst (λ K. TakesRecords K n path known last) group
        (subst (λ k. TakesRecords H n path k last) same t))

    module _ (before mid after : List ℕ → ℕ) (e : StagesFault)
        (h : IsRecordsStop H n path now mid after e) where
      here : IsRecordsStop G n path known mid after e
      here = subst (λ K. IsRecordsStop K n path known mid after e) group
          (subst (λ k. IsRecordsStop H n path k mid after e) same h)

      pub taken_stop : NoneFell before mid → IsWalkStop (asked_from G P n path) known before after e
      taken_stop later =
          stop_later (asked_from G P n path) known before mid after e later
          (records_stop G P n path known honest header mid after e goes here)

      pub taken_numbered : IsNumbered G n e
      taken_numbered = records_numbered G P n path known honest header mid after e here
