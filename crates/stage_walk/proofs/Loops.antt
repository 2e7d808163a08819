-- The loops over the records of a file, and over the stages that are saved.
use Rattle.std.proofs.Common.{◌≡◌, ◌⊎◌, ℕ, zero, suc, ◌+◌, ◌-◌, ◌<◌, ◌≤◌, List, drop, Some, None, inl}
use Rattle.std.proofs.Common.{inr, sym, ◌∙◌, ap, subst, arith}
use Rattle.std.specs.Prelude.{⊤}
use Rattle.std.specs.declared.option.Option.{Option}
use Rattle.coho_io.specs.Causes.{NoneFell}
use Rattle.coho_io.specs.Content.{Content, file}
use Rattle.p_groups.specs.PGroups.{PGroup}
use Rattle.min_res.specs.Values.{ResolutionValue}
use Rattle.stage_records.specs.Walks.{Ends, Next, Refuses, Takes, next}
use Rattle.stage_records.specs.Walks as walks
use Rattle.stage_file.specs.Honest.{records_of}
use Rattle.stage_walk.specs.declared.fault.StagesFault.{StagesFault}
use Rattle.stage_walk.specs.declared.fault.StagesFault.TheVariants as fault
use Rattle.stage_walk.specs.Dimensions.{dimension, Fit}
use Rattle.stage_walk.specs.Growing.{Gains, GainsFront, Holds, HoldsFront, IsStageStop, IsStagesStop}
use Rattle.stage_walk.specs.Growing.{LeavesStage, LeavesStages, file_with, record_of}
use Rattle.stage_walk.specs.Turns.{EndsHere, GoesAt, IsRecordsStop, IsTurnStop, OfBytes, TakesOne}
use Rattle.stage_walk.specs.Turns.{TakesRecords}
use Rattle.stage_walk.proofs.Growing.{grown, stopped, too_large}
use Rattle.stage_walk.proofs.Turns.{IsWalkedTo, walk-all, walk-end, walk-refused, walk-start, walk-step}
use Rattle.stage_walk.proofs.Whole.{at_bytes, rose_later}

split : (d i : ℕ) → d ≤ suc i → (d ≤ i) ⊎ (d ≡ suc i)
split zero i l = inl (omega arith)
split (suc d) zero l = inr (omega arith)
split (suc d) (suc i) l = elim (split d i (omega arith)) [
  | inl k ↦ inl (omega arith)
  | inr k ↦ inr (omega arith)
]

-- one stage more fits
pub fit_more : (G : PGroup) (i : ℕ) → Fit G i → dimension G (suc i) ≤ 4096 → Fit G (suc i)
fit_more G i fit top d from to = elim (split d i to) [
  | inl k ↦ fit d from k
  | inr k ↦ subst (λ d. dimension G d ≤ 4096) (sym k) top
]

pub fit_none : (G : PGroup) → Fit G 0
fit_none G d from to = absurd (omega (arith, from, to))

-- the walk over the bytes under a path has come so far
abbrev pub HasWalked : PGroup → List ℕ → Option Content → (n k at : ℕ) → Type 0
HasWalked G path known n k at = (told : Content) (bytes : List ℕ) → known ≡ Some told
    → file told path ≡ Some bytes → IsWalkedTo G n k at bytes

module _ (G : PGroup) (path : List ℕ) (known now : Option Content) (same : now ≡ known) (n : ℕ) where
  pub walked_none : (k : ℕ) → k ≡ 0 → HasWalked G path known n k 40
  walked_none k z told bytes t e = subst (λ k. IsWalkedTo G n k 40 bytes) (sym z) (walk-start G n bytes)

  module _ (old new : ResolutionValue) (at : ℕ) (group : old.group ≡ G) (inside : old.last < n)
      (w : HasWalked G path known n old.last at) where
    goes : (Way : List ℕ → Next → Type 0) → OfBytes now path (GoesAt old.group old.last at Way)
        → (told : Content)
        (bytes : List ℕ) → known ≡ Some told → file told path ≡ Some bytes
        → Way (drop at bytes) (next (records_of G (suc old.last)) (drop at bytes))
    goes Way o told bytes t e =
        subst (λ H. Way (drop at bytes) (next (records_of H (suc old.last)) (drop at bytes))) group
        (at_bytes now path (GoesAt old.group old.last at Way) told bytes o (same ∙ t) e)

    pub walked_one : (len : ℕ) → TakesOne old new path at now len
        → HasWalked G path known n new.last (at + len)
    walked_one len T told bytes t e =
        subst (λ k. IsWalkedTo G n k (at + len) bytes) (sym T.grown)
        (walk-step G n bytes old.last at len inside (w told bytes t e)
        (goes (λ rest way. way ≡ Takes (drop len rest)) T.takes told bytes t e))

    pub fit_one : (len : ℕ) → TakesOne old new path at now len → Fit G old.last → Fit G new.last
    fit_one len T fit =
        subst (Fit G) (sym T.grown)
        (fit_more G old.last fit (subst (λ H. dimension H (suc old.last) ≤ 4096) group T.within))

    pub walked_end : EndsHere old new path at now → OfBytes known path (λ bytes. ⊤)
        → TakesRecords G n path known new.last
    walked_end E there told t =
        let p = there told t in (
          p.0,
          p.1,
          walk-end G n p.0 old.last at inside (w told p.0 t p.1)
              (goes (λ rest way. way ≡ Ends) E.ends told p.0 t p.1)
              ∙ ap (λ (r : ResolutionValue). record { taken = r.last; fault = None }) (sym E.same),
        )

    module _ (before mid after : List ℕ → ℕ) (later : NoneFell before mid) (fit : Fit G old.last)
        (there : OfBytes known path (λ bytes. ⊤)) where
      pub turn_stop : (e : StagesFault) → IsTurnStop old new path at now mid after e
          → IsRecordsStop G n path known before after e
      turn_stop fault.Read h = rose_later path before mid after later h
      turn_stop fault.Header h = absurd h
      turn_stop fault.Presentation h = absurd h
      turn_stop (fault.Record d) h = (
        λ told t. let p = there told t in
            let r = walk-refused G n p.0 old.last at inside (w told p.0 t p.1)
            (goes (λ rest way. way ≡ Refuses) h.1 told p.0 t p.1) in
            let same_number : suc old.last ≡ d = sym h.0 in (
              p.0,
              p.1,
              (
                old.last + 0,
                r ∙ ap (λ k. record { taken = old.last + 0; fault = Some (walks.Record k) }) same_number,
              ),
            ),
        (
          omega (arith, h.0),
          omega (arith, h.0, inside),
          let e : old.last ≡ d - 1 = omega (arith, h.0) in subst (Fit G) e fit,
        ),
      )
      turn_stop (fault.TooLarge d X) h = absurd h
      turn_stop fault.Write h = absurd h
      turn_stop fault.Memory h = tt

  -- the last record
  pub walked_all : (k at : ℕ) → k ≡ n → HasWalked G path known n k at → OfBytes known path (λ bytes. ⊤)
      → TakesRecords G n path known k
  walked_all k at e w there told t =
      let p = there told t in (p.0, p.1, walk-all G n p.0 k at e (w told p.0 t p.1))

-- a stage that is saved

module _ (G : PGroup) (header : List ℕ) (named : Option (List ℕ)) (first old new : Option Content) (d n : ℕ)
    (inside : d < n) (h : Holds named (file_with header G d) first old) where
  pub stage_saved : (H : PGroup) (e : ℕ) → H ≡ G → e ≡ suc d → Fit G d → Gains named (record_of H e) old new
      → Holds named (file_with header G (suc d)) first new
  stage_saved H e group number fit g =
      grown G header named first old new d fit h
      (subst (λ K. Gains named (record_of K (suc d)) old new) group
      (subst (λ k. Gains named (record_of H k) old new) number g))

  front_kept : (H : PGroup) (e : ℕ) → H ≡ G → e ≡ suc d → Fit G d → GainsFront named (record_of H e) old new
      → HoldsFront named (file_with header G n) first new
  front_kept H e group number fit g =
      stopped G header named first old new d n inside fit h
      (subst (λ K. GainsFront named (record_of K (suc d)) old new) group
      (subst (λ k. GainsFront named (record_of H k) old new) number g))

  module _ (H : PGroup) (e : ℕ) (group : H ≡ G) (number : e ≡ suc d) (before mid after : List ℕ → ℕ)
      (fit : Fit G d) where
    pub stage_left : (f : StagesFault) → IsStageStop H e named mid after f
        → LeavesStage named (record_of H e) old new f → LeavesStages named (file_with header G n) first new f
    stage_left fault.Read s l = absurd s
    stage_left fault.Header s l = absurd s
    stage_left fault.Presentation s l = absurd s
    stage_left (fault.Record k) s l = absurd s
    stage_left (fault.TooLarge k X) s l =
        let is : suc d ≡ k = sym (s.0 ∙ number) in
        let X-is : X ≡ dimension G (suc d) = s.1 ∙ ap (λ K. dimension K e) group ∙ ap (dimension G) number in
        let above : 4096 < dimension G (suc d) = omega (arith, s.2, X-is) in
        subst (λ x. Holds named (file_with header G n) first x) (sym l)
        (too_large G header named first old d n (omega (arith, inside)) fit above h)
    stage_left fault.Write s l = front_kept H e group number fit l
    stage_left fault.Memory s l = front_kept H e group number fit l

    pub stage_stop : (f : StagesFault) → NoneFell before mid → IsStageStop H e named mid after f
        → IsStagesStop G n named before after f
    stage_stop fault.Read later s = absurd s
    stage_stop fault.Header later s = absurd s
    stage_stop fault.Presentation later s = absurd s
    stage_stop (fault.Record k) later s = absurd s
    stage_stop (fault.TooLarge k X) later s = record {
      from = omega (arith, s.0, number);
      to = omega (arith, s.0, number, inside);
      is = s.1 ∙ ap (λ K. dimension K e) group ∙ ap (dimension G) (sym s.0);
      above = s.2;
      first = λ c from less. fit c from (omega (arith, less, s.0, number));
    }
    stage_stop fault.Write later s = (s.0, s.1, rose_later s.0 before mid after later s.2)
    stage_stop fault.Memory later s = tt
