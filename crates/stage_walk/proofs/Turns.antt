-- One record of a file, read and taken up, and the walk over all of them.
use Rattle.std.proofs.Common.{◌≡◌, ℕ, suc, ◌+◌, ◌-◌, ◌*◌, ◌^◌, ◌<◌, ◌≤◌, true, false, List}
use Rattle.std.proofs.Common.{length, [], take, drop, Some, None, ◌⊎◌, inl, inr, refl, sym, ◌∙◌, ap, subst}
use Rattle.std.proofs.Common.{arith, ltb, leb}
use Rattle.std.specs.declared.option.Option.{Option}
use Rattle.std.proofs.lemmas.Bool.{cases_Bool, cond-true, cond-false, ltb-true, leb-true}
use Rattle.std.proofs.lemmas.Bool.{and_parts}
use Rattle.std.proofs.lemmas.List.{length-take, take_all, drop-drop}
use Rattle.coho_io.specs.Content.{Content, file}
use Rattle.p_groups.specs.PGroups.{PGroup, order_of}
use Rattle.resolution_stages.specs.Checks.{StageParts}
use Rattle.resolution_stages.specs.Chain.{parts_of}
use Rattle.min_res.specs.Stages.{stage_rows}
use Rattle.min_res.specs.RecordChecks.{IsFirstFailure, MayFollow, Passes}
use Rattle.min_res.specs.declared.check.Check.{Check}
use Rattle.min_res.proofs.NextParts.{all-passes, passes}
use Rattle.stage_records.specs.declared.shape.Shape.{Shape}
use Rattle.stage_records.specs.declared.field.Field.{Field}
use Rattle.stage_records.specs.Claims.{FrontClaims}
use Rattle.stage_records.specs.Readings.{AreBytes, Cut, Whole, Malformed, read_record}
use Rattle.stage_records.specs.Walks.{length_at, is_in_range, Ends, Takes, Refuses, Next, next, Walked, ended}
use Rattle.stage_records.specs.Walks.{one_more, walk_records}
use Rattle.stage_records.specs.Walks as walks
use Rattle.stage_records.proofs.Buffers.{front-claims}
use Rattle.stage_records.proofs.Cuts.{walk-ends, walk-takes, walk-refuses}
use Rattle.stage_records.proofs.Steps.{same_length_at}
use Rattle.stage_records.proofs.Tests.{IsWhole, whole-tests}
use Rattle.stage_file.specs.Headers.{ranged}
use Rattle.stage_file.specs.Honest.{records_of, IsShapeAt, IsVerdict}
use Rattle.stage_file.proofs.Honest.{honest, small-parts}
use Rattle.stage_walk.specs.Dimensions.{dimension}
use Rattle.coho_io.specs.Pieces.{IsPart}
use Rattle.stage_walk.specs.Pieces.{IsRecordPart, front_size, range_at}
use Rattle.stage_walk.specs.Turns.{OfBytes, GoesAt}

-- a length that is in its range

pub range_some : (bytes : List ℕ) (L : ℕ) → range_at bytes ≡ Some L
    → (is_in_range (length_at bytes) ≡ true) × (L ≡ length_at bytes) × (36 ≤ L) × (L ≤ 16781348)
range_some bytes L e =
    elim (cases_Bool (ltb (length bytes) 4)) [
      | inl t ↦ let z : None ≡ Some L = sym
          (cond-true (ltb (length bytes) 4) None (ranged (length_at bytes)) t) ∙ e in absurd (cc)
      | inr f ↦ in-range (cases_Bool (is_in_range (length_at bytes)))
          (sym (cond-false (ltb (length bytes) 4) None (ranged (length_at bytes)) f) ∙ e)
    ]
  where
    in-range : (is_in_range (length_at bytes) ≡ true) ⊎ (is_in_range (length_at bytes) ≡ false)
        → ranged (length_at bytes) ≡ Some L
        → (is_in_range (length_at bytes) ≡ true) × (L ≡ length_at bytes) × (36 ≤ L) × (L ≤ 16781348)
    in-range (inr r) h = let z : None ≡ Some L = sym
        (cond-false (is_in_range (length_at bytes)) (Some (length_at bytes)) None r) ∙ h in
        absurd (cc)
    in-range (inl r) h =
        let z : Some (length_at bytes) ≡ Some L = sym
        (cond-true (is_in_range (length_at bytes)) (Some (length_at bytes)) None r) ∙ h in
        let same : L ≡ length_at bytes = cc in
        let both = and_parts (leb 36 (length_at bytes)) (leb (length_at bytes) 16781348) r in (
          r,
          same,
          omega (arith, same, leb-true 36 (length_at bytes) both.0),
          omega (arith, same, leb-true (length_at bytes) 16781348 both.1),
        )

range_none : (bytes : List ℕ) → range_at bytes ≡ None
    → (length bytes < 4) ⊎ (is_in_range (length_at bytes) ≡ false)
range_none bytes e =
    elim (cases_Bool (ltb (length bytes) 4)) [
      | inl t ↦ inl (ltb-true (length bytes) 4 t)
      | inr f ↦ elim (cases_Bool (is_in_range (length_at bytes))) [
        | inr r ↦ inr r
        | inl r ↦ let z : Some (length_at bytes) ≡ None =
            sym (cond-true (is_in_range (length_at bytes)) (Some (length_at bytes)) None r)
            ∙ sym (cond-false (ltb (length bytes) 4) None (ranged (length_at bytes)) f) ∙ e in absurd (cc)
      ]
    ]

-- what is read of a record, from the four bytes of its length on

pub least : (X : List ℕ) → 4 ≤ front_size X
least X =
    elim (cases_Bool (is_in_range (length_at X))) [
      | inl r ↦ omega (arith, cond-true (is_in_range (length_at X)) (4 + length_at X) 4 r)
      | inr r ↦ omega (arith, cond-false (is_in_range (length_at X)) (4 + length_at X) 4 r)
    ]

front-some : (X : List ℕ) (L : ℕ) → range_at (take 4 X) ≡ Some L → 4 + L ≡ front_size X
front-some X L e =
    let r = range_some (take 4 X) L e in
    let same : length_at (take 4 X) ≡ length_at X = same_length_at 4 X (omega arith) in
    let range : is_in_range (length_at X) ≡ true = ap is_in_range (sym same) ∙ r.0 in
    omega (arith, r.1, same) ∙ sym (cond-true (is_in_range (length_at X)) (4 + length_at X) 4 range)

front-none : (X : List ℕ) → range_at (take 4 X) ≡ None → take 4 X ≡ take (front_size X) X
front-none X e =
    elim (range_none (take 4 X) e) [
      | inl s ↦ let few : length X < 4 = omega (arith, s, length-take 4 X) in
          take_all 4 X (omega (arith, few)) ∙ sym (take_all (front_size X) X (omega (arith, few, least X)))
      | inr r ↦ let same : length_at (take 4 X) ≡ length_at X = same_length_at 4 X (omega arith) in
          let range : is_in_range (length_at X) ≡ false = ap is_in_range (sym same) ∙ r in
          ap (λ n. take n X) (sym (cond-false (is_in_range (length_at X)) (4 + length_at X) 4 range))
    ]

enough : (X : List ℕ) → is_in_range (length_at X) ≡ true → 4 + length_at X ≤ front_size X
enough X r = omega (arith, cond-true (is_in_range (length_at X)) (4 + length_at X) 4 r)

pub length_some : (o : Option (List ℕ)) (at : ℕ) (front bytes : List ℕ) (L : ℕ) → IsPart o at 4 front
    → range_at front ≡ Some L → (IsPart o at 4 front → IsPart o at (4 + L) bytes) → IsRecordPart o at bytes
length_some None at front bytes L h e p = h
length_some (Some all) at front bytes L h e p =
    let same : range_at (take 4 (drop at all)) ≡ Some L = ap range_at (sym h) ∙ e in
    p h ∙ ap (λ n. take n (drop at all)) (front-some (drop at all) L same)

pub length_none : (o : Option (List ℕ)) (at : ℕ) (bytes : List ℕ) → IsPart o at 4 bytes
    → range_at bytes ≡ None → IsRecordPart o at bytes
length_none None at bytes h e = h
length_none (Some all) at bytes h e =
    h ∙ front-none (drop at all) (ap range_at (sym h) ∙ e)

-- what comes of a record by its bytes alone comes of it in the file

pub of_part : (o : Option (List ℕ)) (at : ℕ) (bytes : List ℕ) (Holds : List ℕ → Type 0)
    → IsRecordPart o at bytes
    → ((all : List ℕ) → bytes ≡ take (front_size (drop at all)) (drop at all) → Holds all)
    → (all : List ℕ) × (o ≡ Some all) × Holds all
of_part None at bytes Holds h f = absurd h
of_part (Some all) at bytes Holds h f = (all, refl, f all h)

passing : (G : PGroup) (d : ℕ) (Q : StageParts) → MayFollow G d Q → Q ≡ parts_of (stage_rows G) d
    → Passes G d Q
passing G d Q F e = passes G d Q F e

module _ (G : PGroup) (d : ℕ) (shape : Shape) (bytes : List ℕ) (low : suc d ≤ 24) (H : IsShapeAt G d shape)
    (V : IsVerdict G d shape bytes) (B : AreBytes bytes) where
  claims : (X : List ℕ) → FrontClaims (records_of G (suc d)) (front_size X) X
  claims X = front-claims (records_of G (suc d)) (λ r e. (honest G []).framed (suc d) r e) (front_size X) X
      (least X) (enough X)

  module _ (all : List ℕ) (at : ℕ) (e : bytes ≡ take (front_size (drop at all)) (drop at all)) where
    abbrev X : List ℕ
    X = drop at all

    abbrev o : Option (List ℕ)
    o = records_of G (suc d)

    pub ends : read_record shape bytes ≡ Cut → next o X ≡ Ends
    ends r = (claims X).ends (ap (λ x. next o x) (sym e) ∙ V.cut r)

    pub refuses : (f : Field) → read_record shape bytes ≡ Malformed f → next o X ≡ Refuses
    refuses f r = (claims X).refuses (ap (λ x. next o x) (sym e) ∙ V.malformed f r)

    whole-length : (Q : StageParts) → read_record shape bytes ≡ Whole Q → length bytes ≡ 4 + length_at X
    whole-length Q r =
        let W : IsWhole shape bytes = (whole-tests shape bytes Q r).0 in
        let same : length_at bytes ≡ length_at X =
        ap length_at e ∙ same_length_at (front_size X) X (least X) in
        let range : is_in_range (length_at X) ≡ true = ap is_in_range (sym same) ∙ W.range in
        omega (
          arith,
          W.enough,
          same,
          ap length e ∙ length-take (front_size X) X,
          cond-true (is_in_range (length_at X)) (4 + length_at X) 4 range,
        )

    pub takes : (Q : StageParts) → read_record shape bytes ≡ Whole Q → Q ≡ parts_of (stage_rows G) d
        → next o X ≡ Takes (drop (length bytes) X)
    takes Q r same =
        let next-is = (V.passed Q r (passing G d Q (V.follows Q r) same)).1 in
        (claims X).takes (drop (4 + length_at bytes) bytes) (ap (λ x. next o x) (sym e) ∙ next-is)
        ∙ ap (λ n. Takes (drop n X)) (sym (whole-length Q r))

    pub fails : (Q : StageParts) (c : Check) (k : ℕ) → read_record shape bytes ≡ Whole Q
        → IsFirstFailure G d Q c k → next o X ≡ Refuses
    fails Q c k r F =
        (claims X).refuses (ap (λ x. next o x) (sym e)
        ∙ V.failed Q r (λ p. F.fails (all-passes G d Q p c k F.inside)))

  -- the free module of a stage that is taken up is within the limit
  pub within : (Q : StageParts) → read_record shape bytes ≡ Whole Q → Q ≡ parts_of (stage_rows G) d
      → dimension G (suc d) ≤ 4096
  within Q r same =
      let l : shape.degree < 2 ^ 16 = omega (arith, H.degree, low) in
      subst (λ (R : StageParts). order_of G * length R.positions ≤ 4096) same
      (small-parts G d shape bytes Q H l B r)

  -- the same over the bytes under a path, where files are told

  module _ (known : Option Content) (path : List ℕ) (at : ℕ)
      (part : (told : Content) → known ≡ Some told → IsRecordPart (file told path) at bytes) where
    abbrev pub Comes : (List ℕ → Next → Type 0) → Type 0
    Comes Way = OfBytes known path (GoesAt G d at Way)

    pub ends_turn : read_record shape bytes ≡ Cut → Comes (λ rest way. way ≡ Ends)
    ends_turn r told t =
        of_part (file told path) at bytes (GoesAt G d at (λ rest way. way ≡ Ends)) (part told t)
        (λ all e. ends all at e r)

    pub refuses_turn : (f : Field) → read_record shape bytes ≡ Malformed f → Comes (λ rest way. way ≡ Refuses)
    refuses_turn f r told t =
        of_part (file told path) at bytes (GoesAt G d at (λ rest way. way ≡ Refuses)) (part told t)
        (λ all e. refuses all at e f r)

    pub takes_turn : (Q : StageParts) → read_record shape bytes ≡ Whole Q → Q ≡ parts_of (stage_rows G) d
        → Comes (λ rest way. way ≡ Takes (drop (length bytes) rest))
    takes_turn Q r same told t =
        of_part (file told path) at bytes (GoesAt G d at (λ rest way. way ≡ Takes (drop (length bytes) rest)))
        (part told t) (λ all e. takes all at e Q r same)

    pub fails_turn : (Q : StageParts) (c : Check) (k : ℕ) → read_record shape bytes ≡ Whole Q
        → IsFirstFailure G d Q c k → Comes (λ rest way. way ≡ Refuses)
    fails_turn Q c k r F told t =
        of_part (file told path) at bytes (GoesAt G d at (λ rest way. way ≡ Refuses)) (part told t)
        (λ all e. fails all at e Q c k r F)

-- the walk over the records

-- a walk with k records more before it
abbrev pub plus : ℕ → Walked → Walked
plus k w = record { taken = k + w.taken; fault = w.fault }

abbrev pub IsWalkedTo : PGroup → (n k at : ℕ) → List ℕ → Type 0
IsWalkedTo G n k at bytes = walk_records (records_of G) n 1 (drop 40 bytes)
    ≡ plus k (walk_records (records_of G) (n - k) (suc k) (drop at bytes))

walk-zero : (records : ℕ → Option (List ℕ)) (d : ℕ) (x : List ℕ) → walk_records records 0 d x ≡ ended
unfolding walk_records
walk-zero records d x = refl

plus-zero : (w : Walked) → w ≡ plus 0 w
plus-zero w = let e : w.taken ≡ 0 + w.taken = omega arith in ap (λ k. record { taken = k; fault = w.fault }) e

module _ (G : PGroup) (n : ℕ) (bytes : List ℕ) where
  pub walk-start : IsWalkedTo G n 0 40 bytes
  walk-start =
      let e : n ≡ n - 0 = omega arith in
      ap (λ m. walk_records (records_of G) m 1 (drop 40 bytes)) e
      ∙ plus-zero (walk_records (records_of G) (n - 0) 1 (drop 40 bytes))

  pub walk-step : (k at len : ℕ) → k < n → IsWalkedTo G n k at bytes
      → next (records_of G (suc k)) (drop at bytes) ≡ Takes (drop len (drop at bytes))
      → IsWalkedTo G n (suc k) (at + len) bytes
  walk-step k at len l h t =
      let e : n - k ≡ suc (n - suc k) = omega (arith, l) in
      let w : walk_records (records_of G) (n - k) (suc k) (drop at bytes)
      ≡ one_more (walk_records (records_of G) (n - suc k) (suc (suc k)) (drop (at + len) bytes)) =
      ap (λ m. walk_records (records_of G) m (suc k) (drop at bytes)) e
      ∙ walk-takes (records_of G) (n - suc k) (suc k) (drop at bytes) (drop len (drop at bytes)) t
      ∙ ap (λ x. one_more (walk_records (records_of G) (n - suc k) (suc (suc k)) x))
      (drop-drop len at bytes) in
      h ∙ ap (plus k) w ∙ more (walk_records (records_of G) (n - suc k) (suc (suc k)) (drop (at + len) bytes))
    where
      more : (w : Walked) → plus k (one_more w) ≡ plus (suc k) w
      more w = let e : k + suc w.taken ≡ suc k + w.taken = omega arith in
          ap (λ m. record { taken = m; fault = w.fault }) e

  pub walk-end : (k at : ℕ) → k < n → IsWalkedTo G n k at bytes
      → next (records_of G (suc k)) (drop at bytes) ≡ Ends
      → walk_records (records_of G) n 1 (drop 40 bytes) ≡ record { taken = k; fault = None }
  walk-end k at l h t =
      let e : n - k ≡ suc (n - suc k) = omega (arith, l) in
      let z : k + 0 ≡ k = omega arith in
      h ∙ ap (plus k) (ap (λ m. walk_records (records_of G) m (suc k) (drop at bytes)) e
      ∙ walk-ends (records_of G) (n - suc k) (suc k) (drop at bytes) t)
      ∙ ap (λ m. record { taken = m; fault = None }) z

  pub walk-refused : (k at : ℕ) → k < n → IsWalkedTo G n k at bytes
      → next (records_of G (suc k)) (drop at bytes) ≡ Refuses
      → walk_records (records_of G) n 1 (drop 40 bytes)
      ≡ record { taken = k + 0; fault = Some (walks.Record (suc k)) }
  walk-refused k at l h t =
      let e : n - k ≡ suc (n - suc k) = omega (arith, l) in
      h ∙ ap (plus k) (ap (λ m. walk_records (records_of G) m (suc k) (drop at bytes)) e
      ∙ walk-refuses (records_of G) (n - suc k) (suc k) (drop at bytes) t)

  pub walk-all : (k at : ℕ) → k ≡ n → IsWalkedTo G n k at bytes
      → walk_records (records_of G) n 1 (drop 40 bytes) ≡ record { taken = k; fault = None }
  walk-all k at l h =
      let e : n - k ≡ 0 = omega (arith, l) in
      let z : k + 0 ≡ k = omega arith in
      h ∙ ap (plus k) (ap (λ m. walk_records (records_of G) m (suc k) (drop at bytes)) e
      ∙ walk-zero (records_of G) (suc k) (drop at bytes))
      ∙ ap (λ m. record { taken = m; fault = None }) z
