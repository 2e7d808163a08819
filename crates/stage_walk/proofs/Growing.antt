-- The file that stages are saved to, as it grows.
use Rattle.std.proofs.Common.{◌≡◌, ◌⊎◌, ℕ, zero, suc, ◌+◌, ◌-◌, ◌<◌, ◌≤◌, Bool, true, false, cond, List}
use Rattle.std.proofs.Common.{[], ◌++◌, length, take, drop, Some, None, inl, inr, refl, sym, ◌∙◌, ap, subst}
use Rattle.std.proofs.Common.{arith, leb, append_assoc, ◌≤◌}
use Rattle.std.specs.declared.option.Option.{Option}
use Rattle.std.specs.declared.result.Result.{Result}
use Rattle.std.specs.declared.result.Result.TheVariants.{Ok, Err}
use Rattle.std.specs.Prelude.{IfErr, OnErr, OnOk}
use Rattle.std.specs.Option.{IfSome}
use Rattle.std.specs.Ordering.{nat_cmp, eq_by_cmp}
use Rattle.std.specs.Cmp.Lexicographic.{slice_cmp, nat_list_cmp_total}
use Rattle.std.specs.FinMap.{get, insert, get-insert, same_map, slice_cmp-IsAntisymmetric}
use Rattle.std.specs.FinMap.{nat_cmp-IsAntisymmetric}
use Rattle.std.proofs.lemmas.Bool.{cond-true, cond-false, lt-leb, le-leb}
use Rattle.std.proofs.lemmas.List.{append-nil, take-append-drop, take_at}
use Rattle.std.proofs.lemmas.Map.Text.{is_eq-slice_cmp}
use Rattle.std.proofs.lemmas.Slice.Eq.{bytes_eq-Decides}
use Rattle.coho_io.specs.Content.{Content, FileMap, file, or_outside, or_empty, with_file, with_piece}
use Rattle.coho_io.specs.Content.{AppendsFrontOrStays, AppendsPiece, Creates, CreatesOrStays}
use Rattle.p_groups.specs.PGroups.{PGroup, order_of}
use Rattle.min_res.specs.Defined.{IsStageAt}
use Rattle.min_res.specs.Stages.{stage_rows}
use Rattle.min_res.specs.Values.{StageValue}
use Rattle.resolution_stages.specs.Chain.{parts_of}
use Rattle.stage_records.specs.Claims.{AreThere}
use Rattle.stage_records.specs.Records.{record_at, record_bytes}
use Rattle.stage_records.specs.Walks.{records_from, stage_bytes, with_rest}
use Rattle.stage_records.proofs.Files.{file-claims}
use Rattle.stage_file.specs.Honest.{records_of}
use Rattle.stage_file.specs.Written.{IsSomeStage}
use Rattle.stage_walk.specs.Dimensions.{dimension, Fit}
use Rattle.stage_walk.specs.declared.fault.StagesFault.{StagesFault}
use Rattle.stage_walk.specs.declared.fault.StagesFault.TheVariants as fault
use Rattle.stage_walk.specs.Growing.{file_with, record_of, Holds, HoldsFront, Gains, GainsFront, IsWriteStop}
use Rattle.stage_walk.specs.Growing.{LeavesStage}
use Rattle.stage_walk.specs.Saved.{saved}

-- what follows of an answer, whichever it is

pub on_ok : {T E : Type 0} {A B : Type 0} (r : Result T E) → (A → B) → OnOk r A → OnOk r B
on_ok (Ok x) f h = f h
on_ok (Err e) f h = tt

pub on_err : {T E : Type 0} {A B : Type 0} (r : Result T E) → (A → B) → OnErr r A → OnErr r B
on_err (Ok x) f h = tt
on_err (Err e) f h = f h

-- a file that is written again

absorb : {A : Type 0} (b : Bool) (x y z : A) → cond b y (cond b x z) ≡ cond b y z
absorb true x y z = refl
absorb false x y z = refl

-- what was written last stays
written_twice : (c : Content) (path x y : List ℕ)
    → with_file (with_file c path x) path y ≡ with_file c path y
written_twice c path x y =
    ap (λ (m : FileMap). record { files = m; outside_is_empty = c.outside_is_empty })
    (same_map nat_list_cmp_total (slice_cmp-IsAntisymmetric nat_cmp-IsAntisymmetric)
    (insert (insert c.files path x) path y) (insert c.files path y)
    (λ q. get-insert nat_list_cmp_total (insert c.files path x) path y q
    ∙ ap (λ (o : Option (List ℕ)). cond (eq_by_cmp (slice_cmp nat_cmp) q path) (Some y) o)
    (get-insert nat_list_cmp_total c.files path x q)
    ∙ absorb (eq_by_cmp (slice_cmp nat_cmp) q path) (Some x) (Some y) (get c.files q)
    ∙ sym (get-insert nat_list_cmp_total c.files path y q)))

-- and it is what is there
written_there : (c : Content) (path x : List ℕ) → file (with_file c path x) path ≡ Some x
written_there c path x =
    ap (λ (o : Option (List ℕ)). or_outside c.outside_is_empty o)
    (get-insert nat_list_cmp_total c.files path x path
    ∙ cond-true (eq_by_cmp (slice_cmp nat_cmp) path path) (Some x) (get c.files path)
    (is_eq-slice_cmp path path ∙ (bytes_eq-Decides path path).1 refl))

piece_behind : (c : Content) (path x piece : List ℕ)
    → with_piece (with_file c path x) path piece ≡ with_file c path (x ++ piece)
piece_behind c path x piece =
    ap (λ o. with_file (with_file c path x) path (or_empty o ++ piece)) (written_there c path x)
    ∙ written_twice c path x (x ++ piece)

-- the calls, where the content is told

told : {A : Type 0} (P : A → Type 0) (o : Option A) (x : A) → o ≡ Some x → IfSome o P → P x
told P o x e h = subst (λ o. IfSome o P) e h

module _ (path piece : List ℕ) (old new : Option Content) where
  pub gains : AppendsPiece old new path piece → Gains (Some path) piece old new
  gains h c before e =
      told (λ files. new ≡ Some (with_piece files path piece)) old (with_file c path before) e h
      ∙ ap (λ files. Some files) (piece_behind c path before piece)

  pub gains_front : AppendsFrontOrStays old new path piece → GainsFront (Some path) piece old new
  gains_front h c before e =
      elim (told (λ files. (new ≡ Some files) ⊎
      ((k : ℕ) × (new ≡ Some (with_piece files path (take k piece)))))
      old (with_file c path before) e h) [
        | inl s ↦ (0, s ∙ ap (λ x. Some (with_file c path x)) (sym (append-nil before)))
        | inr p ↦ (p.0, p.1 ∙ ap (λ files. Some files) (piece_behind c path before (take p.0 piece)))
      ]

-- a file that is not named stays
pub gains_none : (piece : List ℕ) (old : Option Content) → Gains None piece old old
gains_none piece old c before e = e

pub front_none : (piece : List ℕ) (old : Option Content) → GainsFront None piece old old
front_none piece old c before e = (0, e)

-- nothing was appended
pub front_same : (named : Option (List ℕ)) (piece : List ℕ) (old : Option Content)
    → GainsFront named piece old old
front_same named piece old c before e =
    (0, e ∙ ap (λ x. Some (saved named x c)) (sym (append-nil before)))

-- the file with its header

module _ (path header : List ℕ) (old mid new : Option Content) where
  pub begun : Creates old mid path → AppendsPiece mid new path header → Holds (Some path) header old new
  begun c a files e =
      let m : mid ≡ Some (with_file files path []) =
      told (λ files. mid ≡ Some (with_file files path [])) old files e c in
      gains path header mid new a files [] m

  pub begun_front : Creates old mid path → AppendsFrontOrStays mid new path header
      → HoldsFront (Some path) header old new
  begun_front c a files e =
      let m : mid ≡ Some (with_file files path []) =
      told (λ files. mid ≡ Some (with_file files path [])) old files e c in
      inr (gains_front path header mid new a files [] m)

pub created_front : (path header : List ℕ) (old new : Option Content) → CreatesOrStays old new path
    → HoldsFront (Some path) header old new
created_front path header old new c files e =
    elim (told (λ files. (new ≡ Some files) ⊎ (new ≡ Some (with_file files path []))) old files e c) [
      | inl s ↦ inl s
      | inr s ↦ inr (0, s)
    ]

pub holds_none : (header : List ℕ) (old : Option Content) → Holds None header old old
holds_none header old files e = e

-- the honest file as it grows

module _ (G : PGroup) where
  there : (d : ℕ) → dimension G (suc d) ≤ 4096
      → records_of G (suc d) ≡ Some (record_bytes (order_of G) (suc d) (parts_of (stage_rows G) d))
  there d h = cond-true (leb (dimension G (suc d)) 4096) _ None (le-leb (dimension G (suc d)) 4096 h)

  missing : (d : ℕ) → 4096 < dimension G (suc d) → records_of G (suc d) ≡ None
  missing d h = cond-false (leb (dimension G (suc d)) 4096)
      (Some (record_bytes (order_of G) (suc d) (parts_of (stage_rows G) d))) None
      (lt-leb (dimension G (suc d)) 4096 h)

  are_there : (c : ℕ) → Fit G c → AreThere (records_of G) c 1
  are_there c fit i l =
      let r : List ℕ = record_bytes (order_of G) (suc i) (parts_of (stage_rows G) i) in
      let z : suc i ≡ 1 + i = omega arith in
      (r, subst (λ k. records_of G k ≡ Some r) z (there i (fit (suc i) (omega arith) (omega (arith, l)))))

  -- it has the header alone at first, and one record more after each stage
  pub file_begins : (header : List ℕ) → file_with header G 0 ≡ header
  file_begins header = (file-claims (records_of G) header 0 (λ i l. absurd (omega (arith, l)))).none

  pub file_grows : (header : List ℕ) (d : ℕ) → Fit G d
      → file_with header G (suc d) ≡ file_with header G d ++ record_of G (suc d)
  file_grows header d fit = by-record (records_of G (suc d)) refl
    where
      by-record : (o : Option (List ℕ)) → records_of G (suc d) ≡ o
          → file_with header G (suc d) ≡ file_with header G d ++ or_empty o
      by-record (Some r) e =
          let z : suc d ≡ 1 + d = omega arith in
          (file-claims (records_of G) header d (are_there d fit)).more r
          (subst (λ k. records_of G k ≡ Some r) z e)
      by-record None e =
          let z : suc d ≡ 1 + d = omega arith in
          let one : suc d ≡ d + 1 = omega arith in
          ap (file_with header G) one
          ∙ (file-claims (records_of G) header d (are_there d fit)).stop 1
          (subst (λ k. records_of G k ≡ None) z e)
          ∙ sym (append-nil (file_with header G d))

  -- and stops before a stage that is too large
  pub file_stops : (header : List ℕ) (d n : ℕ) → Fit G d → 4096 < dimension G (suc d) → d ≤ n
      → file_with header G n ≡ file_with header G d
  file_stops header d n fit above l =
      let m : n ≡ d + (n - d) = omega (arith, l) in
      let z : suc d ≡ 1 + d = omega arith in
      ap (file_with header G) m
      ∙ (file-claims (records_of G) header d (are_there d fit)).stop (n - d)
      (subst (λ k. records_of G k ≡ None) z (missing d above))

  -- each of its stages is a front of it
  more_records : (c m d : ℕ) → (rest : List ℕ)
      × (records_from (records_of G) (c + m) d ≡ records_from (records_of G) c d ++ rest)
  unfolding records_from
  more_records zero m d = (records_from (records_of G) (zero + m) d, refl)
  more_records (suc c) m d =
      let ih = more_records c m (suc d) in
      let p = by-record (records_of G d) ih.0 ih.1 in
      let y : suc c + m ≡ suc (c + m) = omega arith in
      (p.0, ap (λ k. records_from (records_of G) k d) y ∙ p.1)
    where
      by-record : (o : Option (List ℕ)) (rest : List ℕ)
          → records_from (records_of G) (c + m) (suc d) ≡ records_from (records_of G) c (suc d) ++ rest
          → (more : List ℕ) × (with_rest o (records_from (records_of G) (c + m) (suc d))
          ≡ with_rest o (records_from (records_of G) c (suc d)) ++ more)
      by-record None rest e = ([], refl)
      by-record (Some r) rest e = (
        rest,
        ap (λ x. r ++ x) e ∙ sym (append_assoc r (records_from (records_of G) c (suc d)) rest),
      )

  pub file_front : (header : List ℕ) (d n : ℕ) → d ≤ n
      → (rest : List ℕ) × (file_with header G n ≡ file_with header G d ++ rest)
  unfolding stage_bytes
  file_front header d n l =
      let m : n ≡ d + (n - d) = omega (arith, l) in
      let p = more_records d (n - d) 1 in (
        p.0,
        ap (λ k. header ++ records_from (records_of G) k 1) m ∙ ap (λ x. header ++ x) p.1
            ∙ sym (append_assoc header (records_from (records_of G) d 1) p.0),
      )

-- the record that is written of a stage is the one of its degree
pub own_record : (G : PGroup) (d : ℕ) (s : StageValue) (items : List ℕ) → IsStageAt G d s
    → ((H : PGroup) → IsStageAt H s.degree s
    → record_at (order_of H) (stage_rows H) s.degree ≡ Some items) → record_of G d ≡ items
own_record G d s items L f =
    ap or_empty (subst (λ k. record_at (order_of G) (stage_rows G) k ≡ Some items) L.degree_is
    (f G (subst (λ k. IsStageAt G k s) (sym L.degree_is) L)))

pub some_stage : (G : PGroup) (d : ℕ) (s : StageValue) → IsStageAt G d s → IsSomeStage s
some_stage G d s L = record { group = G; is_stage = subst (λ k. IsStageAt G k s) (sym L.degree_is) L }

-- a front of a front
cut_inside : (all before piece rest : List ℕ) (k : ℕ) → all ≡ (before ++ piece) ++ rest
    → before ++ take k piece ≡ take (length (before ++ take k piece)) all
cut_inside all before piece rest k e =
    let split : all ≡ (before ++ take k piece) ++ (drop k piece ++ rest) =
    e ∙ ap (λ x. (before ++ x) ++ rest) (sym (take-append-drop k piece))
    ∙ ap (λ x. x ++ rest) (sym (append_assoc before (take k piece) (drop k piece)))
    ∙ append_assoc (before ++ take k piece) (drop k piece) rest in
    sym (ap (take (length (before ++ take k piece))) split
    ∙ take_at (before ++ take k piece) (drop k piece ++ rest) (length (before ++ take k piece)) refl)

-- the loop over the stages

module _ (G : PGroup) (header : List ℕ) (named : Option (List ℕ)) (first old new : Option Content) where
  pub grown : (d : ℕ) → Fit G d → Holds named (file_with header G d) first old
      → Gains named (record_of G (suc d)) old new → Holds named (file_with header G (suc d)) first new
  grown d fit h g files e =
      g files (file_with header G d) (h files e)
      ∙ ap (λ x. Some (saved named x files)) (sym (file_grows G header d fit))

  pub stopped : (d n : ℕ) → d < n → Fit G d → Holds named (file_with header G d) first old
      → GainsFront named (record_of G (suc d)) old new → HoldsFront named (file_with header G n) first new
  stopped d n l fit h g files e =
      let p = g files (file_with header G d) (h files e) in
      let q = file_front G header (suc d) n (omega (arith, l)) in
      let all : file_with header G n ≡ (file_with header G d ++ record_of G (suc d)) ++ q.0 =
      q.1 ∙ ap (λ x. x ++ q.0) (file_grows G header d fit) in
      inr (
        length (file_with header G d ++ take p.0 (record_of G (suc d))),
        p.1 ∙ ap (λ x. Some (saved named x files))
            (cut_inside (file_with header G n) (file_with header G d) (record_of G (suc d)) q.0 p.0 all),
      )

pub too_large : (G : PGroup) (header : List ℕ) (named : Option (List ℕ)) (first old : Option Content)
    (d n : ℕ)
    → d ≤ n → Fit G d → 4096 < dimension G (suc d) → Holds named (file_with header G d) first old
    → Holds named (file_with header G n) first old
too_large G header named first old d n l fit above h files e =
    h files e ∙ ap (λ x. Some (saved named x files)) (sym (file_stops G header d n fit above l))

-- the header alone is a front too
pub header_front : (G : PGroup) (header : List ℕ) (named : Option (List ℕ)) (first new : Option Content)
    (n : ℕ)
    → HoldsFront named header first new → HoldsFront named (file_with header G n) first new
header_front G header named first new n h files e =
    elim (h files e) [
      | inl s ↦ inl s
      | inr p ↦ let q = file_front G header 0 n (omega arith) in
          let all : file_with header G n ≡ ([] ++ header) ++ q.0 =
          q.1 ∙ ap (λ x. x ++ q.0) (file_begins G header) in
          inr (
            length (take p.0 header),
            p.1
                ∙ ap (λ x. Some (saved named x files))
                (cut_inside (file_with header G n) [] header q.0 p.0 all),
          )
    ]

-- what an append that stops leaves
pub append_left : {T : Type 0} (r : Result T StagesFault) (named : Option (List ℕ)) (piece : List ℕ)
    (old new : Option Content) (before now : List ℕ → ℕ) → IfErr r (IsWriteStop named before now)
    → OnErr r (GainsFront named piece old new) → IfErr r (LeavesStage named piece old new)
append_left (Ok x) named piece old new before now h g = tt
append_left (Err fault.Read) named piece old new before now h g = absurd h
append_left (Err fault.Header) named piece old new before now h g = absurd h
append_left (Err fault.Presentation) named piece old new before now h g = absurd h
append_left (Err (fault.Record d)) named piece old new before now h g = absurd h
append_left (Err (fault.TooLarge d X)) named piece old new before now h g = absurd h
append_left (Err fault.Write) named piece old new before now h g = g
append_left (Err fault.Memory) named piece old new before now h g = g
