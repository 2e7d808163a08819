-- Bytes over which a walk takes so many records, or refuses this.
use Rattle.std.proofs.Common.{◌≡◌, ◌∙◌, ℕ, zero, suc, ◌+◌, ◌-◌, ◌<◌, ◌≤◌, true, false, List, [], ◌∷◌, ◌++◌}
use Rattle.std.proofs.Common.{append_assoc, codes, get_or, leb, length, take, refl, sym, ap, subst, arith}
use Rattle.std.proofs.Common.{None, Some, true≢false, ◌==◌}
use Rattle.std.specs.declared.option.Option.{Option}
use Rattle.std.proofs.lemmas.Bool.{cond-true, le-leb}
use Rattle.std.proofs.lemmas.Bool.Decides.{nat_tests}
use Rattle.std.proofs.lemmas.List.{drop_at, take_all}
use Rattle.std.specs.Str.{bytes_eq}
use Rattle.sha2.specs.Sha256.{sha256}
use Rattle.p_groups.specs.PGroups.{PGroup, order_of}
use Rattle.min_res.specs.Stages.{stage_rows}
use Rattle.resolution_stages.specs.Chain.{parts_of}
use Rattle.stage_records.specs.Records.{header_bytes, record_bytes}
use Rattle.stage_records.specs.Walks.{Refuses, Takes, WalkFault, Walked, agrees, is_cut, is_in_range}
use Rattle.stage_records.specs.Walks.{length_at, next, one_more, records_from, walk_records, with_rest}
use Rattle.stage_records.proofs.Cuts.{walk-header, walk-nil, walk-on, walk-presentation, walk-refuses}
use Rattle.stage_records.proofs.Cuts.{walk-takes}
use Rattle.stage_records.proofs.Honest.{agrees-front, next_framed}
use Rattle.stage_records.proofs.Steps.{next_refuses}
use Rattle.stage_file.specs.Honest.{records_of, walk_of}
use Rattle.stage_file.proofs.Honest.{honest}
use Rattle.stage_walk.specs.Dimensions.{Fit, dimension}
use Rattle.stage_records.specs.Walks as walks

-- so many records are taken, and then this
abbrev pub ends_so : ℕ → Option WalkFault → Walked
ends_so c fault = record { taken = c; fault = fault }

-- a length below all records
zeros : List ℕ
zeros = 0 ∷ 0 ∷ 0 ∷ 0 ∷ []

uncut_zeros : is_cut zeros ≡ false
unfolding is_cut zeros
uncut_zeros = refl

out_of_range : (r : List ℕ) → take (4 + length_at zeros) zeros ≡ r → is_in_range (length_at r) ≡ true → ⊥
unfolding zeros
out_of_range r same range =
    let no : is_in_range (length_at (take (4 + length_at zeros) zeros)) ≡ true =
    subst (λ (xs : List ℕ). is_in_range (length_at xs) ≡ true) (sym same) range in
    true≢false (sym no)

-- another first byte, and another digest
other_letter : (text : List ℕ) → agrees 8 (header_bytes text) (0 ∷ []) ≡ false
unfolding agrees header_bytes
other_letter text = refl

other_digest : List ℕ → List ℕ
other_digest digest = codes "cohostg1" ++ suc (get_or digest 0 0) ∷ []

same_letters : (text : List ℕ) → agrees 8 (header_bytes text) (other_digest (sha256 text)) ≡ true
unfolding agrees header_bytes other_digest
same_letters text = refl

one_differs : (digest : List ℕ) → bytes_eq (suc (get_or digest 0 0) ∷ []) (take 1 digest) ≡ false
one_differs [] = refl
one_differs (b ∷ bs) = let e : (suc b == b) ≡ false = grind (arith, nat_tests) in rw e refl

digest_differs : (text : List ℕ) → agrees 40 (header_bytes text) (other_digest (sha256 text)) ≡ false
unfolding agrees header_bytes other_digest
digest_differs text = one_differs (sha256 text)

module _ (G : PGroup) (text : List ℕ) where
  abbrev records : ℕ → Option (List ℕ)
  records d = records_of G d

  abbrev header : List ℕ
  header = header_bytes text

  abbrev AreThere : ℕ → ℕ → Type 0
  AreThere c d = (i : ℕ) → d ≤ i → i < d + c → (r : List ℕ) × (records i ≡ Some r)

  there : (d : ℕ) → dimension G (suc d) ≤ 4096
      → records (suc d) ≡ Some (record_bytes (order_of G) (suc d) (parts_of (stage_rows G) d))
  there d h = cond-true (leb (dimension G (suc d)) 4096) _ None (le-leb (dimension G (suc d)) 4096 h)

  are_there : (c : ℕ) → Fit G c → AreThere c 1
  are_there c fit zero from to = absurd (omega (arith, from))
  are_there c fit (suc d) from to = (
    record_bytes (order_of G) (suc d) (parts_of (stage_rows G) d),
    there d (fit (suc d) from (omega
        (arith, to))),
  )

  -- a walk takes the records that are there, and goes on with what follows
  over : (c m d : ℕ) (tail : List ℕ) (fault : Option WalkFault) → AreThere c d
      → walk_records records m (d + c) tail ≡ ends_so 0 fault
      → walk_records records (c + m) d (records_from records c d ++ tail) ≡ ends_so c fault
  unfolding records_from
  over zero m d tail fault R h =
      let more : m ≡ zero + m = omega arith in
      let from : d + zero ≡ d = omega arith in
      subst (λ (n : ℕ). walk_records records n d tail ≡ ends_so 0 fault) more
      (subst (λ (e : ℕ). walk_records records m e tail ≡ ends_so 0 fault) from h)
  over (suc c) m d tail fault R h =
      let r = R d (omega arith) (omega arith) in
      let rest = records_from records c (suc d) ++ tail in
      let bytes_are : with_rest (records d) (records_from records c (suc d)) ++ tail ≡ r.0 ++ rest
      = ap (λ (o : Option (List ℕ)). with_rest o (records_from records c (suc d)) ++ tail) r.1
      ∙ append_assoc r.0 (records_from records c (suc d)) tail in
      let taken : next (records d) (r.0 ++ rest) ≡ Takes rest
      = ap (λ (o : Option (List ℕ)). next o (r.0 ++ rest)) r.1
      ∙ next_framed r.0 rest ((honest G text).framed d r.0 r.1) in
      let moved : d + suc c ≡ suc d + c = omega arith in
      let ih = over c m (suc d) tail fault (λ i from to. R i (omega (arith, from)) (omega (arith, to)))
      (subst (λ (e : ℕ). walk_records records m e tail ≡ ends_so 0 fault) moved h) in
      let more : suc (c + m) ≡ suc c + m = omega arith in
      subst (λ (n : ℕ). walk_records records n d (with_rest (records d) (records_from records c
      (suc d)) ++ tail)
      ≡ ends_so (suc c) fault) more
      (ap (walk_records records (suc (c + m)) d) bytes_are
      ∙ walk-takes records (c + m) d (r.0 ++ rest) rest taken ∙ ap (λ (w : Walked). one_more w) ih)

  -- the honest file of c records, and what follows
  abbrev with_tail : ℕ → List ℕ → List ℕ
  with_tail c tail = header ++ (records_from records c 1 ++ tail)

  front_agrees : (n : ℕ) (rest : List ℕ) → n ≤ 40 → agrees n header (header ++ rest) ≡ true
  front_agrees n rest l =
      let size = (honest G text).header_size in
      subst (λ (xs : List ℕ). agrees n header xs ≡ true)
      (take_all (length (header ++ rest)) (header ++ rest) (omega arith))
      (agrees-front n (length (header ++ rest)) header rest (omega (arith, l, size)))

  pub walk_over : (c m : ℕ) (tail : List ℕ) (fault : Option WalkFault) → Fit G c
      → walk_records records m (1 + c) tail ≡ ends_so 0 fault
      → walk_of G text (c + m) (with_tail c tail) ≡ ends_so c fault
  walk_over c m tail fault fit h =
      let rest = records_from records c 1 ++ tail in
      walk-on header records (c + m) (header ++ rest) (front_agrees 8 rest (omega arith))
      (front_agrees 40 rest (omega arith))
      ∙ ap (walk_records records (c + m) 1) (drop_at header rest 40 (honest G text).header_size)
      ∙ over c m 1 tail fault (are_there c fit) h

  -- c records are taken
  pub taking : (n c : ℕ) → c ≤ n → Fit G c
      → (bytes : List ℕ) × (walk_of G text n bytes ≡ ends_so c None)
  taking n c l fit =
      let is : c + (n - c) ≡ n = omega (arith, l) in (
        with_tail c [],
        subst (λ (k : ℕ). walk_of G text k (with_tail c []) ≡ ends_so c None) is
            (walk_over c (n - c) [] None fit (walk-nil records (1 + c) (n - c))),
      )

  -- record d is refused
  no_record : (d : ℕ) → next (records d) zeros ≡ Refuses
  no_record d = next_refuses (records d) zeros uncut_zeros
      (λ r e same. out_of_range r same ((honest G text).framed d r e).range)

  pub refusing_record : (n d : ℕ) → 1 ≤ d → d ≤ n → Fit G (d - 1)
      → (bytes : List ℕ) × ((c : ℕ) × (walk_of G text n bytes ≡ ends_so c (Some (walks.Record d))))
  refusing_record n zero from to fit = absurd (omega (arith, from))
  refusing_record n (suc c) from to fit =
      let is : c + suc (n - suc c) ≡ n = omega (arith, to) in
      let same : suc c - 1 ≡ c = omega arith in
      let fits : Fit G c = subst (Fit G) same fit in
      let here : walk_records records (suc (n - suc c)) (suc c) zeros ≡ ends_so 0 (Some (walks.Record
      (suc c)))
      = walk-refuses records (n - suc c) (suc c) zeros (no_record (suc c)) in
      let next_is : suc c ≡ 1 + c = omega arith in
      let at : walk_records records (suc (n - suc c)) (1 + c) zeros ≡ ends_so 0 (Some (walks.Record (suc c)))
      = subst (λ (e : ℕ). walk_records records (suc (n - suc c)) e zeros ≡ ends_so 0 (Some (walks.Record
      (suc c))))
      next_is here in (
        with_tail c zeros,
        (
          c,
          subst (λ (k : ℕ). walk_of G text k (with_tail c zeros)
              ≡ ends_so c (Some (walks.Record (suc c)))) is
              (walk_over c (suc (n - suc c)) zeros (Some (walks.Record (suc c))) fits at),
        ),
      )

  pub refusing_header : (n : ℕ)
      → (bytes : List ℕ) × ((c : ℕ) × (walk_of G text n bytes ≡ ends_so c (Some walks.Header)))
  refusing_header n = (0 ∷ [], (0, walk-header header records n (0 ∷ []) (other_letter text)))

  pub refusing_presentation : (n : ℕ)
      → (bytes : List ℕ) × ((c : ℕ) × (walk_of G text n bytes ≡ ends_so c (Some walks.Presentation)))
  refusing_presentation n = (
    other_digest (sha256 text),
    (
      0,
      walk-presentation header records n (other_digest (sha256 text)) (same_letters text)
          (digest_differs text),
    ),
  )
