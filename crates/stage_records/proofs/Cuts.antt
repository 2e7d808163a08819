-- The walk over a file that is cut, against the walk over the file.
use Rattle.std.proofs.Common.{◌≡◌, ℕ, zero, suc, ◌+◌, ◌-◌, ◌<◌, ◌≤◌, true, false, min, List, [], length, take}
use Rattle.std.proofs.Common.{drop, None, Some, inl, inr, refl, sym, ap, ◌∙◌, arith}
use mathlib.Core.Path.{subst}
use Rattle.std.specs.declared.option.Option.{Option}
use Rattle.std.proofs.lemmas.Bool.{cases_Bool, cases_lt, both_ways}
use Rattle.std.proofs.lemmas.List.{take-take, length-append, length-take, drop-take, take_all, drop_all}
use Rattle.std.proofs.lemmas.Slice.Eq.{bytes_eq-Decides}
use Rattle.stage_records.specs.Walks.{length_at, is_in_range, is_cut, Next, Ends, Takes, Refuses, next}
use Rattle.stage_records.specs.Walks.{Walked, WalkFault, after, ended, refused, one_more, walk_records}
use Rattle.stage_records.specs.Walks.{agrees, walk, with_rest, records_from, stage_bytes}
use Rattle.stage_records.specs.Claims.{IsFramed, AreHonest, CutClaims}
use Rattle.stage_records.proofs.Steps.{same_length_at, cut_short, uncut_some, uncut_whole, uncut, next_ends}
use Rattle.stage_records.proofs.Steps.{next_takes, IsTaken, Way, cut, taken, refused as refused-way, way}

-- a walk over the first k bytes of what begins with records of lengths, against the walk over the whole
pub record AreAlike (records : ℕ → Option (List ℕ)) (d k : ℕ) (front whole : Walked) : Type 0 where
  pub fault : (f : WalkFault) → front.fault ≡ Some f → front ≡ whole
  pub no_more : front.taken ≤ whole.taken
  pub kept : (i : ℕ) → i ≤ whole.taken → length (records_from records i d) ≤ k → i ≤ front.taken

module _ (o : Option (List ℕ)) (F : (r : List ℕ) → o ≡ Some r → IsFramed r) (bytes : List ℕ) (k : ℕ) where
  abbrev part : List ℕ
  part = take k bytes

  -- bytes that are not cut are not cut without the limit
  pub whole-uncut : is_cut (take k bytes) ≡ false → is_cut bytes ≡ false
  whole-uncut u =
      let s : 4 ≤ length (take k bytes) = uncut_some (take k bytes) u in
      let e : length_at (take k bytes) ≡ length_at bytes
      = same_length_at k bytes (omega (arith, s, length-take k bytes)) in
      uncut bytes (omega (arith, s, length-take k bytes))
      (λ r. let w : 4 + length_at (take k bytes) ≤ length (take k bytes) = uncut_whole (take k bytes) u
      (ap (λ (n : ℕ). is_in_range n) e ∙ r) in omega (arith, w, e, length-take k bytes))

  -- an honest record in the front has the length that the front says
  taken-length : (rest : List ℕ) (B : List ℕ) (T : IsTaken o B rest) → 4 + length_at B ≡ length T.honest
  taken-length rest B T =
      let h : IsFramed T.honest = F T.honest T.there in
      let l : length (take (4 + length_at B) B) ≡ min (4 + length_at B) (length B)
      = length-take (4 + length_at B) B in
      let m : length_at (take (4 + length_at B) B) ≡ length_at B
      = same_length_at (4 + length_at B) B (omega arith) in
      let n : length_at T.honest ≡ length_at B = ap (λ (x : List ℕ). length_at x) (sym T.same) ∙ m in
      omega (arith, h.size, n)

  -- what the front takes, the whole takes
  pub front-whole : (rest : List ℕ) → IsTaken o (take k bytes) rest → (more : List ℕ) × IsTaken o bytes more
      × (rest ≡ take (k - (4 + length_at bytes)) more)
  front-whole rest T =
      let s : 4 ≤ length (take k bytes) = uncut_some (take k bytes) T.uncut in
      let e : length_at (take k bytes) ≡ length_at bytes
      = same_length_at k bytes (omega (arith, s, length-take k bytes)) in
      let t : 4 + length_at (take k bytes) ≡ length T.honest = taken-length rest (take k bytes) T in
      let l : length (take (4 + length_at (take k bytes)) (take k bytes)) ≡ length T.honest
      = ap length T.same in
      let w : 4 + length_at bytes ≤ k
      = omega (arith, t, l, e, length-take (4 + length_at part) part, length-take k bytes) in
      let same : take (4 + length_at bytes) bytes ≡ T.honest = sym (take-take (4 + length_at bytes) k bytes w)
      ∙ ap (λ (n : ℕ). take (4 + n) (take k bytes)) (sym e) ∙ T.same in
      let split : k ≡ (4 + length_at bytes) + (k - (4 + length_at bytes)) = omega (arith, w) in (
        drop (4 + length_at bytes) bytes,
        record {
          honest = T.honest;
          there = T.there;
          uncut = whole-uncut T.uncut;
          same = same;
          rest_is = refl;
        },
        T.rest_is ∙ ap (λ (n : ℕ). drop (4 + n) (take k bytes)) e
            ∙ ap (λ (n : ℕ). drop (4 + length_at bytes) (take n bytes)) split
            ∙ drop-take (4 + length_at bytes) (k - (4 + length_at bytes)) bytes,
      )

  -- what the whole takes and the front does not cut, the front takes
  pub whole-front : (more : List ℕ) → is_cut (take k bytes) ≡ false → IsTaken o bytes more
      → take (4 + length_at (take k bytes)) (take k bytes) ≡ take (4 + length_at bytes) bytes
  whole-front more u T =
      let s : 4 ≤ length (take k bytes) = uncut_some (take k bytes) u in
      let e : length_at (take k bytes) ≡ length_at bytes
      = same_length_at k bytes (omega (arith, s, length-take k bytes)) in
      let h : IsFramed T.honest = F T.honest T.there in
      let m : length_at T.honest ≡ length_at bytes = ap (λ (x : List ℕ). length_at x) (sym T.same)
      ∙ same_length_at (4 + length_at bytes) bytes (omega arith) in
      let r : is_in_range (length_at (take k bytes)) ≡ true = ap (λ (n : ℕ). is_in_range n) (e ∙ sym m)
      ∙ h.range in
      let w : 4 + length_at (take k bytes) ≤ length (take k bytes) = uncut_whole (take k bytes) u r in
      ap (λ (n : ℕ). take (4 + n) (take k bytes)) e
      ∙ take-take (4 + length_at bytes) k bytes (omega (arith, w, e, length-take k bytes))

module _ (records : ℕ → Option (List ℕ)) (F : (d : ℕ) (r : List ℕ) → records d ≡ Some r → IsFramed r) where
  alike-same : (d k : ℕ) (front whole : Walked) → front ≡ whole → AreAlike records d k front whole
  alike-same d k front whole e = record {
    fault = λ f g. e;
    no_more = let p : front.taken ≡ whole.taken = ap (λ (w : Walked). w.taken) e in omega (arith, p);
    kept = λ i h l. let p : front.taken ≡ whole.taken = ap (λ (w : Walked). w.taken) e in omega (arith, p, h);
  }

  alike-moved : (d k : ℕ) {front front' whole whole' : Walked} → front' ≡ front → whole' ≡ whole
      → AreAlike records d k front whole → AreAlike records d k front' whole'
  alike-moved d k {front} {front'} {whole} {whole'} p q A = subst
      (λ (x : Walked). AreAlike records d k x whole') (sym p)
      (subst (λ (y : Walked). AreAlike records d k front y) (sym q) A)

  -- a record that is taken, and lies in the first k bytes, is not cut there
  not-cut : (d k : ℕ) (bytes more : List ℕ) (T : IsTaken (records d) bytes more) → length T.honest ≤ k
      → is_cut (take k bytes) ≡ false
  not-cut d k bytes more T h =
      let n : 4 + length_at bytes ≡ length T.honest = taken-length (records d) (F d) bytes k more bytes T in
      let l : length (take (4 + length_at bytes) bytes) ≡ length T.honest = ap length T.same in
      let w : 4 + length_at bytes ≤ length bytes
      = omega (arith, n, l, length-take (4 + length_at bytes) bytes) in
      let e : length_at (take k bytes) ≡ length_at bytes = same_length_at k bytes (omega (arith, n, h)) in
      uncut (take k bytes) (omega (arith, w, n, h, length-take k bytes))
      (λ r. omega (arith, w, n, h, e, length-take k bytes))

  first-length : (i d : ℕ) (honest : List ℕ) → records d ≡ Some honest
      → length (records_from records (suc i) d) ≡ length honest + length (records_from records i (suc d))
  unfolding records_from
  first-length i d honest e = ap
      (λ (o : Option (List ℕ)). length (with_rest o (records_from records i (suc d)))) e
      ∙ length-append honest (records_from records i (suc d))

  ended-kept : (d k : ℕ) (bytes : List ℕ) (go_on : List ℕ → Walked) → is_cut (take k bytes) ≡ true
      → Way (records d) bytes
      → (i : ℕ) → i ≤ (after (next (records d) bytes) d go_on).taken → length (records_from records i d) ≤ k
      → i ≤ 0
  ended-kept d k bytes go_on u w zero h l = omega arith
  ended-kept d k bytes go_on u (cut c e) (suc i) h l = let p : (after (next (records d) bytes) d go_on).taken
      ≡ 0 = ap (λ (n : Next). (after n d go_on).taken) e in absurd (omega (arith, p, h))
  ended-kept d k bytes go_on u (refused-way f n e) (suc i) h l = let p :
      (after (next (records d) bytes) d go_on).taken ≡ 0 = ap (λ (n : Next). (after n d go_on).taken) e in
      absurd (omega (arith, p, h))
  ended-kept d k bytes go_on u (taken more T e) (suc i) h l = absurd
      (both_ways (is_cut (take k bytes))
      (not-cut d k bytes more T (omega (arith, first-length i d T.honest T.there, l))) u)

  -- one step over both
  alike-step : (d k : ℕ) (bytes : List ℕ) (go_on : List ℕ → Walked)
      → ((j : ℕ) (more : List ℕ) → AreAlike records (suc d) j (go_on (take j more)) (go_on more))
      → Way (records d) (take k bytes) → Way (records d) bytes
      → AreAlike records d k (after (next (records d) (take k bytes)) d go_on)
      (after (next (records d) bytes) d go_on)
  alike-step d k bytes go_on ih (cut c e) w =
      let p : after (next (records d) (take k bytes)) d go_on ≡ ended
      = ap (λ (n : Next). after n d go_on) e in
      alike-moved d k p refl (record {
        fault = λ f g. absurd (cc);
        no_more = omega arith;
        kept = λ i h l. ended-kept d k bytes go_on c w i h l;
      })
  alike-step d k bytes go_on ih (taken rest T e) w =
      let A : (more : List ℕ) × IsTaken (records d) bytes more
      × (rest ≡ take (k - (4 + length_at bytes)) more) = front-whole (records d) (F d) bytes k rest T in
      let q : next (records d) bytes ≡ Takes A.0 = took A.0 A.1 in
      let j : ℕ = k - (4 + length_at bytes) in
      let B : AreAlike records (suc d) j (go_on (take j A.0)) (go_on A.0) = ih j A.0 in
      let n : 4 + length_at bytes ≡ length A.1.honest
      = taken-length (records d) (F d) bytes k A.0 bytes A.1 in
      alike-moved d k (ap (λ (x : Next). after x d go_on) e ∙ ap (λ (x : List ℕ). one_more (go_on x)) A.2)
      (ap (λ (x : Next). after x d go_on) q) (record {
        fault = λ f g. ap (λ (x : Walked). one_more x) (B.fault f g);
        no_more = omega (arith, B.no_more);
        kept = λ i h l. kept-more d k i j (go_on (take j A.0)) (go_on A.0) B A.1.honest A.1.there
            (omega (arith, n)) h l;
      })
    where
      took : (more : List ℕ) → IsTaken (records d) bytes more → next (records d) bytes ≡ Takes more
      took more T' = ap (λ (o : Option (List ℕ)). next o bytes) T'.there
          ∙ next_takes T'.honest bytes T'.uncut T'.same ∙ ap Takes (sym T'.rest_is)

      kept-more : (d k i j : ℕ) (front whole : Walked) → AreAlike records (suc d) j front whole
          → (honest : List ℕ) → records d ≡ Some honest → j ≡ k - length honest → i ≤ suc whole.taken
          → length (records_from records i d) ≤ k → i ≤ suc front.taken
      kept-more d k zero j front whole B honest e n h l = omega arith
      kept-more d k (suc i) j front whole B honest e n h l =
          let a : i ≤ front.taken = B.kept i (omega (arith, h))
          (omega (arith, first-length i d honest e, l, n)) in omega (arith, a)
  alike-step d k bytes go_on ih (refused-way u n e) (cut c e') = absurd
      (both_ways (is_cut bytes) (whole-uncut (records d) (F d) bytes k u) c)
  alike-step d k bytes go_on ih (refused-way u n e) (taken more T e') = absurd
      (n T.honest T.there (whole-front (records d) (F d) bytes k more u T ∙ T.same))
  alike-step d k bytes go_on ih (refused-way u n e) (refused-way u' n' e') = alike-same d k _ _
      (ap (λ (x : Next). after x d go_on) (e ∙ sym e'))

  pub alike : (c d k : ℕ) (bytes : List ℕ)
      → AreAlike records d k (walk_records records c d (take k bytes)) (walk_records records c d bytes)
  unfolding walk_records
  alike zero d k bytes = alike-same d k ended ended refl
  alike (suc c) d k bytes = alike-step d k bytes (λ rest. walk_records records c (suc d) rest)
      (λ j more. alike c (suc d) j more) (way (records d) (take k bytes)) (way (records d) bytes)

-- the ways of a walk by the header
pub walk-header : (header : List ℕ) (records : ℕ → Option (List ℕ)) (c : ℕ) (file : List ℕ)
    → agrees 8 header file ≡ false → walk header records c file ≡ refused WalkFault.Header
unfolding walk
walk-header header records c file a = rw (a)

pub walk-presentation : (header : List ℕ) (records : ℕ → Option (List ℕ)) (c : ℕ) (file : List ℕ)
    → agrees 8 header file ≡ true → agrees 40 header file ≡ false
    → walk header records c file ≡ refused WalkFault.Presentation
unfolding walk
walk-presentation header records c file a b = rw (a, b)

pub walk-on : (header : List ℕ) (records : ℕ → Option (List ℕ)) (c : ℕ) (file : List ℕ)
    → agrees 8 header file ≡ true → agrees 40 header file ≡ true
    → walk header records c file ≡ walk_records records c 1 (drop 40 file)
unfolding walk
walk-on header records c file a b = rw (a, b)

-- what agrees, still agrees where it is cut
pub agrees-cut : (n k : ℕ) (honest file : List ℕ) → agrees n honest file ≡ true
    → agrees n honest (take k file) ≡ true
unfolding agrees
agrees-cut n k honest file a =
    let e : take n file ≡ take (min n (length file)) honest
    = (bytes_eq-Decides (take n file) (take (min n (length file)) honest)).0 a in
    (bytes_eq-Decides (take n (take k file)) (take (min n (length (take k file))) honest)).1
    (elim (cases_lt k n) [
      | inl s ↦ take_all n (take k file) (omega (arith, length-take k file, s))
          ∙ sym (take-take k n file (omega (arith, s))) ∙ ap (λ (x : List ℕ). take k x) e
          ∙ elim (cases_lt k (min n (length file))) [
            | inl t ↦ let m : k ≡ min n (length (take k file)) = omega (arith, length-take k file, s, t) in
                take-take k (min n (length file)) honest (omega (arith, t)) ∙ ap (λ (m : ℕ). take m honest) m
            | inr t ↦ let m : min n (length file) ≡ min n (length (take k file)) = omega
                (arith, length-take k file, s, t) in
                take_all k (take (min n (length file)) honest)
                (omega (arith, length-take (min n (length file)) honest, t))
                ∙ ap (λ (m : ℕ). take m honest) m
          ]
      | inr w ↦ let m : min n (length file) ≡ min n (length (take k file)) = omega
          (arith, length-take k file, w) in take-take n k file w ∙ e ∙ ap (λ (m : ℕ). take m honest) m
    ])

-- a front that is as long, and what is not cut before the front's end, agree alike
agrees-same : (n k : ℕ) (honest file : List ℕ) → n ≤ length (take k file)
    → agrees n honest (take k file) ≡ true → agrees n honest file ≡ true
unfolding agrees
agrees-same n k honest file h a =
    let e : take n (take k file) ≡ take (min n (length (take k file))) honest
    = (bytes_eq-Decides (take n (take k file)) (take (min n (length (take k file))) honest)).0 a in
    let m : min n (length (take k file)) ≡ min n (length file) = omega (arith, length-take k file, h) in
    (bytes_eq-Decides (take n file) (take (min n (length file)) honest)).1
    (sym (take-take n k file (omega (arith, length-take k file, h))) ∙ e
    ∙ ap (λ (m : ℕ). take m honest) m)

agrees-short : (n m : ℕ) (honest file : List ℕ) → length file ≤ n → n ≤ m → agrees n honest file ≡ true
    → agrees m honest file ≡ true
unfolding agrees
agrees-short n m honest file h l a =
    let e : take n file ≡ take (min n (length file)) honest
    = (bytes_eq-Decides (take n file) (take (min n (length file)) honest)).0 a in
    let j : min n (length file) ≡ min m (length file) = omega (arith, h, l) in
    (bytes_eq-Decides (take m file) (take (min m (length file)) honest)).1
    (take_all m file (omega (arith, h, l)) ∙ sym (take_all n file h) ∙ e
    ∙ ap (λ (m : ℕ). take m honest) j)

pub walk-nil : (records : ℕ → Option (List ℕ)) (d n : ℕ) → walk_records records n d [] ≡ ended
unfolding walk_records
walk-nil records d zero = refl
walk-nil records d (suc n) = ap (λ (x : Next). after x d (λ rest. walk_records records n (suc d) rest))
    (next_ends (records d) [] (cut_short [] (omega arith)))

module _ (header : List ℕ) (records : ℕ → Option (List ℕ)) (H : AreHonest header records) (c k : ℕ)
    (file : List ℕ) where
  abbrev front : Walked
  front = walk header records c (take k file)

  abbrev whole : Walked
  whole = walk header records c file

  claims-same : front ≡ whole → CutClaims header records c k file
  claims-same e = record {
    fault = λ f g. e;
    no_more = let p : front.taken ≡ whole.taken = ap (λ (w : Walked). w.taken) e in omega (arith, p);
    kept = λ i h l. let p : front.taken ≡ whole.taken = ap (λ (w : Walked). w.taken) e in omega (arith, p, h);
  }

  -- the whole agrees
  claims-alike : agrees 8 header file ≡ true → agrees 40 header file ≡ true
      → CutClaims header records c k file
  unfolding stage_bytes
  claims-alike a b = record {
    fault = λ f g. p ∙ A.fault f (sym (ap (λ (w : Walked). w.fault) p) ∙ g) ∙ sym q;
    no_more = omega (arith, pt, qt, A.no_more);
    kept = λ i h l. let t : i ≤ (walk_records records c 1 (take (k - 40) (drop 40 file))).taken = A.kept i
        (omega (arith, qt, h)) (short i l) in omega (arith, pt, t);
  }
    where
      cut-drop : drop 40 (take k file) ≡ take (k - 40) (drop 40 file)
      cut-drop =
          elim (cases_lt k 40) [
            | inl s ↦ let z : 0 ≡ k - 40 = omega (arith, s) in
                drop_all 40 (take k file) (omega (arith, length-take k file, s))
                ∙ ap (λ (n : ℕ). take n (drop 40 file)) z
            | inr w ↦ let f : k ≡ 40 + (k - 40) = omega (arith, w) in ap (λ (n : ℕ). drop 40 (take n file)) f
                ∙ drop-take 40 (k - 40) file
          ]

      p : walk header records c (take k file) ≡ walk_records records c 1 (take (k - 40) (drop 40 file))
      p = walk-on header records c (take k file) (agrees-cut 8 k header file a)
          (agrees-cut 40 k header file b) ∙ ap (λ (x : List ℕ). walk_records records c 1 x) cut-drop

      q : walk header records c file ≡ walk_records records c 1 (drop 40 file)
      q = walk-on header records c file a b

      pt : (walk header records c (take k file)).taken ≡
          (walk_records records c 1 (take (k - 40) (drop 40 file))).taken
      pt = ap (λ (w : Walked). w.taken) p

      qt : (walk header records c file).taken ≡ (walk_records records c 1 (drop 40 file)).taken
      qt = ap (λ (w : Walked). w.taken) q

      A : AreAlike records 1 (k - 40) (walk_records records c 1 (take (k - 40) (drop 40 file)))
          (walk_records records c 1 (drop 40 file))
      A = alike records H.framed c 1 (k - 40) (drop 40 file)

      short : (i : ℕ) → length (stage_bytes header records i) ≤ k → length (records_from records i 1) ≤ k - 40
      short i l = omega (arith, l, length-append header (records_from records i 1), H.header_size)

  -- the whole is refused at its header, and the front goes on: it ends before the header does
  claims-short : (f : WalkFault) → length (take k file) < 40 → agrees 8 header (take k file) ≡ true
      → agrees 40 header (take k file) ≡ true → whole ≡ refused f → CutClaims header records c k file
  claims-short f s a b e = record {
    fault = λ g h. absurd (no-fault g h);
    no_more = omega (arith, pt);
    kept = λ i h l. let t : whole.taken ≡ 0 = ap (λ (w : Walked). w.taken) e in omega (arith, t, h);
  }
    where
      p : front ≡ ended
      p = walk-on header records c (take k file) a b
          ∙ ap (λ (x : List ℕ). walk_records records c 1 x) (drop_all 40 (take k file) (omega (arith, s)))
          ∙ walk-nil records 1 c

      pt : front.taken ≡ 0
      pt = ap (λ (w : Walked). w.taken) p

      no-fault : (g : WalkFault) → front.fault ≡ Some g → ⊥
      no-fault g h = let r : None ≡ Some g = sym (ap (λ (w : Walked). w.fault) p) ∙ h in cc

  pub cut-claims : CutClaims header records c k file
  cut-claims =
      elim (cases_Bool (agrees 8 header (take k file))) [
        | inr f ↦ claims-same (walk-header header records c (take k file) f
            ∙ sym (walk-header header records c file (unlike 8 f)))
        | inl t ↦ elim (cases_Bool (agrees 40 header (take k file))) [
          | inr f ↦ claims-same (walk-presentation header records c (take k file) t f
              ∙ sym (walk-presentation header records c file (first-eight t f) (unlike 40 f)))
          | inl u ↦ elim (cases_lt (length (take k file)) 40) [
            | inr w ↦ claims-alike (agrees-same 8 k header file (omega (arith, w)) t)
                (agrees-same 40 k header file w u)
            | inl s ↦ elim (cases_Bool (agrees 8 header file)) [
              | inr f ↦ claims-short WalkFault.Header s t u (walk-header header records c file f)
              | inl a ↦ elim (cases_Bool (agrees 40 header file)) [
                | inr f ↦ claims-short WalkFault.Presentation s t u
                    (walk-presentation header records c file a f)
                | inl b ↦ claims-alike a b
              ]
            ]
          ]
        ]
      ]
    where
      unlike : (n : ℕ) → agrees n header (take k file) ≡ false → agrees n header file ≡ false
      unlike n f = elim (cases_Bool (agrees n header file)) [
        | inl t ↦ absurd
            (both_ways _ f (agrees-cut n k header file t))
        | inr g ↦ g
      ]

      first-eight : agrees 8 header (take k file) ≡ true → agrees 40 header (take k file) ≡ false
          → agrees 8 header file ≡ true
      first-eight t f =
          elim (cases_lt (length (take k file)) 8) [
            | inl s ↦ absurd (both_ways _ f
                (agrees-short 8 40 header (take k file) (omega (arith, s)) (omega arith) t))
            | inr w ↦ agrees-same 8 k header file w t
          ]

-- one step of a walk over records
pub walk-ends : (records : ℕ → Option (List ℕ)) (c d : ℕ) (bytes : List ℕ) → next (records d) bytes ≡ Ends
    → walk_records records (suc c) d bytes ≡ ended
unfolding walk_records
walk-ends records c d bytes e = ap (λ (n : Next). after n d (λ rest. walk_records records c (suc d) rest)) e

pub walk-takes : (records : ℕ → Option (List ℕ)) (c d : ℕ) (bytes rest : List ℕ)
    → next (records d) bytes ≡ Takes rest
    → walk_records records (suc c) d bytes ≡ one_more (walk_records records c (suc d) rest)
unfolding walk_records
walk-takes records c d bytes rest e = ap
    (λ (n : Next). after n d (λ rest. walk_records records c (suc d) rest)) e

pub walk-refuses : (records : ℕ → Option (List ℕ)) (c d : ℕ) (bytes : List ℕ)
    → next (records d) bytes ≡ Refuses → walk_records records (suc c) d bytes ≡ refused (WalkFault.Record d)
unfolding walk_records
walk-refuses records c d bytes e = ap
    (λ (n : Next). after n d (λ rest. walk_records records c (suc d) rest)) e
