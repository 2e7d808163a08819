-- The walk over a front of an honest file.
use Rattle.std.proofs.Common.{◌≡◌, ℕ, zero, suc, ◌+◌, ◌-◌, ◌<◌, ◌≤◌, true, false, min, List, [], ◌++◌, length}
use Rattle.std.proofs.Common.{take, drop, None, Some, inl, inr, refl, sym, ap, ◌∙◌, arith}
use mathlib.Core.Path.{subst}
use Rattle.std.specs.declared.option.Option.{Option}
use Rattle.std.proofs.Math.Dec.{leb}
use Rattle.std.proofs.Math.Seq.{take-add}
use Rattle.std.proofs.lemmas.Bool.{cond-true, cond-false, cases_lt, le-leb, lt-leb}
use Rattle.std.proofs.lemmas.List.{take_at, drop_at, take-take, take-append-le, length-append, length-take}
use Rattle.std.proofs.lemmas.List.{length-take-le, drop-take, take_all, drop_all}
use Rattle.std.proofs.lemmas.Slice.Eq.{bytes_eq-Decides}
use Rattle.stage_records.specs.Walks.{length_at, is_in_range, is_cut, Next, Ends, Takes, next, Walked, after}
use Rattle.stage_records.specs.Walks.{one_more, walk_records, agrees, walk, with_rest, records_from}
use Rattle.stage_records.specs.Walks.{stage_bytes, count_with, whole_records}
use Rattle.stage_records.specs.Claims.{IsFramed, AreHonest}
use Rattle.stage_records.proofs.Steps.{same_length_at, front_length_at, cut_short, cut_inside, uncut}
use Rattle.stage_records.proofs.Steps.{next_ends, next_takes}

-- a framed record at the front is taken
pub next_framed : (r rest : List ℕ) → IsFramed r → next (Some r) (r ++ rest) ≡ Takes rest
next_framed r rest F =
    let e : length_at (r ++ rest) ≡ length_at r = front_length_at r rest F.some in
    let s : length r ≡ 4 + length_at (r ++ rest) = omega (arith, F.size, e) in
    let u : is_cut (r ++ rest) ≡ false
    = uncut (r ++ rest) (omega (arith, F.some, length-append r rest))
    (λ t. omega (arith, s, length-append r rest)) in
    next_takes r (r ++ rest) u (take_at r rest (4 + length_at (r ++ rest)) s)
    ∙ ap Takes (drop_at r rest (4 + length_at (r ++ rest)) s)

-- and the file ends inside it
pub next_inside : (o : Option (List ℕ)) (r rest : List ℕ) (k : ℕ) → IsFramed r → k < length r
    → next o (take k (r ++ rest)) ≡ Ends
next_inside o r rest k F h =
    let e : take k (r ++ rest) ≡ take k r = take-append-le k r rest (omega arith) in
    let l : length (take k (r ++ rest)) ≡ k = ap length e ∙ length-take-le k r (omega arith) in
    next_ends o (take k (r ++ rest))
    (elim (cases_lt k 4) [
      | inl s ↦ cut_short (take k (r ++ rest)) (omega (arith, l, s))
      | inr w ↦ let a : length_at (take k (r ++ rest)) ≡ length_at r = same_length_at k (r ++ rest) w
          ∙ front_length_at r rest F.some in
          cut_inside (take k (r ++ rest)) (ap (λ (n : ℕ). is_in_range n) a
          ∙ F.range) (omega (arith, l, a, F.size, h))
    ])

pub next_nil : (o : Option (List ℕ)) → next o [] ≡ Ends
next_nil o = next_ends o [] (cut_short [] (omega arith))

-- one step of the walk over a front
front-step : (d : ℕ) (o : Option (List ℕ)) → ((r : List ℕ) → o ≡ Some r → IsFramed r)
    → (go_on : List ℕ → Walked) (more : ℕ → ℕ) (rest : List ℕ)
    → ((j : ℕ) → go_on (take j rest) ≡ record { taken = more j; fault = None })
    → (k : ℕ) → after (next o (take k (with_rest o rest))) d go_on ≡ record {
      taken = count_with o k more;
      fault = None;
    }
front-step d None F go_on more rest ih k = ap (λ (n : Next). after n d go_on)
    (ap (λ (x : List ℕ). next None x) (take_all k [] (omega arith)) ∙ next_nil None)
front-step d (Some r) F go_on more rest ih k =
    elim (cases_lt k (length r)) [
      | inl s ↦ ap (λ (n : Next). after n d go_on) (next_inside (Some r) r rest k (F r refl) s)
          ∙ ap (λ (n : ℕ). record { taken = n; fault = None })
          (sym (cond-false (leb (length r) k) (suc (more (k - length r))) 0 (lt-leb (length r) k s)))
      | inr w ↦ let e : take k (r ++ rest) ≡ r ++ take (k - length r) rest =
          (ap (λ (n : ℕ). take n (r ++ rest)) (omega (arith, w))
          ∙ take-add (length r) (k - length r) (r ++ rest)
          ∙ ap₂' (take_at r rest (length r) refl)
          (ap (λ (x : List ℕ). take (k - length r) x) (drop_at r rest (length r) refl))) in
          ap (λ (n : Next). after n d go_on) (ap (λ (x : List ℕ). next (Some r) x) e
          ∙ next_framed r (take (k - length r) rest) (F r refl))
          ∙ ap (λ (x : Walked). one_more x) (ih (k - length r))
          ∙ ap (λ (n : ℕ). record { taken = n; fault = None })
          (sym (cond-true (leb (length r) k) (suc (more (k - length r))) 0 (le-leb (length r) k w)))
    ]
  where
    ap₂' : {x y u v : List ℕ} → x ≡ y → u ≡ v → x ++ u ≡ y ++ v
    ap₂' p q = cc

pub front-records : (records : ℕ → Option (List ℕ)) → ((d : ℕ) (r : List ℕ) → records d ≡ Some r → IsFramed r)
    → (c more d k : ℕ)
    → walk_records records c d (take k (records_from records (c + more) d))
    ≡ record { taken = whole_records records c d k; fault = None }
unfolding walk_records records_from whole_records
front-records records F zero more d k = refl
front-records records F (suc c) more d k = let e : suc (c + more) ≡ suc c + more = omega arith in
    subst (λ (n : ℕ). walk_records records (suc c) d (take k (records_from records n d))
    ≡ record { taken = whole_records records (suc c) d k; fault = None })
    e
    (front-step d (records d) (F d) (λ rest. walk_records records c (suc d) rest)
    (λ j. whole_records records c (suc d) j) (records_from records (c + more) (suc d))
    (λ j. front-records records F c more (suc d) j) k)

-- the header of an honest file
pub agrees-front : (n k : ℕ) (honest rest : List ℕ) → n ≤ length honest
    → agrees n honest (take k (honest ++ rest)) ≡ true
unfolding agrees
agrees-front n k honest rest h =
    (bytes_eq-Decides (take n (take k (honest ++ rest)))
    (take (min n (length (take k (honest ++ rest)))) honest)).1
    (elim (cases_lt k n) [
      | inl s ↦ let e : take k (honest ++ rest) ≡ take k honest = take-append-le k honest rest (omega arith)
          in
          let l : length (take k (honest ++ rest)) ≡ k
          = ap length e ∙ length-take-le k honest (omega arith) in
          take_all n (take k (honest ++ rest)) (omega (arith, l, s)) ∙ e
          ∙ ap (λ (m : ℕ). take m honest) (omega (arith, l, s))
      | inr w ↦ take-take n k (honest ++ rest) w ∙ take-append-le n honest rest h
          ∙ ap (λ (m : ℕ). take m honest)
          (omega (arith, length-take k (honest ++ rest), length-append honest rest, w, h))
    ])

pub front-law : (header : List ℕ) (records : ℕ → Option (List ℕ)) (c k : ℕ) → AreHonest header records
    → c ≤ 24
    → walk header records c (take k (stage_bytes header records 24))
    ≡ record { taken = whole_records records c 1 (k - 40); fault = None }
unfolding walk stage_bytes
front-law header records c k H h =
    let R : List ℕ = records_from records 24 1 in
    let a : agrees 8 header (take k (header ++ R)) ≡ true
    = agrees-front 8 k header R (omega (arith, H.header_size)) in
    let b : agrees 40 header (take k (header ++ R)) ≡ true
    = agrees-front 40 k header R (omega (arith, H.header_size)) in
    let e : drop 40 (take k (header ++ R)) ≡ take (k - 40) R = dropped R in
    let f : c + (24 - c) ≡ 24 = omega (arith, h) in
    rw (a, b, e) (subst (λ (n : ℕ). walk_records records c 1 (take (k - 40) (records_from records n 1))
    ≡ record { taken = whole_records records c 1 (k - 40); fault = None }) f
    (front-records records H.framed c (24 - c) 1 (k - 40)))
  where
    dropped : (R : List ℕ) → drop 40 (take k (header ++ R)) ≡ take (k - 40) R
    dropped R =
        elim (cases_lt k 40) [
          | inl s ↦ let z : 0 ≡ k - 40 = omega (arith, s) in
              drop_all 40 (take k (header ++ R)) (omega (arith, length-take k (header ++ R), s))
              ∙ ap (λ (n : ℕ). take n R) z
          | inr w ↦ let f : k ≡ 40 + (k - 40) = omega (arith, w) in
              ap (λ (n : ℕ). drop 40 (take n (header ++ R))) f ∙ drop-take 40 (k - 40) (header ++ R)
              ∙ ap (λ (x : List ℕ). take (k - 40) x) (drop_at header R 40 H.header_size)
        ]
