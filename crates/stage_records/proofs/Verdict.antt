-- The reading of a record and the six checks decide exactly as the walk does.
use Rattle.std.proofs.Common.{◌≡◌, ℕ, zero, suc, ◌+◌, ◌*◌, ◌<◌, ◌≤◌, true, List, ◌++◌, length, take, drop}
use Rattle.std.proofs.Common.{map, None, Some, refl, sym, ap, ap₂, ◌∙◌, arith, inl, inr}
use mathlib.Core.Path.{subst, fun_ext}
use Rattle.std.specs.declared.option.Option.{Option}
use Rattle.std.specs.Prelude.{codes}
use Rattle.std.specs.List.{concat}
use Rattle.std.specs.Int.{w16, w32, to_be_bytes, from_be_bytes}
use Rattle.std.proofs.lemmas.Nat.{from_be_bytes-to_be_bytes_4}
use Rattle.std.proofs.Math.Dec.{leb}
use Rattle.std.proofs.Math.Nat.{mul-le-mul}
use Rattle.std.proofs.lemmas.Bool.{cases_lt, leb-true, le-leb, cond-true, and_parts}
use Rattle.std.proofs.lemmas.Option.{cond_some}
use Rattle.std.proofs.lemmas.List.{length-append, take_at}
use Rattle.group_table.specs.Prime.{prime_value}
use Rattle.group_modules.specs.Tables.{Group}
use Rattle.group_modules.specs.Resolutions.{rank}
use Rattle.linear_algebra.specs.Modular.{IsFieldModulo}
use Rattle.linear_algebra.specs.Rows.{IsMatrix}
use Rattle.linear_algebra.proofs.GreedyChoice.{greedy-below}
use Rattle.radical_layers.specs.Coordinates.{Coordinates}
use Rattle.radical_layers.specs.Moves.{moves}
use Rattle.group_modules.specs.Tables.{Table}
use Rattle.resolution_stages.specs.Definitions.{StageRows, AreStages}
use Rattle.resolution_stages.specs.Checks.{StageParts, IsSubmoduleList, HasShape, HasCount, PassesChecks}
use Rattle.resolution_stages.specs.Checks.{IsNextStage}
use Rattle.resolution_stages.specs.Chain.{parts_of}
use Rattle.resolution_stages.proofs.CheckClaims.{checks-next, next-checks}
use Rattle.resolution_stages.proofs.ChainLaws.{next-of}
use Rattle.resolution_stages.proofs.NextList.{first-list, next-list}
use Rattle.resolution_stages.proofs.Unique.{next-is-one}
use Rattle.sha2.specs.Sha256.{sha256}
use Rattle.sha2.proofs.Facts256.{length-sha256}
use Rattle.stage_records.specs.declared.shape.Shape.{Shape}
use Rattle.stage_records.specs.Records.{record_length, record_bytes, record_of_width, record_at, header_bytes}
use Rattle.stage_records.specs.Records.{body, position_bytes}
use Rattle.stage_records.specs.Walks.{length_at, is_in_range, Ends, Takes, Refuses, next}
use Rattle.stage_records.specs.Readings.{AreBytes, Cut, Whole, Malformed, read_record}
use Rattle.stage_records.specs.Claims.{IsFramed, AreHonest, Fits, WholeClaims}
use Rattle.stage_records.specs.Verdicts.{IsShapeOf, VerdictClaims}
use Rattle.stage_records.proofs.Steps.{next_ends, next_takes, next_refuses, Way, cut, taken, refused, way}
use Rattle.stage_records.proofs.Sizes.{greedy-ascends, ascending-few, echelon-few, range-is}
use Rattle.stage_records.proofs.Written.{whole-claims, length-positions}
use Rattle.stage_records.proofs.Bytes.{length-concat}
use Rattle.stage_records.proofs.Readings.{cut-reading, uncut-reading}

-- the stages with the lengths of the positions as ranks
abbrev pub with-ranks : StageRows → StageRows
with-ranks S = record {
  ranks = λ d. length (S.positions d);
  kernel = S.kernel;
  positions = S.positions;
  section = S.section;
}

module _ {n : ℕ} (q : ℕ) (F : IsFieldModulo (suc q)) (Γ : Group n) (K : Coordinates q Γ) (S : StageRows)
    (A : AreStages q Γ K (with-ranks S)) where
  abbrev pub r : ℕ → ℕ
  r d = rank q Γ (λ d. length (S.positions d)) d

  pub next-at : (d : ℕ) → IsNextStage q Γ K (r d) (S.kernel d) (parts_of S d)
  next-at d = next-of q F Γ K S A d

  pub list-at : (d : ℕ) → IsSubmoduleList q Γ K (r d) (S.kernel d)
  list-at zero = first-list q Γ K (S.kernel 0) (A.kernel_is 0)
  list-at (suc d) = next-list q Γ K (r d) (S.kernel d) (parts_of S d) (next-at d)

  pub shape-at : (d : ℕ) → HasShape q Γ K (r d) (S.kernel d) (parts_of S d)
  shape-at d = record {
    ascending = λ i j k l. greedy-ascends (suc q) (S.kernel d)
        (moves Γ (Table q Γ (r d)) (K (r d)) (S.kernel d)) (length (S.kernel d)) (S.positions d)
        (next-at d).rows_are i j k l;
    inside = λ i l. (greedy-below (suc q) (S.kernel d) (moves Γ (Table q Γ (r d)) (K (r d)) (S.kernel d))
        (length (S.kernel d)) (S.positions d) (next-at d).rows_are i l).1;
    kernel_rows = (next-at d).kernel_is.matrix;
    section_rows = (next-at d).section_rows;
    section_count = (next-at d).section_count;
  }

  pub checks-at : (d : ℕ) → HasCount q Γ K (r d) (S.kernel d) (parts_of S d)
      × PassesChecks q Γ K (r d) (S.kernel d) (parts_of S d)
  checks-at d = next-checks q F Γ K (r d) (S.kernel d) (list-at d) (parts_of S d) (shape-at d) (next-at d)

  pub some-elements : 0 < n
  some-elements = omega (arith, Γ.one.1)

  -- over the trivial group no rank is above 1
  rank-few : (d : ℕ) → n ≤ 1 → r d ≤ 1
  rank-few zero h = omega arith
  rank-few (suc d) h =
      let a : length (S.positions d) ≤ length (S.kernel d)
      = ascending-few (S.positions d) (length (S.kernel d)) (shape-at d).ascending (shape-at d).inside in
      let b : length (S.kernel d) ≤ n * r d
      = echelon-few (suc q) (n * r d) (S.kernel d) (list-at d).matrix (list-at d).echelon in
      let c : n * r d ≤ 1 * 1 = mul-le-mul h (rank-few d h) in
      omega (arith, a, b, c)

  pub range-at : (d : ℕ) → n * length (S.positions d) ≤ 4096
      → is_in_range (record_length (length (S.positions d)) (n * length (S.positions d))) ≡ true
  range-at d h = range-is n (length (S.positions d)) h
      (elim (cases_lt n 2) [ inl s ↦ inr (rank-few (suc d) (omega (arith, s))) | inr t ↦ inl t ])

  -- the honest record
  record-some : (d : ℕ) (honest : List ℕ) → record_at n (with-ranks S) (suc d) ≡ Some honest
      → (n * length (S.positions d) ≤ 4096) × (record_bytes n (suc d) (parts_of S d) ≡ honest)
  record-some d honest e =
      let p : (leb (n * length (S.positions d)) 4096 ≡ true)
      × (record_bytes n (suc d) (parts_of S d) ≡ honest) = cond_some
      (leb (n * length (S.positions d)) 4096) (record_bytes n (suc d) (parts_of S d)) honest e in
      (leb-true (n * length (S.positions d)) 4096 p.0, p.1)

  pub record-there : (d : ℕ) → n * length (S.positions d) ≤ 4096
      → record_at n (with-ranks S) (suc d) ≡ Some (record_bytes n (suc d) (parts_of S d))
  record-there d h = cond-true (leb (n * length (S.positions d)) 4096)
      (Some (record_bytes n (suc d) (parts_of S d))) None (le-leb (n * length (S.positions d)) 4096 h)

  module _ (d : ℕ) (shape : Shape) (low : suc d ≤ 24) (H : IsShapeOf q Γ K (with-ranks S) d shape)
      (bytes : List ℕ) (B : AreBytes bytes) where
    claims : (Q : StageParts) → WholeClaims shape bytes Q
    claims Q = whole-claims shape bytes Q (omega (arith, H.degree, low))
        (omega (arith, H.order, some-elements)) B

    fit-at : n * length (S.positions d) ≤ 4096 → Fits shape (parts_of S d)
    fit-at h = record {
      ascending = (shape-at d).ascending;
      inside = λ i l. let a = (shape-at d).inside i l in omega (arith, a, H.previous);
      kernel_rows = matrix (S.kernel (suc d)) (shape-at d).kernel_rows;
      section_rows = matrix (map (S.section d) (S.kernel d)) (shape-at d).section_rows;
      kernel_count = omega (arith, (checks-at d).0, H.previous, width);
      section_count = (shape-at d).section_count ∙ sym H.previous;
      small = omega (arith, h, width);
      range = ap (λ (k : ℕ). is_in_range (record_length (length (S.positions d)) k)) width ∙ range-at d h;
    }
      where
        width : shape.order * length (S.positions d) ≡ n * length (S.positions d)
        width = ap (λ (k : ℕ). k * length (S.positions d)) H.order

        matrix : (rows : List (List ℕ)) → IsMatrix (suc q) (n * length (S.positions d)) rows
            → IsMatrix (prime_value shape.p) (shape.order * length (S.positions d)) rows
        matrix rows M = subst (λ (k : ℕ). IsMatrix k (shape.order * length (S.positions d)) rows)
            (sym H.prime) (subst (λ (k : ℕ). IsMatrix (suc q) k rows) (sym width) M)

    record-moved : (Q : StageParts) → record_bytes shape.order shape.degree Q ≡ record_bytes n (suc d) Q
    record-moved Q = ap₂ (λ (k c : ℕ). record_bytes k c Q) H.order H.degree

    -- bytes that begin with the honest record are read as the stage's parts
    honest-read : (honest : List ℕ) → record_at n (with-ranks S) (suc d) ≡ Some honest
        → take (4 + length_at bytes) bytes ≡ honest → read_record shape bytes ≡ Whole (parts_of S d)
    honest-read honest e s =
        let p : (n * length (S.positions d) ≤ 4096) × (record_bytes n (suc d) (parts_of S d) ≡ honest)
        = record-some d honest e in
        (claims (parts_of S d)).whole (fit-at p.0) (s ∙ sym p.1 ∙ sym (record-moved (parts_of S d)))

    -- what is read has the shape that the checks ask for
    follows-at : (Q : StageParts) → Fits shape Q → HasShape q Γ K (r d) (S.kernel d) Q
        × HasCount q Γ K (r d) (S.kernel d) Q
    follows-at Q f = (
      record {
        ascending = f.ascending;
        inside = λ i l. let a = f.inside i l in omega (arith, a, H.previous);
        kernel_rows = matrix Q.kernel f.kernel_rows;
        section_rows = matrix Q.sections f.section_rows;
        section_count = f.section_count ∙ H.previous;
      },
      omega (arith, f.kernel_count, H.previous, width),
    )
      where
        width : shape.order * length Q.positions ≡ n * length Q.positions
        width = ap (λ (k : ℕ). k * length Q.positions) H.order

        matrix : (rows : List (List ℕ))
            → IsMatrix (prime_value shape.p) (shape.order * length Q.positions) rows
            → IsMatrix (suc q) (n * length Q.positions) rows
        matrix rows M = subst (λ (k : ℕ). IsMatrix k (n * length Q.positions) rows) H.prime
            (subst (λ (k : ℕ). IsMatrix (prime_value shape.p) k rows) width M)

    -- parts that pass are the stage's
    passed-same : (Q : StageParts) → read_record shape bytes ≡ Whole Q
        → PassesChecks q Γ K (r d) (S.kernel d) Q → Q ≡ parts_of S d
    passed-same Q e p =
        let f : HasShape q Γ K (r d) (S.kernel d) Q × HasCount q Γ K (r d) (S.kernel d) Q
        = follows-at Q ((claims Q).fit e) in
        next-is-one q F Γ K (r d) (S.kernel d) Q (parts_of S d)
        (checks-next q F Γ K (r d) (S.kernel d) (list-at d) Q f.0 f.1 p) (next-at d)

    passed-takes : (Q : StageParts) → read_record shape bytes ≡ Whole Q → Q ≡ parts_of S d
        → next (record_at n (with-ranks S) (suc d)) bytes ≡ Takes (drop (4 + length_at bytes) bytes)
    passed-takes Q e s =
        let m : shape.order * length Q.positions ≤ 4096 = ((claims Q).fit e).small in
        let w : shape.order * length Q.positions ≡ n * length (S.positions d)
        = ap₂ (λ (k c : ℕ). k * c) H.order (ap (λ (R : StageParts). length R.positions) s) in
        let t : record_at n (with-ranks S) (suc d) ≡ Some (record_bytes n (suc d) (parts_of S d))
        = record-there d (omega (arith, m, w)) in
        ap (λ (o : Option (List ℕ)). next o bytes) t
        ∙ next_takes (record_bytes n (suc d) (parts_of S d)) bytes
        (uncut-reading shape bytes (λ c. let z : Whole Q ≡ Cut = sym e ∙ c in cc))
        ((claims Q).same e ∙ record-moved Q ∙ ap (λ (R : StageParts). record_bytes n (suc d) R) s)

    pub verdict-at : VerdictClaims q Γ K (with-ranks S) d shape bytes
    verdict-at = record {
      cut = λ e. next_ends (record_at n (with-ranks S) (suc d)) bytes (cut-reading shape bytes e);
      malformed = λ f e. next_refuses (record_at n (with-ranks S) (suc d)) bytes
          (uncut-reading shape bytes (λ c. let z : Malformed f ≡ Cut = sym e ∙ c in cc))
          (λ honest h s. let z : Malformed f ≡ Whole (parts_of S d) = sym e ∙ honest-read honest h s in cc);
      follows = λ Q e. follows-at Q ((claims Q).fit e);
      passed = λ Q e p. (passed-same Q e p, passed-takes Q e (passed-same Q e p));
      failed = λ Q e p. next_refuses (record_at n (with-ranks S) (suc d)) bytes
          (uncut-reading shape bytes (λ c. let z : Whole Q ≡ Cut = sym e ∙ c in cc))
          (λ honest h s. p (let z : Whole (parts_of S d) ≡ Whole Q = sym (honest-read honest h s) ∙ e in
          let y : parts_of S d ≡ Q = cc in
          subst (λ (R : StageParts). PassesChecks q Γ K (r d) (S.kernel d) R) y (checks-at d).1));
      taken = λ rest e. took rest e (way (record_at n (with-ranks S) (suc d)) bytes);
    }
      where
        took : (rest : List ℕ) → next (record_at n (with-ranks S) (suc d)) bytes ≡ Takes rest
            → Way (record_at n (with-ranks S) (suc d)) bytes
            → (read_record shape bytes ≡ Whole (parts_of S d)) × PassesChecks q Γ K (r d) (S.kernel d)
            (parts_of S d)
        took rest e (cut c f) = let z : Ends ≡ Takes rest = sym f ∙ e in absurd (cc)
        took rest e (refused c n f) = let z : Refuses ≡ Takes rest = sym f ∙ e in absurd (cc)
        took rest e (taken more T f) = (honest-read T.honest T.there T.same, (checks-at d).1)

-- a record of bytes begins with its length
framed : (order d : ℕ) (Q : StageParts)
    → length (body d Q) + 32 ≡ record_length (length Q.positions) (order * length Q.positions)
    → is_in_range (record_length (length Q.positions) (order * length Q.positions)) ≡ true
    → IsFramed (record_bytes order d Q)
unfolding record_of_width
framed order d Q e r =
    let L : ℕ = record_length (length Q.positions) (order * length Q.positions) in
    let top : record_length (length Q.positions) (order * length Q.positions) ≤ 16781348
    = leb-true (record_length (length Q.positions) (order * length Q.positions)) 16781348
    (and_parts (leb 36 (record_length (length Q.positions) (order * length Q.positions)))
    (leb (record_length (length Q.positions) (order * length Q.positions)) 16781348) r).1 in
    let l : length_at (to_be_bytes w32 (record_length (length Q.positions) (order * length Q.positions)) ++
    (body d Q ++ sha256 (body d Q))) ≡ record_length (length Q.positions) (order * length Q.positions)
    = ap (λ (x : List ℕ). from_be_bytes w32 x)
    (take_at (to_be_bytes w32 (record_length (length Q.positions) (order * length Q.positions)))
    (body d Q ++ sha256 (body d Q)) 4 refl)
    ∙ from_be_bytes-to_be_bytes_4 (record_length (length Q.positions) (order * length Q.positions))
    (omega (arith, top)) in
    let s : length (to_be_bytes w32 (record_length (length Q.positions) (order * length Q.positions)) ++
    (body d Q ++ sha256 (body d Q))) ≡ 4 + (length (body d Q) + 32)
    = length-append (to_be_bytes w32 (record_length (length Q.positions) (order * length Q.positions)))
    (body d Q ++ sha256 (body d Q)) ∙ ap (λ (k : ℕ). 4 + k) (length-append (body d Q) (sha256 (body d Q))
    ∙ ap (λ (k : ℕ). length (body d Q) + k) (length-sha256 (body d Q))) in
    record {
      some = omega (arith, s);
      range = ap (λ (k : ℕ). is_in_range k) l ∙ r;
      size = omega (arith, l, s, e);
    }

-- the number of bytes under the digest
body-length : (p D previous d : ℕ) (Q : StageParts) → IsMatrix p D Q.kernel → IsMatrix p D Q.sections
    → length Q.kernel + previous ≡ D → length Q.sections ≡ previous
    → length (body d Q) ≡ 4 + 2 * length Q.positions + D * D
unfolding body
body-length p D previous d Q M N k s =
    let a : length (concat Q.kernel) ≡ length Q.kernel * D
    = length-concat D Q.kernel (λ i l. (M i l).length_is) in
    let b : length (concat Q.sections) ≡ length Q.sections * D
    = length-concat D Q.sections (λ i l. (N i l).length_is) in
    let c : (length Q.kernel + length Q.sections) * D ≡ D * D = ap (λ (n : ℕ). n * D) (omega' k s) in
    lengths (to_be_bytes w16 d) (to_be_bytes w16 (length Q.positions)) (position_bytes Q.positions)
    (concat Q.kernel) (concat Q.sections) refl refl (length-positions Q.positions)
    (omega (arith, a, b, c))
  where
    omega' : length Q.kernel + previous ≡ D → length Q.sections ≡ previous
        → length Q.kernel + length Q.sections ≡ D
    omega' k s = omega (arith, k, s)

    lengths : (B C P K S : List ℕ) → length B ≡ 2 → length C ≡ 2 → length P ≡ 2 * length Q.positions
        → length K + length S ≡ D * D
        → length (B ++ (C ++ (P ++ (K ++ S)))) ≡ 4 + 2 * length Q.positions + D * D
    lengths B C P K S b c p t = omega (
      arith,
      length-append B (C ++ (P ++ (K ++ S))),
      length-append C
          (P ++ (K ++ S)),
      length-append P (K ++ S),
      length-append K S,
      b,
      c,
      p,
      t,
    )

pub header-size : (text : List ℕ) → length (header_bytes text) ≡ 40
unfolding header_bytes
header-size text = length-append (codes "cohostg1") (sha256 text) ∙ ap (λ (k : ℕ). 8 + k) (length-sha256 text)

module _ {n : ℕ} (q : ℕ) (F : IsFieldModulo (suc q)) (Γ : Group n) (K : Coordinates q Γ) where
  normal : (S : StageRows) → AreStages q Γ K S → S ≡ with-ranks S
  normal S A = ap with (fun_ext A.rank_is)
    where
      with : (ℕ → ℕ) → StageRows
      with r = record { ranks = r; kernel = S.kernel; positions = S.positions; section = S.section }

  pub verdict : (S : StageRows) (d : ℕ) (shape : Shape) (bytes : List ℕ) → AreStages q Γ K S → suc d ≤ 24
      → IsShapeOf q Γ K S d shape → AreBytes bytes → VerdictClaims q Γ K S d shape bytes
  verdict S d shape bytes A low H B =
      let e : S ≡ with-ranks S = normal S A in
      subst (λ (X : StageRows). VerdictClaims q Γ K X d shape bytes) (sym e)
      (verdict-at q F Γ K S (subst (λ (X : StageRows). AreStages q Γ K X) e A) d shape low
      (subst (λ (X : StageRows). IsShapeOf q Γ K X d shape) e H) bytes B)

  framed-normal : (S : StageRows) → AreStages q Γ K (with-ranks S) → (d : ℕ) (honest : List ℕ)
      → record_at n (with-ranks S) d ≡ Some honest → IsFramed honest
  framed-normal S A zero honest e = let z : None ≡ Some honest = e in absurd (cc)
  framed-normal S A (suc d) honest e =
      let p : (n * length (S.positions d) ≤ 4096) × (record_bytes n (suc d) (parts_of S d) ≡ honest)
      = record-some q F Γ K S A d honest e in
      let h : HasShape q Γ K (r q F Γ K S A d) (S.kernel d) (parts_of S d) = shape-at q F Γ K S A d in
      let c : HasCount q Γ K (r q F Γ K S A d) (S.kernel d) (parts_of S d) = (checks-at q F Γ K S A d).0 in
      let l : length (body (suc d) (parts_of S d)) ≡ 4 + 2 * length (S.positions d) +
      (n * length (S.positions d)) * (n * length (S.positions d))
      = body-length (suc q) (n * length (S.positions d)) (length (S.kernel d)) (suc d)
      (parts_of S d) h.kernel_rows h.section_rows c h.section_count in
      subst IsFramed p.1 (framed n (suc d) (parts_of S d) (omega (arith, l)) (range-at q F Γ K S A d p.0))

  pub are-honest : (S : StageRows) (text : List ℕ) → AreStages q Γ K S
      → AreHonest (header_bytes text) (record_at n S)
  are-honest S text A =
      let e : S ≡ with-ranks S = normal S A in
      subst (λ (X : StageRows). AreHonest (header_bytes text) (record_at n X)) (sym e)
      (record {
        header_size = header-size text;
        framed = framed-normal S (subst (λ (X : StageRows). AreStages q Γ K X) e A);
      })
