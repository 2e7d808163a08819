-- The honest file grows by a record, and stops at the first degree without one.
use Rattle.std.proofs.Common.{append_assoc, ◌≡◌, ℕ, zero, suc, ◌+◌, List, [], ◌++◌, Some, None, refl, sym, ap}
use Rattle.std.proofs.Common.{◌∙◌, arith}
use mathlib.Core.Path.{subst}
use Rattle.std.specs.declared.option.Option.{Option}
use Rattle.std.proofs.lemmas.List.{append-nil}
use Rattle.stage_records.specs.Walks.{with_rest, records_from, stage_bytes}
use Rattle.stage_records.specs.Claims.{AreThere, FileClaims}

module _ (records : ℕ → Option (List ℕ)) where
  from-first : (c d : ℕ) (r : List ℕ) → records d ≡ Some r
      → records_from records (suc c) d ≡ r ++ records_from records c (suc d)
  unfolding records_from
  from-first c d r e = ap (λ (o : Option (List ℕ)). with_rest o (records_from records c (suc d))) e

  from-none : (c d : ℕ) → records d ≡ None → records_from records c d ≡ []
  unfolding records_from
  from-none zero d e = refl
  from-none (suc c) d e = ap (λ (o : Option (List ℕ)). with_rest o (records_from records c (suc d))) e

  first-there : (c d : ℕ) → AreThere records (suc c) d → (r : List ℕ) × (records d ≡ Some r)
  first-there c d h = let p : (r : List ℕ) × (records (d + 0) ≡ Some r) = h 0 (omega arith) in
      let e : d + 0 ≡ d = omega arith in (p.0, subst (λ (n : ℕ). records n ≡ Some p.0) e p.1)

  rest-there : (c d : ℕ) → AreThere records (suc c) d → AreThere records c (suc d)
  rest-there c d h i l = let p : (r : List ℕ) × (records (d + suc i) ≡ Some r) = h (suc i) (omega (arith, l))
      in
      let e : d + suc i ≡ suc d + i = omega arith in (p.0, subst (λ (n : ℕ). records n ≡ Some p.0) e p.1)

  pub from-more : (c d : ℕ) (honest : List ℕ) → AreThere records c d → records (d + c) ≡ Some honest
      → records_from records (suc c) d ≡ records_from records c d ++ honest
  unfolding records_from
  from-more zero d honest h e =
      let z : d + zero ≡ d = omega arith in
      from-first 0 d honest (subst (λ (n : ℕ). records n ≡ Some honest) z e) ∙ append-nil honest
  from-more (suc c) d honest h e =
      let p : (r : List ℕ) × (records d ≡ Some r) = first-there c d h in
      let z : d + suc c ≡ suc d + c = omega arith in
      from-first (suc c) d p.0 p.1
      ∙ ap (λ (x : List ℕ). p.0 ++ x)
      (from-more c (suc d) honest (rest-there c d h) (subst (λ (n : ℕ). records n ≡ Some honest) z e))
      ∙ sym (append_assoc p.0 (records_from records c (suc d)) honest)
      ∙ ap (λ (x : List ℕ). x ++ honest) (sym (from-first c d p.0 p.1))

  pub from-stop : (c more d : ℕ) → AreThere records c d → records (d + c) ≡ None
      → records_from records (c + more) d ≡ records_from records c d
  unfolding records_from
  from-stop zero more d h e =
      let z : d + zero ≡ d = omega arith in let y : zero + more ≡ more = omega arith in
      ap (λ (n : ℕ). records_from records n d) y ∙ from-none more d (subst (λ (n : ℕ). records n ≡ None) z e)
  from-stop (suc c) more d h e =
      let p : (r : List ℕ) × (records d ≡ Some r) = first-there c d h in
      let z : d + suc c ≡ suc d + c = omega arith in let y : suc c + more ≡ suc (c + more) = omega arith in
      ap (λ (n : ℕ). records_from records n d) y ∙ from-first (c + more) d p.0 p.1
      ∙ ap (λ (x : List ℕ). p.0 ++ x)
      (from-stop c more (suc d) (rest-there c d h) (subst (λ (n : ℕ). records n ≡ None) z e))
      ∙ sym (from-first c d p.0 p.1)

  pub file-claims : (header : List ℕ) (c : ℕ) → AreThere records c 1 → FileClaims header records c
  unfolding stage_bytes records_from
  file-claims header c h = record {
    none = append-nil header;
    more = λ honest e. ap (λ (x : List ℕ). header ++ x) (from-more c 1 honest h e)
        ∙ sym (append_assoc header (records_from records c 1) honest);
    stop = λ more e. ap (λ (x : List ℕ). header ++ x) (from-stop c more 1 h e);
  }
