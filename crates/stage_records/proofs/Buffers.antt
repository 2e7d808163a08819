-- A step of the walk over bytes of which the front was read.
use Rattle.std.proofs.Common.{◌≡◌, ℕ, ◌+◌, ◌-◌, ◌≤◌, true, false, List, take, drop, length, Some, sym, ap}
use Rattle.std.proofs.Common.{◌∙◌, arith, inl, inr}
use Rattle.std.specs.declared.option.Option.{Option}
use Rattle.std.proofs.lemmas.Bool.{cases_Bool, both_ways}
use Rattle.std.proofs.lemmas.List.{length-take}
use Rattle.stage_records.specs.Walks.{length_at, is_in_range, is_cut, Ends, Takes, Refuses, next}
use Rattle.stage_records.specs.Claims.{IsFramed, FrontClaims}
use Rattle.stage_records.proofs.Steps.{same_length_at, uncut_some, uncut_whole, uncut, next_ends, next_takes}
use Rattle.stage_records.proofs.Steps.{IsTaken, Way, cut, taken, refused, way}
use Rattle.stage_records.proofs.Cuts.{whole-uncut, front-whole, whole-front}

module _ (o : Option (List ℕ)) (F : (r : List ℕ) → o ≡ Some r → IsFramed r) (k : ℕ) (bytes : List ℕ)
    (some : 4 ≤ k) (enough : is_in_range (length_at bytes) ≡ true → 4 + length_at bytes ≤ k) where
  still-uncut : is_cut bytes ≡ false → is_cut (take k bytes) ≡ false
  still-uncut u =
      let s : 4 ≤ length bytes = uncut_some bytes u in
      let e : length_at (take k bytes) ≡ length_at bytes = same_length_at k bytes some in
      uncut (take k bytes) (omega (arith, s, some, length-take k bytes))
      (λ r. let r' : is_in_range (length_at bytes) ≡ true = sym (ap (λ (n : ℕ). is_in_range n) e) ∙ r in
      let w : 4 + length_at bytes ≤ length bytes = uncut_whole bytes u r' in
      omega (arith, w, enough r', e, length-take k bytes))

  ends-at : Way o (take k bytes) → next o (take k bytes) ≡ Ends → next o bytes ≡ Ends
  ends-at (cut c e) h =
      elim (cases_Bool (is_cut bytes)) [
        | inl t ↦ next_ends o bytes t
        | inr f ↦ absurd (both_ways (is_cut (take k bytes)) (still-uncut f) c)
      ]
  ends-at (taken rest T e) h = let z : Takes rest ≡ Ends = sym e ∙ h in absurd (cc)
  ends-at (refused u n e) h = let z : Refuses ≡ Ends = sym e ∙ h in absurd (cc)

  takes-at : Way o (take k bytes) → (rest : List ℕ) → next o (take k bytes) ≡ Takes rest
      → next o bytes ≡ Takes (drop (4 + length_at bytes) bytes)
  takes-at (cut c e) rest h = let z : Ends ≡ Takes rest = sym e ∙ h in absurd (cc)
  takes-at (refused u n e) rest h = let z : Refuses ≡ Takes rest = sym e ∙ h in absurd (cc)
  takes-at (taken rest' T e) rest h = took (front-whole o F bytes k rest' T)
    where
      took : (more : List ℕ) × IsTaken o bytes more × (rest' ≡ take (k - (4 + length_at bytes)) more)
          → next o bytes ≡ Takes (drop (4 + length_at bytes) bytes)
      took p = ap (λ (q : Option (List ℕ)). next q bytes) p.1.there
          ∙ next_takes p.1.honest bytes p.1.uncut p.1.same

  refuses-at : Way o (take k bytes) → Way o bytes → next o (take k bytes) ≡ Refuses → next o bytes ≡ Refuses
  refuses-at (cut c e) w h = let z : Ends ≡ Refuses = sym e ∙ h in absurd (cc)
  refuses-at (taken rest T e) w h = let z : Takes rest ≡ Refuses = sym e ∙ h in absurd (cc)
  refuses-at (refused u n e) (cut c e') h = absurd (both_ways (is_cut bytes) (whole-uncut o F bytes k u) c)
  refuses-at (refused u n e) (taken more T e') h = absurd
      (n T.honest T.there (whole-front o F bytes k more u T ∙ T.same))
  refuses-at (refused u n e) (refused u' n' e') h = e'

  pub front-claims : FrontClaims o k bytes
  front-claims = record {
    ends = ends-at (way o (take k bytes));
    takes = takes-at (way o (take k bytes));
    refuses = refuses-at (way o (take k bytes)) (way o bytes);
  }
