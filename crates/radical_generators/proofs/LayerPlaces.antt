-- The members of layer 1 in the layer basis.
use Rattle.std.proofs.Common.{◌≡◌, ℕ, zero, suc, ◌+◌, ◌<◌, List, [], ◌∷◌, length, arith, ap, sym, ◌∙◌}
use Rattle.std.proofs.Common.{refl}
use Rattle.std.proofs.lemmas.List.{get_or_append_left, get_or-append-add, length-append, length-map}
use mathlib.Core.Path.{subst}
use Rattle.linear_algebra.specs.Modular.{IsCongruent, IsFieldModulo}
use Rattle.linear_algebra.specs.Rows.{entry, row, pivot, IsInSpan}
use Rattle.linear_algebra.specs.Choices.{rows_at, IsGreedy}
use Rattle.linear_algebra.proofs.Congruences.{congruent_trans, congruent_eq, same_below}
use Rattle.group_modules.specs.Tables.{Group, Table}
use Rattle.radical_layers.specs.Coordinates.{RowForm}
use Rattle.radical_layers.specs.LayerBasis.{Layers, AreLayers, joined, after}
use Rattle.radical_layers.proofs.LayerForm.{smaller}
use Rattle.radical_generators.specs.Claims.{PlaceClaims}

-- layer 1 of the joined layers
joined-row : (E : ℕ → List (List ℕ)) (P : ℕ → List ℕ) (c k : ℕ) → k < length (P 1)
    → row (joined E P 0 (suc (suc c))) (length (P 0) + k) ≡ row (rows_at (E 1) (P 1)) k
joined-row E P c k l = subst (λ s. row (joined E P 0 (suc (suc c))) (s + k) ≡ row (rows_at (E 1) (P 1)) k)
    (length-map (P 0) (row (E 0)))
    (get_or-append-add (rows_at (E 0) (P 0)) (joined E P 1 (suc c)) k []
    ∙ get_or_append_left (rows_at (E 1) (P 1)) (joined E P 2 c) [] k
    (subst (λ s. k < s) (sym (length-map (P 1) (row (E 1)))) l))

joined-inside : (E : ℕ → List (List ℕ)) (P : ℕ → List ℕ) (c k : ℕ) → k < length (P 1)
    → length (P 0) + k < length (joined E P 0 (suc (suc c)))
joined-inside E P c k l =
    let a : length (joined E P 0 (suc (suc c))) ≡ length (rows_at (E 0) (P 0)) + length
    (joined E P 1 (suc c)) =
    length-append (rows_at (E 0) (P 0)) (joined E P 1 (suc c)) in
    let d : length (joined E P 1 (suc c)) ≡ length (rows_at (E 1) (P 1)) + length (joined E P 2 c) =
    length-append (rows_at (E 1) (P 1)) (joined E P 2 c) in
    let x : length (rows_at (E 0) (P 0)) ≡ length (P 0) = length-map (P 0) (row (E 0)) in
    let y : length (rows_at (E 1) (P 1)) ≡ length (P 1) = length-map (P 1) (row (E 1)) in
    omega (arith, a, d, x, y, l)

no-positions : (p : ℕ) (s t : List (List ℕ)) (xs : List ℕ) → s ≡ [] → IsGreedy p s t xs → length xs ≡ 0
no-positions p [] t xs e g = ap length g
no-positions p (x ∷ s) t xs e g = absurd (let z : length (x ∷ s) ≡ 0 = ap length e in omega (arith, z))

module _ {n : ℕ} (q : ℕ) (F : IsFieldModulo (suc q)) (Γ : Group n) (K : RowForm n (Table q Γ 1)) (Y : Layers)
    (A : AreLayers q Γ K Y) where
  -- a power after one that is 0 is 0
  later-empty : (i : ℕ) → Y.powers i ≡ [] → Y.powers (suc i) ≡ []
  later-empty i e = go (Y.powers (suc i)) refl
    where
      go : (rows : List (List ℕ)) → Y.powers (suc i) ≡ rows → Y.powers (suc i) ≡ []
      go [] d = d
      go (x ∷ rows) d = absurd (one (at (subst (λ E. IsInSpan (suc q) E (entry (row (Y.powers (suc i)) 0))) e
          (smaller q F Γ K Y A i 0 some))))
        where
          some : 0 < length (Y.powers (suc i))
          some = subst (λ E. 0 < length E) (sym d) (let z : 0 < length (x ∷ rows) = omega arith in z)

          at : IsInSpan (suc q) [] (entry (row (Y.powers (suc i)) 0)) → IsCongruent (suc q) 0 1
          at s = congruent_trans (s.1.each (pivot (row (Y.powers (suc i)) 0)))
              (congruent_eq ((A.powers_are (suc i)).echelon.monic 0 some))

          one : IsCongruent (suc q) 0 1 → ⊥
          one h = omega (arith, same_below h (let z : 0 < suc q = omega arith in z) F.above_one)

  no-members : (c : ℕ) → Y.powers (after 0 c) ≡ [] → c < 2 → Y.powers 1 ≡ []
  no-members zero e l = later-empty 0 e
  no-members (suc zero) e l = e
  no-members (suc (suc c)) e l = absurd (omega (arith, l))

  pub place-claims : PlaceClaims q Γ K Y
  place-claims = record {
    none = λ l. no-positions (suc q) (Y.powers 1) (Y.powers 2) (Y.positions 1) (no-members Y.count A.ends l)
        (A.positions_are 1);
    inside = λ l k h. within Y.count l k h;
    member = λ l k h. ap K.table (same Y.count l k h);
  }
    where
      within : (c : ℕ) → 1 < c → (k : ℕ) → k < length (Y.positions 1)
          → length (Y.positions 0) + k < length (joined Y.powers Y.positions 0 c)
      within zero l k h = absurd (omega (arith, l))
      within (suc zero) l k h = absurd (omega (arith, l))
      within (suc (suc c)) l k h = joined-inside Y.powers Y.positions c k h

      same : (c : ℕ) → 1 < c → (k : ℕ) → k < length (Y.positions 1)
          → row (joined Y.powers Y.positions 0 c) (length (Y.positions 0) + k)
          ≡ row (rows_at (Y.powers 1) (Y.positions 1)) k
      same zero l k h = absurd (omega (arith, l))
      same (suc zero) l k h = absurd (omega (arith, l))
      same (suc (suc c)) l k h = joined-row Y.powers Y.positions c k h
