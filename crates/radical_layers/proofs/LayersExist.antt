-- The layers exist, and are one.
use Rattle.std.proofs.Common.{◌≡◌, ℕ, zero, suc, ◌+◌, ◌-◌, ◌<◌, ◌≤◌, ◌⊎◌, List, [], ◌∷◌, length, get_or, inl}
use Rattle.std.proofs.Common.{inr, arith, ap, sym, ◌∙◌, refl}
use Rattle.std.proofs.lemmas.Bool.{cases_eq, cases_lt, cases_order}
use Rattle.std.proofs.lemmas.List.{get_or_past}
use mathlib.Core.Path.{subst, fun_ext}
use Rattle.group_modules.specs.Tables.{Group, Table}
use Rattle.augmentation_ideal.specs.Radical.{Radical}
use Rattle.augmentation_ideal.specs.Claims.{IsPrimePower}
use Rattle.linear_algebra.specs.Modular.{IsFieldModulo}
use Rattle.linear_algebra.specs.Rows.{row, IsMatrix, IsEchelonOf}
use Rattle.linear_algebra.specs.Choices.{IsGreedy}
use Rattle.linear_algebra.proofs.EchelonLists.{same_echelon}
use Rattle.linear_algebra.proofs.GreedyLemmas.{greedy_is_one}
use Rattle.linear_algebra.proofs.Existence.{echelon}
use Rattle.radical_layers.specs.Coordinates.{RowForm}
use Rattle.radical_layers.specs.Moves.{moves}
use Rattle.radical_layers.specs.Layers.{IsPowerList}
use Rattle.radical_layers.specs.LayerBasis.{Layers, AreLayers, AreLayerLists, layers_of, after}
use Rattle.radical_layers.proofs.Bridge.{moves-matrix}
use Rattle.radical_layers.proofs.LayerLaws.{radical-step, layer-members, layer-spans, next-layer}
use Rattle.radical_layers.proofs.LayerLaws.{layer-claims}
use Rattle.linear_algebra.proofs.Laws.{greedy_exists}
use Rattle.radical_layers.proofs.Existence.{list-exists}

after-is : (i c : ℕ) → after i c ≡ i + c
after-is i zero = omega arith
after-is i (suc c) = after-is (suc i) c ∙ (let z : suc i + c ≡ i + suc c = omega arith in z)

empty-of : (E : List (List ℕ)) → length E ≡ 0 → E ≡ []
empty-of [] e = refl
empty-of (x ∷ xs) e = absurd (omega (arith, e))

module _ {n : ℕ} (q : ℕ) (F : IsFieldModulo (suc q)) (Γ : Group n) (K : RowForm n (Table q Γ 1)) where
  power-one : (i : ℕ) (E E' : List (List ℕ)) → IsPowerList q Γ K i E → IsPowerList q Γ K i E' → E ≡ E'
  power-one i E E' h k = same_echelon F.above_one E E' h.matrix k.matrix h.echelon k.echelon
      (λ j l. h.spans (row E' j) (k.members j l)) (λ j l. k.spans (row E j) (h.members j l))

  -- two layers are equal
  pub layers-one : (Y Y' : Layers) → AreLayers q Γ K Y → AreLayers q Γ K Y' → Y ≡ Y'
  layers-one Y Y' A B = ap (λ y. of y Y.positions Y.count) (fun_ext powers)
      ∙ ap (λ y. of Y'.powers y Y.count) (fun_ext positions)
      ∙ ap (λ y. of Y'.powers Y'.positions y) (count (cases_order Y.count Y'.count))
    where
      of : (ℕ → List (List ℕ)) → (ℕ → List ℕ) → ℕ → Layers
      of a b c = record { powers = a; positions = b; count = c }

      powers : (i : ℕ) → Y.powers i ≡ Y'.powers i
      powers i = power-one i (Y.powers i) (Y'.powers i) (A.powers_are i) (B.powers_are i)

      positions : (i : ℕ) → Y.positions i ≡ Y'.positions i
      positions i = greedy_is_one (suc q) (Y'.powers i) (Y'.powers (suc i)) (length (Y'.powers i))
          (Y.positions i) (Y'.positions i)
          (subst (λ E. IsGreedy (suc q) E (Y'.powers (suc i)) (Y.positions i)) (powers i)
          (subst (λ E. IsGreedy (suc q) (Y.powers i) E (Y.positions i)) (powers (suc i))
          (A.positions_are i)))
          (B.positions_are i)

      empty : (Z : Layers) → Z.powers (after 0 Z.count) ≡ [] → length (Z.powers Z.count) ≡ 0
      empty Z e = ap length (ap Z.powers
          (sym (after-is 0 Z.count ∙ (let z : 0 + Z.count ≡ Z.count = omega arith in z))) ∙ e)

      count : (Y.count ≡ Y'.count) ⊎ ((Y.count < Y'.count) ⊎ (Y'.count < Y.count)) → Y.count ≡ Y'.count
      count (inl e) = e
      count (inr (inl l)) = absurd (let a : 0 < length
          (Y'.powers Y.count) = B.least Y.count l in let e : length (Y.powers Y.count) ≡ 0 = empty Y A.ends in
          let f : length (Y.powers Y.count) ≡ length (Y'.powers Y.count) = ap length (powers Y.count) in
          omega (arith, a, e, f))
      count (inr (inr l)) = absurd (let a : 0 < length
          (Y.powers Y'.count) = A.least Y'.count l in let e : length (Y'.powers Y'.count) ≡ 0 =
          empty Y' B.ends in
          let f : length (Y.powers Y'.count) ≡ length (Y'.powers Y'.count) = ap length (powers Y'.count) in
          omega (arith, a, e, f))

  after-last : (i k : ℕ) → IsPowerList q Γ K i [] → IsPowerList q Γ K (k + i) []
  after-last i zero h = subst (λ m. IsPowerList q Γ K m []) (let z : i ≡ 0 + i = omega arith in z) h
  after-last i (suc k) h = subst (λ m. IsPowerList q Γ K m [])
      (let z : suc (k + i) ≡ suc k + i = omega arith in z) (one-more (k + i) (after-last i k h))
    where
      one-more : (m : ℕ) → IsPowerList q Γ K m [] → IsPowerList q Γ K (suc m) []
      one-more m e = record {
        matrix = e.matrix;
        echelon = e.echelon;
        members = λ j l. absurd (omega (arith, l));
        spans =
            λ x r. e.spans x (r.0, radical-step q Γ n (Table q Γ 1) K m (K.table x) r.1);
      }

  -- the layers from their lists
  pub layers-of-lists : (Es : List (List (List ℕ))) (xs : List (List ℕ)) → AreLayerLists q Γ K Es xs
      → AreLayers q Γ K (layers_of Es xs)
  layers-of-lists Es xs A = record {
    powers_are = λ i. power-at i (cases_lt i (length Es));
    positions_are = λ i. position-at i (cases_lt i (length Es));
    ends = ap (λ k. get_or Es k []) (after-is 0 (length Es)
        ∙ (let z : 0 + length Es ≡ length Es = omega arith in z))
        ∙ get_or_past Es (length Es) [] (let z : length Es ≤ length Es = omega arith in z);
    least = A.not_empty;
  }
    where
      power-at : (i : ℕ) → (i < length Es) ⊎ (length Es ≤ i) → IsPowerList q Γ K i (get_or Es i [])
      power-at i (inl l) = A.powers_are i l
      power-at i (inr l) = subst (λ E. IsPowerList q Γ K i E) (sym (get_or_past Es i [] l))
          (subst (λ m. IsPowerList q Γ K m [])
          (let z : (i - length Es) + length Es ≡ i = omega (arith, l) in z)
          (after-last (length Es) (i - length Es) A.last_is))

      position-at : (i : ℕ) → (i < length Es) ⊎ (length Es ≤ i)
          → IsGreedy (suc q) (get_or Es i []) (get_or Es (suc i) []) (get_or xs i [])
      position-at i (inl l) = A.positions_are i l
      position-at i (inr l) = subst (λ E. IsGreedy (suc q) E (get_or Es (suc i) []) (get_or xs i []))
          (sym (get_or_past Es i [] l))
          (get_or_past xs i [] (let c : length xs ≡ length Es = A.same_count in omega (arith, c, l)))

  moves-are : (i : ℕ) (E : List (List ℕ)) → IsPowerList q Γ K i E
      → IsMatrix (suc q) n (moves Γ (Table q Γ 1) K E)
  moves-are i E h = moves-matrix q Γ n (Table q Γ 1) K (Radical (Table q Γ 1) i) E h.matrix
      (layer-members q Γ n (Table q Γ 1) K i E h) (layer-spans q Γ n (Table q Γ 1) K i E h)

  next-power : (i : ℕ) (E : List (List ℕ)) → IsPowerList q Γ K i E → (E' : List (List ℕ))
      × IsPowerList q Γ K (suc i) E'
  next-power i E h = go (echelon F (moves Γ (Table q Γ 1) K E) (moves-are i E h))
    where
      go : (E' : List (List ℕ)) × IsEchelonOf (suc q) n (moves Γ (Table q Γ 1) K E) E' → (E' : List (List ℕ))
          × IsPowerList q Γ K (suc i) E'
      go (E', e) = (E', next-layer q Γ n (Table q Γ 1) K i E h E' e)

  power : (i : ℕ) → (E : List (List ℕ)) × IsPowerList q Γ K i E
  power zero = list-exists q F Γ n (Table q Γ 1) K (λ v. Unit {0})
      (record { zero-in = tt; add-in = λ x y h k. tt; act-in = λ g x h. tt }) (λ v. inl tt)
  power (suc i) = go (power i)
    where
      go : (E : List (List ℕ)) × IsPowerList q Γ K i E → (E : List (List ℕ)) × IsPowerList q Γ K (suc i) E
      go h = next-power i h.0 h.1

  positions-at : (i : ℕ) → (xs : List ℕ) × IsGreedy (suc q) (power i).0 (power (suc i)).0 xs
  positions-at i = greedy_exists (power i).0 (power (suc i)).0 F (power i).1.matrix (power (suc i)).1.matrix

  module _ (P : IsPrimePower q n) where
    -- the first power that is 0
    least-from : (fuel i : ℕ) → length (power i).0 ≤ fuel → ((j : ℕ) → j < i → 0 < length (power j).0)
        → (c : ℕ) × (length (power c).0 ≡ 0) × ((j : ℕ) → j < c → 0 < length (power j).0)
    least-from zero i l h = (i, (let z : length (power i).0 ≡ 0 = omega (arith, l) in z), h)
    least-from (suc f) i l h = go (cases_eq (length (power i).0) 0) (λ m k. least-from f (suc i) m k)
      where
        before : (length (power i).0 ≡ 0 → ⊥) → (j : ℕ) → j < suc i → (j ≡ i) ⊎ (j ≡ i → ⊥)
            → 0 < length (power j).0
        before d j m (inl e) = subst (λ k. 0 < length (power k).0) (sym e)
            (let z : 0 < length (power i).0 = omega (arith, d) in z)
        before d j m (inr f) = h j (let z : j < i = omega (arith, m, f) in z)

        go : (length (power i).0 ≡ 0) ⊎ (length (power i).0 ≡ 0 → ⊥)
            → (length (power (suc i)).0 ≤ f → ((j : ℕ) → j < suc i → 0 < length (power j).0) → (c : ℕ)
            × (length (power c).0 ≡ 0) × ((j : ℕ) → j < c → 0 < length (power j).0))
            → (c : ℕ) × (length (power c).0 ≡ 0) × ((j : ℕ) → j < c → 0 < length (power j).0)
        go (inl e) ih = (i, e, h)
        go (inr d) ih = ih
            (let s : length (power (suc i)).0 < length (power i).0 = (layer-claims q Γ K F P).shorter i
            (power i).0 (power (suc i)).0 (power i).1 (power (suc i)).1
            (let z : 0 < length (power i).0 = omega (arith, d) in z) in omega (arith, l, s))
            (λ j k. before d j k (cases_eq j i))

    pub layers-exist : (Y : Layers) × AreLayers q Γ K Y
    layers-exist = go (least-from (length (power 0).0) 0
        (let z : length (power 0).0 ≤ length (power 0).0 = omega arith in z)
        (λ j l. absurd (omega (arith, l))))
      where
        go : (c : ℕ) × (length (power c).0 ≡ 0) × ((j : ℕ) → j < c → 0 < length (power j).0) → (Y : Layers)
            × AreLayers q Γ K Y
        go (c, e, h) = (
          record { powers = λ i. (power i).0; positions = λ i. (positions-at i).0; count = c },
          record {
            powers_are = λ i. (power i).1;
            positions_are = λ i. (positions-at i).1;
            ends = ap (λ k. (power k).0) (after-is 0 c ∙ (let z : 0 + c ≡ c = omega arith in z))
                ∙ empty-of (power c).0 e;
            least = h;
          },
        )
