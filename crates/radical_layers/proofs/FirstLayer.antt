-- Layer 0 of the layer basis has one member, of sum 1, and the others have sum 0: the sum of a block is its
-- entry in layer 0.
use Rattle.std.proofs.Common.{◌≡◌, ◌≢◌, ℕ, zero, suc, ◌+◌, ◌*◌, ◌<◌, ◌≤◌, ◌⊎◌, List, [], ◌∷◌, ◌++◌, length}
use Rattle.std.proofs.Common.{inl, inr, arith, ap, ap₂, sym, ◌∙◌, refl}
use Rattle.std.proofs.lemmas.Bool.{cases_eq, cases_lt}
use Rattle.std.proofs.Math.Nat.{zero-mod, mod-eq_of_lt}
use Rattle.std.proofs.lemmas.List.{get_or_past}
use mathlib.Core.Path.{subst, fun_ext}
use Rattle.group_modules.specs.Module.{Module, sub, times, lin}
use Rattle.group_modules.proofs.Laws.{sub-self, sub-zero, map-sub, map-zero, map-times, times-zero, times-mod}
use Rattle.group_modules.specs.Field.{Below, residue, Fp}
use Rattle.linear_algebra.proofs.Residues.{below-path, times-one}
use Rattle.group_modules.specs.Tables.{Group, monoid, Table, terms, unit, block-sum}
use Rattle.group_modules.proofs.MapLaws.{terms-sum}
use Rattle.group_modules.specs.Sums.{below, total}
use Rattle.group_modules.proofs.SumLaws.{total-only, map-total}
use Rattle.augmentation_ideal.specs.Radical.{Moved, none, both, moved, Radical}
use Rattle.augmentation_ideal.specs.Generators.{combine}
use Rattle.augmentation_ideal.proofs.Generators.{split}
use Rattle.linear_algebra.specs.Modular.{IsCongruent, IsFieldModulo}
use Rattle.linear_algebra.specs.Rows.{entry, row, pivot, IsInSpan}
use Rattle.linear_algebra.specs.Choices.{rows_at, IsGreedyBelow}
use Rattle.linear_algebra.proofs.Congruences.{same_below}
use Rattle.linear_algebra.proofs.Pivots.{first_place_is_pivot}
use Rattle.linear_algebra.proofs.EchelonLists.{HasPivots-from_echelon, Combines-from_combination}
use Rattle.linear_algebra.proofs.GreedyLemmas.{greedy_is_one}
use Rattle.radical_layers.specs.Coordinates.{RowForm}
use Rattle.radical_layers.specs.Placing.{place_of}
use Rattle.radical_layers.specs.LayerBasis.{Layers, AreLayers, joined, after, layer_basis, layer_sizes}
use Rattle.radical_layers.specs.LayerBasis.{sizes_from, LayerBasisClaims}
use Rattle.linear_algebra.proofs.GreedyChoice.{in-left}
use Rattle.radical_layers.proofs.Blocks.{block-is-linear, block-spread, spread}
use Rattle.radical_layers.proofs.LayerLaws.{layer-spans, span-in-layer}
use Rattle.radical_layers.proofs.LayerBasis.{joined-in}
use Rattle.radical_layers.proofs.LayerForm.{size, layer-coordinates, layer-expand, smaller, joined-matrix}
use Rattle.radical_layers.proofs.LayerForm.{basis-size}

module _ {n : ℕ} (q : ℕ) (Γ : Group n) where
  abbrev A1 : Module (suc q) (monoid Γ)
  A1 = Table q Γ 1

  abbrev Fq : Module (suc q) (monoid Γ)
  Fq = Fp q (monoid Γ)

  abbrev sum-of : (Table q Γ 1).of → Below (suc q)
  sum-of v = block-sum q Γ 1 v (residue 0 0)

  -- the members of J^1 have sum 0
  pub radical-sum : (v : A1.of) → Radical A1 1 v → sum-of v ≡ residue q 0
  radical-sum v none = map-zero A1 Fq sum-of (block-is-linear q Γ 1 (residue 0 0)).on-add
  radical-sum v (both {x = a} {y = b} h k) = (block-is-linear q Γ 1 (residue 0 0)).on-add a b
      ∙ ap₂ Fq.add (radical-sum a h) (radical-sum b k) ∙ Fq.add-zero Fq.zero
  radical-sum v (moved g w k) = map-sub A1 Fq sum-of (block-is-linear q Γ 1 (residue 0 0)).on-add
      (A1.act g w) w
      ∙ ap (λ x. sub Fq x (sum-of w)) ((block-is-linear q Γ 1 (residue 0 0)).on-act g w)
      ∙ sub-self Fq (sum-of w)

  -- and each table of sum 0 is one
  pub sum-radical : (v : A1.of) → sum-of v ≡ residue q 0 → Radical A1 1 v
  sum-radical v e = subst (Moved A1 (Radical A1 0)) whole
      (split q Γ A1 (Radical A1 0) 1 (unit q Γ 1) (λ i. tt) v)
    where
      none-left : combine A1 1 (unit q Γ 1) (block-sum q Γ 1 v) ≡ A1.zero
      none-left = A1.add-zero _ ∙ ap (λ (c : Below (suc q)). times A1.add A1.zero c.0 (unit q Γ 1 (0, one)))
          (ap (block-sum q Γ 1 v) (below-path (0, one) (residue 0 0) refl) ∙ e)
          ∙ times-mod A1 0 (unit q Γ 1 (0, one))
        where
          one : 0 < 1
          one = native.Mathlib.Nat.lt-suc_self 0

      whole : sub A1 (lin A1 (unit q Γ 1) (terms q Γ 1 v)) (combine A1 1 (unit q Γ 1) (block-sum q Γ 1 v)) ≡ v
      whole = ap₂ (sub A1) (terms-sum q Γ 1 v) none-left ∙ sub-zero A1 v

module _ {n : ℕ} (q : ℕ) (F : IsFieldModulo (suc q)) (Γ : Group n) (K : RowForm n (Table q Γ 1))
    (first : (v : (Table q Γ 1).of) → entry (K.row v) 0 ≡ (block-sum q Γ 1 v (residue 0 0)).0) where
  abbrev T : Module (suc q) (monoid Γ)
  T = Table q Γ 1

  abbrev N : Module (suc q) (monoid Γ)
  N = Fp q (monoid Γ)

  abbrev ε : T.of → Below (suc q)
  ε v = block-sum q Γ 1 v (residue 0 0)

  module _ (Y : Layers) (A : AreLayers q Γ K Y) (some : 0 < n) where
    abbrev E0 : List (List ℕ)
    E0 = Y.powers 0

    abbrev E1 : List (List ℕ)
    E1 = Y.powers 1

    sum-row : (i k : ℕ) → k < length (Y.powers i)
        → (ε (K.table (row (Y.powers i) k))).0 ≡ entry (row (Y.powers i) k) 0
    sum-row i k l = sym (first (K.table (row (Y.powers i) k)))
        ∙ ap (λ x. entry x 0) (K.row-table (row (Y.powers i) k) ((A.powers_are i).matrix k l))

    -- a table of sum 1
    one-table : T.of
    one-table = spread q Γ 1 (λ i. residue q 1)

    one-sum : ε one-table ≡ residue q 1
    unfolding one-table
    one-sum = block-spread q Γ 1 (λ i. residue q 1) (residue 0 0)

    one-not-zero : ◌≡◌ {A = ℕ} (residue q 1).0 0 → ⊥
    one-not-zero e = absurd (let k : ◌≡◌ {A = ℕ} 1 0 = sym (mod-eq_of_lt F.above_one) ∙ e in omega (arith, k))

    -- the first row has its pivot at place 0
    first-pivot : (0 < length E0) × (pivot (row E0 0) ≡ 0)
    first-pivot = go (first_place_is_pivot (suc q) (length E0) s.0 (λ i j. entry (row E0 i) j)
        (λ i. pivot (row E0 i)) (entry (K.row one-table))
        (HasPivots-from_echelon (A.powers_are 0).echelon) (Combines-from_combination s.1) 0
        (λ j l. absurd (omega (arith, l)))
        (λ h. one-not-zero (sym (first one-table ∙ ap (λ (a : Below (suc q)). a.0) one-sum) ∙ same-zero h)))
      where
        s : IsInSpan (suc q) E0 (entry (K.row one-table))
        s = (A.powers_are 0).spans (K.row one-table) (K.row-is one-table, tt)

        same-zero : IsCongruent (suc q) (entry (K.row one-table) 0) 0 → entry (K.row one-table) 0 ≡ 0
        same-zero h = same_below h ((K.row-is one-table).below 0 some) (let z : 0 < suc q = omega arith in z)

        go : (i : ℕ) × (i < length E0) × (pivot (row E0 i) ≡ 0) → (0 < length E0) × (pivot (row E0 0) ≡ 0)
        go r = at (cases_eq r.0 0)
          where
            at : (r.0 ≡ 0) ⊎ (r.0 ≡ 0 → ⊥) → (0 < length E0) × (pivot (row E0 0) ≡ 0)
            at (inl e) = (subst (λ k. k < length E0) e r.1, subst (λ k. pivot (row E0 k) ≡ 0) e r.2)
            at (inr e) = absurd (let a : pivot (row E0 0) < pivot (row E0 r.0) =
                (A.powers_are 0).echelon.ascending 0 r.0 (omega (arith, e)) r.1 in
                let z : pivot (row E0 r.0) ≡ 0 = r.2 in omega (arith, a, z))

    -- it has sum 1, and the others have sum 0
    first-sum : ε (K.table (row E0 0)) ≡ residue q 1
    first-sum = below-path _ (residue q 1) (sum-row 0 0 first-pivot.0
        ∙ ap (entry (row E0 0)) (sym first-pivot.1) ∙ (A.powers_are 0).echelon.monic 0 first-pivot.0
        ∙ sym (mod-eq_of_lt F.above_one))

    other-sum : (k : ℕ) → 0 < k → k < length E0 → ε (K.table (row E0 k)) ≡ residue q 0
    other-sum k l m = below-path _ (residue q 0) (sum-row 0 k m ∙ ap (entry (row E0 k)) (sym first-pivot.1)
        ∙ (A.powers_are 0).echelon.cleared 0 k first-pivot.0 m (λ e. absurd (omega (arith, l, e)))
        ∙ sym (zero-mod (suc q)))

    in-one : (k : ℕ) → k < length E0 → ε (K.table (row E0 k)) ≡ residue q 0
        → IsInSpan (suc q) E1 (entry (row E0 k))
    in-one k l e = subst (λ x. IsInSpan (suc q) E1 (entry x))
        (K.row-table (row E0 k) ((A.powers_are 0).matrix k l))
        (layer-spans q Γ n T K 1 E1 (A.powers_are 1) (K.table (row E0 k))
        (sum-radical q Γ (K.table (row E0 k)) e))

    -- so the first layer has the first row alone
    alone-greedy : (k : ℕ) → suc k ≤ length E0 → IsGreedyBelow (suc q) E0 E1 (suc k) (0 ∷ [])
    alone-greedy zero l = inr (
      [],
      refl,
      (λ s. outside (subst (λ ys. IsInSpan (suc q) ys (entry (row E0 0))) (append-nil E1) s)),
      refl,
    )
      where
        append-nil : (xs : List (List ℕ)) → xs ++ [] ≡ xs
        append-nil [] = refl
        append-nil (x ∷ xs) = ap (λ ys. x ∷ ys) (append-nil xs)

        outside : IsInSpan (suc q) E1 (entry (row E0 0)) → ⊥
        outside s = one-not-zero (ap (λ (a : Below (suc q)). a.0) (sym first-sum
            ∙ radical-sum q Γ (K.table (row E0 0))
            (span-in-layer q Γ n T K 1 E1 (A.powers_are 1) (K.table (row E0 0))
            (subst (λ x. IsInSpan (suc q) E1 (entry x))
            (sym (K.row-table (row E0 0) ((A.powers_are 0).matrix 0 first-pivot.0))) s)))
            ∙ zero-mod (suc q))
    alone-greedy (suc k) l = inl (
      alone-greedy k (omega (arith, l)),
      in-left (suc q) E1 (rows_at E0 (0 ∷ [])) (entry (row E0 (suc k)))
          (in-one (suc k) l (other-sum (suc k) (omega arith) l)),
    )

    first-layer : Y.positions 0 ≡ 0 ∷ []
    first-layer = greedy_is_one (suc q) E0 E1 (length E0) (Y.positions 0) (0 ∷ []) (A.positions_are 0)
        (at (length E0) refl)
      where
        at : (k : ℕ) → length E0 ≡ k → IsGreedyBelow (suc q) E0 E1 (length E0) (0 ∷ [])
        at zero e = absurd (let z : 0 < length E0 = first-pivot.0 in omega (arith, z, e))
        at (suc k) e = subst (λ m. IsGreedyBelow (suc q) E0 E1 m (0 ∷ [])) (sym e)
            (alone-greedy k (omega (arith, e)))

    -- the members of the layer basis: the first has sum 1, the others have sum 0
    member-sum : (c : ℕ) (k : ℕ) → k < length (joined Y.powers Y.positions 0 (suc c))
        → (ε (K.table (row (joined Y.powers Y.positions 0 (suc c)) k)) ≡ residue q 1) × (k ≡ 0)
        ⊎ (ε (K.table (row (joined Y.powers Y.positions 0 (suc c)) k)) ≡ residue q 0) × (0 < k)
    member-sum c = subst (λ xs. (k : ℕ) → k < length (rows_at E0 xs ++ J)
        → (ε (K.table (row (rows_at E0 xs ++ J) k)) ≡ residue q 1) × (k ≡ 0)
        ⊎ (ε (K.table (row (rows_at E0 xs ++ J) k)) ≡ residue q 0) × (0 < k)) (sym first-layer) at
      where
        J : List (List ℕ)
        J = joined Y.powers Y.positions 1 c

        at : (k : ℕ) → k < length (row E0 0 ∷ J) → (ε (K.table (row (row E0 0 ∷ J) k)) ≡ residue q 1)
            × (k ≡ 0) ⊎ (ε (K.table (row (row E0 0 ∷ J) k)) ≡ residue q 0) × (0 < k)
        at zero l = inl (first-sum, refl)
        at (suc k) l = inr (
          radical-sum q Γ (K.table (row J k))
              (span-in-layer q Γ n T K 1 E1 (A.powers_are 1) (K.table (row J k))
              (subst (λ x. IsInSpan (suc q) E1 (entry x))
              (sym (K.row-table (row J k) (joined-matrix q F Γ K Y A c 1 k (omega (arith, l)))))
              (joined-in (suc q) F Y.powers Y.positions A.positions_are (smaller q F Γ K Y A) c 1 k
              (omega (arith, l))))),
          (let z : 0 < suc k = omega arith in z),
        )

    -- there is a layer
    has-layer : (c : ℕ) × (Y.count ≡ suc c)
    has-layer = go Y.count refl
      where
        go : (c : ℕ) → Y.count ≡ c → (d : ℕ) × (Y.count ≡ suc d)
        go zero e = absurd (let z : length E0 ≡ 0 = ap length
            (subst (λ c. Y.powers (after 0 c) ≡ []) e A.ends) in let l : 0 < length E0 = first-pivot.0 in
            omega (arith, z, l))
        go (suc c) e = (c, e)

    abbrev B : List (List ℕ)
    B = layer_basis Y

    basis-sum : (k : ℕ) → k < length B → (ε (K.table (row B k)) ≡ residue q 1) × (k ≡ 0)
        ⊎ (ε (K.table (row B k)) ≡ residue q 0) × (0 < k)
    basis-sum = subst (λ c. (k : ℕ) → k < length (joined Y.powers Y.positions 0 c)
        → (ε (K.table (row (joined Y.powers Y.positions 0 c) k)) ≡ residue q 1) × (k ≡ 0)
        ⊎ (ε (K.table (row (joined Y.powers Y.positions 0 c) k)) ≡ residue q 0) × (0 < k))
        (sym has-layer.1) (member-sum has-layer.0)

    -- the sum of block i is the entry at the place of member 0 in block i
    pub sum-is-entry : (b : ℕ) (v : (Table q Γ b).of) (i : Below b)
        → (block-sum q Γ b v i).0 ≡ entry ((layer-coordinates q F Γ K Y A b).row v)
        (place_of (layer_sizes Y) b i.0 0)
    sum-is-entry b v i =
        ap (λ (a : Below (suc q)). a.0)
        (ap ε (layer-expand q F Γ K Y A b v i)
        ∙ map-total T N ε (block-is-linear q Γ 1 (residue 0 0)).on-add (below (length B))
        (λ k. times T.add T.zero (coef k.0) (K.table (row B k.0)))
        ∙ ap (total N (below (length B)))
        (fun_ext (λ k. map-times T N ε (block-is-linear q Γ 1 (residue 0 0)).on-add (coef k.0)
        (K.table (row B k.0))))
        ∙ total-only N (length B) (λ k. times N.add N.zero (coef k.0) (ε (K.table (row B k.0)))) (
          0,
          positive,
        ) (λ k h. off k h (basis-sum k.0 k.1))
        ∙ on (basis-sum 0 positive))
        ∙ mod-eq_of_lt small
      where
        coef : ℕ → ℕ
        coef k = entry ((layer-coordinates q F Γ K Y A b).row v) (place_of (layer_sizes Y) b i.0 k)

        positive : 0 < length B
        positive = subst (λ k. 0 < k) (sym (basis-size q F Γ K Y A)) some

        off : (k : Below (length B)) → k.0 ≢ 0 → (ε (K.table (row B k.0)) ≡ residue q 1) × (k.0 ≡ 0)
            ⊎ (ε (K.table (row B k.0)) ≡ residue q 0) × (0 < k.0)
            → times N.add N.zero (coef k.0) (ε (K.table (row B k.0))) ≡ N.zero
        off k h (inl e) = absurd (h e.1)
        off k h (inr e) = ap (times N.add N.zero (coef k.0)) e.0 ∙ times-zero N (coef k.0)

        on : (ε (K.table (row B 0)) ≡ residue q 1) × (◌≡◌ {A = ℕ} 0 0) ⊎ (ε (K.table (row B 0)) ≡ residue q 0)
            × (◌<◌ 0 0) → times N.add N.zero (coef 0) (ε (K.table (row B 0))) ≡ residue q (coef 0)
        on (inl e) = ap (times N.add N.zero (coef 0)) e.0 ∙ times-one q (coef 0)
        on (inr e) = absurd (let z : 0 < 0 = e.1 in omega (arith, z))

        small : coef 0 < suc q
        small = at-place (cases_lt (place_of (layer_sizes Y) b i.0 0) (n * b))
          where
            at-place : (place_of (layer_sizes Y) b i.0 0 < n * b) ⊎ (n * b ≤ place_of (layer_sizes Y) b i.0 0)
                → coef 0 < suc q
            at-place (inl l) = ((layer-coordinates q F Γ K Y A b).row-is v).below
                (place_of (layer_sizes Y) b i.0 0) l
            at-place (inr l) = subst (λ x. x < suc q)
                (sym (get_or_past ((layer-coordinates q F Γ K Y A b).row v)
                (place_of (layer_sizes Y) b i.0 0) 0
                (let e : length ((layer-coordinates q F Γ K Y A b).row v) ≡ n * b =
                ((layer-coordinates q F Γ K Y A b).row-is v).length_is in omega (arith, e, l))))
                (let z : 0 < suc q = omega arith in z)

    -- and that place is i
    pub first-place : (b i : ℕ) → place_of (layer_sizes Y) b i 0 ≡ i
    first-place b i = subst (λ c. place_of (sizes_from Y.positions 0 c) b i 0 ≡ i) (sym has-layer.1)
        (subst (λ xs. place_of (length xs ∷ sizes_from Y.positions 1 has-layer.0) b i 0 ≡ i) (sym first-layer)
        (let z : i * 1 + 0 ≡ i = omega arith in z))

pub layer-basis-claims : {n : ℕ} (q : ℕ) (F : IsFieldModulo (suc q)) (Γ : Group n)
    (K : RowForm n (Table q Γ 1)) (Y : Layers) → AreLayers q Γ K Y → LayerBasisClaims q Γ K Y
layer-basis-claims q F Γ K Y A = record {
  size = size q F Γ K Y A;
  coordinates = layer-coordinates q F Γ K Y A;
  expand = layer-expand q F Γ K Y A;
  sums = λ h l b v i. sum-is-entry q F Γ K h Y A l b v i
      ∙ ap (entry ((layer-coordinates q F Γ K Y A b).row v)) (first-place q F Γ K h Y A l b i.0);
}
