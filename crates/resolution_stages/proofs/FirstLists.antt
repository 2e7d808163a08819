-- The list of K_0: that of J^1, and, where a row begins with the sum of its table, the unit rows but the
-- first.
use Rattle.std.proofs.Common.{◌≡◌, ◌≢◌, ℕ, zero, suc, ◌*◌, ◌<◌, ◌≤◌, ◌⊎◌, List, length, inl, inr, arith, ap}
use Rattle.std.proofs.Common.{sym, ◌∙◌}
use Rattle.std.proofs.lemmas.Bool.{cases_lt}
use Rattle.std.proofs.lemmas.List.{get_or_past}
use Rattle.std.proofs.Math.Nat.{zero-mod}
use Rattle.group_modules.specs.Field.{Below, residue}
use Rattle.linear_algebra.proofs.Residues.{below-path}
use Rattle.group_modules.specs.Tables.{Group, Table, block-sum}
use Rattle.group_modules.specs.Resolutions.{Resolution}
use Rattle.augmentation_ideal.specs.Radical.{Radical}
use Rattle.augmentation_ideal.specs.Claims.{IsPrimePower}
use Rattle.linear_algebra.specs.Modular.{IsCongruent, IsFieldModulo}
use Rattle.linear_algebra.specs.Rows.{entry, row, pivot, combination, IsRow, IsEchelon, IsInSpan}
use Rattle.linear_algebra.proofs.Congruences.{congruent_trans, congruent_eq}
use Rattle.linear_algebra.proofs.Sums.{sum_below-one, sum_below-vanishes}
use Rattle.linear_algebra.proofs.PivotLemmas.{pivot_is}
use Rattle.radical_layers.specs.Coordinates.{Coordinates}
use Rattle.resolution_stages.specs.Definitions.{StageRows, AreStages}
use Rattle.radical_layers.specs.Moves.{IsEchelonFor}
use Rattle.radical_layers.specs.Layers.{RowIn}
use Rattle.radical_layers.specs.LayerBasis.{Layers, AreLayers}
use Rattle.resolution_stages.specs.Chain.{IsFirstList, IsUnitList, FirstListClaims, IsChain, ChainClaims}
use Rattle.radical_layers.proofs.FirstLayer.{radical-sum, sum-radical, layer-basis-claims}
use Rattle.radical_layers.proofs.SumForm.{sum-form}
use Rattle.radical_layers.proofs.LayersExist.{layers-exist}
use Rattle.resolution_stages.proofs.ChainLaws.{stages-exist, stage-claims, chain-push, chain-end}
use Rattle.resolution_stages.proofs.NextExists.{next-exists}
use Rattle.resolution_stages.specs.Checks.{StageParts}
use Rattle.resolution_stages.specs.Chain.{parts_from, end_rank, end_list}
use Rattle.resolution_stages.proofs.FromDefinitions.{resolution}

module _ {n : ℕ} (q : ℕ) (Γ : Group n) (K : Coordinates q Γ) where
  -- K_0 is J^1
  pub first-of-power : (E : List (List ℕ))
      → IsEchelonFor (suc q) (n * 1) (RowIn (K 1) (Radical (Table q Γ 1) 1)) E → IsFirstList q Γ K E
  first-of-power E e = record {
    matrix = e.matrix;
    echelon = e.echelon;
    members = λ i l. ((e.members i l).0, radical-sum q Γ ((K 1).table (row E i)) (e.members i l).1);
    spans = λ x h. e.spans x (h.0, sum-radical q Γ ((K 1).table x) h.1);
  }

  module _ (first : (v : (Table q Γ 1).of)
      → entry ((K 1).row v) 0 ≡ (block-sum q Γ 1 v (residue 0 0)).0) (E : List (List ℕ))
      (u : IsUnitList (suc q) (n * 1) E) where
    pivot-at : (i : ℕ) → i < length E → pivot (row E i) ≡ suc i
    pivot-at i l = pivot_is (row E i) (suc i) (λ j m. u.others i j l (λ e. omega (arith, e, m)))
        (λ z. let o : entry (row E i) (suc i) ≡ 1 = u.own i l in omega (arith, z, o))

    echelon-is : IsEchelon E
    echelon-is = record {
      not_zero = λ i l. let p : pivot (row E i) ≡ suc i = pivot-at i l in
          let w : length (row E i) ≡ n * 1 = (u.matrix i l).length_is in let c : suc (length E) ≡ n * 1 =
          u.count in omega (arith, p, w, c, l);
      ascending = λ i k l m. let p : pivot (row E i) ≡ suc i =
          pivot-at i (let z : i < length E = omega (arith, l, m) in z) in let r : pivot (row E k) ≡ suc k =
          pivot-at k m in omega (arith, p, r, l);
      monic = λ i l. ap (entry (row E i)) (pivot-at i l) ∙ u.own i l;
      cleared = λ i k l m d. ap (entry (row E k)) (pivot-at i l)
          ∙ u.others k (suc i) m (λ e. d (let z : i ≡ k = omega (arith, e) in z));
    }

    sum-of-row : (x : List ℕ) → IsRow (suc q) (n * 1) x
        → (block-sum q Γ 1 ((K 1).table x) (residue 0 0)).0 ≡ entry x 0
    sum-of-row x r = sym (first ((K 1).table x)) ∙ ap (λ y. entry y 0) ((K 1).row-table x r)

    spans-it : (x : List ℕ) → IsRow (suc q) (n * 1) x → entry x 0 ≡ 0 → IsInSpan (suc q) E (entry x)
    spans-it x r z = ((λ i. entry x (suc i)), record { each = each })
      where
        none-at : (j : ℕ) → ((i : ℕ) → i < length E → j ≢ suc i) → entry x j ≡ 0
            → IsCongruent (suc q) (combination (λ i. entry x (suc i)) E j) (entry x j)
        none-at j d e = congruent_trans (sum_below-vanishes (suc q) (length E)
            (λ i. entry x (suc i) * entry (row E i) j)
            (λ i l. congruent_eq (ap (λ y. entry x (suc i) * y) (u.others i j l (d i l))
            ∙ (let o : entry x (suc i) * 0 ≡ 0 = omega arith in o)))) (congruent_eq (sym e))

        at : (k : ℕ) → (k < length E) ⊎ (length E ≤ k)
            → IsCongruent (suc q) (combination (λ i. entry x (suc i)) E (suc k)) (entry x (suc k))
        at k (inl l) = congruent_trans (sum_below-one (suc q) (length E) k
            (λ i. entry x (suc i) * entry (row E i) (suc k)) l
            (λ i m d. congruent_eq (ap (λ y. entry x (suc i) * y)
            (u.others i (suc k) m (λ e. d (let z : i ≡ k = omega (arith, e) in z)))
            ∙ (let o : entry x (suc i) * 0 ≡ 0 = omega arith in o))))
            (congruent_eq (ap (λ y. entry x (suc k) * y) (u.own k l)
            ∙ (let o : entry x (suc k) * 1 ≡ entry x (suc k) = omega arith in o)))
        at k (inr l) = none-at (suc k) (λ i m e. let z : k ≡ i = omega (arith, e) in omega (arith, z, l, m))
            (get_or_past x (suc k) 0 (let w : length x ≡ n * 1 = r.length_is in let c : suc
            (length E) ≡ n * 1 = u.count in omega (arith, w, c, l)))

        each : (j : ℕ) → IsCongruent (suc q) (combination (λ i. entry x (suc i)) E j) (entry x j)
        each zero = none-at 0 (λ i l e. omega (arith, e)) z
        each (suc k) = at k (cases_lt k (length E))

    -- the unit rows but the first are the list of K_0
    pub first-of-units : IsFirstList q Γ K E
    first-of-units = record {
      matrix = u.matrix;
      echelon = echelon-is;
      members = λ i l. (
        u.matrix i l,
        below-path (block-sum q Γ 1 ((K 1).table (row E i)) (residue 0 0)) (residue q 0)
            (sum-of-row (row E i) (u.matrix i l) ∙ u.others i 0 l (λ e. omega (arith, e))
            ∙ sym (zero-mod (suc q))),
      );
      spans = λ x h. spans-it x h.0 (sym (sum-of-row x h.0) ∙ ap (λ (y : Below (suc q)). y.0) h.1
          ∙ zero-mod (suc q));
    }

-- a group of p^e elements has a resolution
pub resolution-exists : {n : ℕ} (q : ℕ) (F : IsFieldModulo (suc q)) (Γ : Group n) → IsPrimePower q n
    → Resolution q Γ
resolution-exists {n} q F Γ P = go (layers-exist q F Γ (sum-form q Γ some) P)
  where
    some : 0 < n
    some = let l : Γ.one.0 < n = Γ.one.1 in omega (arith, l)

    go : (Y : Layers) × AreLayers q Γ (sum-form q Γ some) Y → Resolution q Γ
    go (Y, A) = at (layer-basis-claims q F Γ (sum-form q Γ some) Y A).coordinates
      where
        at : Coordinates q Γ → Resolution q Γ
        at K = of (stages-exist q F Γ K P)
          where
            of : (S : StageRows) × AreStages q Γ K S → Resolution q Γ
            of (S, B) = resolution q F Γ K S B

pub first-list-claims : {n : ℕ} (q : ℕ) (Γ : Group n) (K : Coordinates q Γ) → FirstListClaims q Γ K
first-list-claims q Γ K = record { of_power = first-of-power q Γ K; of_units = first-of-units q Γ K }

pub chain-claims : {n : ℕ} (q : ℕ) (F : IsFieldModulo (suc q)) (P : IsPrimePower q n) (Γ : Group n)
    (K : Coordinates q Γ) (E : List (List ℕ)) (Qs : List StageParts)
    → IsFirstList q Γ K E → IsChain q Γ K 1 E Qs → ChainClaims q Γ K E Qs
chain-claims q F P Γ K E Qs e h = record {
  of_stages = go (stages-exist q F Γ K P);
  push = λ Q N. chain-push q F Γ K Qs 1 E Q h N;
  ready = chain-end q F Γ K E Qs e h;
  next = next-exists q F P Γ K (end_rank 1 Qs) (end_list E Qs) (chain-end q F Γ K E Qs e h);
}
  where
    go : (S : StageRows) × AreStages q Γ K S → (S : StageRows) × AreStages q Γ K S × (E ≡ S.kernel 0)
        × (Qs ≡ parts_from S 0 (length Qs))
    go (S, A) = (
      S,
      A,
      (stage-claims q F Γ K S A).first_list E e,
      ((stage-claims q F Γ K S A).chain E Qs e h).0,
    )
