-- The powers of the augmentation ideal by echelon lists: each is found from the one before, and is smaller.
use Rattle.std.proofs.Common.{ℕ, zero, suc, ◌<◌, ◌≤◌, ◌⊎◌, List, [], ◌∷◌, length, inl, inr, arith, ap, sym}
use Rattle.std.proofs.Common.{◌∙◌}
use Rattle.std.proofs.lemmas.Bool.{cases_lt}
use mathlib.Core.Path.{subst}
use Rattle.group_modules.specs.Module.{Module, times}
use Rattle.group_modules.specs.Tables.{Group, monoid, Table}
use Rattle.group_modules.specs.Sums.{below, total}
use Rattle.augmentation_ideal.specs.Radical.{none, both, Radical}
use Rattle.augmentation_ideal.specs.Claims.{IsPrimePower, RadicalClaims}
use Rattle.augmentation_ideal.proofs.Nakayama.{moved-more, moved-times}
use Rattle.augmentation_ideal.proofs.Laws.{radical-claims}
use Rattle.linear_algebra.specs.Modular.{IsCongruent, IsFieldModulo}
use Rattle.linear_algebra.specs.Rows.{entry, row, pivot, IsRow, IsEchelonOf, IsInSpan, AreInSpan}
use Rattle.linear_algebra.proofs.Spans.{in_span_trans}
use Rattle.linear_algebra.proofs.Congruences.{same_below, congruent_trans, congruent_eq}
use Rattle.radical_layers.specs.Coordinates.{RowForm}
use Rattle.radical_layers.specs.Moves.{moves, IsEchelonFor}
use Rattle.radical_layers.specs.Layers.{RowIn, LayerClaims}
use Rattle.radical_layers.proofs.Bridge.{at, at-zero, from-span, moved-from-span, span-from-moved}
use Rattle.radical_layers.proofs.SameDimension.{echelon-independent, same-dimension}

module _ {n : ℕ} (q : ℕ) (Γ : Group n) (D : ℕ) (T : Module (suc q) (monoid Γ)) (K : RowForm D T) where
  pub radical-step : (i : ℕ) (v : T.of) → Radical T (suc i) v → Radical T i v
  radical-step zero v h = tt
  radical-step (suc i) v h = moved-more T (Radical T (suc i)) (Radical T i) (λ w k. radical-step i w k) v h

  radical-sum : (i : ℕ) {A : Type 0} (xs : List A) (u : A → ℕ) (f : A → T.of) → ((a : A) → Radical T i (f a))
      → Radical T i (total T xs (λ a. times T.add T.zero (u a) (f a)))
  radical-sum zero xs u f h = tt
  radical-sum (suc i) [] u f h = none
  radical-sum (suc i) (x ∷ xs) u f h = both (moved-times T (Radical T i) (u x) (f x) (h x))
      (radical-sum (suc i) xs u f h)

  module _ (i : ℕ) (E : List (List ℕ)) (L : IsEchelonFor (suc q) D (RowIn K (Radical T i)) E) where
    pub layer-members : (k : ℕ) → k < length E → Radical T i (K.table (row E k))
    layer-members k l = (L.members k l).1

    pub layer-spans : (v : T.of) → Radical T i v → IsInSpan (suc q) E (at q Γ D T K v)
    layer-spans v h = L.spans (K.row v) (K.row-is v, subst (Radical T i) (sym (K.table-row v)) h)

    pub span-in-layer : (v : T.of) → IsInSpan (suc q) E (at q Γ D T K v) → Radical T i v
    span-in-layer v s = subst (Radical T i) (sym (from-span q Γ D T K E L.matrix s.0 v s.1))
        (radical-sum i (below (length E)) (λ k. s.0 k.0) (λ k. K.table (row E k.0))
        (λ k. layer-members k.0 k.1))

    row-at : (x : List ℕ) → IsRow (suc q) D x → IsInSpan (suc q) E (entry x)
        → IsInSpan (suc q) E (at q Γ D T K (K.table x))
    row-at x r s = subst (λ y. IsInSpan (suc q) E (entry y)) (sym (K.row-table x r)) s

    -- the echelon list of all (g - 1) v, v a row of the list of J^i, is that of J^(i+1)
    pub next-layer : (E' : List (List ℕ)) → IsEchelonOf (suc q) D (moves Γ T K E) E'
        → IsEchelonFor (suc q) D (RowIn K (Radical T (suc i))) E'
    next-layer E' e = record {
      matrix = e.matrix;
      echelon = e.echelon;
      members = λ k l. (
        e.matrix k l,
        moved-from-span q Γ D T K (Radical T i) E L.matrix layer-members layer-spans (K.table (row E' k))
            (subst (λ y. IsInSpan (suc q) (moves Γ T K E) (entry y))
            (sym (K.row-table (row E' k) (e.matrix k l))) (e.spanned k l)),
      );
      spans = λ x s. subst (λ y. IsInSpan (suc q) E' (entry y)) (K.row-table x s.0)
          (in_span_trans e.spans (span-from-moved q Γ D T K (Radical T i) E L.matrix layer-members layer-spans
          (K.table x) s.1));
    }

module _ {n : ℕ} (q : ℕ) (Γ : Group n) (F : IsFieldModulo (suc q)) (P : IsPrimePower q n) (b D : ℕ)
    (K : RowForm D (Table q Γ b))
    (i : ℕ) (E E' : List (List ℕ)) (L : IsEchelonFor (suc q) D (RowIn K (Radical (Table q Γ b) i)) E)
    (L' : IsEchelonFor (suc q) D (RowIn K (Radical (Table q Γ b) (suc i))) E') where
  within : AreInSpan (suc q) E E'
  within k l = subst (λ y. IsInSpan (suc q) E (entry y)) (K.row-table (row E' k) (L'.matrix k l))
      (layer-spans q Γ D (Table q Γ b) K i E L (K.table (row E' k))
      (radical-step q Γ D (Table q Γ b) K i _ (layer-members q Γ D (Table q Γ b) K (suc i) E' L' k l)))

  whole : length E ≤ length E' → (v : (Table q Γ b).of) → Radical (Table q Γ b) i v
      → Radical (Table q Γ b) (suc i) v
  whole l v h = span-in-layer q Γ D (Table q Γ b) K (suc i) E' L' v
      (same-dimension F E E' (echelon-independent (suc q) E' L'.echelon) within l (K.row v)
      (layer-spans q Γ D (Table q Γ b) K i E L v h))

  -- the list of J^(i+1) is shorter than that of J^i, where this is not empty
  pub shorter : 0 < length E → length E' < length E
  shorter some = go (cases_lt (length E') (length E))
    where
      go : (length E' < length E) ⊎ (length E ≤ length E') → length E' < length E
      go (inl l) = l
      go (inr l) = absurd (one (congruent_trans
          (congruent_eq (sym (L.echelon.monic 0 some)
          ∙ ap (λ y. entry y (pivot (row E 0))) (sym (K.row-table (row E 0) (L.matrix 0 some)))
          ∙ ap (λ v. at q Γ D (Table q Γ b) K v (pivot (row E 0)))
          (c.proper i (whole l) (K.table (row E 0)) (layer-members q Γ D (Table q Γ b) K i E L 0 some))))
          (at-zero q Γ D (Table q Γ b) K (pivot (row E 0)))))
        where
          c : RadicalClaims q Γ b
          c = radical-claims q Γ P b

          one : IsCongruent (suc q) 1 0 → ⊥
          one h = omega (arith, same_below h F.above_one (let z : 0 < suc q = omega arith in z))

pub layer-claims : {n : ℕ} (q : ℕ) (Γ : Group n) (K : RowForm n (Table q Γ 1)) → IsFieldModulo (suc q)
    → IsPrimePower q n → LayerClaims q Γ K
layer-claims {n} q Γ K F P = record {
  next = λ i E E' L e. next-layer q Γ n (Table q Γ 1) K i E L E' e;
  shorter = λ i E E' L L' s. shorter q Γ F P 1 n K i E E' L L' s;
}
