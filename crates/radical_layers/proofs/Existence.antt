-- A decidable submodule has a reduced echelon list.
use Rattle.std.proofs.Common.{◌≡◌, ℕ, suc, ◌<◌, ◌⊎◌, List, [], ◌∷◌, length, inl, inr, ap, sym, ◌∙◌}
use mathlib.Core.Path.{subst}
use Rattle.group_modules.specs.Module.{Module, times}
use Rattle.group_modules.specs.Sums.{below, total}
use Rattle.group_modules.specs.Tables.{Group, monoid}
use Rattle.augmentation_ideal.specs.Radical.{IsSubmodule}
use Rattle.augmentation_ideal.proofs.Nakayama.{times-in}
use Rattle.linear_algebra.specs.Modular.{IsFieldModulo}
use Rattle.linear_algebra.specs.Rows.{entry, row, IsRow, IsMatrix, IsEchelon, IsInSpan, IsCombination}
use Rattle.linear_algebra.proofs.Existence.{echelon_of_set, same_list}
use Rattle.radical_layers.specs.Coordinates.{RowForm}
use Rattle.radical_layers.specs.Moves.{IsEchelonFor}
use Rattle.radical_layers.specs.Layers.{RowIn}
use Rattle.radical_layers.proofs.Bridge.{at, from-span}

module _ {n : ℕ} (q : ℕ) (F : IsFieldModulo (suc q)) (Γ : Group n) (D : ℕ) (T : Module (suc q) (monoid Γ))
    (K : RowForm D T) where
  -- tables are equal or not
  pub same-or-not : (v w : T.of) → (v ≡ w) ⊎ (v ≡ w → ⊥)
  same-or-not v w = go (same_list (K.row v) (K.row w))
    where
      go : (K.row v ≡ K.row w) ⊎ (K.row v ≡ K.row w → ⊥) → (v ≡ w) ⊎ (v ≡ w → ⊥)
      go (inl e) = inl (sym (K.table-row v) ∙ ap K.table e ∙ K.table-row w)
      go (inr d) = inr (λ e. d (ap K.row e))

  module _ (L : T.of → Type 0) (U : IsSubmodule T L) where
    total-in : {A : Type 0} (xs : List A) (u : A → ℕ) (f : A → T.of) → ((a : A) → L (f a))
        → L (total T xs (λ a. times T.add T.zero (u a) (f a)))
    total-in [] u f h = U.zero-in
    total-in (x ∷ xs) u f h = U.add-in _ _ (times-in T L U (u x) (f x) (h x)) (total-in xs u f h)

    closed : (rows : List (List ℕ)) → ((i : ℕ) → i < length rows → RowIn K L (row rows i)) → (y : List ℕ)
        → IsRow (suc q) D y → IsInSpan (suc q) rows (entry y) → RowIn K L y
    closed rows h y r s = (
      r,
      subst L (sym (from-span q Γ D T K rows (λ i l. (h i l).0) s.0 (K.table y)
          (subst (λ z. IsCombination (suc q) s.0 rows (entry z)) (sym (K.row-table y r)) s.1)))
          (total-in (below (length rows)) (λ i. s.0 i.0) (λ i. K.table (row rows i.0)) (λ i. (h i.0 i.1).1)),
    )

    -- a table whose row is in the span of rows of members
    pub closed-table : (rows : List (List ℕ)) → ((i : ℕ) → i < length rows → RowIn K L (row rows i))
        → (v : T.of) → IsInSpan (suc q) rows (at q Γ D T K v) → L v
    closed-table rows h v s = subst L (K.table-row v) (closed rows h (K.row v) (K.row-is v) s).1

    module _ (decide : (v : T.of) → L v ⊎ (L v → ⊥)) where
      decide-row : (x : List ℕ) → RowIn K L x ⊎ (RowIn K L x → ⊥)
      decide-row x = go (same_list (K.row (K.table x)) x) (decide (K.table x))
        where
          go : (K.row (K.table x) ≡ x) ⊎ (K.row (K.table x) ≡ x → ⊥) → L (K.table x) ⊎ (L (K.table x) → ⊥)
              → RowIn K L x ⊎ (RowIn K L x → ⊥)
          go (inl e) (inl h) = inl (subst (IsRow (suc q) D) e (K.row-is (K.table x)), h)
          go (inl e) (inr h) = inr (λ r. h r.1)
          go (inr d) h = inr (λ r. d (K.row-table x r.0))

      -- a decidable submodule has a reduced echelon list
      pub list-exists : (E : List (List ℕ)) × IsEchelonFor (suc q) D (RowIn K L) E
      list-exists = go (echelon_of_set F (RowIn K L) (λ x r. r.0) decide-row closed)
        where
          go : (E : List (List ℕ)) × IsMatrix (suc q) D E × IsEchelon E
              × ((i : ℕ) → i < length E → RowIn K L (row E i))
              × ((x : List ℕ) → RowIn K L x → IsInSpan (suc q) E (entry x))
              → (E : List (List ℕ)) × IsEchelonFor (suc q) D (RowIn K L) E
          go h = (h.0, record { matrix = h.1; echelon = h.2; members = h.3; spans = h.4 })
