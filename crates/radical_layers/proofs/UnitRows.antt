-- In layer coordinates the unit row at the place of block i and member k is member k of the layer basis in
-- block i, and a linear map takes it to that member times row i.
use Rattle.std.proofs.Common.{◌≡◌, ◌≢◌, ℕ, suc, ◌*◌, ◌<◌, List, length, ap, sym, ◌∙◌}
use mathlib.Core.Path.{subst, fun_ext}
use Rattle.group_modules.specs.Module.{Module, lin, times}
use Rattle.group_modules.proofs.Laws.{times-mod}
use Rattle.group_modules.specs.Field.{Below, residue}
use Rattle.linear_algebra.proofs.Residues.{below-path}
use Rattle.group_modules.specs.Sums.{below, total}
use Rattle.group_modules.proofs.SumLaws.{total-zero, total-only}
use Rattle.group_modules.specs.Tables.{Group, monoid, Table, terms, part}
use Rattle.group_modules.proofs.TermLaws.{lin-terms}
use Rattle.linear_algebra.specs.Modular.{IsFieldModulo}
use Rattle.linear_algebra.specs.Rows.{entry, row}
use Rattle.linear_algebra.specs.Kernels.{unit_row}
use Rattle.radical_layers.specs.Coordinates.{RowForm}
use Rattle.radical_layers.specs.Placing.{Placing, place_of}
use Rattle.radical_layers.specs.LayerBasis.{Layers, AreLayers, LayerBasisClaims, layer_basis, layer_sizes}
use Rattle.radical_layers.specs.UnitRows.{UnitClaims}
use Rattle.radical_layers.proofs.Places.{placing, placing-place}
use Rattle.radical_layers.proofs.LayerForm.{basis-size, size}
use Rattle.linear_algebra.proofs.AugmentLemmas.{entry_unit_same, entry_unit_other}
use Rattle.radical_layers.proofs.UnitRow.{unit-is-row}

module _ {n : ℕ} (q : ℕ) (F : IsFieldModulo (suc q)) (Γ : Group n) (K : RowForm n (Table q Γ 1)) (Y : Layers)
    (A : AreLayers q Γ K Y) (C : LayerBasisClaims q Γ K Y) (b : ℕ) where
  abbrev B : List (List ℕ)
  B = layer_basis Y

  abbrev P : Placing b n (n * b)
  P = placing b (layer_sizes Y) n (size q F Γ K Y A)

  abbrev regular : Module (suc q) (monoid Γ)
  regular = Table q Γ 1

  abbrev member-of : Below (length B) → Below n
  member-of k = (k.0, subst (λ m. k.0 < m) (basis-size q F Γ K Y A) k.1)

  abbrev at-place : Below b → Below (length B) → ℕ
  at-place i k = place_of (layer_sizes Y) b i.0 k.0

  place-is : (i : Below b) (k : Below (length B)) → (P.place i (member-of k)).0 ≡ at-place i k
  place-is i k = placing-place b (layer_sizes Y) n (size q F Γ K Y A) i (member-of k)

  module _ (i : Below b) (k : Below (length B)) where
    inside : at-place i k < n * b
    inside = subst (λ x. x < n * b) (place-is i k) (P.place i (member-of k)).1

    abbrev v : (Table q Γ b).of
    v = (C.coordinates b).table (unit_row (n * b) (at-place i k))

    row-v : (C.coordinates b).row v ≡ unit_row (n * b) (at-place i k)
    row-v = (C.coordinates b).row-table (unit_row (n * b) (at-place i k))
        (unit-is-row (suc q) (n * b) (at-place i k) F.above_one inside)

    same-place : (i' : Below b) (k' : Below (length B)) → at-place i' k' ≡ at-place i k
        → P.place i' (member-of k') ≡ P.place i (member-of k)
    same-place i' k' e = below-path (P.place i' (member-of k')) (P.place i (member-of k)) (place-is i' k' ∙ e
        ∙ sym (place-is i k))

    same-block : (i' : Below b) (k' : Below (length B)) → at-place i' k' ≡ at-place i k → i'.0 ≡ i.0
    same-block i' k' e = ap (λ (x : Below b). x.0) (sym (P.block-place i' (member-of k'))
        ∙ ap P.block (same-place i' k' e) ∙ P.block-place i (member-of k))

    same-member : (i' : Below b) (k' : Below (length B)) → at-place i' k' ≡ at-place i k → k'.0 ≡ k.0
    same-member i' k' e = ap (λ (x : Below n). x.0) (sym (P.member-place i' (member-of k'))
        ∙ ap P.member (same-place i' k' e) ∙ P.member-place i (member-of k))

    abbrev term : Below b → Below (length B) → (Table q Γ 1).of
    term i' k' = times regular.add regular.zero (entry ((C.coordinates b).row v) (at-place i' k'))
        (K.table (row B k'.0))

    term-zero : (i' : Below b) (k' : Below (length B)) → (at-place i' k' ≡ at-place i k → ⊥)
        → term i' k' ≡ regular.zero
    term-zero i' k' d = ap (λ c. times regular.add regular.zero c (K.table (row B k'.0)))
        (ap (λ x. entry x (at-place i' k')) row-v
        ∙ entry_unit_other (n * b) (at-place i k) (at-place i' k') d)

    pub own-block : (λ z g. v i g) ≡ K.table (row B k.0)
    own-block = C.expand b v i
        ∙ total-only regular (length B) (term i) k (λ k' d. term-zero i k' (λ e. d (same-member i k' e)))
        ∙ ap (λ c. times regular.add regular.zero c (K.table (row B k.0)))
        (ap (λ x. entry x (at-place i k)) row-v ∙ entry_unit_same (n * b) (at-place i k) inside)
        ∙ regular.add-zero (K.table (row B k.0))

    pub other-block : (i' : Below b) → i'.0 ≢ i.0 → (λ z g. v i' g) ≡ regular.zero
    other-block i' d = C.expand b v i' ∙ total-zero regular (below (length B)) (term i')
        (λ k'. term-zero i' k' (λ e. d (same-block i' k' e)))

    -- the value of a linear map there: member k of the layer basis times row i
    pub unit-value : (M : Module (suc q) (monoid Γ)) (u : Below b → M.of)
        → lin M u (terms q Γ b v) ≡ total M (below n)
        (λ g. times M.add M.zero (K.table (row B k.0) (residue 0 0) g).0 (M.act g (u i)))
    unit-value M u = lin-terms q Γ M b u v (below b)
        ∙ total-only M b (λ j. total M (below n) (part q Γ M b u v j)) i
        (λ j d. total-zero M (below n) (part q Γ M b u v j) (λ g.
        ap (λ (c : Below (suc q)). times M.add M.zero c.0 (M.act g (u j)))
        (ap (λ (x : (Table q Γ 1).of). x (residue 0 0) g) (other-block j d))
        ∙ times-mod M 0 (M.act g (u j))))
        ∙ ap (total M (below n)) (fun_ext
        (λ g. ap (λ (c : Below (suc q)). times M.add M.zero c.0 (M.act g (u i)))
        (ap (λ (x : (Table q Γ 1).of). x (residue 0 0) g) own-block)))

pub unit-claims : {n : ℕ} (q : ℕ) (F : IsFieldModulo (suc q)) (Γ : Group n) (K : RowForm n (Table q Γ 1))
    (Y : Layers) (A : AreLayers q Γ K Y) (C : LayerBasisClaims q Γ K Y)
    → UnitClaims q Γ K Y C.coordinates
unit-claims q F Γ K Y A C = record {
  own_block = λ b i k. own-block q F Γ K Y A C b i k;
  other_block = λ b i k i' d. other-block q F Γ K Y A C b i k i' d;
  value = λ b m u i k. unit-value q F Γ K Y A C b i k (Table q Γ m) u;
}
