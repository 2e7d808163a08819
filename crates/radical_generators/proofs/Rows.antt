-- The products by the members of layer 1 on rows.
use Rattle.std.proofs.Common.{◌≡◌, ℕ, zero, suc, ◌+◌, ◌*◌, ◌%◌, ◌<◌, ◌≤◌, ◌⊎◌, List, ◌∷◌, length}
use Rattle.std.proofs.Common.{inl, inr, arith, ap, ap₂, sym, ◌∙◌, refl}
use Rattle.std.proofs.lemmas.Bool.{cases_lt}
use Rattle.std.proofs.lemmas.List.{get_or_past}
use Rattle.std.proofs.lemmas.Grind.{same_number_lists}
use Rattle.std.proofs.Math.Nat.{mod-lt, mod-eq_of_lt}
use mathlib.Core.Path.{subst}
use Rattle.linear_algebra.specs.Modular.{IsCongruent}
use Rattle.linear_algebra.specs.Maps.{IsLinear}
use Rattle.linear_algebra.specs.Rows.{entry, IsRow}
use Rattle.linear_algebra.proofs.Congruences.{congruent_refl, congruent_add, congruent_trans, congruent_eq}
use Rattle.linear_algebra.proofs.Congruences.{congruent_sym, congruent_mod, congruent_mul_left}
use Rattle.group_modules.specs.Module.{Module, IsAdditive, times}
use Rattle.group_modules.specs.Tables.{Group, monoid, Table, terms}
use Rattle.group_modules.proofs.Laws.{lin-add, map-times}
use Rattle.radical_layers.specs.Coordinates.{RowForm}
use Rattle.radical_layers.specs.LayerBasis.{Layers}
use Rattle.radical_layers.proofs.Bridge.{at, at-times, same-table}
use Rattle.radical_generators.specs.FirstLayer.{row_modulo, product, layer_member, layer_map}

length-row_modulo : (p width : ℕ) (f : ℕ → ℕ) → length (row_modulo p width f) ≡ width
length-row_modulo p zero f = refl
length-row_modulo p (suc width) f = ap suc (length-row_modulo p width (λ j. f (suc j)))

entry-row_modulo : (p width : ℕ) (f : ℕ → ℕ) (j : ℕ) → j < width → entry (row_modulo p width f) j ≡ f j % p
entry-row_modulo p zero f j l = absurd (omega (arith, l))
entry-row_modulo p (suc width) f zero l = refl
entry-row_modulo p (suc width) f (suc j) l =
    entry-row_modulo p width (λ j. f (suc j)) j (let k : j < width = omega (arith, l) in k)

pub row_modulo-is-row : (q width : ℕ) (f : ℕ → ℕ) → IsRow (suc q) width (row_modulo (suc q) width f)
row_modulo-is-row q width f = record {
  length_is = length-row_modulo (suc q) width f;
  below = λ j l. subst (λ x. x < suc q) (sym (entry-row_modulo (suc q) width f j l))
      (mod-lt (f j) (let z : 0 < suc q = omega arith in z));
}

-- a row is read as itself
pub row_modulo-self : (q width : ℕ) (x : List ℕ) → IsRow (suc q) width x
    → row_modulo (suc q) width (entry x) ≡ x
row_modulo-self q width x r = same_number_lists (row_modulo (suc q) width (entry x)) x
    (length-row_modulo (suc q) width (entry x) ∙ sym r.length_is)
    (λ j l. let k : j < width = subst (λ m. j < m) (length-row_modulo (suc q) width (entry x)) l in
    entry-row_modulo (suc q) width (entry x) j k ∙ mod-eq_of_lt (r.below j k))

row_modulo-same : (p width : ℕ) (f g : ℕ → ℕ) → ((j : ℕ) → IsCongruent p (f j) (g j))
    → row_modulo p width f ≡ row_modulo p width g
row_modulo-same p zero f g h = refl
row_modulo-same p (suc width) f g h = ap₂ ◌∷◌ (h 0).same_remainder
    (row_modulo-same p width (λ j. f (suc j)) (λ j. g (suc j)) (λ j. h (suc j)))

module _ {n : ℕ} (q : ℕ) (Γ : Group n) (width : ℕ) (M : Module (suc q) (monoid Γ)) (C : RowForm width M) where
  -- the member with the numbers of f
  abbrev pub read : (ℕ → ℕ) → M.of
  read f = C.table (row_modulo (suc q) width f)

  at-read : (f : ℕ → ℕ) (j : ℕ) → j < width → IsCongruent (suc q) (at q Γ width M C (read f) j) (f j)
  at-read f j l = congruent_trans (congruent_eq (ap (λ x. entry x j)
      (C.row-table (row_modulo (suc q) width f) (row_modulo-is-row q width f))
      ∙ entry-row_modulo (suc q) width f j l)) (congruent_mod (f j))

  at-past : (v : M.of) (j : ℕ) → width ≤ j → at q Γ width M C v j ≡ 0
  at-past v j l = get_or_past (C.row v) j 0
      (let k : length (C.row v) ≡ width = (C.row-is v).length_is in omega (arith, k, l))

  read-add : (x y : ℕ → ℕ) (c : ℕ)
      → read (λ j. x j + c * y j) ≡ M.add (read x) (times M.add M.zero c (read y))
  read-add x y c = same-table q Γ width M C (read (λ j. x j + c * y j))
      (M.add (read x) (times M.add M.zero c (read y))) (λ j. go j (cases_lt j width))
    where
      sum : (j : ℕ) → IsCongruent (suc q)
          (at q Γ width M C (M.add (read x) (times M.add M.zero c (read y))) j)
          (at q Γ width M C (read x) j + c * at q Γ width M C (read y) j)
      sum j = congruent_trans (C.row-add (read x) (times M.add M.zero c (read y)) j)
          (congruent_add (congruent_refl (at q Γ width M C (read x) j)) (at-times q Γ width M C c (read y) j))

      go : (j : ℕ) → (j < width) ⊎ (width ≤ j) → IsCongruent (suc q)
          (at q Γ width M C (read (λ j. x j + c * y j)) j)
          (at q Γ width M C (M.add (read x) (times M.add M.zero c (read y))) j)
      go j (inl l) = congruent_trans (at-read (λ j. x j + c * y j) j l)
          (congruent_sym (congruent_trans (sum j)
          (congruent_add (at-read x j l) (congruent_mul_left c (at-read y j l)))))
      go j (inr l) = congruent_eq (at-past (read (λ j. x j + c * y j)) j l
          ∙ sym (at-past (M.add (read x) (times M.add M.zero c (read y))) j l))

  -- an additive map is linear on sequences
  pub linear-of : (f : M.of → M.of) → IsAdditive M M f
      → IsLinear (suc q) (λ x j. at q Γ width M C (f (read x)) j)
  linear-of f a = record {
    same = λ x y h j. congruent_eq (ap (λ z. at q Γ width M C (f (C.table z)) j)
        (row_modulo-same (suc q) width x y h));
    add = λ x y c j. congruent_trans (congruent_eq (ap (λ z. at q Γ width M C z j)
        (ap f (read-add x y c) ∙ a (read x) (times M.add M.zero c (read y))
        ∙ ap (M.add (f (read x))) (map-times M M f a c (read y)))))
        (congruent_trans (C.row-add (f (read x)) (times M.add M.zero c (f (read y))) j)
        (congruent_add (congruent_refl (at q Γ width M C (f (read x)) j))
        (at-times q Γ width M C c (f (read y)) j)));
  }

  module _ (K : RowForm n (Table q Γ 1)) (Y : Layers) where
    -- the products are linear
    pub layer_map-linear : (k : ℕ) → IsLinear (suc q) (layer_map q Γ K Y M C k)
    layer_map-linear k = linear-of (λ v. product q Γ M (layer_member q Γ K Y k) v)
        (λ v w. lin-add M (λ i. v) (λ i. w) (terms q Γ 1 (layer_member q Γ K Y k)))

    -- the product at a row, and at the row of a member
    pub layer_map-row : (k : ℕ) (x : List ℕ) → IsRow (suc q) width x → (j : ℕ)
        → layer_map q Γ K Y M C k (entry x) j
        ≡ at q Γ width M C (product q Γ M (layer_member q Γ K Y k) (C.table x)) j
    layer_map-row k x r j =
        ap (λ z. at q Γ width M C (product q Γ M (layer_member q Γ K Y k) (C.table z)) j)
        (row_modulo-self q width x r)

    pub layer_map-at : (k : ℕ) (v : M.of) (j : ℕ)
        → layer_map q Γ K Y M C k (at q Γ width M C v) j
        ≡ at q Γ width M C (product q Γ M (layer_member q Γ K Y k) v) j
    layer_map-at k v j = layer_map-row k (C.row v) (C.row-is v) j
        ∙ ap (λ z. at q Γ width M C (product q Γ M (layer_member q Γ K Y k) z) j) (C.table-row v)
