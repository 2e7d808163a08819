-- The value of a map that is linear along a map of elements, as a sum over blocks and elements.
use Rattle.std.proofs.Common.{◌≡◌, ℕ, zero, suc, ◌+◌, ◌*◌, ◌<◌, List, [], ◌∷◌, ◌++◌, length, refl, arith, ap}
use Rattle.std.proofs.Common.{ap₂, sym, ◌∙◌}
use native.Mathlib.Nat.{lt-suc_self}
use mathlib.Core.Path.{subst, fun_ext}
use Rattle.group_table.specs.Tables.{order}
use Rattle.group_modules.specs.Operations as operations
use Rattle.group_modules.specs.Operations.{linear}
use Rattle.group_modules.specs.Module.{Monoid, Module, ops, times}
use Rattle.group_modules.specs.Field.{Below, residue}
use Rattle.group_modules.specs.Sums.{below, up, total}
use Rattle.group_modules.specs.Tables.{Group, monoid, Table, terms, terms-of, block-terms}
use Rattle.group_modules.proofs.Laws.{zero-add}
use Rattle.group_modules.proofs.SumLaws.{total-map}
use Rattle.linear_algebra.specs.Modular.{IsCongruent}
use Rattle.linear_algebra.specs.Rows.{entry, row, add_multiple, IsRow}
use Rattle.linear_algebra.proofs.Congruences.{congruent_refl, congruent_add, congruent_trans, congruent_eq}
use Rattle.linear_algebra.proofs.Congruences.{congruent_sym}
use Rattle.linear_algebra.proofs.Reducing.{add_multiple_is_row, entry_congruent}
use Rattle.radical_layers.proofs.Bridge.{at-times, same-table}
use Rattle.p_groups.specs.PGroups.{PGroup, largest_residue, group}
use Rattle.p_groups.proofs.Fields.{residues}
use Rattle.chain_maps_along.specs.Along.{along}
use Rattle.group_algebra.specs.Coordinates.{free_module, layer_coordinates, row_of, table_of}

-- sums over the numbers below n, by the last one
pub total-last : {p : ℕ} {H : Monoid} (M : Module p H) (n : ℕ) (f : ℕ → M.of)
    → total M (below (suc n)) (λ i. f i.0) ≡ M.add (total M (below n) (λ i. f i.0)) (f n)
total-last M n f = ap (M.add (f n)) (total-map M (λ i. up i) (below n) (λ i. f i.0))
    ∙ M.add-comm (f n) (total M (below n) (λ i. f i.0))

-- a linear map along f at a sum of two formal sums
along-append : {D : Type 0} {p : ℕ} {H : Monoid} (M : Module p H) (f : D → H.elem) {X : Type 0} (u : X → M.of)
    (s t : List (operations.Term D X))
    → linear (along f (ops M)) u (s ++ t) ≡ M.add (linear (along f (ops M)) u s)
    (linear (along f (ops M)) u t)
along-append M f u [] t = sym (zero-add M (linear (along f (ops M)) u t))
along-append M f u (x ∷ s) t = ap (M.add _) (along-append M f u s t)
    ∙ sym (M.add-assoc _ (linear (along f (ops M)) u s) (linear (along f (ops M)) u t))

module _ {m : ℕ} (q : ℕ) (Δ : Group m) {p : ℕ} {H : Monoid} (M : Module p H) (f : Below m → H.elem) (b : ℕ)
    (u : Below b → M.of)
    (v : (Table q Δ b).of) where
  -- the term of v at block i and g
  abbrev pub part_along : Below b → Below m → M.of
  part_along i g = times M.add M.zero (v i g).0 (M.act (f g) (u i))

  block-along : (i : Below b) (gs : List (Below m)) → linear (along f (ops M)) u (block-terms q Δ b v i gs)
      ≡ total M gs (part_along i)
  block-along i [] = refl
  block-along i (g ∷ gs) = ap (M.add (part_along i g)) (block-along i gs)

  pub terms-along : (is : List (Below b)) → linear (along f (ops M)) u (terms-of q Δ b v is)
      ≡ total M is (λ i. total M (below m) (part_along i))
  terms-along [] = refl
  terms-along (i ∷ is) = along-append M f u (block-terms q Δ b v i (below m)) (terms-of q Δ b v is)
      ∙ ap₂ M.add (block-along i (below m)) (terms-along is)

module _ (G : PGroup) (b : ℕ) where
  abbrev q : ℕ
  q = largest_residue G

  abbrev M : Module (suc q) (monoid (group G))
  M = free_module G b

  abbrev width : ℕ
  width = order G.table * b

  at-prime : (x : List ℕ) → IsRow G.table.p width x → IsRow (suc q) width x
  at-prime x = subst (λ p. IsRow p width x) (sym (residues G))

  pub row-of-table : (w : M.of) → IsRow G.table.p width (row_of G b w)
  row-of-table w = subst (λ p. IsRow p width (row_of G b w)) (residues G) ((layer_coordinates G b).row-is w)

  -- a row to which a multiple of another was added, and its table
  module _ (c : ℕ) (x y : List ℕ) (w : M.of) (r : IsRow G.table.p width x) (e : y ≡ row_of G b w) where
    y-is : IsRow G.table.p width y
    y-is = subst (λ z. IsRow G.table.p width z) (sym e) (row-of-table w)

    pub added-row : IsRow G.table.p width (add_multiple G.table.p c x y)
    added-row = add_multiple_is_row c x y (let k : suc q ≡ G.table.p = residues G in let z : 0 < G.table.p =
        omega (arith, k) in z) r y-is

    each : (j : ℕ) → IsCongruent (suc q) (entry (row_of G b (table_of G b (add_multiple G.table.p c x y))) j)
        (entry (row_of G b (M.add (table_of G b x) (times M.add M.zero c w))) j)
    each j = congruent_trans
        (congruent_eq (ap (λ z. entry z j) ((layer_coordinates G b).row-table (add_multiple G.table.p c x y)
        (at-prime _ added-row))))
        (congruent_trans
        (subst (λ p. IsCongruent p (entry (add_multiple G.table.p c x y) j) (entry x j + c * entry y j))
        (sym (residues G))
        (entry_congruent c x y r y-is j))
        (congruent_trans
        (congruent_add (congruent_eq (ap (λ z. entry z j)
        (sym ((layer_coordinates G b).row-table x (at-prime x r)))))
        (congruent_trans (congruent_eq (ap (λ z. c * entry z j) e))
        (congruent_sym (at-times q (group G) width M (layer_coordinates G b) c w j))))
        (congruent_sym ((layer_coordinates G b).row-add (table_of G b x) (times M.add M.zero c w) j))))

    pub added-table : table_of G b (add_multiple G.table.p c x y)
        ≡ M.add (table_of G b x) (times M.add M.zero c w)
    added-table = same-table q (group G) width M (layer_coordinates G b) _ _ each
