-- Layer coordinates from sum coordinates and from coefficients, and back.
use Rattle.std.proofs.Common.{◌≡◌, ◌≢◌, ℕ, suc, ◌*◌, ◌%◌, ◌<◌, ◌⊎◌, true, false, eqb, List, length}
use Rattle.std.proofs.Common.{inl, inr, arith, ap, ap₂, sym, ◌∙◌, refl}
use Rattle.std.proofs.lemmas.Bool.Decides.{eqb_tells}
use Rattle.std.proofs.lemmas.Grind.{same_number_lists}
use Rattle.std.proofs.Math.Nat.{mod-eq_of_lt}
use mathlib.Core.Path.{subst, fun_ext}
use Rattle.group_table.specs.Tables.{order}
use Rattle.linear_algebra.specs.Modular.{IsCongruent, sum_below}
use Rattle.linear_algebra.specs.Rows.{entry, row, IsRow, IsCombination}
use Rattle.linear_algebra.specs.Choices.{IsPreimage}
use Rattle.linear_algebra.specs.Kernels.{unit_row}
use Rattle.linear_algebra.proofs.AugmentLemmas.{entry_unit_same, entry_unit_other}
use Rattle.linear_algebra.proofs.Congruences.{congruent_trans, congruent_eq, congruent_sym}
use Rattle.linear_algebra.proofs.Congruences.{congruent_mul_right, congruent_mod, same_below}
use Rattle.linear_algebra.proofs.Independence.{combine_combinations}
use Rattle.linear_algebra.proofs.Sums.{sum_below-congruent}
use Rattle.radical_layers.proofs.UnitRow.{unit-is-row}
use Rattle.group_modules.specs.Module.{Module, lin, times}
use Rattle.group_modules.specs.Field.{Below, Fp, residue}
use Rattle.linear_algebra.proofs.Residues.{below-path, times-residue}
use Rattle.group_modules.proofs.Laws.{map-times}
use Rattle.group_modules.specs.Sums.{below, total}
use Rattle.group_modules.proofs.SumLaws.{total-only, map-total}
use Rattle.group_modules.specs.Tables.{monoid, mark, unit, terms, part}
use Rattle.group_modules.proofs.TermLaws.{lin-terms}
use Rattle.numbered_groups.proofs.GroupLaws.{inv-inv-mul}
use Rattle.group_modules.proofs.MapLaws.{terms-sum}
use Rattle.radical_layers.specs.LayerBasis.{layer_basis}
use Rattle.p_groups.specs.PGroups.{PGroup, largest_residue, group}
use Rattle.p_groups.proofs.Fields.{residues, field}
use Rattle.group_algebra.specs.Coordinates.{layers, layer_coordinates, free_module, row_of, table_of, member}
use Rattle.group_algebra.specs.Coordinates.{product_with, AreCoefficients}
use Rattle.group_algebra.specs.Coefficients.{AreSumCoordinates}
use Rattle.group_algebra.proofs.Combined.{IsCombined}
use Rattle.group_algebra.proofs.Members.{residue-row, sum-is, total-sum}
use Rattle.group_algebra.proofs.PowerLemmas.{units-combination}
use Rattle.group_algebra.proofs.LayerRows.{basis-count, combination-row, expand-one}
use Rattle.radical_layers.proofs.Bridge.{at-total, at-times}

-- the combination of the preimages of the unit rows with the entries of s is a preimage of s
pub sums-combination : (p n : ℕ) (B U M : List (List ℕ)) (none : List (List ℕ)) (s r : List ℕ) → length B ≡ n
    → length M ≡ n → ((k : ℕ) → k < n → row M k ≡ unit_row n k)
    → ((i : ℕ) → i < n → IsPreimage p B none (row M i) (row U i)) → IsRow p n s → IsCombined p n s (row U) r
    → IsCombination p (entry r) B (entry s)
sums-combination p n B U M none s r count len units pre rs C = record {
  each = λ j. congruent_trans (congruent_eq
      (ap (λ m. sum_below m (λ k. entry r k * entry (row B k) j)) count))
      (congruent_trans (sum_below-congruent p n (λ k. entry r k * entry (row B k) j)
      (λ k. sum_below n (λ i. entry s i * entry (row U i) k) * entry (row B k) j)
      (λ k l. congruent_mul_right (entry (row B k) j) (at k)))
      (congruent_trans
      ((combine_combinations p n n (entry s) (λ i k. entry (row U i) k) (λ k j. entry (row B k) j)
      (λ i j. entry (row M i) j)
      (λ i l. record {
        each = λ j. congruent_trans
            (congruent_eq (ap (λ m. sum_below m (λ k. entry (row U i) k * entry (row B k) j)) (sym count)))
            ((pre i l).maps.each j);
      })).each j)
      (congruent_trans (congruent_eq (ap (λ m. sum_below m (λ i. entry s i * entry (row M i) j)) (sym len)))
      ((units-combination p n M len units s rs).each j))));
}
  where
    at : (k : ℕ) → IsCongruent p (entry r k) (sum_below n (λ i. entry s i * entry (row U i) k))
    at k = C.each k

module _ (G : PGroup) where
  abbrev q : ℕ
  q = largest_residue G

  abbrev n : ℕ
  n = order G.table

  abbrev M1 : Module (suc q) (monoid (group G))
  M1 = free_module G 1

  -- the element 1 of kG
  abbrev pub one : M1.of
  one = unit q (group G) 1 (residue 0 0)

  pub layers-of-sums : (U M none : List (List ℕ)) (a s r : List ℕ) (v : M1.of) → length M ≡ n
      → ((k : ℕ) → k < n → row M k ≡ unit_row n k)
      → ((i : ℕ) → i < n → IsPreimage G.table.p (layer_basis (layers G)) none (row M i) (row U i))
      → AreCoefficients G a v → AreSumCoordinates G.table.p n a s
      → IsCombined G.table.p n s (row U) r → r ≡ row_of G 1 v
  layers-of-sums U M none a s r v len units pre A S C = sym (combination-row G r (residue-row G C.is_row) v
      (subst (λ x. IsCombination (suc q) (entry r) (layer_basis (layers G)) (entry x))
      (sym (sum-is G a s S v A))
      (subst (λ p. IsCombination p (entry r) (layer_basis (layers G)) (entry s)) (sym (residues G))
      (sums-combination G.table.p n (layer_basis (layers G)) U M none s r
      (basis-count G) len units pre S.coordinates C))))

  -- the coefficients of an element
  pub element-coefficients : (g : Below n) → AreCoefficients G (unit_row n g.0) (M1.act g one)
  element-coefficients g = record {
    is_row = unit-is-row G.table.p n g.0
        (subst (λ p. 1 < p) (residues G) (field G).above_one) g.1;
    each =
        λ k. at k (eqb_tells ((group G).mul ((group G).inv g) k).0 (group G).one.0);
  }
    where
      at : (k : Below n) → ((eqb ((group G).mul ((group G).inv g) k).0 (group G).one.0 ≡ true)
          × (((group G).mul ((group G).inv g) k).0 ≡ (group G).one.0))
          ⊎ ((eqb ((group G).mul ((group G).inv g) k).0 (group G).one.0 ≡ false)
          × (((group G).mul ((group G).inv g) k).0 ≢ (group G).one.0))
          → entry (unit_row n g.0) k.0 ≡ (M1.act g one (residue 0 0) k).0
      at k (inl e) = let same : k ≡ g = inv-inv-mul q (group G) g k (below-path _ _ e.1) in
          ap (λ (x : Below n). entry (unit_row n g.0) x.0) same ∙ entry_unit_same n g.0 g.1
          ∙ sym (mod-eq_of_lt (field G).above_one) ∙ sym (ap (λ t. (mark q (group G) t).0) e.0)
      at k (inr d) = entry_unit_other n g.0 k.0
          (λ e. d.1 (ap (λ (x : Below n). x.0) (ap ((group G).mul ((group G).inv g)) (below-path k g e)
          ∙ (group G).inv-mul g)))
          ∙ sym (mod-eq_of_lt (let z : 0 < suc q = omega arith in z))
          ∙ sym (ap (λ t. (mark q (group G) t).0) d.0)

  -- the product as a sum over the elements
  pub product-expand : (b : ℕ) (a : M1.of) (w : (free_module G b).of)
      → product_with G b a w ≡ total (free_module G b) (below n)
      (λ g. times (free_module G b).add (free_module G b).zero (a (residue 0 0) g).0
      ((free_module G b).act g w))
  product-expand b a w = lin-terms q (group G) (free_module G b) 1 (λ i. w) a (below 1)
      ∙ total-only (free_module G b) 1 (λ i. total (free_module G b) (below n)
      (part q (group G) (free_module G b) 1 (λ i. w) a i)) (residue 0 0)
      (λ y e. absurd (e (let l : y.0 < 1 = y.1 in let z : y.0 ≡ 0 = omega (arith, l) in z)))

  pub times-one-is : (a : M1.of) → product_with G 1 a one ≡ a
  times-one-is a = ap (λ u. lin M1 u (terms q (group G) 1 a))
      (fun_ext (λ i. ap (unit q (group G) 1)
      (below-path (residue 0 0) i (let l : i.0 < 1 = i.1 in let z : 0 ≡ i.0 = omega (arith, l) in z))))
      ∙ terms-sum q (group G) 1 a

  -- the coordinates of a product from those of the translates
  pub product-row : (a : List ℕ) (v w : M1.of) (R : ℕ → List ℕ) (r : List ℕ) → AreCoefficients G a v
      → ((g : Below n) → R g.0 ≡ row_of G 1 (M1.act g w))
      → IsCombined G.table.p n a R r → r ≡ row_of G 1 (product_with G 1 v w)
  product-row a v w R r A T C = same_number_lists r (row_of G 1 (product_with G 1 v w))
      (rr.length_is ∙ (let z : n ≡ n * 1 = omega arith in z)
      ∙ sym ((layer_coordinates G 1).row-is (product_with G 1 v w)).length_is)
      (λ j l. let m : j < n = (let e : length r ≡ n = rr.length_is in omega (arith, e, l)) in
      same_below (at j) ((residue-row G rr).below j m)
      (((layer_coordinates G 1).row-is (product_with G 1 v w)).below j (omega (arith, m))))
    where
      rr : IsRow G.table.p n r
      rr = C.is_row

      at : (j : ℕ) → IsCongruent (suc q) (entry r j) (entry (row_of G 1 (product_with G 1 v w)) j)
      at j = congruent_trans (subst (λ p. IsCongruent p (entry r j)
          (sum_below n (λ g. entry a g * entry (R g) j))) (sym (residues G)) (C.each j))
          (congruent_sym (congruent_trans
          (congruent_eq (ap (λ y. entry (row_of G 1 y) j) (product-expand 1 v w)))
          (at-total q (group G) (n * 1) M1 (layer_coordinates G 1) n
          (λ g. times M1.add M1.zero (v (residue 0 0) g).0 (M1.act g w))
          (λ g. entry a g * entry (R g) j) j
          (λ g. congruent_trans (at-times q (group G) (n * 1) M1 (layer_coordinates G 1) (v (residue 0 0) g).0
          (M1.act g w) j)
          (congruent_eq (ap₂ ◌*◌ (sym (A.each g)) (ap (λ y. entry y j) (sym (T g)))))))))

  -- the coefficients of a combination of members with known coefficients
  pub coefficients-of-row : (x a : List ℕ) (R : ℕ → List ℕ) → IsRow G.table.p n x
      → ((k : ℕ) → k < n → AreCoefficients G (R k) (member G k))
      → IsCombined G.table.p n x R a → AreCoefficients G a (table_of G 1 x)
  coefficients-of-row x a R rx C S = record {
    is_row = S.is_row;
    each = λ g. same_below (at g) ((residue-row G S.is_row).below g.0 g.1)
        (table_of G 1 x (residue 0 0) g).1;
  }
    where
      wide : IsRow (suc q) (n * 1) x
      wide = subst (λ w. IsRow (suc q) w x) (let z : n ≡ n * 1 = omega arith in z) (residue-row G rx)

      expand : table_of G 1 x ≡ total M1 (below n) (λ k. times M1.add M1.zero (entry x k.0) (member G k.0))
      expand = expand-one G (table_of G 1 x)
          ∙ ap (λ y. total M1 (below n) (λ k. times M1.add M1.zero (entry y k.0) (member G k.0)))
          ((layer_coordinates G 1).row-table x wide)

      at : (g : Below n) → IsCongruent (suc q) (entry a g.0) (table_of G 1 x (residue 0 0) g).0
      at g = congruent_trans (subst (λ p. IsCongruent p (entry a g.0)
          (sum_below n (λ k. entry x k * entry (R k) g.0))) (sym (residues G)) (S.each g.0))
          (congruent_sym (congruent_trans
          (congruent_eq (ap (λ (y : M1.of). (y (residue 0 0) g).0) expand
          ∙ ap (λ (y : Below (suc q)). y.0)
          (map-total M1 (Fp q (monoid (group G))) (λ y. y (residue 0 0) g) (λ y z. refl) (below n)
          (λ k. times M1.add M1.zero (entry x k.0) (member G k.0)))))
          (congruent_trans
          (total-sum q (monoid (group G)) n
          (λ k. times M1.add M1.zero (entry x k.0) (member G k.0) (residue 0 0) g)
          (λ k. (entry x k * entry (R k) g.0) % suc q)
          (λ k. ap (λ (y : Below (suc q)). y.0)
          (map-times M1 (Fp q (monoid (group G))) (λ y. y (residue 0 0) g) (λ y z. refl) (entry x k.0)
          (member G k.0) ∙ times-residue q (entry x k.0) (member G k.0 (residue 0 0) g))
          ∙ ap (λ y. (entry x k.0 * y) % suc q) (sym ((C k.0 k.1).each g))))
          (sum_below-congruent (suc q) n (λ k. (entry x k * entry (R k) g.0) % suc q)
          (λ k. entry x k * entry (R k) g.0) (λ k l. congruent_mod (entry x k * entry (R k) g.0))))))
