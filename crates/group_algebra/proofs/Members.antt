-- Members of the group algebra by their coefficients and by their sum coordinates.
use Rattle.std.proofs.Common.{◌≡◌, ◌≢◌, ℕ, zero, suc, ◌+◌, ◌-◌, ◌*◌, ◌%◌, ◌<◌, ◌⊎◌, List, length, inl, inr}
use Rattle.std.proofs.Common.{arith, ap, sym, ◌∙◌}
use Rattle.std.proofs.lemmas.Bool.{cases_eq}
use Rattle.std.proofs.lemmas.Grind.{same_number_lists}
use Rattle.std.proofs.Math.Nat.{mod-eq_of_lt, add-mod-mod}
use mathlib.Core.Path.{subst}
use Rattle.group_table.specs.Tables.{order}
use Rattle.linear_algebra.specs.Modular.{IsCongruent, sum_below}
use Rattle.linear_algebra.specs.Rows.{entry, add_multiple, IsRow}
use Rattle.linear_algebra.proofs.Congruences.{congruent_trans, congruent_eq, congruent_sym, congruent_add}
use Rattle.linear_algebra.proofs.Congruences.{congruent_mod, same_below}
use Rattle.linear_algebra.proofs.Reducing.{add_multiple_is_row}
use Rattle.linear_algebra.proofs.RowLemmas.{entry-add_multiple}
use Rattle.group_modules.specs.Module.{Module, Monoid, sub}
use Rattle.group_modules.specs.Field.{Below, Fp, residue}
use Rattle.linear_algebra.proofs.Residues.{below-path}
use Rattle.group_modules.specs.Sums.{below, up, total}
use Rattle.group_modules.proofs.SumLaws.{total-map}
use Rattle.group_modules.specs.Tables.{monoid}
use Rattle.numbered_groups.proofs.GroupLaws.{inv-unique}
use Rattle.p_groups.specs.PGroups.{PGroup, largest_residue, group}
use Rattle.p_groups.proofs.Fields.{residues}
use Rattle.group_algebra.specs.Coordinates.{sum_coordinates, free_module, AreCoefficients}
use Rattle.group_algebra.proofs.LayerLaws.{sum_coordinates_are}
use Rattle.group_algebra.specs.Coefficients.{AreSumCoordinates, IsTranslate}

-- a sum of numbers below p, as a sum of numbers
pub total-sum : (q : ℕ) (E : Monoid) (m : ℕ) (f : Below m → Below (suc q)) (F : ℕ → ℕ)
    → ((i : Below m) → (f i).0 ≡ F i.0)
    → IsCongruent (suc q) (total (Fp q E) (below m) f).0 (sum_below m F)
total-sum q E zero f F e = congruent_mod 0
total-sum q E (suc m) f F e =
    congruent_trans (congruent_mod _)
    (congruent_trans (congruent_add (congruent_eq (e _))
    (congruent_trans (congruent_eq (ap (λ (a : Below (suc q)). a.0)
    (total-map (Fp q E) (λ i. up i) (below m) f)))
    (total-sum q E m (λ i. f (up i)) F (λ i. e (up i)))))
    (congruent_eq (omega arith)))

module _ (G : PGroup) where
  abbrev q : ℕ
  q = largest_residue G

  abbrev n : ℕ
  n = order G.table

  abbrev A : Module (suc q) (monoid (group G))
  A = free_module G 1

  -- a row modulo p
  pub residue-row : {width : ℕ} {x : List ℕ} → IsRow G.table.p width x → IsRow (suc q) width x
  residue-row {width} {x} r = subst (λ p. IsRow p width x) (sym (residues G)) r

  pub row-residue : {width : ℕ} {x : List ℕ} → IsRow (suc q) width x → IsRow G.table.p width x
  row-residue {width} {x} r = subst (λ p. IsRow p width x) (residues G) r

  module _ (a x : List ℕ) (S : AreSumCoordinates G.table.p n a x) where
    pub sum-is : (v : A.of) → AreCoefficients G a v → (sum_coordinates G).row v ≡ x
    sum-is v C = same_number_lists ((sum_coordinates G).row v) x (((sum_coordinates G).row-is v).length_is
        ∙ sym S.coordinates.length_is)
        (λ j l. at j (let z : length ((sum_coordinates G).row v) ≡ n =
        ((sum_coordinates G).row-is v).length_is in omega (arith, l, z)) (cases_eq j 0))
      where
        first : entry ((sum_coordinates G).row v) 0 ≡ entry x 0
        first = same_below
            (congruent_trans (congruent_eq ((sum_coordinates_are G).first v))
            (congruent_trans (total-sum q (monoid (group G)) n (v (residue 0 0)) (entry a)
            (λ g. sym (C.each g)))
            (subst (λ p. IsCongruent p (sum_below n (entry a)) (entry x 0)) (sym (residues G))
            (congruent_sym S.sum))))
            (((sum_coordinates G).row-is v).below 0 G.law.law.some)
            ((residue-row S.coordinates).below 0 G.law.law.some)

        at : (j : ℕ) → j < n → (j ≡ 0) ⊎ (j ≢ 0) → entry ((sum_coordinates G).row v) j ≡ entry x j
        at j l (inl e) = subst (λ k. entry ((sum_coordinates G).row v) k ≡ entry x k) (sym e) first
        at j l (inr d) = (sum_coordinates_are G).others v (j, l) d ∙ sym (C.each (j, l))
            ∙ sym (S.others j (omega (arith, d)) l)

    -- the member with these coefficients
    abbrev made : A.of
    made z g = residue q (entry a g.0)

    pub made-are : AreCoefficients G a made
    made-are = record {
      is_row = S.coefficients;
      each = λ g. sym (mod-eq_of_lt ((residue-row S.coefficients).below g.0 g.1));
    }

    pub coefficients-of : AreCoefficients G a ((sum_coordinates G).table x)
    coefficients-of = subst (AreCoefficients G a)
        (sym ((sum_coordinates G).table-row made)
        ∙ ap (sum_coordinates G).table (sum-is made made-are)) made-are

  pub translate-is : (g : Below n) (a t : List ℕ) (v : A.of) → IsTranslate G.table g.0 a t
      → AreCoefficients G a v → AreCoefficients G t (A.act g v)
  translate-is g a t v T C = record {
    is_row = T.is_row;
    each = λ k. T.each k.0 k.1 ∙ C.each ((group G).mul inverse k)
        ∙ ap (λ (i : Below n). (v (residue 0 0) ((group G).mul i k)).0) inverse-is;
  }
    where
      inverse : Below n
      inverse = (T.inverse, T.is_inverse.below)

      inverse-is : inverse ≡ (group G).inv g
      inverse-is = inv-unique q (group G) g inverse (below-path _ _ T.is_inverse.right)

  pub minus-is : (t a : List ℕ) (w v : A.of) → AreCoefficients G t w → AreCoefficients G a v
      → AreCoefficients G (add_multiple G.table.p (G.table.p - 1) t a) (sub A w v)
  minus-is t a w v T C = record {
    is_row = add_multiple_is_row (G.table.p - 1) t a
        (let z : suc q ≡ G.table.p = residues G in omega (arith, z)) T.is_row C.is_row;
    each = λ g. entry-add_multiple G.table.p (G.table.p - 1) t a g.0 (C.is_row.length_is
        ∙ sym T.is_row.length_is) (let l : g.0 < n = g.1 in let e : length t ≡ n = T.is_row.length_is in
        omega (arith, l, e))
        ∙ ap (λ p. (entry t g.0 + (G.table.p - 1) * entry a g.0) % p) (sym (residues G))
        ∙ ap (λ y. (y + (G.table.p - 1) * entry a g.0) % suc q) (T.each g)
        ∙ ap (λ y. ((w (residue 0 0) g).0 + (G.table.p - 1) * y) % suc q) (C.each g)
        ∙ sym (add-mod-mod (w (residue 0 0) g).0 (q * (v (residue 0 0) g).0) (suc q));
  }

  -- the coefficients of a member
  pub same-coefficients : (a b : List ℕ) (v : A.of) → AreCoefficients G a v → AreCoefficients G b v → a ≡ b
  same-coefficients a b v C D = same_number_lists a b (C.is_row.length_is ∙ sym D.is_row.length_is)
      (λ j l. let m : j < n = (let z : length a ≡ n = C.is_row.length_is in omega (arith, l, z)) in C.each (
        j,
        m,
      ) ∙ sym (D.each (j, m)))

  -- the sum coordinates of (g - 1) v, from the coefficients of g v
  pub move-is : (g : Below n) (a t d x : List ℕ) (v : A.of) → IsTranslate G.table g.0 a t
      → d ≡ add_multiple G.table.p (G.table.p - 1) t a → AreSumCoordinates G.table.p n d x
      → AreCoefficients G a v → x ≡ (sum_coordinates G).row (sub A (A.act g v) v)
  move-is g a t d x v T e S C = sym (sum-is d x S (sub A (A.act g v) v)
      (subst (λ y. AreCoefficients G y (sub A (A.act g v) v)) (sym e)
      (minus-is t a (A.act g v) v (translate-is g a t v T C) C)))
