-- The monomials of e factors are counted by Pascal's rule.
use Rattle.std.proofs.Common.{◌≡◌, ◌≢◌, ℕ, zero, suc, ◌+◌, ◌-◌, ◌*◌, ◌<◌, ◌≤◌, List, [], ◌∷◌, length, get_or}
use Rattle.std.proofs.Common.{false, arith, ap, subst, ◌∙◌, refl}
use Rattle.std.proofs.lemmas.List.Elements.{recursion_from_All}
use Rattle.graded_polynomials.specs.Monomials.{is_exterior}
use Rattle.graded_polynomials.proofs.Terms.{each-map}
use Rattle.graded_polynomials.specs.AllMonomials.{all_monomials}
use Rattle.gc_poly.specs.Generators.{Generators, greatest}
use Rattle.graded_polynomials.proofs.AllMonomials.{all-monomials}
use Rattle.gc_poly.proofs.Counting.{number-powers}
use Rattle.param_test.specs.Finiteness.{unit_degree, AreVariables, AreCounted}
use Rattle.param_test.specs.Counting.{number}
use Rattle.param_test.proofs.VariableDegrees.{plain, low-degree}

none : (q d : ℕ) → d ≢ 0 → length (all_monomials q [] d) ≡ 0
none q zero h = absurd (h refl)
none q (suc d) h = refl

module _ (q v : ℕ) (low : 1 ≤ v) (even : is_exterior q v ≡ false) where
  count-is : (ds : List ℕ) → ((i : ℕ) → i < length ds → get_or ds i 0 ≡ v) → (e : ℕ)
      → length (all_monomials q ds (e * v)) ≡ number (length ds) e
  count-is [] h zero = ap (λ d. length (all_monomials q [] d)) (let z : 0 * v ≡ 0 = omega arith in z)
  count-is [] h (suc e) =
      none q (suc e * v) (λ z. let k : v + e * v ≡ suc e * v = omega arith in omega (arith, low, z, k))
  count-is (d ∷ ds) h zero =
      ap (λ n. length (all_monomials q (d ∷ ds) n)) (let z : 0 * v ≡ 0 = omega arith in z)
  count-is (d ∷ ds) h (suc e) =
      let s : d ≡ v = h 0 (omega arith) in
      let k : v + e * v ≡ suc e * v = omega arith in
      let r : suc e * v - v ≡ e * v = omega (arith, k) in
      number-powers q d ds (let l : 0 < d = omega (arith, low, s) in l) (suc e * v) (rw s even)
      (omega (arith, s, k))
      ∙ rw s (ap (λ n. length (all_monomials q ds (suc e * v)) + length (all_monomials q (v ∷ ds) n)) r)
      ∙ plus (count-is ds (λ i l. h (suc i) (omega arith)) (suc e))
      (subst (λ d. length (all_monomials q (d ∷ ds) (e * v)) ≡ number (suc (length ds)) e) s
      (count-is (d ∷ ds) h e))
    where
      plus : {a b x y : ℕ} → a ≡ x → b ≡ y → a + b ≡ x + y
      plus e f = omega (arith, e, f)

pub counted : (g : Generators) → AreVariables g → (e : ℕ) → AreCounted g e (number (length g.degrees) e)
counted g h e = record {
  monomials = all_monomials (greatest g) g.degrees (e * unit_degree g);
  all = all-monomials (greatest g) g.degrees
      (each-map (λ d. d ≡ unit_degree g) (λ d. 0 < d) g.degrees (λ d z. let l = (low-degree (greatest g)).0 in
      omega (arith, l, z))
      (recursion_from_All (λ d. d ≡ unit_degree g) g.degrees h)) (e * unit_degree g);
  count = count-is (greatest g) (unit_degree g) (low-degree (greatest g)).0 (plain (greatest g)) g.degrees
      (λ i l. h i 0 l) e;
}
