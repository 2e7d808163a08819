-- What contracts see of a ring, from what it keeps.
use Rattle.std.proofs.Common.{◌≡◌, ℕ, zero, suc, ◌-◌, ◌<◌, ◌≤◌, List, [], ◌∷◌, length, map, arith, ap, sym}
use Rattle.std.proofs.Common.{◌∙◌, refl}
use Rattle.std.specs.Prelude.{slice_index_or, Option, Some, None}
use mathlib.Core.Path.{subst}
use Rattle.p_groups.specs.PGroups.{PGroup, largest_residue}
use Rattle.p_groups.proofs.Fields.{field, residues}
use Rattle.linear_algebra.specs.Rows.{entry, row, combination_row, IsRow, IsMatrix, IsCombination}
use Rattle.linear_algebra.proofs.CombinationRows.{combination_row-is_row, combination_row-each}
use Rattle.linear_algebra.proofs.Congruences.{congruent_sym}
use Rattle.graded_polynomials.specs.Polynomials.{Polynomial}
use Rattle.graded_algebra.specs.Algebras.{degrees, evaluate}
use Rattle.graded_algebra.specs.Presentations.{IsNormalForm}
use Rattle.gc_poly.specs.Generators.{Generators, greatest}
use Rattle.presentation_rows.specs.RowPolynomials.{polynomial_of}
use Rattle.presentation_rows.specs.Values.{vector, AreValues}
use Rattle.presentation_rows.proofs.NormalFormRows.{preimage-of-combination}
use Rattle.min_res.specs.Stages.{rank_of}
use Rattle.chain_lift.specs.Values.{LiftValue}
use Rattle.chain_lift.specs.Products.{multiply}
use Rattle.ring_completion.specs.Candidates.{AreSome}
use Rattle.cohomology_degree.specs.Rings.{cohomology}
use Rattle.ring_present.specs.Values.{RingValue, generators_of, standard_of}
use Rattle.cohomology_degree.specs.Standard.{AreStandard}
use Rattle.cohomology_degree.specs.Degrees.{classes, degrees_of, lifted, IsDegree, IsLiftBelow}
use Rattle.ring_present.specs.Stores.{IsRingOf, IsRingStore}
use Rattle.cohomology_degree.specs.declared.degree.Degree.{Degree}
use Rattle.cohomology_degree.proofs.Factors.{all-at, degrees-are}
use Rattle.cohomology_degree.proofs.StandardMonomials.{normal-form-among}

pub ring-at : (group : Option PGroup) (gens : Generators) (lifts : List LiftValue) (rs : List Polynomial)
    (Ds : List Degree) (G : PGroup) → IsRingStore group gens lifts rs Ds
    → group ≡ Some G → IsRingOf G gens lifts rs Ds
ring-at None gens lifts rs Ds G S e = absurd cc
ring-at (Some K) gens lifts rs Ds G S e = let k : K ≡ G = cc in
    subst (λ g. IsRingOf g gens lifts rs Ds) k S.through

-- from the first degree on the group is known
pub some-group : (group : Option PGroup) (gens : Generators) (lifts : List LiftValue) (rs : List Polynomial)
    (Ds : List Degree) → IsRingStore group gens lifts rs Ds
    → 0 < length Ds → (G : PGroup) × (group ≡ Some G)
some-group None gens lifts rs Ds S l = absurd
    (let e = ap (λ (x : List Degree). length x) S.through.no_degrees in omega (arith, e, l))
some-group (Some G) gens lifts rs Ds S l = (G, refl)

-- the lifts are over the prime of the generators
pub lift-prime : (group : Option PGroup) (gens : Generators) (lifts : List LiftValue) (rs : List Polynomial)
    (Ds : List Degree) → IsRingStore group gens lifts rs Ds
    → (i : ℕ) (L : LiftValue) → i < length lifts → L ≡ slice_index_or lifts i L → L.group.table.p ≡ gens.prime
lift-prime None gens lifts rs Ds S i L l e =
    absurd (let n = ap (λ (x : List LiftValue). length x) S.through.no_generators in omega (arith, n, l))
lift-prime (Some G) gens lifts rs Ds S i L l e =
    ap (λ (g : PGroup). g.table.p) (all-at
    (IsLiftBelow G (length Ds)) lifts i L S.through.lower.lifts_are l e).group_is ∙ sym S.through.prime

pub degrees-lifted : (lifts : List LiftValue) → degrees_of lifts ≡ map (λ g. g.degree) (lifted lifts)
degrees-lifted [] = refl
degrees-lifted (l ∷ lifts) = ap (λ ds. l.degree ∷ ds) (degrees-lifted lifts)

-- R is seen of a ring that keeps these
pub record IsSeen (R : RingValue) (group : Option PGroup) (gens : Generators) (lifts : List LiftValue)
    (rs : List Polynomial) (Ds : List Degree) : Type 0 where
  pub prime_is : R.prime ≡ gens.prime
  pub group_is : R.group ≡ group
  pub degree_is : R.degree ≡ length Ds
  pub generators_are : R.generators ≡ lifted lifts
  pub standard_are : R.standard ≡ map (λ d. d.standard.monomials) Ds

pub seen-of : (R : RingValue) (group : Option PGroup) (gens : Generators) (lifts : List LiftValue)
    (rs : List Polynomial) (Ds : List Degree)
    {cs : List (List ℕ)} → record {
      prime = gens.prime;
      group = group;
      degree = length Ds;
      generators = lifted lifts;
      relations = rs;
      standard = map (λ d. d.standard.monomials) Ds;
      candidates = cs;
    } ≡ R → IsSeen R group gens lifts rs Ds
seen-of R group gens lifts rs Ds e = record {
  prime_is = ap (λ (x : RingValue). x.prime) (sym e);
  group_is = ap (λ (x : RingValue). x.group) (sym e);
  degree_is = ap (λ (x : RingValue). x.degree) (sym e);
  generators_are = ap (λ (x : RingValue). x.generators) (sym e);
  standard_are = ap (λ (x : RingValue). x.standard) (sym e);
}

standard-mapped : (Ds : List Degree) (e : ℕ) (D : Degree) → e < length Ds
    → slice_index_or (map (λ d. d.standard.monomials) Ds) e [] ≡ (slice_index_or Ds e D).standard.monomials
standard-mapped [] e D l = absurd (omega (arith, l))
standard-mapped (E ∷ Ds) zero D l = refl
standard-mapped (E ∷ Ds) (suc e) D l = standard-mapped Ds e D (omega (arith, l))

module _ (R : RingValue) (group : Option PGroup) (gens : Generators) (lifts : List LiftValue)
    (rs : List Polynomial) (Ds : List Degree)
    (seen : IsSeen R group gens lifts rs Ds) (S : IsRingStore group gens lifts rs Ds) (d : ℕ) (at : Degree)
    (here : at ≡ slice_index_or Ds (d - 1) at) (low : 1 ≤ d) (high : d ≤ R.degree) where
  step : d ≡ suc (d - 1)
  step = omega (arith, low)

  inside : d - 1 < length Ds
  inside = let e = seen.degree_is in omega (arith, e, low, high)

  pub standard-is : at.standard.monomials ≡ standard_of R d
  standard-is = ap (λ (E : Degree). E.standard.monomials) here
      ∙ sym (ap (standard_of R) step ∙ ap (λ xs. slice_index_or xs (d - 1) []) seen.standard_are
      ∙ standard-mapped Ds (d - 1) at inside)

  module _ (G : PGroup) (known : R.group ≡ Some G) where
    ring : IsRingOf G gens lifts rs Ds
    ring = ring-at group gens lifts rs Ds G S (sym seen.group_is ∙ known)

    degree : IsDegree G (suc (d - 1)) lifts at
    degree = subst (IsDegree G (suc (d - 1)) lifts) (sym here) (ring.lower.degrees_are.each (d - 1) at inside)

    abbrev q : ℕ
    q = largest_residue G

    classes-are : classes G lifts ≡ generators_of q R.generators
    classes-are = ap (generators_of q) (sym seen.generators_are)

    pub standard-seen : AreStandard q (cohomology G) (generators_of q R.generators) d at.standard.monomials
    standard-seen =
        subst (λ k. AreStandard q (cohomology G) (generators_of q R.generators) k at.standard.monomials)
        (sym step)
        (subst (λ gs. AreStandard q (cohomology G) gs (suc (d - 1)) at.standard.monomials) classes-are
        degree.all)

    values : AreValues q (cohomology G) (generators_of q R.generators) at.standard.monomials
        at.standard.values.rows
    values = subst (λ gs. AreValues q (cohomology G) gs at.standard.monomials at.standard.values.rows)
        classes-are
        degree.standard.values

    pub count-seen : length at.standard.values.rows ≡ length (standard_of R d)
    count-seen = values.count ∙ ap (λ (x : List (List ℕ)). length x) standard-is

    pub width-seen : at.standard.values.width ≡ rank_of G d
    width-seen = degree.standard.width ∙ ap (rank_of G) (sym step)

    pub modulus-seen : at.standard.values.p ≡ R.prime
    modulus-seen = degree.standard.prime ∙ residues G ∙ sym (seen.prime_is ∙ ring.prime)

    pub value-seen : (i : ℕ) (r : List ℕ) → i < length (standard_of R d) → r ≡ row at.standard.values.rows i
        → vector q r ≡ evaluate (cohomology G) (generators_of q R.generators)
        (slice_index_or (standard_of R d) i [])
    value-seen i r l e = ap (vector q) e
        ∙ values.each i (let c = count-seen in let v = values.count in omega (arith, l, c, v))
        ∙ ap (λ ms. evaluate (cohomology G) (generators_of q R.generators)
        (slice_index_or ms i [])) standard-is

    -- normal forms
    pub prime-seen : at.preimages.p ≡ R.prime
    prime-seen = degree.preimages_prime ∙ residues G ∙ sym (seen.prime_is ∙ ring.prime)

    pub targets-seen : length at.preimages.rows ≡ rank_of G d
    targets-seen = degree.preimages.count ∙ degree.basis_is.count ∙ ap (rank_of G) (sym step)

    forms-matrix : IsMatrix at.preimages.p at.preimages.width at.preimages.rows
    forms-matrix i l =
        subst (λ p. IsRow p at.preimages.width (row at.preimages.rows i)) (sym degree.preimages_prime)
        (subst (λ n. IsRow (suc q) n (row at.preimages.rows i)) (degree.left.values.count
        ∙ sym degree.preimages_width)
        (degree.preimages.each i (let n = degree.preimages.count in omega (arith, n, l))).is_row)

    some-prime : 0 < at.preimages.p
    some-prime = let e = degree.preimages_prime in omega (arith, e)

    -- a combination of the rows of normal forms
    abbrev combined : List ℕ → List ℕ
    combined w = combination_row at.preimages.p at.preimages.width (entry w) at.preimages.rows

    combined-row : (w : List ℕ) → IsRow at.preimages.p at.preimages.width (combined w)
    combined-row w = combination_row-is_row at.preimages.p at.preimages.width some-prime
        (entry w) at.preimages.rows forms-matrix

    pub width-of-forms : (w u : List ℕ) → u ≡ combined w → length u ≡ length at.left.monomials
    width-of-forms w u e = ap length e ∙ (combined-row w).length_is ∙ degree.preimages_width

    pub monomials-seen : AreSome (greatest gens) gens.degrees d at.left.monomials
    monomials-seen =
        subst (λ m. AreSome m gens.degrees d at.left.monomials) (sym (ap (λ p. p - 1) ring.prime))
        (subst (λ ds. AreSome q ds d at.left.monomials) (degrees-are G lifts ∙ sym S.degrees_of_gens)
        (subst (λ k. AreSome q (degrees (classes G lifts)) k at.left.monomials) (sym step) degree.left.some))

    pub form-seen : (w u : List ℕ) → IsRow at.preimages.p (rank_of G d) w → u ≡ combined w
        → IsNormalForm q (cohomology G) (generators_of q R.generators) d (vector q w)
        (polynomial_of at.left.monomials u)
    form-seen w u W e =
        let U : IsRow at.preimages.p at.preimages.width u =
        subst (IsRow at.preimages.p at.preimages.width) (sym e) (combined-row w) in
        let C : IsCombination at.preimages.p (entry w) at.preimages.rows (entry u) =
        subst (λ u. IsCombination at.preimages.p (entry w) at.preimages.rows (entry u)) (sym e)
        (record {
          each = λ j. congruent_sym
              (combination_row-each at.preimages.p at.preimages.width some-prime
              (entry w) at.preimages.rows forms-matrix j);
        }) in
        subst (λ k. IsNormalForm q (cohomology G) (generators_of q R.generators) k (vector q w)
        (polynomial_of at.left.monomials u)) (sym step)
        (subst (λ gs. IsNormalForm q (cohomology G) gs (suc (d - 1)) (vector q w)
        (polynomial_of at.left.monomials u)) classes-are
        (normal-form-among q (suc (d - 1)) (multiply G) (classes G lifts) at.left.monomials
        at.left.values.rows
        degree.kernel degree.left.some degree.left.values
        (subst (AreStandard q (cohomology G) (classes G lifts) (suc (d - 1))) degree.others degree.all) w u
        (preimage-of-combination (field G).above_one degree.basis_is degree.preimages degree.kernel_is w u
        (subst (λ n. IsRow (suc q) n w) (ap (rank_of G) step)
        (subst (λ p. IsRow p (rank_of G d) w) degree.preimages_prime W))
        (subst (λ n. IsRow (suc q) n u) (degree.preimages_width
        ∙ sym degree.left.values.count)
        (subst (λ p. IsRow p at.preimages.width u) degree.preimages_prime U))
        (subst (λ p. IsCombination p (entry w) at.preimages.rows (entry u)) degree.preimages_prime C))))
