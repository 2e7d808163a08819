-- The polynomials in x over F_2 with the generators x, x^2 and x^3: each monomial of degree e has the value
-- x^e, and in the degrees 1 to 3 the generator of that degree is the one standard monomial.
use Rattle.std.proofs.Common.{◌≡◌, ℕ, zero, suc, ◌+◌, ◌*◌, ◌<◌, ◌≤◌, true, false, List, [], ◌∷◌, ◌++◌, length}
use Rattle.std.proofs.Common.{map, ◌⊎◌, inl, inr, arith, ap, ap₂, sym, subst, ◌∙◌, refl}
use Rattle.std.specs.Prelude.{slice_index_or}
use Rattle.std.specs.List.{AllByRecursion as Each}
use Rattle.std.proofs.Math.Path.{fun_ext}
use Rattle.std.proofs.lemmas.List.{get_or-map, length-map}
use Rattle.linear_algebra.specs.Modular.{IsFieldModulo}
use Rattle.linear_algebra.specs.Rows.{entry, IsRow, IsMatrix, IsEchelonOf}
use Rattle.linear_algebra.specs.Kernels.{IsKernelOf}
use Rattle.linear_algebra.proofs.Congruences.{congruent_eq}
use Rattle.linear_algebra.proofs.Existence.{echelon}
use Rattle.linear_algebra.proofs.Fields.{field_of_prime}
use Rattle.linear_algebra.proofs.Laws.{kernel_exists}
use Rattle.graded_polynomials.specs.AllMonomials.{all_monomials}
use Rattle.graded_polynomials.specs.Monomials.{IsMonomial, IsMonomials, IsGreater, same}
use Rattle.graded_polynomials.specs.Polynomials.{Term, Polynomial, coefficient}
use Rattle.graded_polynomials.specs.Texts.{power}
use Rattle.graded_polynomials.proofs.AllMonomials.{all-monomials}
use Rattle.graded_polynomials.proofs.Monomials.{only-one}
use Rattle.graded_polynomials.proofs.Order.{greater-self, greater-both}
use Rattle.graded_polynomials.proofs.Ordered.{greater-before}
use Rattle.graded_polynomials.proofs.Terms.{cases-same, same-self, eqb-false}
use Rattle.graded_algebra.specs.Algebras.{Generator, degrees, powers, evaluate, evaluate_from, times, value}
use Rattle.graded_algebra.specs.Presentations.{IsLeading, IsRelation, IsRelations, IsStandard}
use Rattle.graded_algebra.specs.Vectors.{Vector, IsOfDegree, algebra, unit}
use Rattle.graded_algebra.proofs.Relations.{defining}
use Rattle.graded_algebra.proofs.VectorLemmas.{below-path}
use Rattle.presentation_rows.specs.Multiples.{AreMultiples}
use Rattle.presentation_rows.specs.Pivots.{new_relations}
use Rattle.presentation_rows.specs.Values.{vector, AreValues}
use Rattle.presentation_rows.proofs.Existence.{multiples-exist, multiples-matrix}
use Rattle.presentation_rows.proofs.MultipleRows.{consequence-pivots}
use Rattle.presentation_rows.proofs.NewRelations.{relations-from}
use Rattle.ring_completion.specs.Completions.{alone, IsStandardOf, IsReduced}
use Rattle.ring_completion.proofs.ListedCandidates.{generator-at}
use Rattle.ring_completion.proofs.Lower.{Known, known, reduced-exists}
use Rattle.ring_completion.proofs.OpenLine.{line, line-mul}
use Rattle.ring_completion.proofs.Results.{free}

pub field : IsFieldModulo 2
field = field_of_prime 2 (inl refl)

-- y, u and v with the classes x, x^2 and x^3
abbrev pub gs : List (Generator (Vector 1))
gs =
    record { degree = 1; class = unit 1 0 }
    ∷ record { degree = 2; class = unit 1 0 } ∷ record { degree = 3; class = unit 1 0 } ∷ []

pub positive : Each (λ d. 0 < d) (degrees gs)
positive = (omega arith, (omega arith, (omega arith, tt)))

times-one : (d e : ℕ) → line-mul d e (unit 1 0) (unit 1 0) ≡ unit 1 0
times-one d e = fun_ext (λ i. at i)
  where
    at : (i : ℕ) → line-mul d e (unit 1 0) (unit 1 0) i ≡ unit 1 0 i
    at zero = refl
    at (suc i) = rw (eqb-false (suc i) 0 (omega arith)) refl

powers-one : (j : ℕ) (g : Generator (Vector 1)) → g.class ≡ unit 1 0 → (e : ℕ)
    → powers (algebra 1 line) j (unit 1 0) g e ≡ unit 1 0
powers-one j g h zero = refl
powers-one j g h (suc e) = ap₂ (line-mul (j + g.degree * e) g.degree) (powers-one j g h e) h
    ∙ times-one (j + g.degree * e) g.degree

from-one : (j : ℕ) (hs : List (Generator (Vector 1))) → Each (λ h. h.class ≡ unit 1 0) hs → (m : List ℕ)
    → evaluate_from (algebra 1 line) j (unit 1 0) hs m ≡ unit 1 0
from-one j [] c m = refl
from-one j (h ∷ hs) c [] = refl
from-one j (h ∷ hs) c (e ∷ m) =
    ap (λ a. evaluate_from (algebra 1 line) (j + h.degree * e) a hs m) (powers-one j h c.0 e)
    ∙ from-one (j + h.degree * e) hs c.1 m

-- each monomial of degree e has the value x^e
pub one-value : (m : List ℕ) → evaluate (algebra 1 line) gs m ≡ unit 1 0
one-value m = from-one 0 gs (refl, (refl, (refl, tt))) m

-- the generator of degree e, from 1 to 3
abbrev pub least : ℕ → List ℕ
least zero = []
least (suc i) = power i 1

pub is-least : (e : ℕ) → e < 4 → IsMonomial 1 (degrees gs) e (least e)
is-least zero l = record { within = tt; trimmed = tt; fitting = refl; degree_is = refl }
is-least (suc zero) l = generator-at 1 (degrees gs) 0 (let z : 0 < 3 = omega arith in z)
is-least (suc (suc zero)) l = generator-at 1 (degrees gs) 1 (let z : 1 < 3 = omega arith in z)
is-least (suc (suc (suc zero))) l = generator-at 1 (degrees gs) 2 (let z : 2 < 3 = omega arith in z)
is-least (suc (suc (suc (suc e)))) l = absurd (omega (arith, l))

-- each other monomial of its degree is greater
pub least-or-greater : (e : ℕ) → e < 4 → (m : List ℕ) → IsMonomial 1 (degrees gs) e m
    → (m ≡ least e) ⊎ IsGreater m (least e)
least-or-greater zero l m M = inl (only-one 1 (degrees gs) m positive M)
least-or-greater (suc zero) l m M = inl (one m M)
  where
    one : (m : List ℕ) → IsMonomial 1 (degrees gs) 1 m → m ≡ 1 ∷ []
    one [] M = absurd (let d : 0 ≡ 1 = M.degree_is in omega (arith, d))
    one (a ∷ []) M = ap (λ a. a ∷ []) (let d : 1 * a + 0 ≡ 1 = M.degree_is in omega (arith, d))
    one (a ∷ b ∷ []) M = absurd (let d : 1 * a + (2 * b + 0) ≡ 1 = M.degree_is in
        let t = M.trimmed.1.0 refl in omega (arith, d, t))
    one (a ∷ b ∷ c ∷ []) M = absurd (let d : 1 * a + (2 * b + (3 * c + 0)) ≡ 1 = M.degree_is in
        let t = M.trimmed.1.1.0 refl in omega (arith, d, t))
    one (a ∷ b ∷ c ∷ x ∷ m) M = absurd M.within
least-or-greater (suc (suc zero)) l m M = two m M
  where
    two : (m : List ℕ) → IsMonomial 1 (degrees gs) 2 m → (m ≡ 0 ∷ 1 ∷ []) ⊎ IsGreater m (0 ∷ 1 ∷ [])
    two [] M = absurd (let d : 0 ≡ 2 = M.degree_is in omega (arith, d))
    two (a ∷ []) M = inr (greater-before a 0 [] (1 ∷ [])
        (let d : 1 * a + 0 ≡ 2 = M.degree_is in omega (arith, d)))
    two (a ∷ b ∷ []) M = inl (let d : 1 * a + (2 * b + 0) ≡ 2 = M.degree_is in
        let t = M.trimmed.1.0 refl in
        let z : a ≡ 0 = omega (arith, d, t) in let w : b ≡ 1 = omega (arith, d, t) in
        ap₂ (λ a b. a ∷ b ∷ []) z w)
    two (a ∷ b ∷ c ∷ []) M = absurd (let d : 1 * a + (2 * b + (3 * c + 0)) ≡ 2 = M.degree_is in
        let t = M.trimmed.1.1.0 refl in omega (arith, d, t))
    two (a ∷ b ∷ c ∷ x ∷ m) M = absurd M.within
least-or-greater (suc (suc (suc zero))) l m M = three m M
  where
    three : (m : List ℕ) → IsMonomial 1 (degrees gs) 3 m
        → (m ≡ 0 ∷ 0 ∷ 1 ∷ []) ⊎ IsGreater m (0 ∷ 0 ∷ 1 ∷ [])
    three [] M = absurd (let d : 0 ≡ 3 = M.degree_is in omega (arith, d))
    three (a ∷ []) M = inr (greater-before a 0 [] (0 ∷ 1 ∷ [])
        (let d : 1 * a + 0 ≡ 3 = M.degree_is in omega (arith, d)))
    three (a ∷ b ∷ []) M = inr (greater-before a 0 (b ∷ []) (0 ∷ 1 ∷ [])
        (let d : 1 * a + (2 * b + 0) ≡ 3 = M.degree_is in omega (arith, d)))
    three (a ∷ b ∷ c ∷ []) M = inl (let d : 1 * a + (2 * b + (3 * c + 0)) ≡ 3 = M.degree_is in
        let t = M.trimmed.1.1.0 refl in
        let z : a ≡ 0 = omega (arith, d, t) in let w : b ≡ 0 = omega (arith, d, t) in
        let v : c ≡ 1 = omega (arith, d, t) in
        ap₂ (λ a m. a ∷ m) z (ap₂ (λ b c. b ∷ c ∷ []) w v))
    three (a ∷ b ∷ c ∷ x ∷ m) M = absurd M.within
least-or-greater (suc (suc (suc (suc e)))) l m M = absurd (omega (arith, l))

abbrev plus : Vector 1 → Vector 1 → Vector 1
plus a b = (algebra 1 line).add a b

abbrev pub single : Vector 1 → Vector 1
single a = plus (times (algebra 1 line) 1 a) (algebra 1 line).zero

pub alone-value : (m : List ℕ) → value (algebra 1 line) gs (alone m) ≡ single (unit 1 0)
alone-value m = ap single (one-value m)

not-same : (a b : List ℕ) → (a ≡ b → ⊥) → same a b ≡ false
not-same a b ne = go (cases-same a b)
  where
    go : ((same a b ≡ true) × (a ≡ b)) ⊎ ((same a b ≡ false) × (a ≡ b → ⊥)) → same a b ≡ false
    go (inl e) = absurd (ne e.1)
    go (inr e) = e.0

-- the sum with a smaller monomial has value 0, so the greater one leads
pub leads-above : (e : ℕ) (m n : List ℕ) → IsMonomial 1 (degrees gs) e m → IsMonomial 1 (degrees gs) e n
    → IsGreater m n → IsLeading 1 (algebra 1 line) (IsRelation 1 (algebra 1 line) gs e) m
leads-above e m n M N g = record {
  member = both;
  is_member = record {
    over = (M, (N, tt));
    vanishes = ap₂ (λ a b. plus (times (algebra 1 line) 1 a) (single b)) (one-value m) (one-value n) ∙ twice;
  };
  here = rw at-m (λ z. let w : ◌≡◌ {A = ℕ} 1 0 = z in absurd (omega (arith, w)));
  above = λ k h. congruent_eq (at-above k h);
}
  where
    both : List Term
    both = record { scalar = 1; monomial = m } ∷ record { scalar = 1; monomial = n } ∷ []

    twice : plus (times (algebra 1 line) 1 (unit 1 0)) (single (unit 1 0)) ≡ (algebra 1 line).zero
    twice = fun_ext (λ i. at i)
      where
        at : (i : ℕ) → plus (times (algebra 1 line) 1 (unit 1 0)) (single (unit 1 0)) i
            ≡ (algebra 1 line).zero i
        at zero = below-path _ _ refl
        at (suc i) = rw (eqb-false (suc i) 0 (omega arith)) (below-path _ _ refl)

    at-m : coefficient both m ≡ 1
    at-m = rw (same-self m, not-same n m (λ e. greater-self m (rw e at g))) refl

    at-above : (k : List ℕ) → IsGreater k m → coefficient both k ≡ 0
    at-above k h = rw (
      not-same m k (λ e. greater-self k (subst (λ m. IsGreater k m) e h)),
      not-same n k (λ e. greater-both k m h (subst (λ n. IsGreater m n) e g)),
    ) refl

module _ (n : ℕ) (rs : List Polynomial) (R : IsRelations 1 (algebra 1 line) gs n rs) where
  -- the generator of a degree is standard
  pub least-standard : (e : ℕ) → e ≤ n → e < 4 → IsStandard 1 (algebra 1 line) gs e (least e)
  least-standard e l b L = no-value (reduced-exists 1 (Vector 1) (algebra 1 line) (IsOfDegree 1 line)
      line.laws gs e K field (alone (least e)) (is-least e b, tt))
    where
      K : Known 1 (Vector 1) (algebra 1 line) (IsOfDegree 1 line) line.laws gs e
      K = known 1 (Vector 1) (algebra 1 line) (IsOfDegree 1 line) line.laws gs field positive
          (free 1 n field line gs positive rs R) n rs R e l

      nothing : (g : List Term) → IsReduced 1 (algebra 1 line) gs e g → g ≡ []
      nothing [] r = refl
      nothing (t ∷ g) r = absurd (pick (least-or-greater e b t.monomial r.over.0))
        where
          pick : (t.monomial ≡ least e) ⊎ IsGreater t.monomial (least e) → ⊥
          pick (inl z) = r.standard.0 (rw z L)
          pick (inr h) = r.standard.0 (leads-above e t.monomial (least e) r.over.0 (is-least e b) h)

      no-value : (g : List Term) × IsReduced 1 (algebra 1 line) gs e g
          × (value (algebra 1 line) gs g ≡ value (algebra 1 line) gs (alone (least e))) → ⊥
      no-value (g, r, z) =
          let p : (algebra 1 line).zero ≡ single (unit 1 0) =
          ap (value (algebra 1 line) gs) (sym (nothing g r)) ∙ z ∙ alone-value (least e) in
          let w : 0 ≡ 1 = ap (λ (v : Vector 1). (v 0).0) p in omega (arith, w)

  -- and no other monomial of the degree is
  pub standard-least : (e f : ℕ) → e ≡ f → f < 4 → (s : List ℕ) → IsStandardOf 1 (algebra 1 line) gs e s
      → s ≡ least f
  standard-least e f z b s X = go (subst (λ e. IsStandardOf 1 (algebra 1 line) gs e s) z X)
    where
      go : IsStandardOf 1 (algebra 1 line) gs f s → s ≡ least f
      go X = pick (least-or-greater f b s X.monomial)
        where
          pick : (s ≡ least f) ⊎ IsGreater s (least f) → s ≡ least f
          pick (inl w) = w
          pick (inr h) = absurd (X.standard (leads-above f s (least f) X.monomial (is-least f b) h))

-- the row of x^e
abbrev one : List ℕ → List ℕ
one m = 1 ∷ []

one-vector : vector 1 (1 ∷ []) ≡ unit 1 0
one-vector = fun_ext (λ i. at i)
  where
    at : (i : ℕ) → vector 1 (1 ∷ []) i ≡ unit 1 0 i
    at zero = refl
    at (suc i) = rw (eqb-false (suc i) 0 (omega arith)) refl

pub one-row : IsRow 2 1 (1 ∷ [])
one-row = record { length_is = refl; below = below }
  where
    below : (j : ℕ) → j < 1 → entry (1 ∷ []) j < 2
    below zero l = omega arith
    below (suc j) l = absurd (omega (arith, l))

module _ (n : ℕ) (rs : List Polynomial) (R : IsRelations 1 (algebra 1 line) gs n rs) where
  abbrev ms : List (List ℕ)
  ms = all_monomials 1 (degrees gs) (suc n)

  monomials-are : IsMonomials 1 (degrees gs) (suc n) ms
  monomials-are = all-monomials 1 (degrees gs) positive (suc n)

  abbrev values : List (List ℕ)
  values = map one ms

  values-are : AreValues 1 (algebra 1 line) gs ms values
  values-are = record {
    count = length-map ms one;
    each = λ i l. ap (vector 1) (get_or-map one ms i [] [] l)
        ∙ one-vector ∙ sym (one-value (slice_index_or ms i []));
  }

  values-matrix : IsMatrix 2 1 values
  values-matrix i l = rw (get_or-map one ms i [] [] (rw length-map at l)) one-row

  kernel : (K : List (List ℕ)) × IsKernelOf 2 values K
  kernel = kernel_exists values field values-matrix

  multiples : (rows : List (List ℕ)) × AreMultiples 1 (degrees gs) rs (suc n) ms rows
      × IsMatrix 2 (length ms) rows
  multiples = (
    _,
    multiples-exist 1 (degrees gs) positive (suc n) ms rs,
    multiples-matrix 1 (degrees gs) positive (suc n) ms rs,
  )

  leading : (E : List (List ℕ)) × IsEchelonOf 2 (length ms) multiples.0 E
  leading = echelon field multiples.0 multiples.2

  next : (rs : List Polynomial) × IsRelations 1 (algebra 1 line) gs (suc n) rs
  next = (
    rs ++ new_relations (suc n) ms leading.0 kernel.0,
    (
      rs,
      new_relations (suc n) ms leading.0 kernel.0,
      ms,
      R,
      monomials-are,
      relations-from 1 (suc n) line.mul gs rs ms values kernel.0 leading.0 field.above_one monomials-are
          values-are kernel.1
          (consequence-pivots 1 (suc n) (Vector 1) (algebra 1 line) gs rs ms multiples.0 leading.0
          (λ r o. (defining 1 (Vector 1) (algebra 1 line) gs n rs R r o).vanishes.over) monomials-are
          multiples.1 leading.1 field.above_one),
      refl,
    ),
  )

-- the relations exist through each degree
pub relations-exist : (n : ℕ) → (rs : List Polynomial) × IsRelations 1 (algebra 1 line) gs n rs
relations-exist zero = ([], refl)
relations-exist (suc n) = let r = relations-exist n in next n r.0 r.1
