-- The exterior algebra of one generator of degree 1 over F_3 meets the laws, and is presented by that
-- generator and no relation.
use Rattle.std.proofs.Common.{◌≡◌, ℕ, zero, suc, ◌+◌, ◌*◌, ◌%◌, ◌≤◌, Bool, true, false, cond, leb, List, []}
use Rattle.std.proofs.Common.{◌∷◌, inl, inr, arith, ap, ap₂, sym, ◌∙◌, refl}
use Rattle.std.specs.Prelude.{◌<◌, slice_index_or}
use Rattle.linear_algebra.specs.Modular.{IsCongruent, IsFieldModulo}
use Rattle.graded_polynomials.specs.Monomials.{is_exterior, sign, IsMonomial, IsMonomials}
use Rattle.graded_polynomials.specs.Polynomials.{Term, coefficient, IsOver}
use Rattle.graded_algebra.specs.Algebras.{Generator, degrees, evaluate, value, times}
use Rattle.graded_algebra.specs.Presentations.{IsGenerators, IsRelations, IsRelation, IsValue, IsStandard}
use Rattle.graded_algebra.specs.Presentations.{IsLeading}
use Rattle.graded_algebra.specs.Claims.{PresentationClaims}
use Rattle.graded_algebra.specs.Vectors.{Vector, GradedAlgebra, IsOfDegree, algebra, basis, unit, residue}
use Rattle.graded_algebra.specs.Vectors.{Below}
use Rattle.linear_algebra.proofs.Fields.{field_of_prime}
use Rattle.graded_algebra.proofs.VectorLemmas.{times-at, plus-residue}
use Rattle.graded_algebra.proofs.Presented.{presented-vectors}
use Rattle.graded_polynomials.proofs.AllMonomials.{leb-of, leb-is, leb-not, all-monomials}
use Rattle.graded_polynomials.proofs.Terms.{false≢true}
use Rattle.graded_algebra.proofs.Lines.{line}

-- the degrees where it is not 0
abbrev pub exterior : ℕ → Bool
exterior n = leb n 1

pub lower : (d e : ℕ) → exterior (d + e) ≡ true → (exterior d ≡ true) × (exterior e ≡ true)
lower d e h = let k = leb-is (d + e) 1 h in (leb-of d 1 (omega (arith, k)), leb-of e 1 (omega (arith, k)))

pub no-sign : (d e : ℕ) → exterior (d + e) ≡ true → sign 2 (d * e) ≡ 1
no-sign d e h = ap (sign 2) (product-zero d e (leb-is (d + e) 1 h))
  where
    product-zero : (d e : ℕ) → d + e ≤ 1 → d * e ≡ 0
    product-zero zero e l = omega arith
    product-zero (suc d) zero l = omega arith
    product-zero (suc d) (suc e) l = absurd (omega arith)

pub no-square : (d : ℕ) → is_exterior 2 d ≡ true → exterior (d + d) ≡ false
no-square zero h = absurd (false≢true h)
no-square (suc d) h = leb-not (suc d + suc d) 1 (omega arith)

abbrev pub exterior-line : GradedAlgebra 2
exterior-line = line 2 exterior refl lower no-sign no-square

abbrev V : Type 0
V = Vector 2

-- the generator, of degree 1
abbrev gens : List (Generator V)
gens = record { degree = 1; class = unit 2 0 } ∷ []

abbrev x : List ℕ
x = 1 ∷ []

field : IsFieldModulo 3
field = field_of_prime 3 (inr (inl refl))

no-value : (f : List Term) → IsOver 2 [] 1 f → value (algebra 2 exterior-line) [] f ≡ unit 2 0 → ⊥
no-value [] o e = (let k : 0 ≡ 1 = ap (λ (v : V). (v 0).0) e in absurd (omega (arith, k)))
no-value (t ∷ f) o e = absurd (let k : 0 ≡ 1 = o.0.degree_is in omega (arith, k))

generators : IsGenerators 2 (algebra 2 exterior-line) (basis 2 exterior-line) 1 gens
generators = ([], refl, inr ((λ v. no-value v.polynomial v.over v.value_is), refl))

monomials : IsMonomials 2 (degrees gens) 1 (x ∷ [])
monomials = all-monomials 2 (1 ∷ []) (omega arith, tt) 1

only : (m : List ℕ) → IsMonomial 2 (degrees gens) 1 m → m ≡ x
only m h = let o = monomials.all m h in go o.0 o.1 o.2
  where
    go : (i : ℕ) → i < 1 → slice_index_or (x ∷ []) i [] ≡ m → m ≡ x
    go zero l e = sym e
    go (suc i) l e = absurd (omega arith)

-- the value of a polynomial of degree 1 is its coefficient at x, times the class
value-at : (f : List Term) → IsOver 2 (degrees gens) 1 f
    → (value (algebra 2 exterior-line) gens f 0) ≡ residue 2 (coefficient f x)
value-at [] o = refl
value-at (t ∷ f) o =
    rw (only t.monomial o.0)
    (ap₂ (λ (a b : Below 3). residue 2 (a.0 + b.0))
    (times-at 2 exterior-line.mul t.scalar (evaluate (algebra 2 exterior-line) gens x) 0)
    (value-at f o.1)
    ∙ plus-residue 2 (t.scalar * 1) (coefficient f x) ∙ ap (residue 2) (omega arith))

standard : IsStandard 2 (algebra 2 exterior-line) gens 1 x
standard h = h.here (ap (λ (b : Below 3). b.0) (sym (value-at h.member h.is_member.over)
    ∙ ap (λ (v : V). v 0) h.is_member.vanishes))

relations : IsRelations 2 (algebra 2 exterior-line) gens 1 []
relations = ([], [], x ∷ [], refl, monomials, inl (standard, refl), refl)

pub exterior-claims : PresentationClaims 2 V (algebra 2 exterior-line) (IsOfDegree 2 exterior-line) 1 gens []
exterior-claims = presented-vectors 2 1 field exterior-line gens [] generators relations
