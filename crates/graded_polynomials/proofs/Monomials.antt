-- Products of monomials, and the monomial of degree 0.
use Rattle.std.proofs.Common.{◌≡◌, ℕ, zero, suc, ◌+◌, ◌<◌, List, [], ◌∷◌, true, false, ◌⊎◌, inl, inr, arith}
use Rattle.std.proofs.Common.{refl}
use Rattle.std.proofs.lemmas.Bool.{cases_Bool}
use Rattle.std.specs.List.{AllByRecursion as Each}
use Rattle.graded_polynomials.specs.Monomials.{joined, fits, degree, IsMonomial, IsWithin, IsTrimmed}
use Rattle.graded_polynomials.specs.Polynomials.{Term, multiple, IsOver, Multiple, total, IsMultiple}
use Rattle.graded_polynomials.specs.Polynomials.{Polynomial, IsOneOf}
use Rattle.graded_polynomials.proofs.Terms.{each-append}

-- the degree of a product
pub degree-joined : (ds a b : List ℕ) → degree ds (joined a b) ≡ degree ds a + degree ds b
degree-joined [] a b = refl
degree-joined (d ∷ ds) [] b = omega arith
degree-joined (d ∷ ds) (x ∷ a) [] = omega arith
degree-joined (d ∷ ds) (x ∷ a) (y ∷ b) = omega (arith, degree-joined ds a b)

pub within-joined : (ds a b : List ℕ) → IsWithin ds a → IsWithin ds b → IsWithin ds (joined a b)
within-joined ds [] b h k = k
within-joined [] (x ∷ a) b h k = absurd h
within-joined (d ∷ ds) (x ∷ a) [] h k = h
within-joined (d ∷ ds) (x ∷ a) (y ∷ b) h k = within-joined ds a b h k

joined-empty : (a b : List ℕ) → joined a b ≡ [] → a ≡ []
joined-empty [] b e = refl
joined-empty (x ∷ a) [] e = e
joined-empty (x ∷ a) (y ∷ b) e = absurd cc

pub trimmed-joined : (a b : List ℕ) → IsTrimmed a → IsTrimmed b → IsTrimmed (joined a b)
trimmed-joined [] b h k = k
trimmed-joined (x ∷ a) [] h k = h
trimmed-joined (x ∷ a) (y ∷ b) h k = (
  (λ e z. h.0 (joined-empty a b e) (omega arith)),
  trimmed-joined a b h.1 k.1,
)

pub monomial-joined : (q : ℕ) (ds : List ℕ) (d e f : ℕ) (a b : List ℕ) → IsMonomial q ds d a
    → IsMonomial q ds e b → d + e ≡ f → fits q ds (joined a b) ≡ true → IsMonomial q ds f (joined a b)
monomial-joined q ds d e f a b h k l o = record {
  within = within-joined ds a b h.within k.within;
  trimmed = trimmed-joined a b h.trimmed k.trimmed;
  fitting = o;
  degree_is = omega (arith, degree-joined ds a b, h.degree_is, k.degree_is);
}

pub over-multiple : (q : ℕ) (ds : List ℕ) (d e f c : ℕ) (m : List ℕ) (g : List Term) → IsMonomial q ds d m
    → IsOver q ds e g → d + e ≡ f → IsOver q ds f (multiple q ds c m g)
over-multiple q ds d e f c m [] h k l = tt
over-multiple q ds d e f c m (t ∷ g) h k l =
    go (cases_Bool (fits q ds (joined m t.monomial))) (over-multiple q ds d e f c m g h k.1 l)
  where
    go : (fits q ds (joined m t.monomial) ≡ true) ⊎ (fits q ds (joined m t.monomial) ≡ false)
        → IsOver q ds f (multiple q ds c m g) → IsOver q ds f (multiple q ds c m (t ∷ g))
    go (inl o) r = rw o (monomial-joined q ds d e f m t.monomial h k.0 l o, r)
    go (inr o) r = rw o r

pub over-total : (q : ℕ) (ds : List ℕ) (rs : List Polynomial) (d : ℕ)
    → ((r : Polynomial) → IsOneOf r rs → IsOver q ds r.degree r.terms)
    → (ts : List Multiple) → Each (IsMultiple q ds rs d) ts → IsOver q ds d (total q ds ts)
over-total q ds rs d o [] h = tt
over-total q ds rs d o (t ∷ ts) h =
    each-append (λ (s : Term). IsMonomial q ds d s.monomial) (multiple q ds t.scalar t.by t.of.terms)
    (total q ds ts)
    (over-multiple q ds h.0.rest t.of.degree d t.scalar t.by t.of.terms h.0.monomial
    (o t.of h.0.given) h.0.degree_is)
    (over-total q ds rs d o ts h.1)

-- only 1 has the degree 0
empty-of : (ds m : List ℕ) → Each (λ d. 0 < d) ds → IsWithin ds m → IsTrimmed m → degree ds m ≡ 0 → m ≡ []
empty-of ds [] p w t e = refl
empty-of [] (x ∷ m) p w t e = absurd w
empty-of (zero ∷ ds) (x ∷ m) p w t e = absurd (omega (arith, p.0))
empty-of (suc d ∷ ds) (zero ∷ m) p w t e = absurd (t.0 (empty-of ds m p.1 w t.1 (omega arith)) refl)
empty-of (suc d ∷ ds) (suc x ∷ m) p w t e = absurd (omega arith)

pub only-one : (q : ℕ) (ds m : List ℕ) → Each (λ d. 0 < d) ds → IsMonomial q ds 0 m → m ≡ []
only-one q ds m p h = empty-of ds m p h.within h.trimmed h.degree_is
