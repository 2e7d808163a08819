-- Sums of standard monomials with the value of a monomial, by monomials that have no factor before a
-- generator.
use Rattle.std.proofs.Common.{◌≡◌, ℕ, suc, ◌<◌, ◌≤◌, List, [], ◌∷◌, ◌⊎◌, inl, inr, arith, ap, sym, ◌∙◌}
use Rattle.std.proofs.lemmas.Bool.{cases_lt}
use Rattle.std.specs.List.{AllByRecursion as Each}
use Rattle.linear_algebra.specs.Modular.{IsCongruent, IsFieldModulo}
use Rattle.graded_polynomials.specs.Monomials.{IsMonomial, IsGreater, exponent}
use Rattle.graded_polynomials.specs.Polynomials.{Term, Polynomial}
use Rattle.graded_algebra.specs.Algebras.{Algebra, Generator, degrees, evaluate, value, times}
use Rattle.graded_algebra.specs.Algebras.{IsGradedCommutative}
use Rattle.graded_algebra.specs.Presentations.{IsRelations}
use Rattle.ring_completion.specs.Completions.{alone, IsStandardOf, IsReduced, IsClearBefore}
use Rattle.ring_completion.proofs.LinearForms.{linear-alone}
use Rattle.ring_completion.proofs.Lower.{reduced-below, known}

module _ (q : ℕ) {V : Type 0} (A : Algebra V) (gs : List (Generator V)) where
  -- a sum of standard monomials with the value of a monomial
  pub record Standing (e : ℕ) (k : List ℕ) (g : List Term) : Type 0 where
    pub reduced : IsReduced q A gs e g
    pub value_is : value A gs g ≡ evaluate A gs k

  -- with the value of k, by monomials that have no factor before i, as k has none
  pub record StandingClear (e i : ℕ) (k : List ℕ) (g : List Term) : Type 0 where
    pub standing : Standing e k g
    pub clear : Each (λ t. IsClearBefore i t.monomial) g

  pub clear-terms : (i : ℕ) (k : List ℕ) → IsClearBefore i k → (g : List Term)
      → Each (λ t. (t.monomial ≡ k) ⊎ IsGreater k t.monomial) g → Each (λ t. IsClearBefore i t.monomial) g
  clear-terms i k c [] h = tt
  clear-terms i k c (t ∷ g) h = (go h.0, clear-terms i k c g h.1)
    where
      go : (t.monomial ≡ k) ⊎ IsGreater k t.monomial → IsClearBefore i t.monomial
      go (inl e) x l = ap (λ m. exponent m x) e ∙ c x l
      go (inr y) x l = pick (cases_lt x y.at)
        where
          pick : (x < y.at) ⊎ (y.at ≤ x) → exponent t.monomial x ≡ 0
          pick (inl b) = sym (y.before x b) ∙ c x l
          pick (inr b) =
              absurd (let z = c y.at (omega (arith, l, b)) in let w = y.more in omega (arith, z, w))

  -- a standard monomial without a factor before i
  abbrev pub ClearStandard : ℕ → ℕ → List ℕ → Type 0
  ClearStandard e i a = IsStandardOf q A gs e a × IsClearBefore i a

  pub together : (e i : ℕ) (g : List Term) → IsReduced q A gs e g → Each (λ t. IsClearBefore i t.monomial) g
      → Each (λ t. ClearStandard e i t.monomial) g
  together e i [] h c = tt
  together e i (t ∷ g) h c = (
    (record { monomial = h.over.0; standard = h.standard.0 }, c.0),
    together e i g record { over = h.over.1; standard = h.standard.1 } c.1,
  )

module _ (q : ℕ) (V : Type 0) (A : Algebra V) (In : ℕ → V → Type 0) (L : IsGradedCommutative q V A In)
    (gs : List (Generator V))
    (field : IsFieldModulo (suc q)) (positive : Each (λ d. 0 < d) (degrees gs))
    (free : (c : ℕ) → times A c A.one ≡ A.zero → IsCongruent (suc q) c 0)
    (n : ℕ) (rs : List Polynomial) (R : IsRelations q A gs n rs) where
  -- each monomial of lower degree has such a sum
  pub standing : (e i : ℕ) → e ≤ n → (k : List ℕ) → IsMonomial q (degrees gs) e k → IsClearBefore i k
      → (g : List Term) × StandingClear q A gs e i k g
  standing e i l k K c = (
    r.0,
    record {
      standing = record { reduced = r.1; value_is = r.2 ∙ linear-alone q V A L.space (evaluate A gs) k };
      clear = clear-terms q A gs i k c r.0 r.3;
    },
  )
    where
      r : (g : List Term) × IsReduced q A gs e g × (value A gs g ≡ value A gs (alone k))
          × Each (λ t. (t.monomial ≡ k) ⊎ IsGreater k t.monomial) g
      r = reduced-below q V A In L gs e (known q V A In L gs field positive free n rs R e l) field k K
