-- The standard monomials of the tables, and the monomials of the next degree with a standard quotient.
use Rattle.std.proofs.Common.{◌≡◌, ℕ, zero, suc, ◌+◌, ◌-◌, ◌<◌, ◌≤◌, ◌↔◌, List, [], ◌∷◌, length, drop, arith}
use Rattle.std.proofs.Common.{sym, subst, refl}
use Rattle.std.specs.Prelude.{slice_index_or}
use Rattle.graded_polynomials.specs.Monomials.{IsMonomial}
use Rattle.graded_polynomials.specs.Polynomials.{Polynomial}
use Rattle.graded_polynomials.specs.Texts.{power}
use Rattle.graded_polynomials.proofs.Monomials.{monomial-joined}
use Rattle.graded_algebra.specs.Algebras.{Generator, degrees}
use Rattle.graded_algebra.specs.Vectors.{Vector, GradedAlgebra, IsOfDegree, algebra}
use Rattle.ring_completion.specs.Borders.{HasStandardQuotient, AreReached}
use Rattle.ring_completion.specs.Candidates.{IsListed}
use Rattle.ring_completion.specs.Completions.{degree_of, IsStandardOf}
use Rattle.ring_completion.specs.Listings.{standard_of}
use Rattle.ring_completion.proofs.ListedCandidates.{generator-at, standard-listed}
use Rattle.ring_completion.proofs.Listings.{degree-power, within-length}
use Rattle.ring_completion.proofs.Quotients.{IsFactorOf, factor-of}
use Rattle.ring_completion.proofs.Results.{free}
use Rattle.ring_degree.specs.Products.{IsProductWith, IsProductIn, AreProductsIn}
use Rattle.ring_degree.specs.Steps.{IsRingBelow}
use Rattle.ring_degree.specs.Tables.{at_generator, lists, standard_at}
use Rattle.ring_degree.specs.declared.table.Table.{Table}

without-first : (L : List (List (List ℕ))) (e : ℕ) → slice_index_or L 0 [] ≡ [] ∷ []
    → standard_of (drop 1 L) e ≡ slice_index_or L e []
without-first L zero h = sym h
without-first [] (suc e) h = refl
without-first (x ∷ L) (suc e) h = refl

module _ (q n : ℕ) (G : GradedAlgebra q) (gs : List (Generator (Vector q))) (rs : List Polynomial)
    (tables : List Table) (B : IsRingBelow q G gs rs n tables) where
  -- the standard monomials of degree e are those of the tables
  pub listed : (e : ℕ) → e ≤ n → (s : List ℕ)
      → IsStandardOf q (algebra q G) gs e s ↔ IsListed (standard_at tables e) s
  listed e l s = subst (λ ss. IsStandardOf q (algebra q G) gs e s ↔ IsListed ss s)
      (without-first (lists tables) e B.tables_are.one)
      (standard-listed q (Vector q) (algebra q G) (IsOfDegree q G) G.laws gs B.field B.positive
      (free q n B.field G gs B.positive rs B.relations) n rs B.relations (drop 1 (lists tables))
      B.tables_are.standard e (omega (arith, l)) s)

  module _ (low : (i : ℕ) → i < length (degrees gs) → (1 ≤ at_generator (degrees gs) i)
      × (at_generator (degrees gs) i ≤ n)) where
    -- the degree that is left beside generator i
    pub rest : (i : ℕ) → i < length (degrees gs) → (suc n - at_generator (degrees gs) i ≤ n)
        × (degree_of (degrees gs) i + (suc n - at_generator (degrees gs) i) ≡ suc n)
    rest i l = let b = low i l in let e = degree-power (degrees gs) i l in
        (omega (arith, b.0, b.1), omega (arith, b.0, b.1, e))

    module _ (m : List ℕ) (P : IsProductIn q (degrees gs) tables (suc n) m) where
      i : ℕ
      i = P.0

      X : IsProductWith q (degrees gs) P.0
          (standard_at tables (suc n - at_generator (degrees gs) P.0)) m
      X = P.2

      s-is : IsStandardOf q (algebra q G) gs (suc n - at_generator (degrees gs) P.0) X.factor
      unfolding X
      s-is = (listed (suc n - at_generator (degrees gs) P.0) (rest P.0 P.1).0 X.factor).1 X.listed

      pub product-monomial : IsMonomial q (degrees gs) (suc n) m
      unfolding X
      product-monomial = subst (IsMonomial q (degrees gs) (suc n)) (sym X.product)
          (monomial-joined q (degrees gs) (degree_of (degrees gs) P.0)
          (suc n - at_generator (degrees gs) P.0) (suc n) (power P.0 1) X.factor
          (generator-at q (degrees gs) P.0 P.1) s-is.monomial (rest P.0 P.1).1 X.fitting)

      pub product-quotient : HasStandardQuotient q (algebra q G) gs m
      unfolding X
      product-quotient = record {
        generator = P.0;
        degree = suc n - at_generator (degrees gs) P.0;
        quotient = X.factor;
        is_quotient = record { monomial = s-is.monomial; product = sym X.product };
        standard = s-is.standard;
      }

    quotient-product : (m : List ℕ) → IsMonomial q (degrees gs) (suc n) m
        → HasStandardQuotient q (algebra q G) gs m → IsProductIn q (degrees gs) tables (suc n) m
    quotient-product m M h = (
      h.generator,
      l,
      record {
        factor = h.quotient;
        listed = subst (λ e. IsListed (standard_at tables e) h.quotient) e-is
            ((listed h.degree (omega (arith, e-is, (rest h.generator l).0)) h.quotient).0
            record { monomial = h.is_quotient.monomial; standard = h.standard });
        fitting = F.fitting;
        product = sym h.is_quotient.product;
      },
    )
      where
        F : IsFactorOf q (degrees gs) h.generator h.degree (suc n) h.quotient m
        F = factor-of q (degrees gs) h.generator h.degree (suc n) h.quotient m M h.is_quotient

        l : h.generator < length (degrees gs)
        l = within-length (degrees gs) h.generator F.generator.within

        e-is : h.degree ≡ suc n - at_generator (degrees gs) h.generator
        e-is = let a = F.sum in let b = degree-power (degrees gs) h.generator l in omega (arith, a, b)

    -- the products of the tables are the monomials with a standard quotient
    pub are-reached : (ms : List (List ℕ)) → AreProductsIn q (degrees gs) tables (suc n) ms
        → AreReached q (algebra q G) gs (suc n) ms
    are-reached ms P = record {
      some = record {
        each = λ k l. product-monomial (slice_index_or ms k []) ((P.members (slice_index_or ms k [])).0
            (k, l, refl));
        descending = λ i j l b. P.descending i j [] l b;
      };
      each = λ k l. product-quotient (slice_index_or ms k []) ((P.members (slice_index_or ms k [])).0
          (k, l, refl));
      all = λ m M h. (P.members m).1 (quotient-product m M h);
    }
