-- What contracts see of a ring.
use Rattle.std.specs.Prelude.{ℕ, zero, suc, List, [], Option, slice_index_or, refl}
use Rattle.std.specs.Coded.{Coded, code_by, coded×, coded_ℕ, coded_list, coded_option}
use Rattle.graded_polynomials.specs.Polynomials.{Polynomial, Term}
use Rattle.p_groups.specs.PGroups.{PGroup}
use Rattle.group_algebra.specs.Coded.{coded_p_group}
pub use Rattle.cohomology_degree.specs.Values.{GeneratorValue, generators_of}

-- a ring through a degree
pub record RingValue : Type 0 where
  pub prime : ℕ
  -- the group, from the first degree on
  pub group : Option PGroup
  pub degree : ℕ
  pub generators : List GeneratorValue
  pub relations : List Polynomial
  -- the standard monomials of degrees 1, 2, ..
  pub standard : List (List (List ℕ))
  -- the candidates of the last degree
  pub candidates : List (List ℕ)

-- how these are stored
abbrev coded_generator : Coded GeneratorValue
coded_generator =
    code_by (ℕ × List ℕ) (coded× coded_ℕ (coded_list coded_ℕ)) (λ g. (g.degree, g.class))
    (λ t. record { degree = t.0; class = t.1 }) (λ _. refl)

abbrev coded_term : Coded Term
coded_term =
    code_by (ℕ × List ℕ) (coded× coded_ℕ (coded_list coded_ℕ)) (λ x. (x.scalar, x.monomial))
    (λ t. record { scalar = t.0; monomial = t.1 })
    (λ _. refl)

abbrev coded_polynomial : Coded Polynomial
coded_polynomial =
    code_by (ℕ × List Term) (coded× coded_ℕ (coded_list coded_term)) (λ f. (f.degree, f.terms))
    (λ t. record { degree = t.0; terms = t.1 })
    (λ _. refl)

abbrev pub coded_ring : Coded RingValue
coded_ring =
    code_by (((ℕ × Option PGroup) × (ℕ × List GeneratorValue))
    × (List Polynomial × (List (List (List ℕ)) × List (List ℕ))))
    (coded× (coded× (coded× coded_ℕ (coded_option coded_p_group))
    (coded× coded_ℕ (coded_list coded_generator)))
    (coded× (coded_list coded_polynomial)
    (coded× (coded_list (coded_list (coded_list coded_ℕ))) (coded_list (coded_list coded_ℕ)))))
    (λ r. (((r.prime, r.group), (r.degree, r.generators)), (r.relations, (r.standard, r.candidates))))
    (λ t. record {
      prime = t.0.0.0;
      group = t.0.0.1;
      degree = t.0.1.0;
      generators = t.0.1.1;
      relations = t.1.0;
      standard = t.1.1.0;
      candidates = t.1.1.1;
    }) (λ _. refl)

-- the standard monomials of degree d
abbrev pub standard_of : RingValue → ℕ → List (List ℕ)
standard_of R zero = []
standard_of R (suc e) = slice_index_or R.standard e []
