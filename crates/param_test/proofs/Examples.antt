-- Worked values of the definitions, and witnesses of the premises of the laws.
use Rattle.std.proofs.Common.{◌≡◌, ℕ, List, [], ◌∷◌, length, None, false, arith, refl}
use Rattle.graded_polynomials.specs.Monomials.{IsMonomial}
use Rattle.param_test.specs.Variables.{is_in_variables, restricted, kept_terms}
use Rattle.param_test.specs.declared.answer.Finite.TheVariants.{Yes}
use Rattle.param_test.specs.Finiteness.{last_degree, IsAnswer}
use Rattle.param_test.specs.Counting.{number}
use Rattle.param_test.specs.Bounds.{bound_of}
use Rattle.param_test.specs.Combinations.{IsCombination, places, coefficients, AreCandidates}
use Rattle.param_test.specs.Tuples.{Ascends}
use Rattle.param_test.specs.Parameters.{IsFoundIn}

-- the bound of no degrees, of 4, of 1, 2 and of 2, 2
bound-none : bound_of [] ≡ 1
bound-none = refl

bound-four : bound_of (4 ∷ []) ≡ 6
bound-four = refl

bound-one-two : bound_of (1 ∷ 2 ∷ []) ≡ 2
bound-one-two = refl

bound-two-two : bound_of (2 ∷ 2 ∷ []) ≡ 4
bound-two-two = refl

-- for p = 3 and the degrees 1, 1, 2, 2: x_1 x_2 y_1 is dropped, and y_1 y_2^3 has the exponents 1, 3
dropped : is_in_variables 2 (1 ∷ 1 ∷ 2 ∷ 2 ∷ []) (1 ∷ 1 ∷ 1 ∷ []) ≡ false
dropped = refl

kept-exponents : restricted 2 (1 ∷ 1 ∷ 2 ∷ 2 ∷ []) (0 ∷ 0 ∷ 1 ∷ 3 ∷ []) ≡ 1 ∷ 3 ∷ []
kept-exponents = refl

kept-sum : kept_terms 2 (1 ∷ 1 ∷ 2 ∷ 2 ∷ [])
    (record { scalar = 2; monomial = 1 ∷ 1 ∷ 1 ∷ [] } ∷ record { scalar = 1; monomial = 0 ∷ 0 ∷ 1 ∷ 1 ∷ [] }
    ∷ [])
    ≡ record { scalar = 1; monomial = 1 ∷ 1 ∷ [] } ∷ []
kept-sum = refl

-- five variables have 1820 monomials of degree 12
five : number 5 12 ≡ 1820
five = refl

-- five variables and a polynomial of degree 9
last-five : last_degree (record { prime = 2; degrees = 1 ∷ 1 ∷ 1 ∷ 1 ∷ 1 ∷ [] })
    (record { degree = 9; terms = record { scalar = 1; monomial = 9 ∷ [] } ∷ [] } ∷ []) ≡ 41
last-five = refl

-- a combination of four monomials
combination-places : places (0 ∷ 1 ∷ 0 ∷ 2 ∷ []) ≡ 1 ∷ 3 ∷ []
combination-places = refl

combination-coefficients : coefficients (0 ∷ 1 ∷ 0 ∷ 2 ∷ []) ≡ 1 ∷ 2 ∷ []
combination-coefficients = refl

-- the candidates over no monomial
no-candidates : AreCandidates 3 0 []
no-candidates = record {
  members = tt;
  ascending = tt;
  at_most = omega arith;
  others = λ c m. absurd (empty c m);
}
  where
    empty : (c : List ℕ) → IsCombination 3 0 c → ⊥
    empty [] m = let e = m.first_is_one in omega (arith, e)
    empty (x ∷ c) m = omega (arith, m.length_is)

-- no pair of candidates is found in a table without candidates
empty-table : IsFoundIn (record { prime = 2; subgroups = []; candidates = [] }) 2 None
empty-table = record {
  tried = [];
  first = record {
    members = tt;
    ascending = tt;
    at_most = omega arith;
    others = λ t m. absurd (none t m.length_is m.ascends);
  };
  fail = tt;
}
  where
    none : (t : List ℕ) → length t ≡ 2 → Ascends 0 0 t → ⊥
    none [] e a = omega (arith, e)
    none (x ∷ t) e a = omega (arith, a.1)

-- without variables all monomials of degree 1, of which there are none, are in the ideal
empty-answer : IsAnswer (record { prime = 2; degrees = [] }) [] (Yes 1)
empty-answer = record {
  low = omega arith;
  high = omega arith;
  before = λ e l b. absurd (omega (arith, l, b));
  number = 0;
  counted = record {
    monomials = [];
    all = record {
      each = λ i l. absurd (omega (arith, l));
      all = λ m M. absurd (none m M);
      descending = λ i j l b. absurd (omega (arith, b));
    };
    count = refl;
  };
  few = omega arith;
  all = λ m M. absurd (none m M);
}
  where
    none : (m : List ℕ) → IsMonomial 1 [] 1 m → ⊥
    none m M = let e = M.degree_is in omega (arith, e)
