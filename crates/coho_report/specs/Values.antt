-- What contracts see of a report.
use Rattle.std.specs.Prelude.{ℕ, List, Option}
use Rattle.graded_polynomials.specs.Polynomials.{Polynomial}

-- what the answer tells of an elementary abelian subgroup
pub record SubgroupValue : Type 0 where
  -- the numbers of the members of its basis
  pub basis : List ℕ
  -- the degrees of the generators of its own ring
  pub generators : List ℕ
  -- the restrictions of the generators of the large ring, in these generators
  pub images : List Polynomial

-- what the answer tells of a ring
pub record ReportValue : Type 0 where
  pub prime : ℕ
  pub order : ℕ
  pub degree : ℕ
  -- the ranks of degrees 0, 1, ..
  pub ranks : List ℕ
  -- the degrees of the generators
  pub generators : List ℕ
  pub relations : List Polynomial
  pub subgroups : List SubgroupValue
  -- parameters, where the search ends with some
  pub parameters : Option (List Polynomial)
