-- The tables of candidates and of their restrictions.
use Rattle.std.specs.Prelude.{◌≡◌, List, map}
use Rattle.gc_poly.specs.Generators.{Generators}
use Rattle.param_test.specs.Tables.{CandidateValue}
use Rattle.coho_report.specs.Related.{AreRelated}
use Rattle.coho_report.specs.Restrictors.{IsFormOf}
use Rattle.coho_report.specs.declared.candidates.Candidate.{Candidate}
use Rattle.coho_report.specs.declared.restrictors.Restrictor.{Restrictor}

-- the generators of the subgroups' own rings
abbrev pub generators_by : List Restrictor → List Generators
generators_by xs = map
    (λ x. record {
      prime = x.own.value.ring.prime;
      degrees = map (λ g. g.degree) x.own.value.ring.generators;
    }) xs

-- v has the degree of c, and its restriction to each subgroup
pub record IsTabled (xs : List Restrictor) (c : Candidate) (v : CandidateValue) : Type 0 where
  pub degree_is : v.degree ≡ c.degree
  pub images_are : AreRelated (IsFormOf c) xs v.images
