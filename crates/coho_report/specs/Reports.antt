-- The report on the cohomology ring of a p-group through a degree.
use Rattle.std.specs.Prelude.{◌≡◌, ℕ, zero, suc, List, [], ◌∷◌, ◌++◌}
use Rattle.p_groups.specs.PGroups.{PGroup, largest_residue, order_of, prime_of}
use Rattle.elementary_subgroups.specs.Bases.{NumberedSubgroup, IsSubgroupList}
use Rattle.min_res.specs.Stages.{rank_of}
use Rattle.graded_algebra.specs.Algebras.{Generator, degrees}
use Rattle.graded_algebra.specs.Vectors.{Vector}
use Rattle.ring_present.specs.Rings.{IsPresentation}
use Rattle.coho_report.specs.Parameters.{AreParameters}
use Rattle.coho_report.specs.Related.{AreRelated}
use Rattle.coho_report.specs.Subgroups.{IsToldOf}
use Rattle.coho_report.specs.Values.{ReportValue}

module _ (G : PGroup) where
  -- the ranks of the degrees below c, from 0 on
  abbrev pub ranks_below : ℕ → List ℕ
  ranks_below zero = []
  ranks_below (suc c) = ranks_below c ++ rank_of G c ∷ []

  -- the report has the ranks of degrees 0 to n, the generators and relations of degrees 1 to n, what is
  -- told of
  -- each maximal elementary abelian subgroup, one of each conjugacy class, and the parameters
  pub record IsReport (n : ℕ) (r : ReportValue) : Type 0 where
    pub prime : r.prime ≡ prime_of G
    pub order_is : r.order ≡ order_of G
    pub degree : r.degree ≡ n
    pub ranks : r.ranks ≡ ranks_below (suc n)
    pub generators : List (Generator (Vector (largest_residue G)))
    pub degrees_are : r.generators ≡ degrees generators
    pub presentation : IsPresentation G n generators r.relations
    pub subgroups : List NumberedSubgroup
    pub subgroups_are : IsSubgroupList G.table subgroups
    pub told : AreRelated (IsToldOf G n generators) subgroups r.subgroups
    pub parameters : AreParameters G n generators r.subgroups r.parameters
