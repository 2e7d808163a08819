-- What a report says of the cohomology rings of the bar complexes of its group and of the elementary abelian
-- subgroups (Brown, "Cohomology of Groups", V.3 and III.8).
use Rattle.std.specs.Prelude.{◌≡◌, ◌↔◌, ℕ, suc, ◌≤◌, true, Some, List, length, map, IfSome}
use Rattle.std.specs.List.{AllByRecursion as Each, range_with_len}
use Rattle.p_groups.specs.PGroups.{PGroup, largest_residue, order_of, prime_of}
use Rattle.elementary_subgroups.specs.Bases.{NumberedSubgroup, IsSubgroupList}
use Rattle.graded_polynomials.specs.Polynomials.{Polynomial, IsPolynomial}
use Rattle.graded_algebra.specs.Algebras.{Generator, degrees}
use Rattle.graded_algebra.specs.Vectors.{Vector}
use Rattle.group_cocycles.specs.Cocycles.{GroupCochain, AreCohomologous}
use Rattle.group_cocycles.specs.Dimensions.{IsDimension}
use Rattle.group_cocycles.specs.Rings.{Generators, IsIn, cochain_of, cocycles_of, IsCohomologyRing}
use Rattle.param_test.specs.Bounds.{greatest}
use Rattle.param_test.specs.Finiteness.{IsFinite}
use Rattle.chain_lift.specs.Embeddings.{elementary, embedding}
use Rattle.ring_present.specs.Rings.{IsPresentation}
use Rattle.coho_report.specs.Related.{AreRelated}
use Rattle.coho_report.specs.Values.{ReportValue, SubgroupValue}
use Rattle.coho_report.specs.Verdicts.{bound_of, is_complete}

-- the generators gs of degrees 1 to n, each with its class of the dual basis, and the relations rs are those
-- of the cohomology ring, where each generator stands for the cocycle of its class
pub record IsNamedRing (G : PGroup) (n : ℕ) (gs : List (Generator (Vector (largest_residue G))))
    (rs : List Polynomial) : Type 0 where
  pub presentation : IsPresentation G n gs rs
  pub ring : IsCohomologyRing G n (cocycles_of G gs) rs

module _ (G : PGroup) where
  -- a subgroup, with generators of its own cohomology ring by their classes, and relations
  pub record SubgroupRing : Type 0 where
    pub subgroup : NumberedSubgroup
    pub generators : List (Generator (Vector (largest_residue G)))
    pub relations : List Polynomial

  -- the subgroup in its own numbering
  abbrev pub own_group : SubgroupRing → PGroup
  own_group s = elementary G (length s.subgroup.basis)

  -- its generators, each with the cocycle of its class
  abbrev pub own_cocycles : (s : SubgroupRing) → Generators (own_group s)
  own_cocycles s = cocycles_of (own_group s) s.generators

  -- f is a polynomial in the generators of the subgroup, of the degree of h, and differs by a coboundary from
  -- the cocycle of h at tuples of the subgroup
  pub record IsRestriction (s : SubgroupRing) (h : Generator (GroupCochain G)) (f : Polynomial) : Type 0 where
    pub degree_is : f.degree ≡ h.degree
    pub polynomial : IsPolynomial (largest_residue G) (degrees s.generators) h.degree f.terms
    pub cohomologous : AreCohomologous (own_group s) h.degree
        (cochain_of (own_group s) (own_cocycles s) f.terms)
        (λ xs. h.class (map (embedding G s.subgroup.basis) xs))

  -- v tells the basis of the subgroup, the degrees of its generators, and the restrictions of the generators
  -- hs
  pub record AreRestrictions (hs : Generators G) (s : SubgroupRing) (v : SubgroupValue) : Type 0 where
    pub basis_is : v.basis ≡ s.subgroup.basis
    pub degrees_are : v.generators ≡ degrees s.generators
    pub restrictions : AreRelated (IsRestriction s) hs v.images

  -- a polynomial in the generators hs, with the sum of cup products of their cocycles
  abbrev pub with_cocycle : Generators G → Polynomial → Generator (GroupCochain G)
  with_cocycle hs f = record { degree = f.degree; class = cochain_of G hs f.terms }

  -- the restrictions of the polynomials fs to the subgroup leave a finite ring
  pub record AreFiniteOn (hs : Generators G) (fs : List Polynomial) (s : SubgroupRing) : Type 0 where
    pub images : List Polynomial
    pub restrictions : AreRelated (IsRestriction s) (map (with_cocycle hs) fs) images
    pub finite : IsFinite (record { prime = prime_of G; degrees = degrees s.generators }) images

  -- polynomials of degrees 1 to n in the generators hs, as many as the greatest rank of the subgroups, and on
  -- each of these they leave a finite ring
  pub record AreParametersOf (n : ℕ) (hs : Generators G) (ss : List SubgroupRing)
      (fs : List Polynomial) : Type 0 where
    pub within : Each (λ f. (1 ≤ f.degree) × (f.degree ≤ n)) fs
    pub polynomials : Each (λ f. IsIn G hs f.degree f.terms) fs
    pub count : length fs ≡ greatest (map (λ s. length s.subgroup.basis) ss)
    pub finite : Each (AreFiniteOn hs fs) ss

  -- the numbers are those of the group, and the ranks the dimensions of its cohomology of degrees 0 to n;
  -- through degree n the generators and relations are those of the cohomology ring, the tables are the
  -- restrictions to the maximal elementary abelian subgroups, one of each conjugacy class, and parameters
  -- restrict to polynomials that leave a finite ring on each; the verdict is complete exactly where there are
  -- parameters and n is at least their bound
  pub record IsCohomologyReport (n : ℕ) (r : ReportValue) : Type 0 where
    pub prime_is : r.prime ≡ prime_of G
    pub order_is : r.order ≡ order_of G
    pub degree_is : r.degree ≡ n
    pub ranks : AreRelated (IsDimension G) (range_with_len 0 (suc n)) r.ranks
    pub generators : List (Generator (Vector (largest_residue G)))
    pub degrees_are : r.generators ≡ degrees generators
    pub ring : IsNamedRing G n generators r.relations
    pub subgroups : List SubgroupRing
    pub subgroups_are : IsSubgroupList G.table (map (λ s. s.subgroup) subgroups)
    pub own_rings : Each (λ s. IsNamedRing (own_group s) n s.generators s.relations) subgroups
    pub restrictions : AreRelated (AreRestrictions (cocycles_of G generators)) subgroups r.subgroups
    pub parameters : IfSome r.parameters (AreParametersOf n (cocycles_of G generators) subgroups)
    pub verdict : (is_complete r.degree r.parameters ≡ true)
        ↔ ((fs : List Polynomial) × (r.parameters ≡ Some fs) × (bound_of fs ≤ n))
