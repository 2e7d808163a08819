-- Parameters of a cohomology ring: polynomials whose restrictions to each elementary abelian subgroup leave a
-- finite ring (Quillen, The spectrum of an equivariant cohomology ring, 1971).
use Rattle.std.specs.Prelude.{◌≡◌, ℕ, Option, Some, None, List, [], length, map, slice_index_or}
use Rattle.p_groups.specs.PGroups.{PGroup, largest_residue, prime_of}
use Rattle.graded_polynomials.specs.Polynomials.{Polynomial}
use Rattle.graded_algebra.specs.Algebras.{Generator, value}
use Rattle.graded_algebra.specs.Vectors.{Vector}
use Rattle.gc_poly.specs.Generators.{Generators}
use Rattle.param_test.specs.Bounds.{greatest}
use Rattle.param_test.specs.Parameters.{IsFoundIn}
use Rattle.param_test.specs.Tables.{CandidateValue}
use Rattle.chain_lift.specs.Embeddings.{elementary}
use Rattle.ring_present.specs.Rings.{cohomology, IsPresentation}
use Rattle.coho_report.specs.Candidates.{AreCandidates}
use Rattle.coho_report.specs.Related.{AreRelated}
use Rattle.coho_report.specs.Subgroups.{IsImage}
use Rattle.coho_report.specs.Values.{SubgroupValue}

-- what stands for a polynomial that is not there
abbrev no_polynomial : Polynomial
no_polynomial = record { degree = 0; terms = [] }

-- the polynomials at these places
abbrev pub at_places : List Polynomial → Option (List ℕ) → Option (List Polynomial)
at_places fs None = None
at_places fs (Some places) = Some (map (λ k. slice_index_or fs k no_polynomial) places)

-- the greatest rank of the subgroups
abbrev pub greatest_rank : List SubgroupValue → ℕ
greatest_rank vs = greatest (map (λ v. length v.basis) vs)

-- the generators of the subgroups' own rings
abbrev pub own_generators : ℕ → List SubgroupValue → List Generators
own_generators p vs = map (λ v. record { prime = p; degrees = v.generators }) vs

module _ (G : PGroup) where
  -- the class of a polynomial in the generators gs
  abbrev pub class_of : List (Generator (Vector (largest_residue G))) → Polynomial
      → Generator (Vector (largest_residue G))
  class_of gs f = record { degree = f.degree; class = value (cohomology G) gs f.terms }

  -- f is the restriction of the class g to the subgroup that v tells of, in the standard monomials of its own
  -- ring through degree n
  pub record IsRestriction (n : ℕ) (g : Generator (Vector (largest_residue G))) (v : SubgroupValue)
      (f : Polynomial) : Type 0 where
    pub own : List (Generator (Vector (largest_residue G)))
    pub relations : List Polynomial
    pub presentation : IsPresentation (elementary G (length v.basis)) n own relations
    pub image : IsImage G v.basis own g f

  -- c has the degree of f, and its restriction to each subgroup
  pub record IsRestricted (n : ℕ) (gs : List (Generator (Vector (largest_residue G))))
      (vs : List SubgroupValue) (f : Polynomial) (c : CandidateValue) : Type 0 where
    pub degree_is : c.degree ≡ f.degree
    pub images_are : AreRelated (IsRestriction n (class_of gs f)) vs c.images

  -- the parameters: as many candidates as the greatest rank is, of the first 5,000 such tuples the first
  -- whose restrictions leave a finite ring on each subgroup; none where there is no such tuple
  pub record AreParameters (n : ℕ) (gs : List (Generator (Vector (largest_residue G))))
      (vs : List SubgroupValue) (parameters : Option (List Polynomial)) : Type 0 where
    pub candidates : List Polynomial
    pub restricted : List CandidateValue
    pub places : Option (List ℕ)
    pub candidates_are : AreCandidates G gs n candidates
    pub restricted_are : AreRelated (IsRestricted n gs vs) candidates restricted
    pub found : IsFoundIn (record {
      prime = prime_of G;
      subgroups = own_generators (prime_of G) vs;
      candidates = restricted;
    }) (greatest_rank vs) places
    pub parameters_are : parameters ≡ at_places candidates places
