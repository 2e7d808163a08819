-- The parameters are one.
use Rattle.std.proofs.Common.{◌≡◌, ◌∙◌, inl, inr, ℕ, List, length, sym, ap₂, subst, arith}
use Rattle.std.specs.Prelude.{Option}
use Rattle.p_groups.specs.PGroups.{PGroup, largest_residue, prime_of}
use Rattle.graded_polynomials.specs.Polynomials.{Polynomial}
use Rattle.graded_algebra.specs.Algebras.{Generator}
use Rattle.graded_algebra.specs.Vectors.{Vector}
use Rattle.graded_algebra.proofs.SpansUnique.{span-generators-unique}
use Rattle.param_test.specs.Parameters.{Passes, IsFoundIn}
use Rattle.param_test.specs.Tables.{CandidateValue, TableValue, degrees_of}
use Rattle.param_test.specs.Tuples.{IsTuple, IsBefore}
use Rattle.param_test.proofs.Places.{less-self}
use Rattle.param_test.proofs.Positions.{before-trans}
use Rattle.chain_lift.specs.Embeddings.{elementary}
use Rattle.ring_present.specs.Rings.{cohomology, dual_basis}
use Rattle.coho_report.specs.Parameters.{at_places, greatest_rank, own_generators, class_of, IsRestriction}
use Rattle.coho_report.specs.Parameters.{IsRestricted, AreParameters}
use Rattle.coho_report.specs.Related.{AreRelated}
use Rattle.coho_report.specs.Subgroups.{IsImage}
use Rattle.coho_report.specs.Values.{SubgroupValue}
use Rattle.coho_report.proofs.FirstPassing.{found_is_one}
use Rattle.coho_report.proofs.OneCandidates.{one_candidates}
use Rattle.coho_report.proofs.OneImages.{one_image}
use Rattle.coho_report.proofs.OwnRings.{positive_degrees}
use Rattle.coho_report.proofs.Related.{related-one}

pub before-self : (ds a : List ℕ) → IsBefore ds a a → ⊥
before-self ds a (inl l) = omega (arith, l)
before-self ds a (inr h) = less-self a h.1

-- the places that are found are one
one_found : (t : TableValue) (r : ℕ) (a b : Option (List ℕ)) → IsFoundIn t r a → IsFoundIn t r b → a ≡ b
one_found t r a b f g =
    let ds = degrees_of t.candidates in
    found_is_one (IsTuple (length ds) r) (IsBefore ds) (before-self ds) (before-trans ds) 5000 (Passes t)
    a b f g

module _ (G : PGroup) (n : ℕ) where
  one_restriction : (g : Generator (Vector (largest_residue G))) (v : SubgroupValue) (e f : Polynomial)
      → IsRestriction G n g v e → IsRestriction G n g v f → e ≡ f
  one_restriction g v e f a b =
      let q = largest_residue G in
      let E = elementary G (length v.basis) in
      let same = span-generators-unique q (cohomology E) (dual_basis E) n a.own b.own
      a.presentation.generators_are b.presentation.generators_are in
      one_image G v.basis b.own (positive_degrees q (cohomology E) (dual_basis E) n b.own
      b.presentation.generators_are) g e f (subst (λ own. IsImage G v.basis own g e) same a.image) b.image

  one_restricted : (gs : List (Generator (Vector (largest_residue G)))) (vs : List SubgroupValue)
      (f : Polynomial) (c d : CandidateValue) → IsRestricted G n gs vs f c → IsRestricted G n gs vs f d
      → c ≡ d
  one_restricted gs vs f c d a b =
      let degree = a.degree_is ∙ sym b.degree_is in
      let images = related-one (IsRestriction G n (class_of G gs f)) (one_restriction (class_of G gs f)) vs
      c.images d.images a.images_are b.images_are in
      λ i. record { degree = degree i; images = images i }

  pub one_parameters : (gs : List (Generator (Vector (largest_residue G)))) (vs : List SubgroupValue)
      (x y : Option (List Polynomial)) → AreParameters G n gs vs x → AreParameters G n gs vs y → x ≡ y
  one_parameters gs vs x y a b =
      let candidates = one_candidates G gs n a.candidates b.candidates a.candidates_are b.candidates_are in
      let restricted = related-one (IsRestricted G n gs vs) (one_restricted gs vs) b.candidates a.restricted
      b.restricted (subst (λ fs. AreRelated (IsRestricted G n gs vs) fs a.restricted) candidates
      a.restricted_are) b.restricted_are in
      let table : List CandidateValue → TableValue = λ cs. record {
        prime = prime_of G;
        subgroups = own_generators (prime_of G) vs;
        candidates = cs;
      } in
      let places = one_found (table b.restricted) (greatest_rank vs) a.places b.places
      (subst (λ cs. IsFoundIn (table cs) (greatest_rank vs) a.places) restricted a.found) b.found in
      a.parameters_are ∙ ap₂ (λ fs places. at_places fs places) candidates places ∙ sym b.parameters_are
