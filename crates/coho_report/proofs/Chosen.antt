-- The polynomials at the places that the search finds are the candidates there.
use Rattle.std.proofs.Common.{◌≡◌, ◌∙◌, ℕ, suc, ◌<◌, List, [], ◌∷◌, length, map, refl, subst, arith}
use Rattle.std.specs.Prelude.{All, slice_index_or}
use Rattle.p_groups.specs.PGroups.{PGroup, largest_residue}
use Rattle.graded_polynomials.specs.AllMonomials.{all_monomials}
use Rattle.graded_polynomials.specs.Polynomials.{Polynomial}
use Rattle.graded_polynomials.proofs.AllMonomials.{all-monomials}
use Rattle.graded_algebra.specs.Algebras.{degrees}
use Rattle.graded_algebra.specs.Presentations.{IsNormalForm}
use Rattle.graded_algebra.specs.Vectors.{Vector}
use Rattle.graded_algebra.proofs.NormalForms.{normal-form-unique}
use Rattle.graded_algebra.proofs.VectorLemmas.{vector-space}
use Rattle.chain_lift.specs.Products.{multiply}
use Rattle.presentation_rows.specs.Values.{vector}
use Rattle.ring_present.specs.Rings.{cohomology, dual_basis}
use Rattle.ring_present.specs.Values.{RingValue, generators_of}
use Rattle.coho_report.specs.Choices.{IsFormAt}
use Rattle.coho_report.specs.OwnRings.{IsRingThrough}
use Rattle.coho_report.specs.Related.{AreRelated}
use Rattle.coho_report.specs.Restrictors.{IsClassOf}
use Rattle.coho_report.specs.declared.candidates.Candidate.{Candidate}
use Rattle.coho_report.proofs.OwnRings.{positive_degrees}
use Rattle.coho_report.proofs.Related.{related-place}

abbrev none : Polynomial
none = record { degree = 0; terms = [] }

module _ (G : PGroup) (R : RingValue) (ring : IsRingThrough G R.degree R) (fs : List Polynomial)
    (cs : List Candidate) (classes : AreRelated (IsClassOf G R.degree (generators_of (largest_residue G)
    R.generators)) fs cs) where
  one_form : (k : ℕ) (f : Polynomial) → IsFormAt R cs k f → k < length cs → f ≡ slice_index_or fs k none
  one_form k f at l =
      let q = largest_residue G in
      let gs = generators_of q R.generators in
      let c : Candidate = record { degree = 0; class = record { p = 0; entries = [] } } in
      let x = slice_index_or cs k c in
      let here = related-place (IsClassOf G R.degree gs) fs cs classes k none c l in
      let v = vector q x.class.entries in
      let positive = positive_degrees q (cohomology G) (dual_basis G) R.degree gs
      ring.presentation.generators_are in
      let terms = normal-form-unique q (Vector q) (cohomology G) (vector-space q (multiply G)) gs x.degree
      (all_monomials q (degrees gs) x.degree) (all-monomials q (degrees gs) positive x.degree) v f.terms
      (slice_index_or fs k none).terms
      (subst (λ d. IsNormalForm q (cohomology G) gs d v f.terms) (at.degree_is c)
      (at.form G ring.group_is c)) here.form in
      let degree = at.degree_is c ∙ here.degree_is in
      λ i. record { degree = degree i; terms = terms i }

  pub forms_are : (ks : List ℕ) (hs : List Polynomial) → AreRelated (IsFormAt R cs) ks hs
      → All (λ k. k < length cs) ks → hs ≡ map (λ k. slice_index_or fs k none) ks
  forms_are [] [] r b = refl
  forms_are [] (h ∷ hs) r b = absurd r
  forms_are (k ∷ ks) [] r b = absurd r
  forms_are (k ∷ ks) (h ∷ hs) r b =
      let head = one_form k h r.0 (b 0 k (omega arith)) in
      let tail = forms_are ks hs r.1 (λ i d l. b (suc i) d (omega (arith, l))) in
      λ i. head i ∷ tail i
