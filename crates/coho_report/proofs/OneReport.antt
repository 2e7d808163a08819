-- A report is one.
use Rattle.std.proofs.Common.{◌≡◌, ◌∙◌, ℕ, List, length, sym, ap, subst}
use Rattle.p_groups.specs.PGroups.{PGroup, largest_residue}
use Rattle.elementary_subgroups.specs.Bases.{NumberedSubgroup}
use Rattle.elementary_subgroups.proofs.NumberedLists.{subgroups_are_one}
use Rattle.graded_polynomials.specs.Polynomials.{Polynomial}
use Rattle.graded_algebra.specs.Algebras.{Generator, degrees}
use Rattle.graded_algebra.specs.Presentations.{IsRelations}
use Rattle.graded_algebra.specs.Vectors.{Vector}
use Rattle.graded_algebra.proofs.SpansUnique.{span-generators-unique}
use Rattle.graded_algebra.proofs.Unique.{relations-unique}
use Rattle.graded_algebra.proofs.VectorLemmas.{vector-space}
use Rattle.chain_lift.specs.Embeddings.{elementary}
use Rattle.chain_lift.specs.Products.{multiply}
use Rattle.ring_present.specs.Rings.{cohomology, dual_basis, IsPresentation}
use Rattle.coho_report.specs.Parameters.{AreParameters}
use Rattle.coho_report.specs.Related.{AreRelated}
use Rattle.coho_report.specs.Reports.{IsReport}
use Rattle.coho_report.specs.Subgroups.{IsImage, IsToldOf}
use Rattle.coho_report.specs.Values.{ReportValue, SubgroupValue}
use Rattle.coho_report.proofs.OneImages.{one_image}
use Rattle.coho_report.proofs.OneParameters.{one_parameters}
use Rattle.coho_report.proofs.OwnRings.{positive_degrees}
use Rattle.coho_report.proofs.Related.{related-one}

module _ (G : PGroup) where
  abbrev Class : Type 0
  Class = Vector (largest_residue G)

  pub same_generators : (n : ℕ) (gs hs : List (Generator Class)) (rs ss : List Polynomial)
      → IsPresentation G n gs rs → IsPresentation G n hs ss → gs ≡ hs
  same_generators n gs hs rs ss g k = span-generators-unique (largest_residue G) (cohomology G)
      (dual_basis G) n gs hs g.generators_are k.generators_are

  same_relations : (n : ℕ) (gs hs : List (Generator Class)) (rs ss : List Polynomial)
      → IsPresentation G n gs rs → IsPresentation G n hs ss → rs ≡ ss
  same_relations n gs hs rs ss g k =
      let same = same_generators n gs hs rs ss g k in
      relations-unique (largest_residue G) Class (cohomology G)
      (vector-space (largest_residue G) (multiply G)) hs n rs ss
      (subst (λ gs. IsRelations (largest_residue G)
      (cohomology G) gs n rs) same g.relations_are) k.relations_are

  -- what is told of a subgroup is one
  one_told : (n : ℕ) (gs : List (Generator Class)) (s : NumberedSubgroup) (v w : SubgroupValue)
      → IsToldOf G n gs s v → IsToldOf G n gs s w → v ≡ w
  one_told n gs s v w a b =
      let q = largest_residue G in
      let E = elementary G (length s.basis) in
      let same = span-generators-unique q (cohomology E) (dual_basis E) n a.own b.own
      a.presentation.generators_are b.presentation.generators_are in
      let basis = a.basis_is ∙ sym b.basis_is in
      let generators = a.generators_are ∙ ap degrees same ∙ sym b.generators_are in
      let positive = positive_degrees q (cohomology E) (dual_basis E) n b.own
      b.presentation.generators_are in
      let images = related-one (IsImage G s.basis b.own) (one_image G s.basis b.own positive) gs v.images
      w.images (subst (λ own. AreRelated (IsImage G s.basis own) gs v.images) same a.images_are)
      b.images_are in
      λ i. record { basis = basis i; generators = generators i; images = images i }

  pub one_report : (n : ℕ) (r s : ReportValue) → IsReport G n r → IsReport G n s → r ≡ s
  one_report n r s a b =
      let gens = same_generators n a.generators b.generators r.relations s.relations a.presentation
      b.presentation in
      let generators = a.degrees_are ∙ ap degrees gens ∙ sym b.degrees_are in
      let relations = same_relations n a.generators b.generators r.relations s.relations a.presentation
      b.presentation in
      let prime = a.prime ∙ sym b.prime in
      let orders = a.order_is ∙ sym b.order_is in
      let degree = a.degree ∙ sym b.degree in
      let ranks = a.ranks ∙ sym b.ranks in
      let list = subgroups_are_one G.table a.subgroups b.subgroups a.subgroups_are b.subgroups_are in
      let subgroups = related-one (IsToldOf G n b.generators) (one_told n b.generators) b.subgroups
      r.subgroups s.subgroups
      (subst (λ gs. AreRelated (IsToldOf G n gs) b.subgroups r.subgroups) gens
      (subst (λ ss. AreRelated (IsToldOf G n a.generators) ss r.subgroups) list a.told)) b.told in
      let parameters = one_parameters G n b.generators s.subgroups r.parameters s.parameters
      (subst (λ vs. AreParameters G n b.generators vs r.parameters) subgroups
      (subst (λ gs. AreParameters G n gs r.subgroups r.parameters) gens a.parameters)) b.parameters in
      λ i. record {
        prime = prime i;
        order = orders i;
        degree = degree i;
        ranks = ranks i;
        generators = generators i;
        relations = relations i;
        subgroups = subgroups i;
        parameters = parameters i;
      }
