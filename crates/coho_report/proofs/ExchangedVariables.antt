-- A line names one variable alone.
use Rattle.std.proofs.Common.{◌≡◌, ◌≢◌, ◌∙◌, ℕ, List, [], ◌∷◌, ◌++◌, length, map, Some, sym, ap}
use Rattle.std.proofs.Common.{subst}
use Rattle.std.specs.Prelude.{slice_get}
use Rattle.group_modules.specs.Tables.{monoid}
use Rattle.p_groups.specs.PGroups.{PGroup, largest_residue, group}
use Rattle.elementary_subgroups.specs.Bases.{NumberedSubgroup}
use Rattle.elementary_subgroups.proofs.NumberedLists.{subgroups_are_one}
use Rattle.bar_complex.proofs.Cohomologous.{near-sym, near-trans}
use Rattle.graded_polynomials.specs.Monomials.{IsMonomial, degree, exponent}
use Rattle.graded_polynomials.specs.Polynomials.{Polynomial}
use Rattle.graded_polynomials.specs.Texts.{power}
use Rattle.graded_algebra.specs.Algebras.{Generator, degrees}
use Rattle.graded_algebra.specs.Vectors.{Vector}
use Rattle.graded_algebra.proofs.SpansUnique.{span-generators-unique}
use Rattle.group_cocycles.specs.Cocycles.{GroupCochain, AreCohomologous}
use Rattle.group_cocycles.specs.Rings.{Generators, cochain_of, cocycles_of, IsCohomologyRing}
use Rattle.group_cocycles.proofs.Rings.{degrees-same}
use Rattle.chain_lift.specs.Embeddings.{elementary, embedding}
use Rattle.ring_present.specs.Rings.{cohomology, dual_basis, IsPresentation}
use Rattle.coho_report.specs.Cohomology.{AreRestrictions, IsCohomologyReport, IsNamedRing, IsRestriction}
use Rattle.coho_report.specs.Cohomology.{SubgroupRing, own_cocycles, own_group}
use Rattle.coho_report.specs.Values.{ReportValue, SubgroupValue}
use Rattle.coho_report.proofs.ImageDegrees.{same_some}
use Rattle.coho_report.proofs.OneReport.{same_generators}
use Rattle.coho_report.proofs.Related.{each-get, get-map, related-from}
use Rattle.coho_report.proofs.Variables.{IsAt, at-place, other-exponent, power-degree, variable}
use Rattle.coho_report.proofs.Variables.{variable-class}

-- two generators of a cohomology ring are not cohomologous
two-variables : (E : PGroup) (n : ℕ) (hs : Generators E) (rs : List Polynomial) (d k l : ℕ)
    → IsCohomologyRing E n hs rs → IsMonomial (largest_residue E) (degrees hs) d (power k 1)
    → IsMonomial (largest_residue E) (degrees hs) d (power l 1) → k ≢ l
    → AreCohomologous E d (cochain_of E hs (variable k)) (cochain_of E hs (variable l)) → ⊥
two-variables E n hs rs d k l R m o other close =
    let at : IsAt hs k = at-place hs k m.within in
    let g = at.generator in
    let here : degree (degrees hs) (power k 1)
    ≡ degree (degrees (at.before ++ g ∷ at.after)) (power (length at.before) 1)
    = ap (λ gs. degree (degrees gs) (power k 1)) at.whole
    ∙ ap (λ j. degree (degrees (at.before ++ g ∷ at.after)) (power j 1)) (sym at.place) in
    let same : g.degree ≡ d = sym (power-degree at.before g at.after) ∙ sym here ∙ m.degree_is in
    let class : cochain_of E hs (variable k) ≡ g.class
    = ap (λ gs. cochain_of E gs (variable k)) at.whole
    ∙ ap (λ j. cochain_of E (at.before ++ g ∷ at.after) (variable j)) (sym at.place)
    ∙ variable-class E at.before g at.after in
    R.generators_needed at.before g at.after at.whole (variable l)
    (subst (λ e. IsMonomial (largest_residue E) (degrees hs) e (power l 1)) (sym same) o, tt)
    (subst (λ j. exponent (power l 1) j ≡ 0) (sym at.place) (other-exponent k l other), tt)
    (subst (λ e. AreCohomologous E e g.class (cochain_of E hs (variable l))) (sym same)
    (subst (λ u. AreCohomologous E d u (cochain_of E hs (variable l))) class close))

module _ (G : PGroup) where
  -- a subgroup with generators of its ring alone
  abbrev bare : NumberedSubgroup → List (Generator (Vector (largest_residue G))) → SubgroupRing G
  bare s gs = record { subgroup = s; generators = gs; relations = [] }

  unnamed : (s : SubgroupRing G) (h : Generator (GroupCochain G)) (f : Polynomial) → IsRestriction G s h f
      → IsRestriction G (bare s.subgroup s.generators) h f
  unnamed s h f r = record {
    degree_is = r.degree_is;
    polynomial = r.polynomial;
    cohomologous = r.cohomologous;
  }

  abbrev line_of : ℕ → ℕ → Polynomial
  line_of d k = record { degree = d; terms = variable k }

  two-lines : (n : ℕ) (t : SubgroupRing G) → IsNamedRing (own_group G t) n t.generators t.relations
      → (h : Generator (GroupCochain G)) (d e k l : ℕ) → k ≢ l
      → IsRestriction G (bare t.subgroup t.generators) h (line_of d k)
      → IsRestriction G (bare t.subgroup t.generators) h (line_of e l) → ⊥
  two-lines n t own h d e k l other x y =
      let E = own_group G t in
      let q = largest_residue G in
      let hs = own_cocycles G t in
      two-variables E n hs t.relations h.degree k l own.ring
      (subst (λ ds. IsMonomial q ds h.degree (power k 1)) (degrees-same E t.generators) x.polynomial.over.0)
      (subst (λ ds. IsMonomial q ds h.degree (power l 1)) (degrees-same E t.generators) y.polynomial.over.0)
      other
      (near-trans q (monoid (group E)) h.degree (cochain_of E hs (variable k))
      (λ xs. h.class (map (embedding G t.subgroup.basis) xs)) (cochain_of E hs (variable l)) x.cohomologous
      (near-sym q (monoid (group E)) h.degree (cochain_of E hs (variable l))
      (λ xs. h.class (map (embedding G t.subgroup.basis) xs)) y.cohomologous))

  pub one-variable : (n : ℕ) (r o : ReportValue) (i j k l d e : ℕ) (v w : SubgroupValue)
      → slice_get r.subgroups i ≡ Some v → slice_get v.images j ≡ Some (line_of d k)
      → slice_get o.subgroups i ≡ Some w → slice_get w.images j ≡ Some (line_of e l)
      → k ≢ l → IsCohomologyReport G n r → IsCohomologyReport G n o → ⊥
  one-variable n r o i j k l d e v w at line at' line' other R O =
      let q = largest_residue G in
      let hs = cocycles_of G R.generators in
      let hs' = cocycles_of G O.generators in
      let here = related-from (AreRestrictions G hs) R.subgroups r.subgroups R.restrictions i v at in
      let there = related-from (AreRestrictions G hs') O.subgroups o.subgroups O.restrictions i w at' in
      let s : SubgroupRing G = here.0 in
      let t : SubgroupRing G = there.0 in
      let gens = same_generators G n R.generators O.generators r.relations o.relations R.ring.presentation
      O.ring.presentation in
      let list = subgroups_are_one G.table (map (λ (s : SubgroupRing G). s.subgroup) R.subgroups)
      (map (λ (s : SubgroupRing G). s.subgroup) O.subgroups) R.subgroups_are O.subgroups_are in
      let sub : s.subgroup ≡ t.subgroup = same_some s.subgroup t.subgroup
      (sym (get-map (λ (s : SubgroupRing G). s.subgroup) R.subgroups i s here.1)
      ∙ ap (λ (xs : List NumberedSubgroup). slice_get xs i) list
      ∙ get-map (λ (s : SubgroupRing G). s.subgroup) O.subgroups i t there.1) in
      let own = each-get (λ (s : SubgroupRing G). IsNamedRing (own_group G s) n s.generators s.relations)
      R.subgroups R.own_rings i s here.1 in
      let own' = each-get (λ (s : SubgroupRing G). IsNamedRing (own_group G s) n s.generators s.relations)
      O.subgroups O.own_rings i t there.1 in
      let E = own_group G t in
      let P : IsPresentation E n s.generators s.relations =
      subst (λ (u : NumberedSubgroup). IsPresentation (elementary G (length u.basis)) n s.generators
      s.relations) sub own.presentation in
      let same : s.generators ≡ t.generators = span-generators-unique q (cohomology E) (dual_basis E) n
      s.generators t.generators P.generators_are own'.presentation.generators_are in
      let image = related-from (IsRestriction G s) hs v.images here.2.restrictions j (line_of d k) line in
      let image' = related-from (IsRestriction G t) hs' w.images there.2.restrictions j (line_of e l) line' in
      let h : Generator (GroupCochain G) = image.0 in
      let h' : Generator (GroupCochain G) = image'.0 in
      let cocycles : h ≡ h' = same_some h h'
      (sym image.1 ∙ ap (λ gs. slice_get (cocycles_of G gs) j) gens ∙ image'.1) in
      let moved : IsRestriction G (bare t.subgroup t.generators) h' (line_of d k) =
      subst (λ (g : Generator (GroupCochain G)). IsRestriction G (bare t.subgroup t.generators) g
      (line_of d k)) cocycles (subst (λ (u : SubgroupRing G). IsRestriction G u h (line_of d k))
      (λ i. bare (sub i) (same i)) (unnamed s h (line_of d k) image.2)) in
      two-lines n t own' h' d e k l other moved (unnamed t h' (line_of e l) image'.2)
