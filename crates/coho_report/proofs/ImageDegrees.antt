-- An image has the degree of its generator.
use Rattle.std.proofs.Common.{◌≡◌, ◌∙◌, ℕ, zero, suc, List, [], ◌∷◌, ◌++◌, Some, sym, ap, subst}
use Rattle.std.specs.Prelude.{slice_get}
use Rattle.std.specs.List.{AllByRecursion as Each}
use Rattle.p_groups.specs.PGroups.{PGroup, largest_residue}
use Rattle.graded_polynomials.specs.Monomials.{IsMonomial, degree}
use Rattle.graded_polynomials.specs.Polynomials.{Term, Polynomial}
use Rattle.graded_algebra.specs.Algebras.{Generator, degrees}
use Rattle.group_cocycles.specs.Cocycles.{GroupCochain}
use Rattle.group_cocycles.specs.Rings.{cocycles_of}
use Rattle.group_cocycles.proofs.Labels.{each-middle}
use Rattle.group_cocycles.proofs.Rings.{degrees-same}
use Rattle.coho_report.specs.Cohomology.{AreRestrictions, IsCohomologyReport, IsRestriction, SubgroupRing}
use Rattle.coho_report.specs.Values.{ReportValue, SubgroupValue}
use Rattle.coho_report.proofs.Related.{related-from}

degree-at : {V : Type 0} (hs : List (Generator V)) (j : ℕ) (h : Generator V) → slice_get hs j ≡ Some h
    → slice_get (degrees hs) j ≡ Some h.degree
degree-at [] j h e = absurd (cc)
degree-at (g ∷ hs) zero h e = let same : g ≡ h = cc in ap (λ (g : Generator _). Some g.degree) same
degree-at (g ∷ hs) (suc j) h e = degree-at hs j h e

pub same_some : {X : Type 0} (x y : X) → Some x ≡ Some y → x ≡ y
same_some x y e = cc

pub image-degree : (G : PGroup) (n : ℕ) (r : ReportValue) (i j : ℕ) (v : SubgroupValue) (d : ℕ)
    (f : Polynomial) (first : List Term) (t : Term) (last : List Term) → slice_get r.subgroups i ≡ Some v
    → slice_get r.generators j ≡ Some d → slice_get v.images j ≡ Some f → f.terms ≡ first ++ t ∷ last
    → IsCohomologyReport G n r → degree v.generators t.monomial ≡ d
image-degree G n r i j v d f first t last at named line is R =
    let q = largest_residue G in
    let hs = cocycles_of G R.generators in
    let here = related-from (AreRestrictions G hs) R.subgroups r.subgroups R.restrictions i v at in
    let s : SubgroupRing G = here.0 in
    let told = here.2 in
    let image = related-from (IsRestriction G s) hs v.images told.restrictions j f line in
    let h : Generator (GroupCochain G) = image.0 in
    let label : h.degree ≡ d = same_some h.degree d
    (sym (degree-at hs j h image.1) ∙ ap (λ ds. slice_get ds j)
    (sym (R.degrees_are ∙ degrees-same G R.generators)) ∙ named) in
    let of-term = each-middle (λ t. IsMonomial q (degrees s.generators) h.degree t.monomial) first t last
    (subst (Each (λ t. IsMonomial q (degrees s.generators) h.degree t.monomial)) is
    image.2.polynomial.over) in
    ap (λ ds. degree ds t.monomial) told.degrees_are ∙ of-term.degree_is ∙ label
