use Rattle.std.proofs.Common.{◌≡◌, ◌∙◌, ◌+◌, refl, subst, sym, arith}
use Rattle.std.specs.Prelude.{IfSome}
use Rattle.p_groups.specs.PGroups.{largest_residue}
use Rattle.ring_present.specs.Rings.{IsPresentation}
use Rattle.ring_present.specs.Values.{generators_of}
use Rattle.coho_report.proofs.OwnRings.{some_group}
use Rattle.coho_report.proofs.rings.ring_through.Goals as goal

pub returns : goal.returns
returns c =
    let G = c.args.res.now.group in
    let R = c.loop-d.ring in
    let same : c.loop-d._d ≡ c.args.n = omega arith in
    let degree = c.loop-d.invariant.degree ∙ same in
    record {
      prime_is = c.loop-d.invariant.prime;
      group_is = some_group G R.group R refl c.loop-d.invariant.group c.degree-degree.ensures.known
          (let e = c.loop-d.invariant.degree in omega (arith, e, c.requires.from));
      degree_is = degree;
      presentation = subst (λ n. IsPresentation G n (generators_of (largest_residue G) R.generators)
          R.relations) same c.loop-d.invariant.presentation;
    }

pub loop-d-preserved : goal.loop-d-preserved
loop-d-preserved c =
    let G = c.args.res.now.group in
    let k = c.loop-d._d in
    let old = c.loop-d.ring in
    let new = c.add_degree.new.self in
    let before = c.loop-d.invariant in
    let added = c.in_ok-add_degree.ensures in
    let e = before.degree in
    let f = added.degree in
    let degree : new.degree ≡ k + 1 = omega (arith, e, f) in
    record {
      prime = added.prime;
      group = subst (λ o. IfSome o (λ H. H ≡ G)) (sym added.group) refl;
      degree = degree;
      presentation = subst (λ n. IsPresentation G n
          (generators_of (largest_residue G) new.generators) new.relations) degree added.presentation;
    }
