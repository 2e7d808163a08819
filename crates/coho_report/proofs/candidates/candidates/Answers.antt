use Rattle.std.proofs.Common.{◌≡◌, suc, ◌+◌, ◌++◌, arith, refl, sym, subst}
use Rattle.p_groups.specs.PGroups.{largest_residue}
use Rattle.ring_present.specs.Values.{generators_of}
use Rattle.coho_report.specs.Candidates.{AreCandidates, AreCandidatesIn}
use Rattle.coho_report.specs.Related.{AreRelated}
use Rattle.coho_report.specs.Restrictors.{IsClassOf}
use Rattle.coho_report.proofs.Related.{related-append}
use Rattle.coho_report.proofs.candidates.candidates.Goals as goal

pub loop-below-preserved : goal.loop-below-preserved
loop-below-preserved c =
    let G = c.args.res.now.group in
    let gs = generators_of (largest_residue G) c.args.ring.now.generators in
    let IsClass = IsClassOf G c.args.ring.now.degree gs in
    let d = c.loop-below.below in
    let next : suc d ≡ d + 1 = omega arith in
    let before = c.loop-below.invariant in
    let new = c.in_ok-candidates_in.ensures in
    let fs = before.0 ++ new.0 in (
      fs,
      subst (λ n. AreCandidates G gs n fs) next
          (before.0, new.0, before.1, subst (λ n. AreCandidatesIn G gs n new.0) (sym next) new.1, refl),
      subst (AreRelated IsClass fs) (sym c.in_ok-append.ensures.items)
          (related-append IsClass before.0 new.0 c.loop-below.candidates.items
          c.in_ok-candidates_in.field-0.items before.2 new.2),
    )
