use Rattle.std.proofs.Common.{◌<◌, All, Global, length, arith, sym, subst}
use Rattle.std.specs.declared.rc.Rc.{Rc}
use Rattle.p_groups.specs.PGroups.{largest_residue}
use Rattle.elementary_subgroups.specs.Bases.{NumberedSubgroup}
use Rattle.chain_lift.specs.Embeddings.{elementary}
use Rattle.ring_present.specs.Values.{generators_of}
use Rattle.coho_report.specs.Limits.{HasSmallStages, IsSmall}
use Rattle.coho_report.specs.OwnRings.{IsKnownRing, IsRingThrough}
use Rattle.coho_report.specs.Refusals.{IsRefusal, IsStageRefusal}
use Rattle.coho_report.specs.Restrictors.{IsRestrictor, IsRestrictorOf}
use Rattle.coho_report.specs.Subgroups.{IsToldOf}
use Rattle.coho_report.specs.declared.own_rings.OwnRing.{OwnRing}
use Rattle.coho_report.proofs.Related.{related-next}
use Rattle.coho_report.proofs.SubgroupLists.{get-at, in-next, listed_at, refused_at}
use Rattle.coho_report.proofs.subgroups.told_of_each.Goals as goal

pub shared_ring-requires-clause-subgroup : goal.shared_ring-requires-clause-subgroup
shared_ring-requires-clause-subgroup c = listed_at c.args.res.now.group c.args.list.now c.loop-i.i
    c.get-e.result.now c.requires.list c.get-e.ensures

pub restrictor_of-requires-clause-subgroup : goal.restrictor_of-requires-clause-subgroup
restrictor_of-requires-clause-subgroup c = listed_at c.args.res.now.group c.args.list.now c.loop-i.i
    c.get-e.result.now c.requires.list c.get-e.ensures

pub told_of-requires-clause-restrictor : goal.told_of-requires-clause-restrictor
told_of-requires-clause-restrictor c =
    let x = c.in_ok-restrictor-in-Ok.restrictor in
    let s = c.get-e.result.now in
    let made = c.in_ok-restrictor-in-Ok.ensures.restrictor in
    subst (λ G. IsRestrictorOf G c.args.ring.now.degree s x) (sym made.group_is) (record {
      restrictor = subst (λ n. IsRestrictor c.args.res.now.group n x) c.degree-n.ensures.value made;
      basis_is = c.in_ok-restrictor-in-Ok.ensures.basis;
    })

pub told_of-requires-clause-ring : goal.told_of-requires-clause-ring
told_of-requires-clause-ring c =
    subst (λ G. IsRingThrough G c.args.ring.now.degree c.args.ring.now)
    (sym c.in_ok-restrictor-in-Ok.ensures.restrictor.group_is) c.requires.ring

pub returns-in-Err-clause-refused : goal.returns-in-Err-clause-refused
returns-in-Err-clause-refused c =
    let G = c.args.res.now.group in
    let n = c.args.ring.now.degree in
    subst (IsRefusal G n c.args.limit) (sym c.of_subgroup.ensures)
    (refused_at G c.args.list.now c.loop-i.i c.get-e.result.now c.requires.list c.get-e.ensures n c.args.limit
    c.in-Err.fault c.loop-i.invariant.small
    (subst (λ n. IsStageRefusal (elementary G (length c.get-e.result.now.basis)) n c.args.limit
    c.in-Err.fault)
    c.degree-n.ensures.value c.in-Err.ensures.refused))

pub loop-i-preserved : goal.loop-i-preserved
loop-i-preserved c =
    let G = c.args.res.now.group in
    let R = c.args.ring.now in
    let n = R.degree in
    let gs = generators_of (largest_residue G) R.generators in
    let ss = c.args.list.now in
    let s = c.get-e.result.now in
    let x = c.in_ok-restrictor-in-Ok.restrictor in
    let made = c.in_ok-restrictor-in-Ok.ensures.restrictor in
    let v = c.in_ok-told_of-in-Ok.field-0 in
    let below : c.loop-i.i < length ss = omega (arith, c.loop-i-test.true, c.len-i-end.ensures) in
    record {
      known = subst (λ n. All (λ (o : Rc OwnRing Global). IsKnownRing G n c.args.limit o.value)
          c.shared_ring.new.known.items) c.degree-n.ensures.value c.in-Ok.ensures.known;
      told = related-next (IsToldOf G n gs) ss c.loop-i.i c.loop-i.reports.items c.push.new.self.items
          v c.loop-i.invariant.told below
          (λ (d : NumberedSubgroup). subst (λ s. IsToldOf G n gs s v)
          (sym (get-at ss c.loop-i.i s d c.get-e.ensures))
          (subst (λ G. IsToldOf G n (generators_of (largest_residue G) R.generators) s v) made.group_is
          c.in_ok-told_of-in-Ok.ensures))
          c.in_ok-push-in-Ok.ensures.items;
      restrictors = related-next (IsRestrictorOf G n) ss c.loop-i.i c.loop-i.restrictors.items
          c.push-in-Ok.new.self.items x c.loop-i.invariant.restrictors below
          (λ (d : NumberedSubgroup). subst (λ s. IsRestrictorOf G n s x)
          (sym (get-at ss c.loop-i.i s d c.get-e.ensures)) (record {
            restrictor = subst (λ n. IsRestrictor G n x) c.degree-n.ensures.value made;
            basis_is = c.in_ok-restrictor-in-Ok.ensures.basis;
          })) c.in_ok-push-in-Ok-2.ensures.items;
      small = in-next (IsSmall G n c.args.limit) ss c.loop-i.i s c.get-e.ensures c.loop-i.invariant.small
          (subst (λ n. HasSmallStages (elementary G (length s.basis)) n c.args.limit) c.degree-n.ensures.value
          c.in-Ok.ensures.small);
    }
