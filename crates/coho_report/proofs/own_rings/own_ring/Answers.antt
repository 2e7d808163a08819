use Rattle.std.proofs.Common.{length, sym, subst}
use Rattle.p_groups.specs.PGroups.{PGroup}
use Rattle.coho_report.specs.OwnRings.{IsOwnRing, IsRingThrough}
use Rattle.coho_report.proofs.own_rings.own_ring.Goals as goal

pub returns-clause-own : goal.returns-clause-own
returns-clause-own c =
    let G = c.args.res.now.group in
    let s = length c.args.e.now.basis in
    subst (IsOwnRing G c.args.n s) (sym c.in_ok-new.ensures.ok) (record {
      rank_is = c.rank-rank.ensures;
      group_is = c.in_ok-resolution.ensures.group;
      last_is = c.in_ok-resolution.ensures.last;
      ring_is = subst (λ (E : PGroup). IsRingThrough E c.args.n c.in_ok-ring.ring)
          c.in_ok-resolution.ensures.group c.in_ok-ring.ensures;
    })
