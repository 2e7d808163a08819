use Rattle.std.proofs.Common.{length, sym, subst, All}
use Rattle.std.proofs.lemmas.List.Elements.{All-push}
use Rattle.std.specs.declared.rc.Rc.{Rc}
use Rattle.std.proofs.Common.{Global}
use Rattle.coho_report.specs.OwnRings.{IsKnownRing}
use Rattle.coho_report.specs.declared.own_rings.OwnRing.{OwnRing}
use Rattle.coho_report.proofs.OwnRings.{known_ring}
use Rattle.coho_report.proofs.own_rings.shared_ring.Goals as goal

pub returns-clause-known : goal.returns-clause-known
returns-clause-known c =
    let Known = λ (o : Rc OwnRing Global). IsKnownRing c.args.res.now.group c.args.n c.args.limit o.value in
    subst (All Known) (sym c.in_ok-push.ensures.items)
    (All-push Known c.args.known.now.items c.in_ok-shared-2.field-0 c.requires.known
    (known_ring c.args.res.now.group c.args.n c.args.limit (length c.args.e.now.basis) c.in_ok-own.own.value
    c.in_ok-shared-2.field-0.value c.in_ok-own.ensures.own c.in_ok-own.ensures.small
    c.in_ok-shared-2.ensures))
