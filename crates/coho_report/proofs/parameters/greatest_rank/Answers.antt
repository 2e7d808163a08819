use Rattle.std.proofs.Common.{◌∙◌, max, ap, sym}
use Rattle.coho_report.proofs.Ranks.{greatest-more, ord-max-is}
use Rattle.coho_report.specs.declared.own_rings.OwnRing.{OwnRing}
use Rattle.coho_report.specs.declared.restrictors.Restrictor.{Restrictor}
use Rattle.coho_report.proofs.parameters.greatest_rank.Goals as goal

pub loop-i-preserved : goal.loop-i-preserved
loop-i-preserved c =
    c.max-greatest.ensures ∙ ord-max-is c.loop-i.greatest c.deref.result.now.rank
    ∙ ap (λ (o : OwnRing). max c.loop-i.greatest o.rank) c.deref.ensures
    ∙ ap (λ (x : Restrictor). max c.loop-i.greatest x.own.value.rank) (sym c.index-restrictors-i.is)
    ∙ greatest-more (λ x. x.own.value.rank) c.args.restrictors.now c.loop-i.i c.loop-i.greatest
    c.index-restrictors-i.result c.loop-i-test.true c.index-restrictors-i.is c.loop-i.invariant
