use Rattle.std.proofs.Common.{◌≤◌, arith, ap, subst, sym}
use Rattle.std.specs.Prelude.{All}
use Rattle.std.proofs.lemmas.List.Elements.{All-push}
use Rattle.gc_poly.specs.Polynomials.{IsOverGenerators}
use Rattle.param_test.specs.Parameters.{restriction}
use Rattle.param_test.proofs.Judging.{restricted-more, over-kept}
use Rattle.param_test.proofs.table.ParamTable.kept_restrictions.Goals as goal

pub loop-k-preserved : goal.loop-k-preserved
loop-k-preserved c = record {
  kept = restricted-more c.args.gens.now (restriction c.args.self.now c.args.j) c.args.tuple.now
      c.loop-k.k-index c.restriction.result.now c.in_ok-keep.field-0
      c.loop-k.kept c.push.new.self (omega arith) c.restriction.ensures.value c.in_ok-keep.ensures
      c.loop-k.invariant.kept c.in_ok-push.ensures.ok;
  over = subst (All (IsOverGenerators c.args.ring.now)) (sym c.in_ok-push.ensures.ok)
      (All-push (IsOverGenerators c.args.ring.now) c.loop-k.kept c.in_ok-keep.field-0 c.loop-k.invariant.over
      (over-kept c.args.gens.now c.args.ring.now c.restriction.result.now c.in_ok-keep.field-0 c.requires.ring
      (c.restriction.ensures.over c.args.gens.now c.requires.gens) c.in_ok-keep.ensures));
  low = subst (All (λ f. f.degree ≤ 24)) (sym c.in_ok-push.ensures.ok)
      (All-push (λ f. f.degree ≤ 24) c.loop-k.kept c.in_ok-keep.field-0 c.loop-k.invariant.low
      (let e = ap (λ f. f.degree) c.in_ok-keep.ensures in omega (arith, e, c.restriction.ensures.low)));
}
