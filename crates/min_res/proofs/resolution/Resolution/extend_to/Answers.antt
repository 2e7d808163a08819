use Rattle.std.proofs.Common.{◌≡◌, suc, arith, ap, sym, ◌∙◌, refl}
use mathlib.Core.Path.{subst}
use Rattle.std.proofs.lemmas.Result.{err_from_is_err_and}
use Rattle.min_res.specs.Values.{ResolutionValue}
use Rattle.min_res.specs.Refusals.{IsRefusal}
use Rattle.min_res.proofs.Refusals.{within-none, within-more, refused-at}
use Rattle.min_res.proofs.resolution.Resolution.extend_to.Goals as goal

pub loop-self-init : goal.loop-self-init
loop-self-init c = record {
  group = refl;
  from = omega arith;
  to = omega arith;
  computed = refl;
  extended = λ l. absurd (omega (arith, l));
  within = within-none c.args.self.now.group c.args.self.now.last c.args.limit;
  kept = λ e. refl;
}

pub loop-self-preserved : goal.loop-self-preserved
loop-self-preserved c =
    let I = c.loop-self.invariant in
    let e : c.extend.new.self.last ≡ suc c.loop-self.self.last = c.in_ok-extend.ensures.grown in
    record {
      group = c.extend.ensures.group ∙ I.group;
      from = omega (arith, e, I.from);
      to = omega (arith, e, I.to, c.loop-self-test.true, c.last.ensures);
      computed = omega (arith, e, c.in_ok-extend.ensures.computed, I.computed);
      extended = λ l. c.in_ok-extend.ensures.extended;
      within = within-more c.args.self.now.group c.loop-self.self.group c.args.self.now.last
          c.loop-self.self.last c.extend.new.self.last c.args.limit I.group e I.within
          c.in_ok-extend.ensures.within;
      kept = λ k. absurd (omega (arith, e, k, I.from));
    }

pub returns-in_err-extend-clause-refused : goal.returns-in_err-extend-clause-refused
returns-in_err-extend-clause-refused c =
    let p = err_from_is_err_and c.from_residual.result c.from_residual.ensures.1 in
    let last : c.extend.new.self.last ≡ c.loop-self.self.last =
    ap (λ (r : ResolutionValue). r.last) c.in_err-extend.ensures.kept in
    rw (p.1, p.2) (refused-at c.args.self.now.group c.loop-self.self.group
    (suc c.extend.new.self.last) c.args.limit c.in_err-extend.field-0.0 c.loop-self.invariant.group
    (subst (λ d. IsRefusal c.loop-self.self.group (suc d) c.args.limit c.in_err-extend.field-0.0) (sym last)
    c.in_err-extend.ensures.refused))

pub returns-in_err-extend-clause-extended : goal.returns-in_err-extend-clause-extended
returns-in_err-extend-clause-extended c = rw c.in_err-extend.ensures.kept c.loop-self.invariant.extended

pub returns-in_err-extend-clause-within : goal.returns-in_err-extend-clause-within
returns-in_err-extend-clause-within c = rw c.in_err-extend.ensures.kept c.loop-self.invariant.within

pub returns-in_err-extend-clause-kept : goal.returns-in_err-extend-clause-kept
returns-in_err-extend-clause-kept c = rw c.in_err-extend.ensures.kept c.loop-self.invariant.kept

pub returns-in_err-extend-clause-computed : goal.returns-in_err-extend-clause-computed
returns-in_err-extend-clause-computed c = rw c.in_err-extend.ensures.kept c.loop-self.invariant.computed

pub returns-in_err-extend-clause-between : goal.returns-in_err-extend-clause-between
returns-in_err-extend-clause-between c = rw c.in_err-extend.ensures.kept
    (c.loop-self.invariant.from, c.loop-self.invariant.to)
