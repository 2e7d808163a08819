use Rattle.std.proofs.Common.{◌≡◌, suc, arith, ap, sym, ◌∙◌}
use mathlib.Core.Path.{subst}
use Rattle.p_groups.specs.PGroups.{PGroup}
use Rattle.min_res.specs.Values.{ResolutionValue, StageValue}
use Rattle.min_res.specs.Defined.{IsStageAt}
use Rattle.min_res.specs.Radicals.{IsRadicalBasis}
use Rattle.min_res.specs.Refusals.{IsRefusal}
use Rattle.min_res.proofs.StageReadings.{own-degree}
use Rattle.min_res.proofs.resolution.Resolution.next.Goals as goal

pub next_stage-requires-clause-last : goal.next_stage-requires-clause-last
next_stage-requires-clause-last c =
    let P : PGroup → Type 0 = λ G. IsStageAt G c.deref.result.now.degree c.deref.result.now in
    subst P (sym (ap (λ (v : ResolutionValue). v.group) c.self.view_is))
    (own-degree c.args.self.now.group _ _ _ c.deref.ensures c.stage_at-last.ensures.stage)

pub next_stage-requires-clause-degree : goal.next_stage-requires-clause-degree
next_stage-requires-clause-degree c =
    let e : c.deref.result.now.degree ≡ c.args.self.now.last =
    ap (λ (s : StageValue). s.degree) c.deref.ensures ∙ c.stage_at-last.ensures.stage.degree_is
    ∙ c.last.ensures in
    omega (arith, e, c.requires.few)

pub returns-in-Ok-clause-stage : goal.returns-in-Ok-clause-stage
returns-in-Ok-clause-stage c =
    let g : c.self.inside.algebra ≡ c.args.self.now.group =
    ap (λ (v : ResolutionValue). v.group) c.self.view_is in
    let e : c.deref.result.now.degree ≡ c.args.self.now.last =
    ap (λ (s : StageValue). s.degree) c.deref.ensures ∙ c.stage_at-last.ensures.stage.degree_is
    ∙ c.last.ensures in
    let P : PGroup → Type 0 = λ G. IsStageAt G (suc c.args.self.now.last) c.in-Ok.next.0 in
    subst P g (subst (λ k. IsStageAt c.self.inside.algebra (suc k) c.in-Ok.next.0) e c.in-Ok.ensures.stage)

pub returns-in-Err-clause-refusal : goal.returns-in-Err-clause-refusal
returns-in-Err-clause-refusal c =
    let g : c.self.inside.algebra ≡ c.args.self.now.group =
    ap (λ (v : ResolutionValue). v.group) c.self.view_is in
    let e : c.deref.result.now.degree ≡ c.args.self.now.last =
    ap (λ (s : StageValue). s.degree) c.deref.ensures ∙ c.stage_at-last.ensures.stage.degree_is
    ∙ c.last.ensures in
    let P : PGroup → Type 0 = λ G. IsRefusal G (suc c.args.self.now.last) c.args.limit c.in-Err.fault in
    subst P g (subst (λ k. IsRefusal c.self.inside.algebra
    (suc k) c.args.limit c.in-Err.fault) e c.in-Err.ensures.refusal)

pub returns-in-Ok-clause-radical : goal.returns-in-Ok-clause-radical
returns-in-Ok-clause-radical c =
    let g : c.self.inside.algebra ≡ c.args.self.now.group =
    ap (λ (v : ResolutionValue). v.group) c.self.view_is in
    let e : c.deref.result.now.degree ≡ c.args.self.now.last =
    ap (λ (s : StageValue). s.degree) c.deref.ensures ∙ c.stage_at-last.ensures.stage.degree_is
    ∙ c.last.ensures in
    let P : PGroup → Type 0 = λ G. IsRadicalBasis G c.args.self.now.last c.in-Ok.next.1 in
    subst P g (subst (λ k. IsRadicalBasis c.self.inside.algebra k c.in-Ok.next.1) e c.in-Ok.ensures.radical)
