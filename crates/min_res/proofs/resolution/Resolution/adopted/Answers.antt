use Rattle.std.proofs.Common.{◌≡◌, ◌*◌, ◌≤◌, ◌^◌, ℕ, suc, length, arith, ap, sym, ◌∙◌}
use mathlib.Core.Path.{subst}
use Rattle.p_groups.specs.PGroups.{PGroup, order_of, prime_of}
use Rattle.resolution_stages.specs.Chain.{parts_of}
use Rattle.min_res.specs.Values.{ResolutionValue, StageValue}
use Rattle.min_res.specs.Defined.{IsStageAt}
use Rattle.min_res.specs.RecordChecks.{IsNotAdopted, MayFollow}
use Rattle.min_res.specs.Stages.{stage_rows}
use Rattle.min_res.proofs.StageReadings.{own-degree}
use Rattle.min_res.proofs.resolution.Resolution.adopted.Goals as goal

pub adopted_stage-requires : goal.adopted_stage-requires
adopted_stage-requires g c =
    let Q = g.S.StageParts.parts c.args.given.now in
    let G : c.args.self.now.group ≡ c.self.inside.algebra =
    sym (ap (λ (v : ResolutionValue). v.group) c.self.view_is) in
    let d : c.args.self.now.last ≡ c.deref.result.now.degree =
    sym (ap (λ (s : StageValue). s.degree) c.deref.ensures ∙ c.stage_at-last.ensures.stage.degree_is
    ∙ c.last.ensures) in
    record {
      parts = record {
        last = subst (λ (G : PGroup). IsStageAt G c.deref.result.now.degree c.deref.result.now) G
            (own-degree c.args.self.now.group _ _ _ c.deref.ensures c.stage_at-last.ensures.stage);
        prime = subst (λ (G : PGroup). g.S.StageParts.modulus c.args.given.now ≡ prime_of G) G
            c.requires.prime;
        follows = subst (λ (G : PGroup). MayFollow G c.deref.result.now.degree Q) G
            (subst (λ (k : ℕ). MayFollow c.args.self.now.group k Q) d c.requires.follows);
        small = subst (λ (G : PGroup). order_of G * length Q.positions ≤ 2 ^ 28) G c.requires.small;
      };
      degree = omega (arith, d, c.requires.few);
    }

pub returns-in-Ok-clause-next : goal.returns-in-Ok-clause-next
returns-in-Ok-clause-next g c =
    let Q = g.S.StageParts.parts c.args.given.now in
    let G : c.self.inside.algebra ≡ c.args.self.now.group = ap
    (λ (v : ResolutionValue). v.group) c.self.view_is in
    let d : c.deref.result.now.degree ≡ c.args.self.now.last =
    ap (λ (s : StageValue). s.degree) c.deref.ensures ∙ c.stage_at-last.ensures.stage.degree_is
    ∙ c.last.ensures in
    subst (λ (G : PGroup). Q ≡ parts_of (stage_rows G) c.args.self.now.last) G
    (subst (λ (k : ℕ). Q ≡ parts_of (stage_rows c.self.inside.algebra) k) d c.in-Ok.ensures.parts)

pub returns-in-Ok-clause-stage : goal.returns-in-Ok-clause-stage
returns-in-Ok-clause-stage g c =
    let G : c.self.inside.algebra ≡ c.args.self.now.group = ap
    (λ (v : ResolutionValue). v.group) c.self.view_is in
    let d : c.deref.result.now.degree ≡ c.args.self.now.last =
    ap (λ (s : StageValue). s.degree) c.deref.ensures ∙ c.stage_at-last.ensures.stage.degree_is
    ∙ c.last.ensures in
    subst (λ (G : PGroup). IsStageAt G (suc c.args.self.now.last) c.in-Ok.stage) G
    (subst (λ (k : ℕ). IsStageAt c.self.inside.algebra (suc k) c.in-Ok.stage) d c.in-Ok.ensures.stage)

pub returns-in-Err-clause-refused : goal.returns-in-Err-clause-refused
returns-in-Err-clause-refused g c =
    let Q = g.S.StageParts.parts c.args.given.now in
    let G : c.self.inside.algebra ≡ c.args.self.now.group = ap
    (λ (v : ResolutionValue). v.group) c.self.view_is in
    let d : c.deref.result.now.degree ≡ c.args.self.now.last =
    ap (λ (s : StageValue). s.degree) c.deref.ensures ∙ c.stage_at-last.ensures.stage.degree_is
    ∙ c.last.ensures in
    subst (λ (G : PGroup). IsNotAdopted G c.args.self.now.last Q c.in-Err.fault) G
    (subst (λ (k : ℕ). IsNotAdopted c.self.inside.algebra k Q c.in-Err.fault) d c.in-Err.ensures.refused)
