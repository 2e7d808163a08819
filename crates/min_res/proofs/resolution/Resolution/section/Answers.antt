use Rattle.std.proofs.Common.{◌≡◌, ◌-◌, ◌*◌, suc, arith, ap, sym, ◌∙◌}
use Rattle.group_table.specs.Tables.{order}
use Rattle.fp_rows.specs.Refs.{entries_of}
use Rattle.min_res.specs.Stages.{rank_of}
use Rattle.min_res.proofs.StageReadings.{above-zero, source-width, prime, width, section-value, after-one}
use Rattle.min_res.proofs.resolution.Resolution.section.Goals as goal

pub section-requires-clause-above_zero : goal.section-requires-clause-above_zero
section-requires-clause-above_zero c =
    above-zero c.args.self.now.group (c.args.d - 1) c.deref.result.now
    (after-one c.args.self.now.group c.args.d _ _ c.requires.from c.deref.ensures
    c.stage_at.ensures.stage)

pub section-requires-clause-argument : goal.section-requires-clause-argument
section-requires-clause-argument c =
    c.requires.member.0.length_is
    ∙ sym (source-width c.args.self.now.group (c.args.d - 1) c.deref.result.now
    (after-one c.args.self.now.group c.args.d _ _ c.requires.from c.deref.ensures
    c.stage_at.ensures.stage))

pub section-requires-clause-argument_prime : goal.section-requires-clause-argument_prime
section-requires-clause-argument_prime c =
    c.requires.prime
    ∙ sym (prime c.args.self.now.group (c.args.d - 1) c.deref.result.now
    (after-one c.args.self.now.group c.args.d _ _ c.requires.from c.deref.ensures
    c.stage_at.ensures.stage))

pub section-requires-clause-out_length : goal.section-requires-clause-out_length
section-requires-clause-out_length c =
    let one : c.args.d ≡ suc (c.args.d - 1) = omega (arith, c.requires.from) in
    c.requires.out_length ∙ ap (λ k. order c.args.self.now.group.table * rank_of c.args.self.now.group k) one
    ∙ sym (width c.args.self.now.group (c.args.d - 1) c.deref.result.now
    (after-one c.args.self.now.group c.args.d _ _ c.requires.from c.deref.ensures
    c.stage_at.ensures.stage))

pub section-requires-clause-out_prime : goal.section-requires-clause-out_prime
section-requires-clause-out_prime c =
    c.requires.out_prime
    ∙ sym (prime c.args.self.now.group (c.args.d - 1) c.deref.result.now
    (after-one c.args.self.now.group c.args.d _ _ c.requires.from c.deref.ensures
    c.stage_at.ensures.stage))

pub returns-clause-value : goal.returns-clause-value
returns-clause-value c = c.section.ensures.value
    ∙ section-value c.args.self.now.group (c.args.d - 1) c.deref.result.now
    (after-one c.args.self.now.group c.args.d _ _ c.requires.from c.deref.ensures
    c.stage_at.ensures.stage)
    (entries_of c.args.v) c.requires.member
