-- A presentation without a false test gives a group, and one with a false test has no realisation.
use Rattle.std.proofs.Common.{◌≡◌, refl, sym, ◌∙◌, Some, None}
use Rattle.power_commutator.specs.Presentations.{first_fault}
use Rattle.power_commutator.proofs.Result.{claims}
use Rattle.power_commutator.proofs.Converse.{no-fault}
use Rattle.pc_group.proofs.consistency.check.Goals as goal

pub with_group-requires-clause-consistent : goal.with_group-requires-clause-consistent
with_group-requires-clause-consistent c =
    let outcome = rw c.in-Ok-Ok.field-0-is at c.in-Ok-Ok.ensures.outcome in
    record {
      prime = c.first_layer.ensures.prime;
      few = c.requires;
      valid = c.first_layer.ensures.valid;
      faultless = outcome.0;
    }

pub with_group-requires-clause-table : goal.with_group-requires-clause-table
with_group-requires-clause-table c =
    let outcome = rw c.in-Ok-Ok.field-0-is at c.in-Ok-Ok.ensures.outcome in
    outcome.1

pub returns-in-Ok-Ok-clause-group : goal.returns-in-Ok-Ok-clause-group
returns-in-Ok-Ok-clause-group c =
    let outcome = rw c.in-Ok-Ok.field-0-is at c.in-Ok-Ok.ensures.outcome in
    claims c.args.p c.first_layer.ensures.prime c.first_layer.ensures.valid outcome.0

pub returns-in-Ok-Err-clause-refused : goal.returns-in-Ok-Err-clause-refused
returns-in-Ok-Err-clause-refused c =
    let named : first_fault c.args.p ≡ Some c.in-Ok-Err.name =
    rw c.in-Ok-Err.field-0-is at c.in-Ok-Err.ensures.outcome in (
      refl,
      named,
      λ R.
          let none = no-fault c.args.p c.first_layer.ensures.prime c.first_layer.ensures.valid R in
          let clash : None ≡ Some c.in-Ok-Err.name = sym none ∙ named in
          cc,
    )
