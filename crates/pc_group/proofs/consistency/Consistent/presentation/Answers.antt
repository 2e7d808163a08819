use Rattle.std.proofs.Common.{subst}
use Rattle.power_commutator.proofs.Result.{claims}
use Rattle.pc_group.specs.Consistency.{IsConsistent}
use Rattle.pc_group.proofs.consistency.Consistent.presentation.Goals as goal

pub returns-clause-group : goal.returns-clause-group
returns-clause-group c =
    let h : IsConsistent c.args.self.now = subst IsConsistent c.self.view_is c.self.invariant.consistent in
    claims c.args.self.now h.prime h.valid h.faultless
