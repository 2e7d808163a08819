use Rattle.std.proofs.Common.{◌≤◌, sym, refl}
use mathlib.Core.Path.{subst}
use Rattle.chain_lift.specs.Values.{LiftValue}
use Rattle.chain_lift.proofs.Levels.{store-take}
use Rattle.chain_lift.proofs.lift.Lift.cut.Goals as goal

pub invariant_of-self : goal.invariant_of-self
invariant_of-self c = store-take _ _ c.args.height _ c.self.inside.levels.items _ c.self.invariant
    (subst (λ (v : LiftValue). c.args.height ≤ v.height)
    (sym c.self.view_is) c.requires) c.truncate.ensures.items refl
