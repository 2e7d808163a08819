use Rattle.std.proofs.Common.{◌≡◌, ◌-◌, length, suc, arith, ap, sym, refl}
use mathlib.Core.Path.{subst}
use Rattle.chain_lift.specs.Values.{LiftValue}
use Rattle.chain_lift.specs.Stores.{IsLevel}
use Rattle.chain_lift.proofs.Levels.{store-push}
use Rattle.chain_lift.proofs.lift.Lift.extend.Goals as goal

pub invariant_of-self-2 : goal.invariant_of-self-2
invariant_of-self-2 c = store-push _ _ _ c.self.inside.levels.items _ c.in_ok-level.level c.self.invariant
    (let z : length c.self.inside.levels.items - 1 ≡ c.args.self.now.height = ap
    (λ (v : LiftValue). v.height) c.self.view_is in omega (arith, z))
    (let P : LiftValue → Type 0 = λ v. IsLevel v.group v.degree v.class
    (suc v.height) c.in_ok-level.level in subst P (sym c.self.view_is) c.in_ok-level.ensures)
    c.in_ok-push.ensures.items refl
