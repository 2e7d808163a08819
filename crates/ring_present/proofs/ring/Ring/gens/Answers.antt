use Rattle.std.proofs.Common.{ap, ◌∙◌}
use Rattle.ring_present.proofs.Shown.{degrees-lifted}
use Rattle.ring_present.proofs.ring.Ring.gens.Goals as goal

pub returns : goal.returns
returns c = rw (← c.self.view_is) (ap (λ ds. record { prime = c.self.inside.known.gens.prime; degrees = ds })
    (c.self.invariant.0.degrees_of_gens ∙ degrees-lifted c.self.inside.known.lifts.items))
