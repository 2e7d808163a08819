-- What the refusals of the consistency tests say.
use Rattle.std.specs.Prelude.{◌≡◌, Some}
use Rattle.power_commutator.specs.Presentations.{Presentation as Presented, first_fault}
use Rattle.power_commutator.specs.Claims.{Realisation}
use Rattle.pc_group.specs.declared.consistency.Refused.{Refused}
use Rattle.pc_group.specs.declared.consistency.Refused.TheVariants.{Fault, Memory}

-- a fault names the first false test, and then P has no realisation; both refusals give P back
abbrev pub Refuses : Presented → Refused → Type 0
Refuses P (Fault name presentation) = (presentation ≡ P) × (first_fault P ≡ Some name) × (Realisation P → ⊥)
Refuses P (Memory presentation) = presentation ≡ P
