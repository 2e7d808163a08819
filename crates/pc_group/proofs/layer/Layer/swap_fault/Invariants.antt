-- The rows before j have no fault.
use Rattle.std.proofs.Common.{◌≡◌, ℕ, ◌<◌, ◌≤◌, ◌+◌, suc, None}
use Rattle.power_commutator.specs.Presentations.{Presentation as Presented, product, swap_test, first_false}
use Rattle.power_commutator.specs.Order.{row}
use Rattle.pc_group.specs.Layers.{IsLayerOf}
use Rattle.pc_group.proofs.layer.Layer.swap_fault.Given as goal

abbrev pub invariant-loop-j : goal.invariant-loop-j
invariant-loop-j l = (P : Presented) (m : ℕ) → IsLayerOf P m l.self → let i = l.self.index in
    (k : ℕ) → suc i ≤ k → k < l.j → first_false
    (row (swap_test P (product P (suc i) m) i m) (l.self.gens + 1) k) ≡ None
