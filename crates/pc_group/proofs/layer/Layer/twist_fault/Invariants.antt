-- The tests before j pass.
use Rattle.std.proofs.Common.{ℕ, ◌<◌, ◌≤◌, suc, true}
use Rattle.power_commutator.specs.Presentations.{Presentation as Presented, product, twist_test}
use Rattle.power_commutator.proofs.Order.{Passes}
use Rattle.pc_group.specs.Layers.{IsLayerOf}
use Rattle.pc_group.proofs.layer.Layer.twist_fault.Given as goal

abbrev pub invariant-loop-j : goal.invariant-loop-j
invariant-loop-j l = (P : Presented) (m : ℕ) → IsLayerOf P m l.self → let i = l.self.index in
    (k : ℕ) → suc i ≤ k → k < l.j → Passes (twist_test P (product P (suc i) m) i m k) true
