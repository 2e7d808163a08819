-- The tests before k pass.
use Rattle.std.proofs.Common.{ℕ, ◌<◌, ◌≤◌, suc, true}
use Rattle.power_commutator.specs.Presentations.{Presentation as Presented, product, swap_test}
use Rattle.power_commutator.proofs.Order.{Passes}
use Rattle.pc_group.specs.Layers.{IsLayerOf}
use Rattle.pc_group.proofs.layer.Layer.swap_row.Given as goal

abbrev pub invariant-loop-k : goal.invariant-loop-k
invariant-loop-k l = (P : Presented) (m : ℕ) → IsLayerOf P m l.self → let i = l.self.index in
    (k : ℕ) → suc l.j ≤ k → k < l.k → Passes (swap_test P (product P (suc i) m) i m l.j k) true
