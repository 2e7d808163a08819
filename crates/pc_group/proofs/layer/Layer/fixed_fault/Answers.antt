-- The test is decided by the numbers of its sides.
use Rattle.std.proofs.Common.{suc, sym, []}
use Rattle.power_commutator.specs.Presentations.{product, fixed_test}
use Rattle.power_commutator.proofs.Order.{some-step, none-step}
use Rattle.pc_group.proofs.Faults.{passing, failing, fixed-tells}
use Rattle.pc_group.proofs.layer.Layer.fixed_fault.Goals as goal

pub returns-then-image-w : goal.returns-then-image-w
returns-then-image-w c P m R =
    let L = c.args.self.now in
    let e = fixed_test P (product P (suc L.index) m) L.index m in
    sym (some-step e [] (failing e _ _
    (fixed-tells P m L R c.power_word-w.ensures.value c.image.ensures.value) c.if-image-w.true))

pub returns-else-image-w : goal.returns-else-image-w
returns-else-image-w c P m R =
    let L = c.args.self.now in
    let e = fixed_test P (product P (suc L.index) m) L.index m in
    sym (none-step e [] (passing e _ _
    (fixed-tells P m L R c.power_word-w.ensures.value c.image.ensures.value) c.if-image-w.false))
