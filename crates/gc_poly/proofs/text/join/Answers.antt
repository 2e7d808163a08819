-- The first piece stands alone, and each later one behind a separator.
use Rattle.std.proofs.Common.{List, ℕ, ◌++◌, arith, ap, ap₂, ◌∙◌}
use Rattle.gc_poly.proofs.Writing.{join-first, join-next}
use Rattle.gc_poly.proofs.text.join.Goals as goal
use Rattle.gc_poly.proofs.text.join.Goals.{then-i-gt0+in_ok-push, else-i-gt0}

pub loop-i-preserved : goal.loop-i-preserved
loop-i-preserved c = elim c.if-i-gt0.branch [
  | then-i-gt0+in_ok-push w ↦ join-next (λ p. p.items) c.args.separator c.args.pieces.now c.loop-i.i
      c.index-pieces-i.result c.loop-i.bytes.items c.extend_from_slice.new.self.items w.if-i-gt0.true
      (omega arith) c.index-pieces-i.is
      c.loop-i.invariant (c.in_ok-extend_from_slice.ensures.items
      ∙ ap₂ (λ (a b : List ℕ). a ++ b) (ap (λ v. v.items) w.bytes-is
      ∙ w.in_ok-push.ensures.items) c.deref.ensures.value)
  | else-i-gt0 w ↦ join-first (λ p. p.items) c.args.separator c.args.pieces.now c.loop-i.i
      c.index-pieces-i.result c.loop-i.bytes.items c.extend_from_slice.new.self.items
      (omega (arith, w.if-i-gt0.false)) (omega arith) c.index-pieces-i.is
      c.loop-i.invariant (c.in_ok-extend_from_slice.ensures.items
      ∙ ap₂ (λ (a b : List ℕ). a ++ b) (ap (λ v. v.items) w.bytes-is) c.deref.ensures.value)
]
