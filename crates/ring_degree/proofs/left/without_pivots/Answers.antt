use Rattle.std.proofs.Common.{◌≡◌, ◌<◌, length, get_or, [], arith, sym, ◌∙◌}
use Rattle.std.proofs.lemmas.Option.{get_or_from_slice_get}
use Rattle.ring_completion.proofs.LeftPlaces.{left-out, monomial-taken, left-are-greater}
use Rattle.ring_degree.proofs.left.without_pivots.Goals as goal
use Rattle.ring_degree.proofs.left.without_pivots.Goals.{then-not-is_pivot+in_ok-try_clone+in_ok-push}
use Rattle.ring_degree.proofs.left.without_pivots.Goals.{else-not-is_pivot}

pub push-requires : goal.push-requires
push-requires c = rw c.loop-k.invariant
    (left-are-greater c.args.e.now.rows c.args.list.now c.loop-k.k c.in_ok-try_clone.field-0
    c.len-k-end.ensures.descending (omega arith)
    (get_or_from_slice_get c.args.list.now c.loop-k.k c.get.result.now [] c.get.ensures
    ∙ sym c.in_ok-try_clone.ensures))

pub loop-k-preserved : goal.loop-k-preserved
loop-k-preserved c =
    let l : c.loop-k.k < length c.args.list.now = omega arith in
    elim c.if-not-is_pivot.branch [
      | then-not-is_pivot+in_ok-try_clone+in_ok-push w ↦
          let m : get_or c.args.list.now c.loop-k.k [] ≡ w.get.result.now =
          get_or_from_slice_get c.args.list.now c.loop-k.k w.get.result.now [] w.get.ensures in
          w.left-is ∙ monomial-taken c.args.e.now.rows c.args.list.now c.loop-k.left w.push.new.self
          c.loop-k.k w.in_ok-try_clone.field-0 l (sym w.if-not-is_pivot.ensures)
          (w.in_ok-try_clone.ensures ∙ sym m) c.loop-k.invariant w.in_ok-push.ensures.ok
      | else-not-is_pivot w ↦
          w.left-is ∙ c.loop-k.invariant
          ∙ sym (left-out c.args.e.now.rows c.args.list.now c.loop-k.k [] l
          (sym w.if-not-is_pivot.ensures))
    ]
