use Rattle.std.proofs.Common.{◌≡◌, ◌<◌, length, get_or, [], arith, ap, sym, ◌∙◌}
use Rattle.std.proofs.lemmas.Option.{get_or_from_slice_get}
use Rattle.fp_rows.specs.Refs.{entries_of}
use Rattle.ring_completion.proofs.LeftPlaces.{left-out, monomial-taken, left-are-greater}
use Rattle.cohomology_degree.proofs.StandardPlaces.{value-taken}
use Rattle.cohomology_degree.proofs.standard.standard.Goals as goal
use Rattle.cohomology_degree.proofs.standard.standard.Goals.{
  then-not-is_pivot+in_ok-try_clone+in_ok-push+in_ok-push-2,
}
use Rattle.cohomology_degree.proofs.standard.standard.Goals.{else-not-is_pivot}

pub push-requires : goal.push-requires
push-requires c = rw c.loop-i.invariant.monomials_are
    (left-are-greater c.args.kernel.now.rows c.args.left.now.monomials c.loop-i.i c.in_ok-try_clone.field-0
    c.len-i-end.ensures.descending
    (omega arith)
    (get_or_from_slice_get c.args.left.now.monomials c.loop-i.i c.get.result.now [] c.get.ensures
    ∙ sym c.in_ok-try_clone.ensures))

pub loop-i-preserved : goal.loop-i-preserved
loop-i-preserved c =
    let l : c.loop-i.i < length c.args.left.now.monomials = omega arith in
    let b : c.loop-i.i < length c.args.left.now.values.rows = omega arith in
    elim c.if-not-is_pivot.branch [
      | then-not-is_pivot+in_ok-try_clone+in_ok-push+in_ok-push-2 w ↦
          let m : get_or c.args.left.now.monomials c.loop-i.i [] ≡ w.get.result.now =
          get_or_from_slice_get c.args.left.now.monomials c.loop-i.i
          w.get.result.now [] w.get.ensures in
          record {
            monomials_are = w.monomials-is
                ∙ monomial-taken c.args.kernel.now.rows c.args.left.now.monomials c.loop-i.monomials
                w.push.new.self
                c.loop-i.i w.in_ok-try_clone.field-0 l
                (sym w.if-not-is_pivot.ensures) (w.in_ok-try_clone.ensures
                ∙ sym m) c.loop-i.invariant.monomials_are w.in_ok-push.ensures.ok;
            values_are = w.values-is ∙ value-taken c.args.kernel.now.rows c.args.left.now.values
                c.loop-i.values w.push-then-not-is_pivot.new.self
                c.loop-i.i (entries_of w.row.result) b
                (sym w.if-not-is_pivot.ensures) w.row.ensures.entries c.loop-i.invariant.values_are
                w.in_ok-push-2.ensures.pushed;
          }
      | else-not-is_pivot w ↦
          record {
            monomials_are = w.monomials-is ∙ c.loop-i.invariant.monomials_are
                ∙ sym (left-out c.args.kernel.now.rows c.args.left.now.monomials c.loop-i.i [] l
                (sym w.if-not-is_pivot.ensures));
            values_are = w.values-is ∙ c.loop-i.invariant.values_are
                ∙ ap (λ ys. record c.args.left.now.values { rows = ys })
                (sym (left-out c.args.kernel.now.rows c.args.left.now.values.rows c.loop-i.i [] b
                (sym w.if-not-is_pivot.ensures)));
          }
    ]
