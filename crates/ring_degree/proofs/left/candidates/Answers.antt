use Rattle.std.proofs.Common.{◌≡◌, ◌<◌, length, get_or, [], arith, sym, subst, ◌∙◌}
use Rattle.std.proofs.lemmas.Bool.{false≢true}
use Rattle.std.proofs.lemmas.Option.{get_or_from_slice_get}
use Rattle.ring_degree.specs.Rests.{HasQuotientsIn}
use Rattle.ring_degree.proofs.CandidateLists.{greater-than-next, candidate-taken, other-left}
use Rattle.ring_degree.proofs.left.candidates.Goals as goal
use Rattle.ring_degree.proofs.left.candidates.Goals.{then-branch+in_ok-try_clone+in_ok-push, else-branch}

pub push-requires : goal.push-requires
push-requires c = greater-than-next c.args.gens.now.degrees c.args.tables.now c.args.list.now c.loop-k.found
    c.loop-k.k (omega arith) c.len-k-end.ensures.descending c.loop-k.invariant c.in_ok-try_clone.field-0
    (get_or_from_slice_get c.args.list.now c.loop-k.k c.get-then-branch.result.now []
    c.get-then-branch.ensures ∙ sym c.in_ok-try_clone.ensures)

pub loop-k-preserved : goal.loop-k-preserved
loop-k-preserved c =
    let ds = c.args.gens.now.degrees in
    let tables = c.args.tables.now in
    let l : c.loop-k.k < length c.args.list.now = omega arith in
    let read : get_or c.args.list.now c.loop-k.k [] ≡ c.get.result.now =
    get_or_from_slice_get c.args.list.now c.loop-k.k c.get.result.now [] c.get.ensures in
    elim c.if-branch.branch [
      | then-branch+in_ok-try_clone+in_ok-push w ↦
          let m : get_or c.args.list.now c.loop-k.k [] ≡ w.in_ok-try_clone.field-0 =
          get_or_from_slice_get c.args.list.now c.loop-k.k w.get-then-branch.result.now []
          w.get-then-branch.ensures ∙ sym w.in_ok-try_clone.ensures in
          rw w.found-is (candidate-taken ds tables c.args.list.now c.loop-k.found c.loop-k.k l
          c.len-k-end.ensures.descending c.loop-k.invariant w.in_ok-try_clone.field-0 w.push.new.self m
          (subst (HasQuotientsIn ds tables) (sym read ∙ m) (c.in_ok-is_candidate.ensures.0 w.if-branch.true))
          w.in_ok-push.ensures.ok)
      | else-branch w ↦ rw w.found-is (other-left ds tables c.args.list.now c.loop-k.found c.loop-k.k l
          c.len-k-end.ensures.descending c.loop-k.invariant c.get.result.now read
          (λ h. false≢true (sym w.if-branch.false ∙ c.in_ok-is_candidate.ensures.1 h)))
    ]
