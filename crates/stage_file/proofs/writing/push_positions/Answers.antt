use Rattle.std.proofs.Common.{◌+◌, arith, ap, ◌∙◌, append-nil, sym, ◌++◌, List, ℕ}
use Rattle.std.specs.Int.{w16, to_be_bytes}
use Rattle.min_res.specs.Values.{boundary_of}
use Rattle.stage_file.proofs.Appended.{positions-step, positions-none}
use Rattle.stage_file.proofs.writing.push_positions.Goals as goal

pub loop-i-init : goal.loop-i-init
loop-i-init c = sym (ap (λ (x : List ℕ). c.args.out.now.items ++ x) positions-none
    ∙ append-nil c.args.out.now.items)

pub loop-i-preserved : goal.loop-i-preserved
loop-i-preserved c =
    let a = c.in_ok-extend_from_slice.ensures.items in let b = c.to_be_bytes.ensures in let d
    = c.position.ensures in
    positions-step _ _ c.args.out.now.items _
    (boundary_of c.args.s.now).positions c.loop-i.i a c.loop-i.invariant (b
    ∙ ap (λ n. to_be_bytes w16 (n + 1)) d)
    (omega (arith, c.loop-i-test.true, c.rank-i-end.ensures, c.requires.count))
