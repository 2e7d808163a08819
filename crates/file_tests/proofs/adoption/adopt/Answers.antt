use Rattle.std.proofs.Common.{◌≤◌, ◌<◌, ◌*◌, ◌^◌, suc, length, arith, sym}
use Rattle.p_groups.specs.PGroups.{order_of}
use Rattle.stage_file.specs.Views.{parts_of_ref}
use Rattle.stage_file.proofs.Honest.{small-parts}
use Rattle.file_tests.proofs.adoption.adopt.Goals as goal

pub adopt-requires-clause-follows : goal.adopt-requires-clause-follows
adopt-requires-clause-follows g c =
    let low : suc c.args.resolution.now.last ≤ 24 = omega arith in
    (c.in-Whole.ensures.verdict c.args.resolution.now.group c.args.resolution.now.last low
    c.shape_after-shape.ensures).follows (parts_of_ref c.in-Whole.parts) (sym c.in-Whole.ensures.reading)

pub adopt-requires-clause-small : goal.adopt-requires-clause-small
adopt-requires-clause-small g c =
    let low : suc c.args.resolution.now.last ≤ 24 = omega arith in
    let degree : c.shape_after-shape.result.degree < 2 ^ 16 =
    omega (arith, low, c.shape_after-shape.ensures.degree) in
    let small : order_of c.args.resolution.now.group * length (parts_of_ref c.in-Whole.parts).positions ≤ 4096
    = small-parts c.args.resolution.now.group c.args.resolution.now.last c.shape_after-shape.result
    c.args.bytes.now (parts_of_ref c.in-Whole.parts) c.shape_after-shape.ensures degree
    (λ i. omega (arith, c.type_inv.bytes i)) (sym c.in-Whole.ensures.reading) in
    omega (arith, small)
