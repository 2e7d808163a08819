-- A record that is read fits its shape, which has one row before and two elements.
use Rattle.std.proofs.Common.{◌≡◌, ◌<◌, ◌*◌, ◌^◌, ℕ, length, arith, sym, ap₂}
use Rattle.stage_records.specs.Claims.{Fits}
use Rattle.stage_records.proofs.Written.{whole-claims}
use Rattle.stage_file.specs.Views.{parts_of_ref}
use Rattle.file_tests.proofs.records.parts_of.Goals as goal

pub kernel_row-requires : goal.kernel_row-requires
kernel_row-requires c =
    let shape = c.shape.result in
    let parts = parts_of_ref c.in-Whole.parts in
    let degree : shape.degree < 2 ^ 16 = omega (arith, c.shape.ensures.degree) in
    let some : 0 < shape.order = omega (arith, c.shape.ensures.order) in
    let fit : Fits shape parts
    = (whole-claims shape c.args.bytes.now parts degree some
    (λ i. omega (arith, c.type_inv.bytes i))).fit (sym c.in-Whole.ensures.reading) in
    let rank : length parts.positions ≡ 1 = omega (arith, c.rank.ensures) in
    let width : shape.order * length parts.positions ≡ 2
    = ap₂ (λ (a b : ℕ). a * b) c.shape.ensures.order rank in
    omega (arith, fit.kernel_count, width, c.shape.ensures.previous)

pub section_row-requires : goal.section_row-requires
section_row-requires c =
    let shape = c.shape.result in
    let parts = parts_of_ref c.in-Whole.parts in
    let degree : shape.degree < 2 ^ 16 = omega (arith, c.shape.ensures.degree) in
    let some : 0 < shape.order = omega (arith, c.shape.ensures.order) in
    let fit : Fits shape parts
    = (whole-claims shape c.args.bytes.now parts degree some
    (λ i. omega (arith, c.type_inv.bytes i))).fit (sym c.in-Whole.ensures.reading) in
    omega (arith, fit.section_count, c.shape.ensures.previous)
