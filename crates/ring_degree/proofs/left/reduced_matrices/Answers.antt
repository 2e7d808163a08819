use Rattle.std.proofs.Common.{◌≡◌, length, arith, ap, ◌∙◌}
use Rattle.std.proofs.lemmas.List.{length_push}
use Rattle.fp_rows.specs.Values.{MatrixValue}
use Rattle.ring_degree.specs.Tables.{rows_at}
use Rattle.ring_degree.proofs.Pushed.{each-pushed}
use Rattle.ring_degree.proofs.RestRows.{IsRestMatrix, rest-matrix, rest-primes, rest-widths, rest-matrices}
use Rattle.ring_degree.proofs.RestRows.{rest-rows}
use Rattle.ring_degree.proofs.left.reduced_matrices.Goals as goal

pub loop-i-preserved : goal.loop-i-preserved
loop-i-preserved c =
    let e = c.args.e.now in
    let ms = c.args.matrices.now in
    let x = c.in_ok-reduced_rows.field-0 in
    record {
      count = ap length c.in_ok-push.ensures.items
          ∙ (let h = length_push c.loop-i.reduced.items x in
          omega (arith, h, c.loop-i.invariant.count));
      each = each-pushed (λ j (n : MatrixValue). IsRestMatrix e c.args.left (rows_at ms j) n)
          c.loop-i.reduced.items c.push.new.self.items c.loop-i.i x c.loop-i.invariant.count
          c.loop-i.invariant.each
          (rest-matrix e c.args.left ms c.loop-i.i c.index-matrices-i.result x (omega arith)
          c.index-matrices-i.is c.requires.primes c.in_ok-reduced_rows.ensures.prime
          c.in_ok-reduced_rows.ensures.width c.in_ok-reduced_rows.ensures.matrix
          c.in_ok-reduced_rows.ensures.rows)
          c.in_ok-push.ensures.items;
    }

pub returns-clause-primes : goal.returns-clause-primes
returns-clause-primes c =
    let s : c.loop-i.i ≡ length c.args.matrices.now =
    omega (arith, c.loop-i-test.false, c.loop-i.auto.i-end) in
    rest-primes c.args.e.now c.args.left c.args.matrices.now c.loop-i.reduced.items
    (c.loop-i.invariant.count ∙ s) (λ i n l. c.loop-i.invariant.each i n (omega (arith, l, s)))

pub returns-clause-widths : goal.returns-clause-widths
returns-clause-widths c =
    let s : c.loop-i.i ≡ length c.args.matrices.now =
    omega (arith, c.loop-i-test.false, c.loop-i.auto.i-end) in
    rest-widths c.args.e.now c.args.left c.args.matrices.now c.loop-i.reduced.items
    (c.loop-i.invariant.count ∙ s) (λ i n l. c.loop-i.invariant.each i n (omega (arith, l, s)))

pub returns-clause-matrices : goal.returns-clause-matrices
returns-clause-matrices c =
    let s : c.loop-i.i ≡ length c.args.matrices.now =
    omega (arith, c.loop-i-test.false, c.loop-i.auto.i-end) in
    rest-matrices c.args.e.now c.args.left c.args.matrices.now c.loop-i.reduced.items
    (c.loop-i.invariant.count ∙ s) (λ i n l. c.loop-i.invariant.each i n (omega (arith, l, s)))

pub returns-clause-rows : goal.returns-clause-rows
returns-clause-rows c =
    let s : c.loop-i.i ≡ length c.args.matrices.now =
    omega (arith, c.loop-i-test.false, c.loop-i.auto.i-end) in
    rest-rows c.args.e.now c.args.left c.args.matrices.now c.loop-i.reduced.items
    (c.loop-i.invariant.count ∙ s) (λ i n l. c.loop-i.invariant.each i n (omega (arith, l, s)))
