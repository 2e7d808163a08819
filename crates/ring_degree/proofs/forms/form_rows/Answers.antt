use Rattle.std.proofs.Common.{◌-◌, length, [], arith, ap, refl, ◌∙◌}
use Rattle.std.proofs.lemmas.Option.{get_or_from_slice_get}
use Rattle.graded_polynomials.specs.Monomials.{joined}
use Rattle.graded_polynomials.specs.Texts.{power}
use Rattle.fp_rows.specs.Refs.{entries_of}
use Rattle.fp_rows.specs.Values.{MatrixValue, RowValue}
use Rattle.presentation_rows.specs.RowPolynomials.{row_of}
use Rattle.presentation_rows.proofs.RowTerms.{row-of-is-row}
use Rattle.ring_completion.specs.Completions.{generator_times}
use Rattle.ring_degree.proofs.FormMatrices.{mapped-more}
use Rattle.ring_degree.proofs.forms.form_rows.Goals as goal

pub write_form-requires-clause-listed : goal.write_form-requires-clause-listed
write_form-requires-clause-listed c f = c.requires.listed (joined (power c.args.i 1) c.get.result.now)
    record {
      factor = c.get.result.now;
      listed = (
        c.loop-k.k,
        omega arith,
        get_or_from_slice_get c.args.monomials.now c.loop-k.k c.get.result.now [] c.get.ensures,
      );
      fitting = f;
      product = refl;
    }

pub loop-k-preserved : goal.loop-k-preserved
loop-k-preserved c =
    let before = c.loop-k.invariant in
    let new = c.in_ok-push.ensures.pushed in
    let row = c.in_ok-write_form.ensures.row in
    record {
      prime = ap (λ (m : MatrixValue). m.p) new ∙ before.prime;
      width = ap (λ (m : MatrixValue). m.width) new ∙ before.width;
      row_prime = ap (λ (r : RowValue). r.p) row ∙ before.row_prime;
      row_length = ap (λ (r : RowValue). length r.entries) row
          ∙ (row-of-is-row (c.args.gens.now.prime - 1) c.args.list.now (generator_times
          (c.args.gens.now.prime - 1) c.args.gens.now.degrees c.args.i c.get.result.now)).length_is;
      rows_are = mapped-more (λ s. row_of (c.args.gens.now.prime - 1) c.args.list.now
          (generator_times (c.args.gens.now.prime - 1) c.args.gens.now.degrees c.args.i s))
          c.args.monomials.now c.loop-k.k c.get.result.now (entries_of c.view.result) c.loop-k.rows.rows
          c.push.new.self.rows (omega (arith, c.loop-k-test.true, c.len-k-end.ensures.value)) before.rows_are
          (get_or_from_slice_get c.args.monomials.now c.loop-k.k c.get.result.now [] c.get.ensures)
          (c.view.ensures.entries ∙ ap (λ (r : RowValue). r.entries) row)
          (ap (λ (m : MatrixValue). m.rows) new);
    }
