use Rattle.std.proofs.Common.{◌+◌, ◌-◌, ap, sym, length, ◌∙◌}
use Rattle.linear_algebra.specs.Rows.{entry, row}
use Rattle.ring_degree.specs.Tables.{at_generator, product_rows, rows_at}
use Rattle.ring_degree.proofs.FormVectors.{length-combination}
use Rattle.ring_degree.proofs.critical.Pairs.exchange.Goals as goal

pub add-requires-clause-same_length : goal.add-requires-clause-same_length
add-requires-clause-same_length c =
    let ds = c.args.self.now.gens.now.degrees in
    let tables = c.args.self.now.tables.now in
    ap length c.view.ensures.entries ∙ ap (λ r. length r.entries) c.in_ok-other.ensures
    ∙ length-combination (c.args.self.now.gens.now.prime - 1) (λ d e v w. v) c.args.self.now.width
    (entry (row (product_rows tables (at_generator ds c.args.i + c.args.e) c.args.i) c.args.k))
    (rows_at c.args.self.now.forms.now c.args.j)
    ∙ sym (length-combination (c.args.self.now.gens.now.prime - 1) (λ d e v w. v) c.args.self.now.width
    (entry (row (product_rows tables (at_generator ds c.args.j + c.args.e) c.args.j) c.args.k))
    (rows_at c.args.self.now.forms.now c.args.i))
    ∙ sym (ap (λ r. length r.entries) c.in_ok-row.ensures)
