use Rattle.std.proofs.Common.{◌-◌, length, ap, sym, ◌∙◌}
use Rattle.fp_rows.specs.Values.{RowValue}
use Rattle.ring_degree.proofs.CriticalLists.{length-pair}
use Rattle.ring_degree.proofs.critical.Pairs.push_row.Goals as goal

pub push-requires-clause-same_width : goal.push-requires-clause-same_width
push-requires-clause-same_width c = ap length c.view.ensures.entries
    ∙ ap (λ (r : RowValue). length r.entries) c.in_ok-row.ensures
    ∙ length-pair (c.args.self.now.gens.now.prime - 1) c.args.self.now.gens.now.degrees
    c.args.self.now.tables.now c.args.self.now.width c.args.self.now.forms.now c.args.e c.args.i c.args.j
    c.args.k
    ∙ sym c.requires.width
