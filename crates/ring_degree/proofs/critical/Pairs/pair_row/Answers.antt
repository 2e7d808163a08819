use Rattle.std.proofs.Common.{◌≡◌, ◌-◌, List, ℕ, sym, subst}
use Rattle.std.specs.Prelude.{IfOk}
use Rattle.fp_rows.specs.Values.{RowValue}
use Rattle.ring_degree.proofs.CriticalLists.{row-of-one, row-of-two}
use Rattle.ring_degree.proofs.critical.Pairs.pair_row.Goals as goal

pub returns-then-i-j : goal.returns-then-i-j
returns-then-i-j c =
    let g = c.args.self.now.gens.now in
    subst (λ (xs : List ℕ). IfOk c.form_of_product.result (λ (r : RowValue). r ≡ record {
      p = c.args.self.now.gens.now.prime;
      entries = xs;
    })) (sym (row-of-one (g.prime - 1) g.degrees c.args.self.now.tables.now c.args.self.now.width
    c.args.self.now.forms.now c.args.e c.args.i c.args.j c.args.k c.if-i-j.true)) c.form_of_product.ensures

pub returns : goal.returns
returns c =
    let g = c.args.self.now.gens.now in
    subst (λ (xs : List ℕ). IfOk c.exchange.result (λ (r : RowValue). r ≡ record {
      p = c.args.self.now.gens.now.prime;
      entries = xs;
    })) (sym (row-of-two (g.prime - 1) g.degrees c.args.self.now.tables.now c.args.self.now.width
    c.args.self.now.forms.now c.args.e c.args.i c.args.j c.args.k c.if-i-j.false)) c.exchange.ensures
