use Rattle.std.proofs.Common.{◌≡◌, ◌+◌, ◌-◌, ◌<◌, [], length, arith, ap, sym, subst, refl, ◌∙◌}
use Rattle.std.specs.Prelude.{slice_index_or}
use Rattle.std.proofs.lemmas.Bool.{false≢true}
use Rattle.fp_rows.specs.Values.{MatrixValue}
use Rattle.ring_completion.specs.Completions.{IsClearBefore}
use Rattle.ring_degree.specs.Critical.{pair_row}
use Rattle.ring_degree.specs.Tables.{standard_at}
use Rattle.ring_degree.proofs.CriticalLists.{monomial-at, length-at, gains-at, gains-not-at, pairs-gained}
use Rattle.ring_degree.proofs.Places.{IsClearAt}
use Rattle.ring_degree.proofs.critical.Pairs.push_rows.Goals as goal
use Rattle.ring_degree.proofs.critical.Pairs.push_rows.Goals.{then-is_clear_before+in_ok-push_row}
use Rattle.ring_degree.proofs.critical.Pairs.push_rows.Goals.{else-is_clear_before}

pub loop-k-preserved : goal.loop-k-preserved
loop-k-preserved c =
    let g = c.args.self.now.gens.now in
    let tables = c.args.self.now.tables.now in
    let e = length c.args.self.now.tables.now - (c.degree.result + c.degree-2.result) in
    let inside : length c.args.self.now.tables.now - (c.degree.result + c.degree-2.result)
    < length c.args.self.now.tables.now = omega (arith, c.degree.ensures.low, c.if-both-self.true) in
    let read : slice_index_or (standard_at c.args.self.now.tables.now
    (length c.args.self.now.tables.now - (c.degree.result + c.degree-2.result))) c.loop-k.k []
    ≡ c.get.result.now =
    monomial-at tables e c.loop-k.k c.index-self-e-in-loop-k.result c.get.result.now inside
    c.get.ensures in
    elim c.if-is_clear_before.branch [
      | then-is_clear_before+in_ok-push_row w ↦ rw w.rows-is record {
        prime = ap (λ (m : MatrixValue). m.p) w.in_ok-push_row.ensures ∙ c.loop-k.invariant.prime;
        width = ap (λ (m : MatrixValue). m.width) w.in_ok-push_row.ensures ∙ c.loop-k.invariant.width;
        rows_are = gains-at (IsClearAt tables e c.args.i)
            (pair_row (g.prime - 1) g.degrees tables c.args.self.now.width c.args.self.now.forms.now e
            c.args.i c.args.j) c.args.rows.now.rows c.loop-k.k c.loop-k.rows.rows
            w.push_row.new.rows.rows
            (subst (IsClearBefore c.args.i) (sym read) (w.if-is_clear_before.ensures.0 refl))
            c.loop-k.invariant.rows_are (ap (λ (m : MatrixValue). m.rows) w.in_ok-push_row.ensures);
      }
      | else-is_clear_before w ↦ rw w.rows-is record {
        prime = c.loop-k.invariant.prime;
        width = c.loop-k.invariant.width;
        rows_are = gains-not-at (IsClearAt tables e c.args.i)
            (pair_row (g.prime - 1) g.degrees tables c.args.self.now.width c.args.self.now.forms.now e
            c.args.i c.args.j) c.args.rows.now.rows c.loop-k.k c.loop-k.rows.rows
            (λ h. false≢true (w.if-is_clear_before.ensures.1 (subst (IsClearBefore c.args.i) read h)))
            c.loop-k.invariant.rows_are;
      }
    ]

pub returns-after-loop-k-clause-rows : goal.returns-after-loop-k-clause-rows
returns-after-loop-k-clause-rows c =
    let g = c.args.self.now.gens.now in
    let tables = c.args.self.now.tables.now in
    let e = length c.args.self.now.tables.now - (c.degree.result + c.degree-2.result) in
    let inside : length c.args.self.now.tables.now - (c.degree.result + c.degree-2.result)
    < length c.args.self.now.tables.now = omega (arith, c.degree.ensures.low, c.if-both-self.true) in
    pairs-gained (g.prime - 1) g.degrees tables c.args.self.now.width c.args.self.now.forms.now
    c.args.rows.now.rows c.loop-k.rows.rows e c.args.i c.args.j c.loop-k.k
    (omega (arith, c.degree.ensures.value, c.degree-2.ensures.value, c.if-both-self.true))
    (let h = length-at tables e c.index-self-e.result inside in
    omega (arith, h, c.loop-k-test.false, c.loop-k.auto.k-end, c.len-k-end.ensures.value))
    c.loop-k.invariant.rows_are
