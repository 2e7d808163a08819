use Rattle.std.proofs.Common.{◌≡◌, ◌-◌, length, arith, refl, subst, ◌∙◌}
use Rattle.std.proofs.lemmas.Bool.{false≢true}
use Rattle.ring_degree.specs.Critical.{IsRowOf}
use Rattle.ring_degree.specs.Products.{Gains}
use Rattle.ring_degree.proofs.CriticalLists.{IsUpTo, none-before, up-to-more, up-to-same, rows-gained}
use Rattle.ring_degree.proofs.critical.Pairs.push_critical.Goals as goal
use Rattle.ring_degree.proofs.critical.Pairs.push_critical.Goals.{then-is_first+in_ok-push_rows}
use Rattle.ring_degree.proofs.critical.Pairs.push_critical.Goals.{else-is_first}

pub loop-j-init : goal.loop-j-init
loop-j-init c =
    let g = c.args.self.now.gens.now in
    record {
      prime = refl;
      width = refl;
      rows_are = none-before (g.prime - 1) g.degrees c.args.self.now.tables.now c.args.self.now.width
          c.args.self.now.forms.now c.args.i c.args.rows.now.rows;
    }

pub loop-j-preserved : goal.loop-j-preserved
loop-j-preserved c =
    let g = c.args.self.now.gens.now in
    elim c.if-is_first.branch [
      | then-is_first+in_ok-push_rows w ↦ rw w.rows-is record {
        prime = w.in_ok-push_rows.ensures.prime ∙ c.loop-j.invariant.prime;
        width = w.in_ok-push_rows.ensures.width ∙ c.loop-j.invariant.width;
        rows_are = up-to-more
            (IsRowOf (g.prime - 1) g.degrees c.args.self.now.tables.now c.args.self.now.width
            c.args.self.now.forms.now c.args.i)
            c.loop-j.j c.args.rows.now.rows c.loop-j.rows.rows w.push_rows.new.rows.rows
            c.loop-j.invariant.rows_are
            (rows-gained (g.prime - 1) g.degrees c.args.self.now.tables.now c.args.self.now.width
            c.args.self.now.forms.now c.loop-j.rows.rows w.push_rows.new.rows.rows c.args.i c.loop-j.j
            (w.if-is_first.ensures.0 refl) w.in_ok-push_rows.ensures.rows);
      }
      | else-is_first w ↦ rw w.rows-is record {
        prime = c.loop-j.invariant.prime;
        width = c.loop-j.invariant.width;
        rows_are = up-to-same
            (IsRowOf (g.prime - 1) g.degrees c.args.self.now.tables.now c.args.self.now.width
            c.args.self.now.forms.now c.args.i)
            c.loop-j.j c.args.rows.now.rows c.loop-j.rows.rows
            (λ v x. false≢true (w.if-is_first.ensures.1 x.0)) c.loop-j.invariant.rows_are;
      }
    ]

pub returns-clause-rows : goal.returns-clause-rows
returns-clause-rows c =
    let g = c.args.self.now.gens.now in
    let e : c.loop-j.j ≡ length c.args.self.now.gens.now.degrees = omega arith in
    subst (λ b. Gains (IsUpTo
    (IsRowOf (g.prime - 1) g.degrees c.args.self.now.tables.now c.args.self.now.width
    c.args.self.now.forms.now c.args.i) b) c.args.rows.now.rows c.loop-j.rows.rows) e
    c.loop-j.invariant.rows_are
