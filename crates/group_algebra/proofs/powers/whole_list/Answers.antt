use Rattle.std.proofs.Common.{◌≡◌, ◌<◌, ◌++◌, ◌∷◌, [], ◌+◌, length, arith, ap, ◌∙◌}
use Rattle.std.proofs.lemmas.List.{length_push}
use Rattle.std.proofs.lemmas.Result.{IfOk-weaker}
use Rattle.group_table.specs.Tables.{order}
use Rattle.linear_algebra.specs.Rows.{IsEchelonOf}
use Rattle.linear_algebra.specs.Kernels.{unit_row}
use Rattle.linear_algebra.proofs.AugmentLemmas.{length-unit_row}
use Rattle.fp_rows.specs.Refs.{entries_of}
use Rattle.fp_rows.specs.Values.{RowValue}
use Rattle.group_algebra.proofs.ListLemmas.{rows-pushed}
use Rattle.group_algebra.proofs.PowerLemmas.{whole-is, units-one}
use mathlib.Core.Path.{subst}
use Rattle.fp_rows.proofs.Primes.{prime_above_one}
use Rattle.group_algebra.proofs.powers.whole_list.Goals as goal

pub loop-i-preserved : goal.loop-i-preserved
loop-i-preserved c =
    let unit : entries_of c.view.result ≡ unit_row (order c.args.group.now.table) c.loop-i.i =
    rw (c.view.ensures.entries, c.set_unit.ensures, c.loop-i.invariant.1.1) in
    let rows : c.push.new.self.rows ≡ c.loop-i.m.rows ++ entries_of c.view.result ∷ [] =
    ap (λ m. m.rows) c.in_ok-push.ensures.pushed in (
      (
        ap (λ m. m.p) c.in_ok-push.ensures.pushed
            ∙ c.loop-i.invariant.0.0,
        ap (λ m. m.width) c.in_ok-push.ensures.pushed ∙ c.loop-i.invariant.0.1,
      ),
      (
        ap (λ (r : RowValue). r.p) c.set_unit.ensures ∙ c.loop-i.invariant.1.0,
        ap (λ (r : RowValue). length r.entries) c.set_unit.ensures ∙ length-unit_row _ c.loop-i.i
            ∙ c.loop-i.invariant.1.1,
      ),
      c.loop-i.invariant.2,
      ap length rows ∙ length_push c.loop-i.m.rows (entries_of c.view.result)
          ∙ ap (λ k. k + 1) c.loop-i.invariant.3,
      rw rows (rows-pushed (λ k x. x ≡ unit_row (order c.args.group.now.table) k) c.loop-i.m.rows c.loop-i.i
          (entries_of c.view.result) c.loop-i.invariant.3 unit c.loop-i.invariant.4),
    )

pub returns-clause-power : goal.returns-clause-power
returns-clause-power c = IfOk-weaker c.echelon.result
    (λ e. IsEchelonOf c.loop-i.m.p c.loop-i.m.width c.loop-i.m.rows e.rows) _
    (λ e E.
    let end : c.loop-i.i ≡ order c.args.group.now.table =
    omega (arith, c.loop-i.invariant.2, c.loop-i-test.false, c.loop-i.auto.i-end) in
    whole-is c.args.group.now c.loop-i.m.rows e.rows (c.loop-i.invariant.3
    ∙ end) (rw end at c.loop-i.invariant.4)
    (rw (c.loop-i.invariant.0.0, c.loop-i.invariant.0.1) at E))
    c.echelon.ensures.rows

pub returns-clause-units : goal.returns-clause-units
returns-clause-units c = IfOk-weaker c.echelon.result
    (λ e. IsEchelonOf c.loop-i.m.p c.loop-i.m.width c.loop-i.m.rows e.rows) _
    (λ e E.
    let end : c.loop-i.i ≡ order c.args.group.now.table =
    omega (arith, c.loop-i.invariant.2, c.loop-i-test.false, c.loop-i.auto.i-end) in
    let count : length c.loop-i.m.rows ≡ order c.args.group.now.table = c.loop-i.invariant.3 ∙ end in
    let above : 1 < c.args.group.now.table.p =
    subst (λ p. 1 < p) c.prime-p.ensures (prime_above_one c.prime-p.result) in
    let same : e.rows ≡ c.loop-i.m.rows =
    units-one c.args.group.now.table.p (order c.args.group.now.table) c.loop-i.m.rows count
    (rw end at c.loop-i.invariant.4) above e.rows
    (rw (c.loop-i.invariant.0.0, c.loop-i.invariant.0.1) at E) in
    (ap length same ∙ count, rw same (rw end at c.loop-i.invariant.4)))
    c.echelon.ensures.rows
