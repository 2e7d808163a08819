use Rattle.std.proofs.Common.{sym}
use mathlib.Core.Path.{subst}
use Rattle.linear_algebra.specs.Rows.{IsEchelonOf}
use Rattle.group_table.specs.Prime.{prime_value}
use Rattle.fp_rows.proofs.Primes.{prime_above_one}
use Rattle.presentation_rows.specs.Values.{AreUnitRows}
use Rattle.presentation_rows.proofs.UnitRows.{echelon-of-units}
use Rattle.cohomology_degree.proofs.generators.dual_basis.Goals as goal

pub returns-clause-rows : goal.returns-clause-rows
returns-clause-rows c =
    let one = prime_above_one c.args.p in
    subst (AreUnitRows c.args.rank) (sym
    (echelon-of-units c.in_ok-rows.ensures.rows (prime_value c.args.p) c.in_ok-basis.basis.rows one
    (subst (λ p. IsEchelonOf p c.args.rank c.in_ok-rows.rows.rows c.in_ok-basis.basis.rows)
    c.in_ok-rows.ensures.prime
    (subst (λ n. IsEchelonOf c.in_ok-rows.rows.p n c.in_ok-rows.rows.rows c.in_ok-basis.basis.rows)
    c.in_ok-rows.ensures.width c.in_ok-basis.ensures.rows)))) c.in_ok-rows.ensures.rows
