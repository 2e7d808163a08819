use Rattle.fp_rows.proofs.Primes.{prime_above_one}
use Rattle.fp_rows.proofs.row.Row.set_unit.Goals as goal

pub set-requires-clause-below : goal.set-requires-clause-below
set-requires-clause-below c = prime_above_one c.self.inside.prime
