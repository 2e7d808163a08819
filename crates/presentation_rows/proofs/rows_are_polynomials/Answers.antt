use Rattle.presentation_rows.proofs.RowTerms.{polynomial-of-row}
use Rattle.presentation_rows.proofs.rows_are_polynomials.Goals as goal

pub returns : goal.returns
returns c q d ds ms u M r = polynomial-of-row M u r
