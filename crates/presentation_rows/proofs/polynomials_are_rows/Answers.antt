use Rattle.presentation_rows.proofs.RowTerms.{row-of-is-row, same-as-row}
use Rattle.presentation_rows.proofs.polynomials_are_rows.Goals as goal

pub returns : goal.returns
returns c q d ds ms f M o = (row-of-is-row q ms f, same-as-row M f o)
