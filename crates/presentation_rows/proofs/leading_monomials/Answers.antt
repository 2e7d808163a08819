use Rattle.presentation_rows.proofs.KernelLeads.{relation-pivots, standard-pivots}
use Rattle.presentation_rows.proofs.leading_monomials.Goals as goal

pub returns-clause-leading : goal.returns-clause-leading
returns-clause-leading c q d k mul gs ms values kernel one M V K l =
    relation-pivots q d mul gs ms values kernel one M V K k l

pub returns-clause-standard : goal.returns-clause-standard
returns-clause-standard c q d k mul gs ms values kernel one M V K l =
    standard-pivots q d mul gs ms values kernel one M V K k l
