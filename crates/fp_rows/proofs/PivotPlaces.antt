-- How a place is shown to be the first at which a row is not 0.
use Rattle.linear_algebra.proofs.PivotLemmas.{pivot_is, pivot_none}

pub ruleset pivot_places = (pivot_is, pivot_none)
