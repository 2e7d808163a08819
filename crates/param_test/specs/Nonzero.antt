-- The polynomials of a list that are not 0.
use Rattle.std.specs.Prelude.{Bool, not, eqb, List, length, filter}
use Rattle.graded_polynomials.specs.Polynomials.{Polynomial}

abbrev pub has_terms : Polynomial → Bool
has_terms f = not (eqb (length f.terms) 0)

abbrev pub nonzero : List Polynomial → List Polynomial
nonzero fs = filter has_terms fs
