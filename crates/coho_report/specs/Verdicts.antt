-- The bound that parameters give, and whether a ring through a degree is complete by it (Symonds, On the
-- Castelnuovo-Mumford regularity of the cohomology ring of a group, 2010).
use Rattle.std.specs.Prelude.{ℕ, Bool, false, leb, Option, Some, None, List, map}
use Rattle.graded_polynomials.specs.Polynomials.{Polynomial}
use Rattle.param_test.specs.Bounds as bounds

-- the bound of the degrees of the parameters
abbrev pub bound_of : List Polynomial → ℕ
bound_of fs = bounds.bound_of (map (λ f. f.degree) fs)

-- there are parameters, and their bound is at most the degree n
abbrev pub is_complete : ℕ → Option (List Polynomial) → Bool
is_complete n None = false
is_complete n (Some fs) = leb (bound_of fs) n
