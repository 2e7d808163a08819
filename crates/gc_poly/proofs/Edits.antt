-- Edits of a list of terms at a place.
use Rattle.std.specs.Prelude.{ℕ, zero, suc, List, [], ◌∷◌}
use Rattle.graded_polynomials.specs.Polynomials.{Term}

abbrev pub put : ℕ → Term → List Term → List Term
put zero t f = t ∷ f
put (suc i) t [] = t ∷ []
put (suc i) t (s ∷ f) = s ∷ put i t f

abbrev pub change : ℕ → ℕ → List Term → List Term
change i c [] = []
change zero c (s ∷ f) = record { scalar = c; monomial = s.monomial } ∷ f
change (suc i) c (s ∷ f) = s ∷ change i c f

abbrev pub erase : ℕ → List Term → List Term
erase i [] = []
erase zero (s ∷ f) = f
erase (suc i) (s ∷ f) = s ∷ erase i f
