-- The values at the places that are no pivots, one place after another.
use Rattle.std.proofs.Common.{◌≡◌, ℕ, ◌+◌, ◌<◌, false, List, [], ◌∷◌, ◌++◌, length, get_or, take}
use Rattle.std.proofs.Common.{ap, sym, ◌∙◌}
use Rattle.linear_algebra.specs.Rows.{is_pivot}
use Rattle.fp_rows.specs.Values.{MatrixValue}
use Rattle.cohomology_degree.specs.Standard.{without_pivots}
use Rattle.ring_completion.proofs.LeftPlaces.{taken}

-- one more value is taken
pub value-taken : (rows : List (List ℕ)) (all old new : MatrixValue) (i : ℕ) (v : List ℕ)
    → i < length all.rows → is_pivot rows i ≡ false
    → v ≡ get_or all.rows i []
    → old ≡ record all { rows = without_pivots rows 0 (take i all.rows) }
    → new ≡ record old { rows = old.rows ++ v ∷ [] }
    → new ≡ record all { rows = without_pivots rows 0 (take (i + 1) all.rows) }
value-taken rows all old new i v l p e f h = h
    ∙ rw (e, f) (ap (λ ys. record all { rows = ys }) (sym (taken rows all.rows i [] l p)))
