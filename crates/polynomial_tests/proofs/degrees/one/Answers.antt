use Rattle.std.proofs.Common.{ℕ, List, [], ◌∷◌, ◌++◌, ap, ◌∙◌}
use Rattle.graded_polynomials.proofs.Exponents.{same-exponents}
use Rattle.polynomial_tests.proofs.degrees.one.Goals as goal

pub returns : goal.returns
returns c = c.in_ok-push.ensures.ok
    ∙ ap (λ (ms : List (List ℕ)). ms ++ c.in_ok-unit.unit ∷ []) c.new-standard.ensures
    ∙ ap (λ (m : List ℕ). m ∷ [])
    (same-exponents c.in_ok-unit.unit [] c.in_ok-unit.ensures.trimmed tt c.in_ok-unit.ensures.exponents)
