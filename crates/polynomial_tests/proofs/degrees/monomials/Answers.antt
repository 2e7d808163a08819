use Rattle.std.proofs.Common.{ℕ, List, [], ◌∷◌, ◌++◌, ap, refl, ◌∙◌}
use Rattle.graded_polynomials.specs.Texts.{power}
use Rattle.ring_degree.proofs.LowDegrees.{power-from, above-last}
use Rattle.polynomial_tests.proofs.degrees.monomials.Goals as goal

pub push-requires-2 : goal.push-requires-2
push-requires-2 c = above-last c.push.new.self c.in_ok-y.y
    (c.in_ok-push.ensures.ok ∙ ap (λ (ms : List (List ℕ)). ms ++ c.in_ok-x.x ∷ []) c.new-monomials.ensures
    ∙ ap (λ (m : List ℕ). m ∷ [])
    (power-from 0 c.in_ok-x.x (1 ∷ []) c.in_ok-x.ensures.trimmed c.in_ok-x.ensures.exponents refl))
    (power-from 1 c.in_ok-y.y (0 ∷ 1 ∷ []) c.in_ok-y.ensures.trimmed c.in_ok-y.ensures.exponents refl)

pub returns : goal.returns
returns c = c.in_ok-push-2.ensures.ok
    ∙ ap (λ (ms : List (List ℕ)). ms ++ c.in_ok-y.y ∷ [])
    (c.in_ok-push.ensures.ok ∙ ap (λ (ms : List (List ℕ)). ms ++ c.in_ok-x.x ∷ []) c.new-monomials.ensures
    ∙ ap (λ (m : List ℕ). m ∷ [])
    (power-from 0 c.in_ok-x.x (1 ∷ []) c.in_ok-x.ensures.trimmed c.in_ok-x.ensures.exponents refl))
    ∙ ap (λ (m : List ℕ). power 0 1 ∷ m ∷ [])
    (power-from 1 c.in_ok-y.y (0 ∷ 1 ∷ []) c.in_ok-y.ensures.trimmed c.in_ok-y.ensures.exponents refl)
