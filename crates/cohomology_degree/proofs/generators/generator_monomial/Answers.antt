use Rattle.std.proofs.Common.{◌++◌, [], ◌∷◌, ap, ◌∙◌}
use Rattle.cohomology_degree.proofs.Monomials.{power-is}
use Rattle.cohomology_degree.proofs.generators.generator_monomial.Goals as goal

pub returns : goal.returns
returns c =
    power-is c.in_ok-monomial.monomial c.deref.result.now c.args.i c.in_ok-monomial.ensures.trimmed
    (c.deref.ensures.value ∙ c.in_ok-push.ensures.items
    ∙ ap (λ xs. xs ++ 1 ∷ []) c.in_ok-exponents.ensures) c.in_ok-monomial.ensures.exponents
