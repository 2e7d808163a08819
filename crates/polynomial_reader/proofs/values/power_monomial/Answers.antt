use Rattle.std.proofs.Common.{◌++◌, ◌∷◌, [], ap, ◌∙◌}
use Rattle.polynomial_reader.proofs.ValueLemmas.{power-made}
use Rattle.polynomial_reader.proofs.values.power_monomial.Goals as goal

pub returns : goal.returns
returns c =
    power-made c.of.result c.deref.result.now c.args.i c.args.exponent c.requires
    (c.deref.ensures.value ∙ c.in_ok-push.ensures.items
    ∙ ap (λ xs. xs ++ c.args.exponent ∷ []) (c.in_ok-exponents.ensures.items_if_clones_equal (λ y e. e)))
    c.of.ensures.trimmed c.of.ensures.exponents
