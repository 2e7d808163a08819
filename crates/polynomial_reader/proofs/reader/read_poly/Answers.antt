use Rattle.std.proofs.Common.{◌-◌, List, map, arith, ap, subst, sym, refl, ◌∙◌}
use Rattle.std.proofs.lemmas.Result.{err_from_is_err_and}
use Rattle.graded_polynomials.specs.Texts.{ReadTerm, read_value}
use Rattle.polynomial_texts.specs.Grammar.{Sum, IsTextOf}
use Rattle.polynomial_texts.specs.Readings.{term_degree}
use Rattle.gc_poly.specs.Generators.{greatest}
use Rattle.gc_poly.specs.Polynomials.{IsSumOf}
use Rattle.polynomial_reader.specs.Reading.{AreTermsOf, IsDegreeFault}
use Rattle.polynomial_reader.proofs.AnswerLemmas.{sum-terms, degree-fault, degrees-of, reading}
use Rattle.polynomial_reader.proofs.reader.read_poly.Goals as goal

pub term_degrees-requires : goal.term_degrees-requires
term_degrees-requires c =
    let s = subst (λ p. (s : Sum) × IsTextOf (p - 1) s c.args.text.now) c.modulus.ensures.value
    (c.in_default.ensures.none refl) in
    subst (AreTermsOf c.args.gens.now) (sym c.deref.ensures.value)
    (sum-terms c.args.gens.now (omega (
      arith,
      c.modulus.ensures.value,
      c.modulus.ensures.low,
    )) s.0 c.args.text.now c.in_ok-terms.terms.items
    c.requires s.1 (c.in_ok-terms.ensures s.0 s.1))

pub returns-in_err-degree : goal.returns-in_err-degree
returns-in_err-degree c =
    let s = subst (λ p. (s : Sum) × IsTextOf (p - 1) s c.args.text.now) c.modulus.ensures.value
    (c.in_default.ensures.none refl) in
    let p = err_from_is_err_and c.from_residual-in_err-degree.result c.from_residual-in_err-degree.ensures.1
    in
    rw (p.1, p.2) (degree-fault c.args.gens.now c.args.text.now s.0 c.in_ok-terms.terms.items
    c.in_err-degree.field-0.0 s.1
    (c.in_ok-terms.ensures s.0 s.1)
    (subst (λ ds. IsDegreeFault ds c.in_err-degree.field-0.0)
    (c.deref-2.ensures.value ∙ c.in_ok-term_degrees.ensures
    ∙ ap (map (term_degree c.args.gens.now.degrees)) c.deref.ensures.value)
    c.in_err-degree.ensures))

pub value-requires-clause-terms : goal.value-requires-clause-terms
value-requires-clause-terms c =
    let s = subst (λ p. (s : Sum) × IsTextOf (p - 1) s c.args.text.now) c.modulus.ensures.value
    (c.in_default.ensures.none refl) in
    subst (AreTermsOf c.args.gens.now) (sym c.deref-3.ensures.value)
    (sum-terms c.args.gens.now (omega (
      arith,
      c.modulus.ensures.value,
      c.modulus.ensures.low,
    )) s.0 c.args.text.now c.in_ok-terms.terms.items
    c.requires s.1 (c.in_ok-terms.ensures s.0 s.1))

pub value-requires-clause-degrees : goal.value-requires-clause-degrees
value-requires-clause-degrees c =
    degrees-of c.args.gens.now.degrees c.deref-3.result.now c.deref-2.result.now c.in_ok-degree.degree
    (c.deref-2.ensures.value ∙ c.in_ok-term_degrees.ensures
    ∙ ap (map (term_degree c.args.gens.now.degrees)) (c.deref.ensures.value
    ∙ sym c.deref-3.ensures.value)) c.in_ok-degree.ensures.each

pub returns : goal.returns
returns c =
    let s = subst (λ p. (s : Sum) × IsTextOf (p - 1) s c.args.text.now) c.modulus.ensures.value
    (c.in_default.ensures.none refl) in
    reading c.args.gens.now c.args.text.now s.0 c.in_ok-terms.terms.items c.deref-2.result.now
    c.in_ok-degree.degree c.in_ok-value.field-0
    s.1 (c.in_ok-terms.ensures s.0 s.1)
    (c.deref-2.ensures.value ∙ c.in_ok-term_degrees.ensures
    ∙ ap (map (term_degree c.args.gens.now.degrees)) c.deref.ensures.value)
    c.in_ok-degree.ensures
    (subst (λ (ts : List ReadTerm). IsSumOf c.args.gens.now c.in_ok-degree.degree
    (read_value (greatest c.args.gens.now) c.args.gens.now.degrees ts) c.in_ok-value.field-0)
    c.deref-3.ensures.value c.in_ok-value.ensures)
