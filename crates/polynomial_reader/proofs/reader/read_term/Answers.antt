use Rattle.std.proofs.Common.{◌≡◌, ◌+◌, ◌≤◌, length, eqb, arith, ap, subst, ◌∙◌}
use Rattle.std.proofs.lemmas.Result.{err_from_is_err_and}
use Rattle.polynomial_texts.specs.Grammar.{factor_names}
use Rattle.gc_poly.specs.Generators.{greatest}
use Rattle.polynomial_reader.specs.Reading.{spans, IsUnknownAt}
use Rattle.polynomial_reader.proofs.ReaderLemmas.{bytes_of, spans-split, term-split, numeral-room}
use Rattle.polynomial_reader.proofs.reader.read_term.Goals as goal

pub read_factors-requires-clause-small : goal.read_factors-requires-clause-small
read_factors-requires-clause-small c =
    let s : spans (bytes_of c.deref.result.now) ≡ length c.split_numeral-numeral.result.1.now + 1 =
    ap (λ ps. spans (bytes_of ps)) c.deref.ensures.value ∙ ap spans c.in_ok-pieces.ensures
    ∙ spans-split (λ b. eqb b 42) c.split_numeral-numeral.result.1.now in
    omega (arith, s, c.split_numeral-numeral.ensures.len, c.requires.small)

pub returns-in_err-factors : goal.returns-in_err-factors
returns-in_err-factors c t h k =
    let p = err_from_is_err_and c.from_residual-in_err-factors.result c.from_residual-in_err-factors.ensures.1
    in
    let q = greatest c.args.gens.now in
    let m : q ≤ 6 = omega (arith, c.requires.prime) in
    let r = c.split_numeral-numeral.ensures.factors q t m h k in
    rw (p.1, p.2) (subst (λ n. IsUnknownAt c.args.gens.now.degrees
    (factor_names (c.args.column + n) t.factors) c.in_err-factors.field-0.0)
    (numeral-room t c.args.piece.now c.split_numeral-numeral.result.1.now h.some k r)
    (c.in_err-factors.ensures t.factors h.each
    (term-split q t c.split_numeral-numeral.result.1.now (bytes_of c.deref.result.now) h r
    (ap bytes_of c.deref.ensures.value ∙ c.in_ok-pieces.ensures))))

pub returns : goal.returns
returns c t h k =
    let q = greatest c.args.gens.now in
    let m : q ≤ 6 = omega (arith, c.requires.prime) in
    let r = c.split_numeral-numeral.ensures.factors q t m h k in
    rw c.new.ensures record {
      numeral_is = c.split_numeral-numeral.ensures.numeral q t m h k;
      factors = c.in_ok-factors.ensures t.factors h.each
          (term-split q t c.split_numeral-numeral.result.1.now (bytes_of c.deref.result.now) h r
          (ap bytes_of c.deref.ensures.value ∙ c.in_ok-pieces.ensures));
    }
