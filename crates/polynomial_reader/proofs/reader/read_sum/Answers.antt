use Rattle.std.proofs.Common.{◌≡◌, ◌+◌, [], ◌∷◌, ◌++◌, length, eqb, arith, ap, sym, ◌∙◌}
use Rattle.std.specs.Prelude.{MatchResult}
use Rattle.std.specs.Cmp.Lexicographic.{same_text, other_text}
use Rattle.graded_polynomials.specs.Texts.{ReadTerm}
use Rattle.polynomial_texts.specs.Grammar.{placed_names}
use Rattle.polynomial_texts.specs.Readings.{NamesSum}
use Rattle.gc_poly.specs.Generators.{greatest}
use Rattle.polynomial_reader.specs.Reading.{spans, IsUnknownAt}
use Rattle.polynomial_reader.proofs.ReaderLemmas.{bytes_of, spans-split}
use Rattle.polynomial_reader.proofs.AnswerLemmas.{zero-named, one-named, sum-cases}
use Rattle.polynomial_reader.proofs.reader.read_sum.Goals as goal

pub returns-then-eq : goal.returns-then-eq
returns-then-eq c s h =
    zero-named (greatest c.args.gens.now) c.args.gens.now.degrees s c.args.text.now c.new-terms.result.items
    (omega (arith, c.requires.prime))
    (same_text c.args.text.now c.as_slice.result.now (sym c.if-eq.true ∙ c.eq.ensures)
    ∙ c.as_slice.ensures) c.new-terms.ensures.items h

pub returns-then-eq-2 : goal.returns-then-eq-2
returns-then-eq-2 c s h =
    one-named (greatest c.args.gens.now) c.args.gens.now.degrees s c.args.text.now c.push.new.self.items
    (omega (arith, c.requires.prime))
    (same_text c.args.text.now c.as_slice-2.result.now (sym c.if-eq-2.true ∙ c.eq-2.ensures)
    ∙ c.as_slice-2.ensures)
    (c.in_ok-push.ensures.items ∙ ap (λ ts. ts ++ c.new-then-eq-2.result ∷ []) c.new-terms.ensures.items
    ∙ ap (λ (t : ReadTerm). t ∷ []) c.new-then-eq-2.ensures
    ∙ (let make : _ → ReadTerm = λ xs. record {
      numeral = 1;
      factors = xs;
    } in ap (λ xs. make xs ∷ []) c.new.ensures.items)) h

pub read_terms-requires-clause-small : goal.read_terms-requires-clause-small
read_terms-requires-clause-small c =
    let s : spans (bytes_of c.deref-2.result.now) ≡ length c.args.text.now + 1 =
    ap (λ ps. spans (bytes_of ps)) c.deref-2.ensures.value ∙ ap spans c.in_ok-pieces.ensures
    ∙ spans-split (λ b. eqb b 43) c.args.text.now in
    omega (arith, s, c.requires.small)

pub returns : goal.returns
returns c s h =
    sum-cases (λ s. MatchResult c.read_terms.result (λ v. NamesSum c.args.gens.now.degrees s v.items)
    (IsUnknownAt c.args.gens.now.degrees (placed_names s)))
    (greatest c.args.gens.now) s c.args.text.now (bytes_of c.deref-2.result.now)
    (omega (arith, c.requires.prime))
    (λ e. other_text c.args.text.now c.as_slice.result.now (sym c.if-eq.false ∙ c.eq.ensures) (e
    ∙ sym c.as_slice.ensures))
    (λ e. other_text c.args.text.now c.as_slice-2.result.now (sym c.if-eq-2.false ∙ c.eq-2.ensures) (e
    ∙ sym c.as_slice-2.ensures))
    (ap bytes_of c.deref-2.ensures.value ∙ c.in_ok-pieces.ensures) c.read_terms.ensures h
