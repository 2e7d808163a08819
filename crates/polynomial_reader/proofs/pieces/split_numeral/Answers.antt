use Rattle.std.proofs.Common.{◌≡◌, ◌≤◌, length, get_or, true, arith, sym, ◌∙◌}
use Rattle.std.proofs.lemmas.Bool.{false≢true}
use Rattle.polynomial_texts.specs.Grammar.{is_digit}
use Rattle.polynomial_reader.proofs.Cutting.{numeral-some, numeral-none, rest-whole}
use Rattle.polynomial_reader.proofs.pieces.split_numeral.Goals as goal
use Rattle.polynomial_reader.proofs.pieces.split_numeral.Goals.{else-term-ge2-via-then-term-ge2+else-is_digit}
use Rattle.polynomial_reader.proofs.pieces.split_numeral.Goals.{else-term-ge2-via-else-term-ge2}

pub returns-then-is_digit-clause-numeral : goal.returns-then-is_digit-clause-numeral
returns-then-is_digit-clause-numeral c q t m h k =
    (numeral-some q t c.args.term.now c.digit.result m h k (sym c.is_digit.ensures
    ∙ c.if-is_digit.true) c.digit.ensures.value).0

pub returns-then-is_digit-clause-factors : goal.returns-then-is_digit-clause-factors
returns-then-is_digit-clause-factors c q t m h k = rest-whole c.args.term.now 2
    ∙ (numeral-some q t c.args.term.now c.digit.result m h k (sym c.is_digit.ensures
    ∙ c.if-is_digit.true) c.digit.ensures.value).1

no-digit : (c : goal.Joined-else-term-ge2) → 2 ≤ length c.args.term.now
    → is_digit (get_or c.args.term.now 0 0) ≡ true → ⊥
no-digit c l d =
    elim c.else-term-ge2.branch [
      | else-term-ge2-via-then-term-ge2+else-is_digit w ↦ false≢true (sym w.if-is_digit.false
          ∙ w.is_digit.ensures ∙ d)
      | else-term-ge2-via-else-term-ge2 w ↦ omega arith
    ]

pub returns-else-term-ge2-clause-numeral : goal.returns-else-term-ge2-clause-numeral
returns-else-term-ge2-clause-numeral c q t m h k = (numeral-none q t c.args.term.now m h k (no-digit c)).0

pub returns-else-term-ge2-clause-factors : goal.returns-else-term-ge2-clause-factors
returns-else-term-ge2-clause-factors c q t m h k = (numeral-none q t c.args.term.now m h k (no-digit c)).1
