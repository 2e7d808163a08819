use Rattle.std.proofs.Common.{◌≡◌, None, sym}
use Rattle.std.proofs.lemmas.Result.{err_from_is_err_and}
use Rattle.clap.specs.Values.{kind_of}
use Rattle.coho_words.specs.Words.{sample_number, texts}
use Rattle.coho_words.proofs.Commands.{number_found, number_none, operand_none, unread_words}
use Rattle.coho_words.proofs.words.sample_number.Goals as goal

pub returns-in_err-word-clause-refused : goal.returns-in_err-word-clause-refused
returns-in_err-word-clause-refused c =
    let words = texts c.args.words.now in
    let p = err_from_is_err_and c.from_residual.result c.from_residual.ensures.1 in
    let k = kind_of c.in_err-word.field-0.0 in
    rw (p.1, p.2) (unread_words (sample_number words ≡ None) k
    (operand_none words k c.in_err-word.ensures.refused))

pub returns-in-Some-clause-found : goal.returns-in-Some-clause-found
returns-in-Some-clause-found c = number_found
    (texts c.args.words.now) c.in_ok-word.word.now c.in-Some.k
    c.in_ok-word.ensures.found (sym c.in-Some.ensures.numeral)

pub returns-in-None-clause-refused : goal.returns-in-None-clause-refused
returns-in-None-clause-refused c =
    number_none
    (texts c.args.words.now) c.in_ok-word.word.now c.in_ok-word.ensures.found
    (sym c.in-None.ensures.numeral)
