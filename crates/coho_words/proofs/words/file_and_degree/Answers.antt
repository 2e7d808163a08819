use Rattle.std.proofs.Common.{◌≡◌, None, sym}
use Rattle.std.proofs.lemmas.Result.{err_from_is_err_and}
use Rattle.clap.specs.Values.{kind_of}
use Rattle.coho_words.specs.Words.{file_and_degree, texts}
use Rattle.coho_words.proofs.Commands.{degree_found, degree_none, operands_none, unread_words}
use Rattle.coho_words.proofs.words.file_and_degree.Goals as goal

pub returns-in_err-path-clause-refused : goal.returns-in_err-path-clause-refused
returns-in_err-path-clause-refused c =
    let words = texts c.args.words.now in
    let p = err_from_is_err_and c.from_residual.result c.from_residual.ensures.1 in
    let k = kind_of c.in_err-path.field-0.0 in
    rw (p.1, p.2) (unread_words (file_and_degree words ≡ None) k
    (operands_none words k c.in_err-path.ensures.refused))

pub returns-in-Some-clause-found : goal.returns-in-Some-clause-found
returns-in-Some-clause-found c = degree_found
    (texts c.args.words.now) c.in_ok-path.path.now c.in_ok-path.degree.now c.in-Some.degree
    c.in_ok-path.ensures.found (sym c.in-Some.ensures.numeral)

pub returns-in-None-clause-refused : goal.returns-in-None-clause-refused
returns-in-None-clause-refused c =
    degree_none
    (texts c.args.words.now) c.in_ok-path.path.now c.in_ok-path.degree.now c.in_ok-path.ensures.found
    (sym c.in-None.ensures.numeral)
