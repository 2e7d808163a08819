use Rattle.std.proofs.Common.{ap, sym, ◌∙◌}
use Rattle.polynomial_texts.specs.Readings.{number}
use Rattle.polynomial_reader.proofs.Cutting.{cut-some, cut-none}
use Rattle.polynomial_reader.proofs.pieces.split_exponent.Goals as goal

pub returns-in-Some-clause-name : goal.returns-in-Some-clause-name
returns-in-Some-clause-name c f h k =
    (cut-some f c.args.piece.now c.in-Some.name.now c.in-Some.digits.now h k c.in-Some.ensures.0
    c.in-Some.ensures.1).name_is

pub returns-in-Some-clause-exponent : goal.returns-in-Some-clause-exponent
returns-in-Some-clause-exponent c f h k =
    let r = cut-some f c.args.piece.now c.in-Some.name.now c.in-Some.digits.now h k c.in-Some.ensures.0
    c.in-Some.ensures.1 in
    c.exponent.ensures r.exponent r.small r.digits ∙ ap number (sym r.exponent_is)

pub returns-in-None-clause-name : goal.returns-in-None-clause-name
returns-in-None-clause-name c f h k = (cut-none f c.args.piece.now h k c.in-None.ensures).0

pub returns-in-None-clause-exponent : goal.returns-in-None-clause-exponent
returns-in-None-clause-exponent c f h k =
    ap number (sym (cut-none f c.args.piece.now h k c.in-None.ensures).1)
