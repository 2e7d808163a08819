use Rattle.std.proofs.Common.{arith}
use Rattle.std.proofs.lemmas.Result.{err_from_is_err_and}
use Rattle.polynomial_texts.specs.Grammar.{IsTerm, term_bytes}
use Rattle.polynomial_texts.specs.Readings.{NamesTerm}
use Rattle.gc_poly.specs.Generators.{greatest}
use Rattle.polynomial_reader.proofs.ReaderLemmas.{place-step, place-room, zip-step, term-fault, no_term}
use Rattle.polynomial_reader.proofs.ReaderLemmas.{no_piece}
use Rattle.polynomial_reader.proofs.reader.read_terms.Goals as goal

pub read_term-requires-clause-small : goal.read_term-requires-clause-small
read_term-requires-clause-small c = omega (
  arith,
  place-room c.args.pieces.now c.loop-piece.piece-index no_piece c.loop-piece-test.true c.loop-piece.at 1
      c.loop-piece.invariant.place,
  c.requires.small,
)

pub returns-in_err-read_term : goal.returns-in_err-read_term
returns-in_err-read_term c ts h e =
    let p = err_from_is_err_and c.from_residual.result c.from_residual.ensures.1 in
    rw (p.1, p.2) (term-fault c.args.gens.now.degrees
    (greatest c.args.gens.now) c.args.pieces.now c.loop-piece.piece-index c.loop-piece.at
    1 no_piece c.loop-piece.terms.items c.in_err-read_term.field-0.0 c.loop-piece-test.true
    c.loop-piece.invariant.place
    c.in_err-read_term.ensures ts h e (c.loop-piece.invariant.named ts h e))

pub overflow_cast-at : goal.overflow_cast-at
overflow_cast-at c = omega (
  arith,
  place-room c.args.pieces.now c.loop-piece.piece-index no_piece c.loop-piece-test.true c.loop-piece.at 1
      c.loop-piece.invariant.place,
)

pub overflow_add-at : goal.overflow_add-at
overflow_add-at c = omega (
  arith,
  place-room c.args.pieces.now c.loop-piece.piece-index no_piece c.loop-piece-test.true c.loop-piece.at 1
      c.loop-piece.invariant.place,
)

pub overflow_add-at-in-loop-piece : goal.overflow_add-at-in-loop-piece
overflow_add-at-in-loop-piece c = omega (
  arith,
  place-room c.args.pieces.now c.loop-piece.piece-index no_piece c.loop-piece-test.true
      c.loop-piece.at 1 c.loop-piece.invariant.place,
)

pub loop-piece-preserved : goal.loop-piece-preserved
loop-piece-preserved c = record {
  place = place-step c.args.pieces.now c.loop-piece.piece-index no_piece c.loop-piece-test.true
      c.loop-piece.at 1 c.loop-piece.invariant.place;
  named = λ ts h e. zip-step c.args.pieces.now c.loop-piece.piece-index no_piece c.loop-piece-test.true
      term_bytes
      (IsTerm (greatest c.args.gens.now))
      (NamesTerm c.args.gens.now.degrees) no_term ts h e c.loop-piece.terms.items c.push.new.self.items
      c.in_ok-read_term.field-0
      (c.loop-piece.invariant.named ts h e) c.in_ok-read_term.ensures c.in_ok-push.ensures.items;
}
