use Rattle.std.proofs.Common.{arith, refl}
use Rattle.polynomial_texts.specs.Grammar.{IsFactor, factor_text}
use Rattle.polynomial_texts.specs.Readings.{Names}
use Rattle.polynomial_reader.proofs.ReaderLemmas.{place-step, place-room, zip-step, factor-fault, no_factor}
use Rattle.polynomial_reader.proofs.ReaderLemmas.{no_piece}
use Rattle.polynomial_reader.proofs.reader.read_factors.Goals as goal

pub returns-in-None : goal.returns-in-None
returns-in-None c fs h e =
    factor-fault c.args.gens.now.degrees c.args.pieces.now c.loop-piece.piece-index c.loop-piece.at
    c.args.column no_piece
    c.loop-piece.factors.items c.loop-piece-test.true c.loop-piece.invariant.place
    (λ f k t. c.in-None.ensures.none f k t refl) fs h e (c.loop-piece.invariant.named fs h e)

pub overflow_cast-at : goal.overflow_cast-at
overflow_cast-at c = omega (
  arith,
  place-room c.args.pieces.now c.loop-piece.piece-index no_piece c.loop-piece-test.true c.loop-piece.at
      c.args.column c.loop-piece.invariant.place,
)

pub overflow_add-at : goal.overflow_add-at
overflow_add-at c = omega (
  arith,
  place-room c.args.pieces.now c.loop-piece.piece-index no_piece c.loop-piece-test.true c.loop-piece.at
      c.args.column c.loop-piece.invariant.place,
)

pub overflow_add-at-in-loop-piece : goal.overflow_add-at-in-loop-piece
overflow_add-at-in-loop-piece c = omega (
  arith,
  place-room c.args.pieces.now c.loop-piece.piece-index no_piece c.loop-piece-test.true c.loop-piece.at
      c.args.column
      c.loop-piece.invariant.place,
)

pub loop-piece-preserved : goal.loop-piece-preserved
loop-piece-preserved c = record {
  place = place-step c.args.pieces.now c.loop-piece.piece-index no_piece c.loop-piece-test.true
      c.loop-piece.at c.args.column
      c.loop-piece.invariant.place;
  named = λ fs h e. zip-step c.args.pieces.now c.loop-piece.piece-index no_piece c.loop-piece-test.true
      factor_text IsFactor
      (Names c.args.gens.now.degrees) no_factor fs h e c.loop-piece.factors.items c.push.new.self.items
      c.in-Some.factor
      (c.loop-piece.invariant.named fs h e) c.in-Some.ensures.some c.in_ok-push-in-Some.ensures.items;
}
