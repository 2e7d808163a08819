use Rattle.std.proofs.Common.{◌≡◌, ◌+◌, List, map, take}
use Rattle.std.specs.List.{AllByRecursion as Each}
use Rattle.polynomial_texts.specs.Grammar.{NamedFactor, IsFactor, factor_text}
use Rattle.polynomial_texts.specs.Readings.{NamesEach}
use Rattle.polynomial_reader.specs.Reading.{spans}
use Rattle.polynomial_reader.proofs.reader.read_factors.Given as goal

abbrev pub invariant-loop-piece : goal.invariant-loop-piece
invariant-loop-piece l = record {
  place : l.at ≡ l.column + spans (take l.piece-index (map (λ p. p.now) l.pieces));
  named : (fs : List NamedFactor) → Each IsFactor fs → map factor_text fs ≡ map (λ p. p.now) l.pieces
      → NamesEach l.gens.degrees (take l.piece-index fs) l.factors.items;
}
