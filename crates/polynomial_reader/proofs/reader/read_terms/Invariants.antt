use Rattle.std.proofs.Common.{◌≡◌, ◌+◌, List, map, take}
use Rattle.std.specs.List.{AllByRecursion as Each}
use Rattle.polynomial_texts.specs.Grammar.{NamedTerm, IsTerm, term_bytes}
use Rattle.polynomial_texts.specs.Readings.{NamesTerms}
use Rattle.gc_poly.specs.Generators.{greatest}
use Rattle.polynomial_reader.specs.Reading.{spans}
use Rattle.polynomial_reader.proofs.reader.read_terms.Given as goal

abbrev pub invariant-loop-piece : goal.invariant-loop-piece
invariant-loop-piece l = record {
  place : l.at ≡ 1 + spans (take l.piece-index (map (λ p. p.now) l.pieces));
  named : (ts : List NamedTerm) → Each (IsTerm (greatest l.gens)) ts
      → map term_bytes ts ≡ map (λ p. p.now) l.pieces
      → NamesTerms l.gens.degrees (take l.piece-index ts) l.terms.items;
}
