use Rattle.std.proofs.Common.{◌≡◌, ◌++◌, map, take}
use Rattle.graded_polynomials.specs.Texts.{factor_texts}
use Rattle.gc_poly.proofs.text.term_bytes.Given as goal

abbrev pub invariant-loop-i : goal.invariant-loop-i
invariant-loop-i l = map (λ p. p.items) l.pieces.items ≡ map
    (λ p. p.items) l.initial.pieces.items ++ factor_texts l.gens.degrees 0 (take l.i l.m)
