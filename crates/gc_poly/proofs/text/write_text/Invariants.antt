use Rattle.std.proofs.Common.{◌≡◌, map, take}
use Rattle.graded_polynomials.specs.Texts.{term_text}
use Rattle.gc_poly.proofs.text.write_text.Given as goal

abbrev pub invariant-loop-i : goal.invariant-loop-i
invariant-loop-i l = map (λ p. p.items) l.pieces.items ≡ map (term_text l.gens.degrees) (take l.i l.f.terms)
