use Rattle.std.proofs.Common.{◌≡◌, map, take}
use Rattle.graded_polynomials.specs.Texts.{joined_by}
use Rattle.gc_poly.proofs.text.join.Given as goal

abbrev pub invariant-loop-i : goal.invariant-loop-i
invariant-loop-i l = l.bytes.items ≡ joined_by l.separator (map (λ p. p.items) (take l.i l.pieces))
