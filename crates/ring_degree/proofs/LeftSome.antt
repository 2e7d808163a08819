-- What is left of monomials of a degree at the places that are no pivots.
use Rattle.std.proofs.Common.{ℕ, List, sym, subst}
use Rattle.graded_polynomials.specs.Monomials.{IsMonomial}
use Rattle.ring_completion.specs.Candidates.{AreSome}
use Rattle.ring_completion.specs.Left.{without_pivots}
use Rattle.ring_completion.proofs.LeftLists.{stood, left-descend}

pub some-left : (q d : ℕ) (ds : List ℕ) (kernel ms : List (List ℕ)) → AreSome q ds d ms
    → AreSome q ds d (without_pivots kernel 0 ms)
some-left q d ds kernel ms S = record {
  each = λ i l. let s = stood kernel 0 ms i l in subst (IsMonomial q ds d) (sym s.2) (S.each s.0 s.1);
  descending = left-descend kernel 0 ms S.descending;
}
