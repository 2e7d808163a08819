-- Generators by spans are one list.
use Rattle.std.proofs.Common.{◌≡◌, ◌∙◌, inl, inr, ℕ, zero, suc, List, [], ◌∷◌, ◌++◌, map, sym, ap, subst}
use Rattle.graded_polynomials.specs.Monomials.{IsMonomials}
use Rattle.graded_polynomials.proofs.MonomialLists.{monomials-unique}
use Rattle.graded_algebra.specs.Algebras.{Algebra, Generator, degrees, evaluate}
use Rattle.graded_algebra.specs.Presentations.{IsChosen, IsSpanGenerators, generators_of}

module _ (q : ℕ) {V : Type 0} (A : Algebra V) where
  chosen-unique : (us vs before cs ds : List V) → IsChosen q A us vs before cs → IsChosen q A us vs before ds
      → cs ≡ ds
  chosen-unique us [] before cs ds c d = c ∙ sym d
  chosen-unique us (v ∷ vs) before cs ds (inl c) (inl d) = chosen-unique us vs before cs ds c.1 d.1
  chosen-unique us (v ∷ vs) before cs ds (inl c) (inr d) = absurd (d.0 c.0)
  chosen-unique us (v ∷ vs) before cs ds (inr c) (inl d) = absurd (c.0 d.0)
  chosen-unique us (v ∷ vs) before cs ds (inr c) (inr d) = chosen-unique us vs
      (before ++ v ∷ []) cs ds c.1 d.1

  pub span-generators-unique : (basis : ℕ → List V) (n : ℕ) (gs hs : List (Generator V))
      → IsSpanGenerators q A basis n gs → IsSpanGenerators q A basis n hs → gs ≡ hs
  span-generators-unique basis zero gs hs g h = g ∙ sym h
  span-generators-unique basis (suc d) gs hs g h =
      let same = span-generators-unique basis d g.0 h.0 g.3 h.3 in
      let monomials = monomials-unique q (degrees h.0) (suc d) g.1 h.1
      (subst (λ b. IsMonomials q (degrees b) (suc d) g.1) same g.4) h.4 in
      let chosen = chosen-unique (map (evaluate A h.0) h.1) (basis (suc d)) [] g.2 h.2
      (subst (λ ms. IsChosen q A (map (evaluate A h.0) ms) (basis (suc d)) [] g.2) monomials
      (subst (λ b. IsChosen q A (map (evaluate A b) g.1) (basis (suc d)) [] g.2) same g.5)) h.5 in
      g.6 ∙ ap (λ b. b ++ generators_of q A (suc d) g.2) same
      ∙ ap (λ c. h.0 ++ generators_of q A (suc d) c) chosen ∙ sym h.6
