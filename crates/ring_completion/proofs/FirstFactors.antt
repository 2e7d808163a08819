-- Monomials by their first factor: each that is not 1 has one, and the earlier generator gives the greater
-- product.
use Rattle.std.proofs.Common.{◌≡◌, ℕ, ◌<◌, ◌≤◌, List, arith, ap, ◌∙◌}
use Rattle.graded_polynomials.specs.Monomials.{IsMonomial, IsGreater, exponent, degree, joined}
use Rattle.graded_polynomials.specs.Texts.{power}
use Rattle.graded_polynomials.proofs.Exponents.{exponent-joined}
use Rattle.graded_algebra.proofs.Ideals.{degree-nil}
use Rattle.ring_completion.specs.Candidates.{IsQuotient}
use Rattle.ring_completion.specs.Completions.{IsClearBefore}
use Rattle.ring_completion.proofs.Factors.{first-factor, quotient-exists, clear-quotient, power-here}
use Rattle.ring_completion.proofs.Factors.{power-elsewhere}

pub earlier-is-greater : (i j : ℕ) (s t : List ℕ) → i < j → IsClearBefore i s → IsClearBefore j t
    → IsGreater (joined (power i 1) s) (joined (power j 1) t)
earlier-is-greater i j s t l c d = record {
  at = i;
  more = let a = exponent-joined (power i 1) s i in let b = power-here i 1 in let e =
      exponent-joined (power j 1) t i in
      let f = power-elsewhere j 1 i (λ z. omega (arith, z, l)) in let g = d i l in
      omega (arith, a, b, e, f, g);
  before = λ k b. let a = exponent-joined (power i 1) s k in let z =
      power-elsewhere i 1 k (λ e. omega (arith, e, b)) in let x = c k b in
      let e = exponent-joined (power j 1) t k in let f =
      power-elsewhere j 1 k (λ y. omega (arith, y, b, l)) in let g = d k (omega (arith, b, l)) in
      omega (arith, a, z, x, e, f, g);
}

pub by-first-factor : (q : ℕ) (ds : List ℕ) (d : ℕ) (m : List ℕ) → 0 < d → IsMonomial q ds d m
    → (i : ℕ) × (s : List ℕ) × IsQuotient q ds i (degree ds s) s m × IsClearBefore i s
by-first-factor q ds d m p M = (i.0, k.0, k.1, clear-quotient i.0 (power i.0 1) k.0 m k.1.product i.2)
  where
    i : (i : ℕ) × (1 ≤ exponent m i) × IsClearBefore i m
    i = first-factor m M.trimmed
        (λ e. absurd (let a : degree ds m ≡ 0 = ap (degree ds) e ∙ degree-nil ds in let b = M.degree_is in
        omega (arith, a, b, p)))

    k : (k : List ℕ) × IsQuotient q ds i.0 (degree ds k) k m
    k = quotient-exists q ds d i.0 m M i.1
