use Rattle.std.proofs.Common.{◌≡◌, ◌+◌, ◌≤◌, ◌<◌, ◌%◌, ℕ, get_or}
use Rattle.graded_polynomials.specs.Monomials.{exponent}
use Rattle.gc_poly.proofs.products.is_product.Given as goal

abbrev pub invariant-loop-i : goal.invariant-loop-i
invariant-loop-i l = (k : ℕ) → k < l.i → get_or l.gens.degrees k 0 % 2 ≡ 1
    → exponent l.a k + exponent l.b k ≤ 1
