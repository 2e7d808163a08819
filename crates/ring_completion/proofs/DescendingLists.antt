-- Members of descending lists of monomials by their places.
use Rattle.std.proofs.Common.{ℕ, zero, suc, ◌<◌, List, [], ◌∷◌, length, inl, inr, arith, sym}
use Rattle.std.specs.Prelude.{slice_index_or}
use Rattle.std.specs.List.{AllByRecursion as Each}
use Rattle.graded_polynomials.specs.Monomials.{IsGreater}
use Rattle.graded_polynomials.specs.Polynomials.{IsOneOf}
use Rattle.graded_polynomials.proofs.Ordered.{Ordered}
use Rattle.ring_completion.specs.Candidates.{IsListed}

pub each-at : (P : List ℕ → Type 0) (ms : List (List ℕ)) → Each P ms → (i : ℕ) → i < length ms
    → P (slice_index_or ms i [])
each-at P [] h i l = absurd (omega (arith, l))
each-at P (m ∷ ms) h zero l = h.0
each-at P (m ∷ ms) h (suc i) l = each-at P ms h.1 i (omega arith)

pub ordered-at : (ms : List (List ℕ)) → Ordered ms → (i j : ℕ) → i < j → j < length ms
    → IsGreater (slice_index_or ms i []) (slice_index_or ms j [])
ordered-at [] h i j b l = absurd (omega (arith, l))
ordered-at (m ∷ ms) h i zero b l = absurd (omega (arith, b))
ordered-at (m ∷ ms) h zero (suc j) b l = each-at (IsGreater m) ms h.0 j (omega arith)
ordered-at (m ∷ ms) h (suc i) (suc j) b l = ordered-at ms h.1 i j (omega arith) (omega arith)

pub listed-at : (m : List ℕ) (ms : List (List ℕ)) → IsOneOf m ms → IsListed ms m
listed-at m [] o = absurd o
listed-at m (n ∷ ms) (inl e) = (0, omega arith, sym e)
listed-at m (n ∷ ms) (inr o) = let r = listed-at m ms o in (suc r.0, omega (arith, r.1), r.2)

pub each-other : (P Q : List ℕ → Type 0) → ((m : List ℕ) → P m → Q m) → (ms : List (List ℕ)) → Each P ms
    → Each Q ms
each-other P Q h [] a = tt
each-other P Q h (m ∷ ms) a = (h m a.0, each-other P Q h ms a.1)
