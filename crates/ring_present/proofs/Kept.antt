-- Relations of a ring as stored polynomials.
use Rattle.std.proofs.Common.{ℕ, zero, suc, ◌<◌, ◌≤◌, inl, inr, List, [], ◌∷◌, length, arith, sym, refl}
use Rattle.std.specs.Prelude.{slice_index_or, All}
use Rattle.std.proofs.lemmas.List.Elements.{All-append}
use mathlib.Core.Path.{subst}
use Rattle.graded_polynomials.specs.Polynomials.{Polynomial, IsPolynomial, IsOneOf}
use Rattle.graded_algebra.specs.Algebras.{Algebra, Generator, degrees}
use Rattle.graded_algebra.specs.Presentations.{IsRelations}
use Rattle.graded_algebra.proofs.Relations.{placed}

-- a stored polynomial of degree 1 to n
pub record IsStoredTo (q : ℕ) (ds : List ℕ) (n : ℕ) (r : Polynomial) : Type 0 where
  pub over : IsPolynomial q ds r.degree r.terms
  pub low : 1 ≤ r.degree
  pub high : r.degree ≤ n

is-one-of : (rs : List Polynomial) (k : ℕ) (d : Polynomial) → k < length rs
    → IsOneOf (slice_index_or rs k d) rs
is-one-of [] k d l = absurd (omega (arith, l))
is-one-of (r ∷ rs) zero d l = inl refl
is-one-of (r ∷ rs) (suc k) d l = inr (is-one-of rs k d (omega (arith, l)))

pub relations-stored : (q : ℕ) (V : Type 0) (A : Algebra V) (gs : List (Generator V)) (n : ℕ)
    (rs : List Polynomial) → IsRelations q A gs n rs → All (IsStoredTo q (degrees gs) n) rs
relations-stored q V A gs zero rs h = subst (All (IsStoredTo q (degrees gs) 0)) (sym h)
    (λ k d l. absurd (omega (arith, l)))
relations-stored q V A gs (suc n) rs h = subst (All (IsStoredTo q (degrees gs) (suc n))) (sym h.6)
    (All-append (IsStoredTo q (degrees gs) (suc n)) h.0 h.1
    (λ k d l. let s = relations-stored q V A gs n h.0 h.3 k d l in record {
      over = s.over;
      low = s.low;
      high = (let z = s.high in omega (arith, z));
    })
    (λ k d l. new (slice_index_or h.1 k d) (is-one-of h.1 k d l)))
  where
    new : (r : Polynomial) → IsOneOf r h.1 → IsStoredTo q (degrees gs) (suc n) r
    new r o = let p = (placed q V A gs h.0 (suc n) h.2 h.1 h.5 r o).4 in record {
      over = subst (λ d. IsPolynomial q (degrees gs) d r.terms) (sym p.degree_is) p.polynomial;
      low = (let e = p.degree_is in omega (arith, e));
      high = (let e = p.degree_is in omega (arith, e));
    }
