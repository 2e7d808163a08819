-- Polynomials and relations of rows, one place or row after another.
use Rattle.std.proofs.Common.{◌≡◌, ℕ, zero, suc, ◌+◌, ◌<◌, ◌≤◌, Bool, true, false, cond, List, [], ◌∷◌, ◌++◌}
use Rattle.std.proofs.Common.{length, get_or, take, add-one, arith, ap, ap₂, sym, ◌∙◌, refl}
use Rattle.std.proofs.lemmas.List.{take_more, take_all}
use Rattle.linear_algebra.specs.Rows.{entry, row, IsRow}
use Rattle.linear_algebra.proofs.Congruences.{congruent_eq}
use Rattle.graded_polynomials.specs.Monomials.{same}
use Rattle.graded_polynomials.specs.Polynomials.{Polynomial, IsSame, coefficient}
use Rattle.graded_polynomials.proofs.Stored.{polynomial-unique}
use Rattle.graded_polynomials.proofs.Terms.{coefficient-append, same-refl}
use Rattle.gc_poly.specs.Generators.{Generators, greatest}
use Rattle.gc_poly.specs.Polynomials.{IsSumOf}
use Rattle.gc_poly.proofs.SumLemmas.{more-sum, same-sum}
use Rattle.presentation_rows.specs.Pivots.{new_relations}
use Rattle.presentation_rows.specs.RowPolynomials.{polynomial_of}
use Rattle.ring_completion.specs.Candidates.{AreSome}
use Rattle.ring_completion.proofs.ListRows.{polynomial-of-list}

nothing : (b : Bool) → 0 ≡ 0 + cond b 0 0
nothing true = refl
nothing false = refl

-- one more place of the row
coefficient-more : (ms : List (List ℕ)) (u : List ℕ) (i : ℕ) (n : List ℕ) → i < length ms → i < length u
    → coefficient (polynomial_of (take (suc i) ms) u) n ≡ coefficient (polynomial_of (take i ms) u) n + cond
    (same (get_or ms i []) n) (entry u i) 0
coefficient-more [] u i n l k = absurd (omega arith)
coefficient-more (m ∷ ms) [] i n l k = absurd (omega arith)
coefficient-more (m ∷ ms) (zero ∷ u) zero n l k = nothing (same m n)
coefficient-more (m ∷ ms) (suc c ∷ u) zero n l k = omega arith
coefficient-more (m ∷ ms) (zero ∷ u) (suc i) n l k = coefficient-more ms u i n (omega arith) (omega arith)
coefficient-more (m ∷ ms) (suc c ∷ u) (suc i) n l k = let e =
    coefficient-more ms u i n (omega arith) (omega arith) in omega (arith, e)

same-more : {q : ℕ} (ms : List (List ℕ)) (u : List ℕ) (i c : ℕ) (m : List ℕ) → i < length ms → i < length u
    → c ≡ entry u i → get_or ms i [] ≡ m
    → IsSame q (polynomial_of (take i ms) u ++ record { scalar = c; monomial = m } ∷ [])
    (polynomial_of (take (i + 1) ms) u)
same-more ms u i c m l k e f = record {
  at = λ n. congruent_eq (rw (add-one i) (
      coefficient-append (polynomial_of (take i ms) u) (record { scalar = c; monomial = m } ∷ []) n
      ∙ (let z = coefficient-more ms u i n l k in rw (z, e, f) (omega arith))
      ));
}

pub term-added : (g : Generators) (d i c : ℕ) (ms : List (List ℕ)) (u m : List ℕ) (f h : Polynomial)
    → i < length ms → i < length u
    → c ≡ entry u i → get_or ms i [] ≡ m
    → IsSumOf g d (polynomial_of (take i ms) u) f
    → IsSumOf g f.degree (f.terms ++ record { scalar = c; monomial = m } ∷ []) h
    → IsSumOf g d (polynomial_of (take (i + 1) ms) u) h
term-added g d i c ms u m f h l k e n F H =
    same-sum h (more-sum (record { scalar = c; monomial = m } ∷ []) f h F H F.degree_is (same-refl _))
    (same-more ms u i c m l k e n)

pub polynomial-is : (g : Generators) (d i : ℕ) (ms : List (List ℕ)) (u : List ℕ) (f : Polynomial)
    → AreSome (greatest g) g.degrees d ms
    → IsRow (suc (greatest g)) (length ms) u
    → length ms ≤ i → IsSumOf g d (polynomial_of (take i ms) u) f
    → f ≡ record { degree = d; terms = polynomial_of ms u }
polynomial-is g d i ms u f M R l F = ap₂ (λ e ts. record { degree = e; terms = ts }) F.degree_is
    (polynomial-unique (greatest g) g.degrees f.degree d f.terms (polynomial_of ms u) F.over
    (polynomial-of-list M u R)
    (rw (take_all i ms l) at F.same))

-- one more row of the kernel
relations-append : (d : ℕ) (ms K L : List (List ℕ))
    → new_relations d ms [] (K ++ L) ≡ new_relations d ms [] K ++ new_relations d ms [] L
relations-append d ms [] L = refl
relations-append d ms (u ∷ K) L =
    ap (λ (rs : List Polynomial). record { degree = d; terms = polynomial_of ms u } ∷ rs)
    (relations-append d ms K L)

pub relation-taken : (d : ℕ) (ms kernel : List (List ℕ)) (i : ℕ) (old new : List Polynomial) (f : Polynomial)
    → i < length kernel → f ≡ record { degree = d; terms = polynomial_of ms (row kernel i) }
    → old ≡ new_relations d ms [] (take i kernel) → new ≡ old ++ f ∷ []
    → new ≡ new_relations d ms [] (take (i + 1) kernel)
relation-taken d ms kernel i old new f l h o n = n ∙ rw (o, h)
    (sym (ap (new_relations d ms []) (take_more kernel i [] l)
    ∙ relations-append d ms (take i kernel) (row kernel i ∷ [])))
