-- The submodule that generators generate: it has them, sums and images, and spans of its members.
use Rattle.std.proofs.Common.{ℕ, zero, suc, ◌+◌, ◌*◌, ◌<◌, List, [], ◌∷◌, ◌++◌, length, arith}
use Rattle.linear_algebra.specs.Modular.{IsCongruent, sum_below}
use Rattle.linear_algebra.specs.Rows.{entry, row, combination, IsInSpan}
use Rattle.linear_algebra.proofs.Congruences.{congruent_refl, congruent_add, congruent_trans, congruent_eq}
use Rattle.linear_algebra.proofs.Congruences.{congruent_sym, congruent_cancel}
use Rattle.linear_algebra.proofs.Spans.{in_span_congruent, in_span_add, in_span_zero, in_span_trans}
use Rattle.linear_algebra.proofs.Spans.{in_span_pushed, are_in_span_push, are_in_span_trans}
use Rattle.neg_basis.specs.Maps.{IsClosed, IsInSubmodule}
use Rattle.linear_algebra.specs.Maps.{IsLinear}

pub linear_zero : {p : ℕ} {f : (ℕ → ℕ) → ℕ → ℕ} → IsLinear p f → (j : ℕ) → IsCongruent p (f (λ k. 0) j) 0
linear_zero {p} {f} L j =
    congruent_sym (congruent_cancel (f (λ k. 0) j) (congruent_trans (congruent_eq (omega arith))
    (congruent_trans (L.same (λ k. 0) (λ k. 0 + 1 * 0) (λ k. congruent_eq (omega arith)) j)
    (congruent_trans (L.add (λ k. 0) (λ k. 0) 1 j) (congruent_eq (omega arith))))))

-- a linear map of a combination
pub linear_sum : {p : ℕ} {f : (ℕ → ℕ) → ℕ → ℕ} → IsLinear p f → (n : ℕ) (u : ℕ → ℕ) (R : ℕ → ℕ → ℕ) (j : ℕ) →
    IsCongruent p (f (λ k. sum_below n (λ i. u i * R i k)) j) (sum_below n (λ i. u i * f (R i) j))
linear_sum L zero u R j = linear_zero L j
linear_sum {p} {f} L (suc n) u R j = congruent_trans (L.add (λ k. sum_below n (λ i. u i * R i k)) (R n) (u n)
    j)
    (congruent_add (linear_sum L n u R j) (congruent_refl (u n * f (R n) j)))

pub in_span_sum : {p : ℕ} {rows : List (List ℕ)} (n : ℕ) (u : ℕ → ℕ) (V : ℕ → ℕ → ℕ)
    → ((i : ℕ) → i < n → IsInSpan p rows (V i)) → IsInSpan p rows (λ j. sum_below n (λ i. u i * V i j))
in_span_sum zero u V h = in_span_zero
in_span_sum (suc n) u V h = in_span_add (u n) (in_span_sum n u V (λ i l. h i (omega arith)))
    (h n (omega arith))

-- a linear map that sends each row into the span sends the span there
pub image_in_span : {p : ℕ} {f : (ℕ → ℕ) → ℕ → ℕ} {rows vs : List (List ℕ)} {v : ℕ → ℕ} → IsLinear p f
    → ((i : ℕ) → i < length vs → IsInSpan p rows (f (entry (row vs i)))) →
    IsInSpan p vs v → IsInSpan p rows (f v)
image_in_span {p} {f} {rows} {vs} {v} L h s = in_span_congruent
    (λ j. congruent_trans (congruent_sym (linear_sum L (length vs) s.0 (λ i. entry (row vs i)) j))
    (L.same (combination s.0 vs) v s.1.each j))
    (in_span_sum (length vs) s.0 (λ i. f (entry (row vs i))) h)

pub closed : {p m : ℕ} {image : ℕ → (ℕ → ℕ) → ℕ → ℕ} (rows : List (List ℕ))
    → ((i : ℕ) → i < m → IsLinear p (image i)) →
    ((i t : ℕ) → i < m → t < length rows → IsInSpan p rows (image i (entry (row rows t))))
    → IsClosed p m image rows
closed rows L h = record { each = λ i l v s. image_in_span (L i l) (λ t b. h i t l b) s }

module _ {p m : ℕ} {image : ℕ → (ℕ → ℕ) → ℕ → ℕ} {gens : List (List ℕ)} where
  -- the span of members
  pub submodule_span : {vs : List (List ℕ)} {v : ℕ → ℕ} → ((t : ℕ) → t < length vs
      → IsInSubmodule p m image gens (entry (row vs t))) → IsInSpan p vs v → IsInSubmodule p m image gens v
  submodule_span h s = record { in_each = λ rows a c. in_span_trans (λ t l. (h t l).in_each rows a c) s }

  pub submodule_image : {v : ℕ → ℕ} (i : ℕ) → i < m → IsInSubmodule p m image gens v
      → IsInSubmodule p m image gens (image i v)
  submodule_image {v} i l h = record { in_each = λ rows a c. c.each i l v (h.in_each rows a c) }

pub submodule_more : {p m : ℕ} {image : ℕ → (ℕ → ℕ) → ℕ → ℕ} {gens : List (List ℕ)} (g : List ℕ) {v : ℕ → ℕ}
    → IsInSubmodule p m image gens v → IsInSubmodule p m image (gens ++ g ∷ []) v
submodule_more {gens = gens} g h =
    record { in_each = λ rows a c. h.in_each rows (are_in_span_trans gens a (are_in_span_push gens g)) c }

pub submodule_last : {p m : ℕ} {image : ℕ → (ℕ → ℕ) → ℕ → ℕ} (gens : List (List ℕ)) (g : List ℕ)
    → IsInSubmodule p m image (gens ++ g ∷ []) (entry g)
submodule_last gens g = record { in_each = λ rows a c. in_span_trans a (in_span_pushed gens g) }

-- for the law of a map that is 0 at a place
pub zero_is_linear : (p c : ℕ) → IsCongruent p 0 (0 + c * 0)
zero_is_linear p c = congruent_eq (omega arith)
