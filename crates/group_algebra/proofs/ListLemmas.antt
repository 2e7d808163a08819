-- Lists that a loop makes one member at a time.
use Rattle.std.proofs.Common.{◌≡◌, ℕ, ◌+◌, ◌<◌, List, [], ◌∷◌, ◌++◌, length, map, take}
use Rattle.std.proofs.Common.{ap, sym, ◌∙◌, arith, append_assoc, below_more}
use Rattle.std.proofs.lemmas.List.{take_more, map-append, get_or_push}
use mathlib.Core.Path.{subst}
use Rattle.linear_algebra.specs.Rows.{row}
use Rattle.linear_algebra.proofs.Spans.{row_before_push}

-- the images of the first rows, after some others
pub pushed-image : (before : List (List ℕ)) (f : List ℕ → List ℕ) (rows : List (List ℕ)) (i : ℕ) (x : List ℕ)
    → i < length rows → x ≡ f (row rows i)
    → (before ++ map f (take i rows)) ++ x ∷ [] ≡ before ++ map f (take (i + 1) rows)
pushed-image before f rows i x l e =
    append_assoc before (map f (take i rows)) (x ∷ [])
    ∙ ap (λ ys. before ++ ys) (ap (λ y. map f (take i rows) ++ y ∷ []) e
    ∙ sym (map-append f (take i rows) (row rows i ∷ [])) ∙ ap (map f) (sym (take_more rows i [] l)))

-- one more row with a property each
pub rows-pushed : (P : ℕ → List ℕ → Type 0) (rows : List (List ℕ)) (i : ℕ) (x : List ℕ) → length rows ≡ i
    → P i x → ((k : ℕ) → k < i → P k (row rows k))
    → (k : ℕ) → k < i + 1 → P k (row (rows ++ x ∷ []) k)
rows-pushed P rows i x len p h = below_more _ i
    (λ k l. subst (P k) (sym (row_before_push rows x k
    (let z : k < length rows = omega (arith, len, l) in z))) (h k l))
    (subst (P i) (sym (get_or_push rows x [] i len)) p)
