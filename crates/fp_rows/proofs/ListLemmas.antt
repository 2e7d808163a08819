-- Lists of rows as lists of lists, and the pivots kept beside them.
use Rattle.std.proofs.Common.{reverse, ◌++◌, suc, ◌≡◌, ℕ, ◌-◌, ◌<◌, List, [], ◌∷◌, length, map, take, drop}
use Rattle.std.proofs.Common.{set, get_or, arith, ap, sym, ◌∙◌, refl}
use Rattle.std.proofs.lemmas.List.{reverse-append, get_or-map, length-map, map-set, map-append, take-map}
use Rattle.std.proofs.lemmas.List.{drop-map, length-drop}
use Rattle.std.proofs.Math.Seq.{take-length}
use Rattle.std.specs.Prelude.{insert}
use Rattle.linear_algebra.specs.Rows.{entry, row, pivot, IsRow}
use Rattle.std.proofs.lemmas.List.Elements.{All-get_or, All-append, All-take, All-drop, All-cons, All-nil}
use Rattle.fp_rows.specs.Lists.{lists, AreOver}
use Rattle.fp_rows.specs.Values.{RowValue}

-- the row that stands at i in a list of rows
pub row_lists : (vs : List RowValue) (i : ℕ) (x : RowValue) → i < length vs → x ≡ get_or vs i x
    → row (lists vs) i ≡ x.entries
row_lists vs i x l e = get_or-map (λ v. v.entries) vs i x [] l ∙ ap (λ v. v.entries) (sym e)

pub length-lists : (vs : List RowValue) → length (lists vs) ≡ length vs
length-lists vs = length-map vs (λ v. v.entries)

-- the pivot that is kept beside row i
pub kept_pivot : (E : List (List ℕ)) (pivots : List ℕ) (i : ℕ) → pivots ≡ map pivot E → i < length E
    → get_or pivots i 0 ≡ pivot (row E i)
kept_pivot E pivots i e l = ap (λ ps. get_or ps i 0) e ∙ get_or-map pivot E i [] 0 l

pub lists-set : (vs : List RowValue) (i : ℕ) (x : RowValue) → lists (set vs i x) ≡ set (lists vs) i x.entries
lists-set vs i x = map-set (λ v. v.entries) vs i x

pub lists-insert : (vs : List RowValue) (i : ℕ) (x : RowValue)
    → lists (insert vs i x) ≡ insert (lists vs) i x.entries
lists-insert vs i x = rw (
  map-append (λ v. v.entries) (take i vs) (x ∷ drop i vs),
  take-map (λ v. v.entries) i vs,
  drop-map (λ v. v.entries) i vs,
) refl

-- the prime of the row that stands at i
pub over_at : (p : ℕ) (vs : List RowValue) (i : ℕ) (x : RowValue) → i < length vs → x ≡ get_or vs i x
    → AreOver p vs → x.p ≡ p
over_at p vs i x l e h = ap (λ v. v.p) e ∙ All-get_or (λ r. r.p ≡ p) vs i x l h

pub over-insert : (p : ℕ) (vs : List RowValue) (i : ℕ) (x : RowValue) → AreOver p vs → x.p ≡ p
    → AreOver p (insert vs i x)
over-insert p vs i x h e = All-append (λ r. r.p ≡ p) (take i vs) (x ∷ drop i vs)
    (All-take (λ r. r.p ≡ p) i vs h) (All-cons (λ r. r.p ≡ p) x (drop i vs) e
    (All-drop (λ r. r.p ≡ p) i vs h))

pub row_below : {p width : ℕ} {r : List ℕ} → IsRow p width r → (j : ℕ) → j < length r → entry r j < p
row_below h j l = h.below j (omega (arith, h.length_is))

-- a row at its own length
pub row_at_length : {p width : ℕ} {r : List ℕ} → IsRow p width r → IsRow p (length r) r
row_at_length h = rw h.length_is h

-- the rest of a list from a place on, as a slice has it
pub take-rest : {X : Type 0} (n : ℕ) (xs : List X) → take (length xs - n) (drop n xs) ≡ drop n xs
take-rest n xs = ap (λ k. take k (drop n xs)) (sym (length-drop n xs)) ∙ take-length (drop n xs)

pub lists-drop : (n : ℕ) (vs : List RowValue) → lists (drop n vs) ≡ drop n (lists vs)
lists-drop n vs = sym (drop-map (λ v. v.entries) n vs)

pub lists-reverse : (vs : List RowValue) → lists (reverse vs) ≡ reverse (lists vs)
lists-reverse [] = refl
lists-reverse (x ∷ xs) = ap lists (reverse-append (x ∷ []) xs)
    ∙ map-append (λ v. v.entries) (reverse xs) (x ∷ [])
    ∙ ap (λ (ys : List (List ℕ)). ys ++ x.entries ∷ []) (lists-reverse xs)
    ∙ sym (reverse-append (x.entries ∷ []) (lists xs))

pub over-reverse : (p : ℕ) (vs : List RowValue) → AreOver p vs → AreOver p (reverse vs)
over-reverse p [] h = h
over-reverse p (x ∷ xs) h = rw (reverse-append (x ∷ []) xs)
    (All-append (λ r. r.p ≡ p) (reverse xs) (x ∷ []) (over-reverse p xs (λ k d l. h (suc k) d (omega arith)))
    (All-cons (λ r. r.p ≡ p) x [] (h 0 x (omega arith)) (All-nil (λ r. r.p ≡ p))))
