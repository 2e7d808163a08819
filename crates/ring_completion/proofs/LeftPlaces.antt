-- The members of a list at the places that are no pivots, one place after another.
use Rattle.std.proofs.Common.{◌≡◌, ℕ, zero, suc, ◌+◌, ◌<◌, Bool, true, false, cond, List, [], ◌∷◌, ◌++◌}
use Rattle.std.proofs.Common.{length, get_or, take, add-one, arith, ap, sym, ◌∙◌, refl}
use Rattle.std.specs.Prelude.{All, AllPairs}
use Rattle.std.specs.List.{AllByRecursion as Each}
use Rattle.std.proofs.lemmas.List.{get_or-take, length-take}
use Rattle.std.proofs.lemmas.List.Elements.{All-from_recursion, All-from_get_or, recursion_from_All}
use Rattle.graded_polynomials.specs.Monomials.{IsGreater}
use Rattle.linear_algebra.specs.Rows.{is_pivot}
use Rattle.ring_completion.specs.Left.{without_pivots}

cond-cons : {A : Type 0} (b : Bool) (x : A) (xs ys : List A) (c : Bool)
    → cond b (cond c xs ys) (x ∷ cond c xs ys) ≡ cond c (cond b xs (x ∷ xs)) (cond b ys (x ∷ ys))
cond-cons true x xs ys true = refl
cond-cons true x xs ys false = refl
cond-cons false x xs ys true = refl
cond-cons false x xs ys false = refl

cond-append : {A : Type 0} (b : Bool) (x : A) (xs ys : List A)
    → cond b (xs ++ ys) (x ∷ (xs ++ ys)) ≡ cond b xs (x ∷ xs) ++ ys
cond-append true x xs ys = refl
cond-append false x xs ys = refl

more : {A : Type 0} (rows : List (List ℕ)) (xs : List A) (k i : ℕ) (d : A) → i < length xs
    → without_pivots rows k (take (suc i) xs)
    ≡ cond (is_pivot rows (k + i)) (without_pivots rows k (take i xs))
    (without_pivots rows k (take i xs) ++ get_or xs i d ∷ [])
more rows [] k i d l = absurd (omega arith)
more rows (x ∷ xs) k zero d l = ap (λ n. cond (is_pivot rows n) [] (x ∷ []))
    (let e : k ≡ k + 0 = omega arith in e)
more rows (x ∷ xs) k (suc i) d l =
    ap (λ ys. cond (is_pivot rows k) ys (x ∷ ys)) (more rows xs (suc k) i d (omega arith)
    ∙ ap (λ n. cond (is_pivot rows n) (without_pivots rows (suc k) (take i xs))
    (without_pivots rows (suc k) (take i xs) ++ get_or xs i d ∷ []))
    (let e : suc k + i ≡ k + suc i = omega arith in e))
    ∙ cond-cons (is_pivot rows k) x (without_pivots rows (suc k) (take i xs))
    (without_pivots rows (suc k) (take i xs) ++ get_or xs i d ∷ [])
    (is_pivot rows (k + suc i))
    ∙ ap (λ ys. cond (is_pivot rows (k + suc i)) (without_pivots rows k (x ∷ take i xs)) ys)
    (cond-append (is_pivot rows k) x (without_pivots rows (suc k) (take i xs)) (get_or xs i d ∷ []))

pub left-out : {A : Type 0} (rows : List (List ℕ)) (xs : List A) (i : ℕ) (d : A) → i < length xs
    → is_pivot rows i ≡ true → without_pivots rows 0 (take (i + 1) xs) ≡ without_pivots rows 0 (take i xs)
left-out rows xs i d l e = rw add-one (more rows xs 0 i d l
    ∙ ap (λ b. cond b (without_pivots rows 0 (take i xs))
    (without_pivots rows 0 (take i xs) ++ get_or xs i d ∷ []))
    (ap (is_pivot rows) (let z : 0 + i ≡ i = omega arith in z) ∙ e))

pub taken : {A : Type 0} (rows : List (List ℕ)) (xs : List A) (i : ℕ) (d : A) → i < length xs
    → is_pivot rows i ≡ false
    → without_pivots rows 0 (take (i + 1) xs) ≡ without_pivots rows 0 (take i xs) ++ get_or xs i d ∷ []
taken rows xs i d l e = rw add-one (more rows xs 0 i d l
    ∙ ap (λ b. cond b (without_pivots rows 0 (take i xs))
    (without_pivots rows 0 (take i xs) ++ get_or xs i d ∷ []))
    (ap (is_pivot rows) (let z : 0 + i ≡ i = omega arith in z) ∙ e))

cond-length : {A B : Type 0} (b : Bool) (x : A) (xs : List A) (y : B) (ys : List B) → length xs ≡ length ys
    → length (cond b xs (x ∷ xs)) ≡ length (cond b ys (y ∷ ys))
cond-length true x xs y ys e = e
cond-length false x xs y ys e = omega (arith, e)

-- as many are left of two lists of the same length
pub as-many : {A B : Type 0} (rows : List (List ℕ)) (k : ℕ) (xs : List A) (ys : List B)
    → length xs ≡ length ys → length (without_pivots rows k xs) ≡ length (without_pivots rows k ys)
as-many rows k [] [] e = refl
as-many rows k [] (y ∷ ys) e = absurd (omega (arith, e))
as-many rows k (x ∷ xs) [] e = absurd (omega (arith, e))
as-many rows k (x ∷ xs) (y ∷ ys) e = cond-length (is_pivot rows k) x (without_pivots rows (suc k) xs) y
    (without_pivots rows (suc k) ys) (as-many rows (suc k) xs ys (omega (arith, e)))

each-left : (P : List ℕ → Type 0) (rows : List (List ℕ)) (k : ℕ) (xs : List (List ℕ)) → Each P xs
    → Each P (without_pivots rows k xs)
each-left P rows k [] h = tt
each-left P rows k (x ∷ xs) h = go (is_pivot rows k) (each-left P rows (suc k) xs h.1)
  where
    go : (b : Bool) → Each P (without_pivots rows (suc k) xs)
        → Each P (cond b (without_pivots rows (suc k) xs) (x ∷ without_pivots rows (suc k) xs))
    go true r = r
    go false r = (h.0, r)

-- those left of the first i are greater than the next
pub left-are-greater : (rows ms : List (List ℕ)) (i : ℕ) (m : List ℕ) → AllPairs (λ m n. IsGreater m n) ms
    → i < length ms → get_or ms i [] ≡ m
    → All (λ n. IsGreater n m) (without_pivots rows 0 (take i ms))
left-are-greater rows ms i m h l e = All-from_recursion (λ (n : List ℕ). IsGreater n m)
    (without_pivots rows 0 (take i ms))
    (each-left (λ n. IsGreater n m) rows 0 (take i ms)
    (recursion_from_All (λ (n : List ℕ). IsGreater n m) (take i ms) before))
  where
    before : All (λ (n : List ℕ). IsGreater n m) (take i ms)
    before = All-from_get_or (λ (n : List ℕ). IsGreater n m) (take i ms) []
        (λ k b. let a : k < i = omega (
          arith,
          b,
          length-take i ms,
        ) in rw (get_or-take i ms k [] a) (rw e at (h k i [] a l)))

-- one more monomial is taken
pub monomial-taken : (rows ms old new : List (List ℕ)) (i : ℕ) (m : List ℕ) → i < length ms
    → is_pivot rows i ≡ false → m ≡ get_or ms i []
    → old ≡ without_pivots rows 0 (take i ms) → new ≡ old ++ m ∷ []
    → new ≡ without_pivots rows 0 (take (i + 1) ms)
monomial-taken rows ms old new i m l p e f h = h ∙ rw (e, f) (sym (taken rows ms i [] l p))
