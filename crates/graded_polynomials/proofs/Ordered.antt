-- Descending lists of monomials, by recursion.
use Rattle.std.proofs.Common.{◌≡◌, ℕ, zero, suc, ◌<◌, List, [], ◌∷◌, ◌++◌, map, length, arith, ap, refl}
use Rattle.std.specs.Prelude.{slice_index_or, AllPairs}
use Rattle.std.specs.List.{AllByRecursion as Each}
use Rattle.std.proofs.lemmas.List.Elements.{All-from_recursion}
use Rattle.graded_polynomials.specs.Monomials.{IsGreater, exponent}
use Rattle.graded_polynomials.proofs.Terms.{each-append}

abbrev pub Ordered : List (List ℕ) → Type 0
Ordered [] = Unit {0}
Ordered (m ∷ ms) = Each (λ n. IsGreater m n) ms × Ordered ms

pub ordered-append : (ms ns : List (List ℕ)) → Ordered ms → Ordered ns
    → Each (λ m. Each (λ n. IsGreater m n) ns) ms → Ordered (ms ++ ns)
ordered-append [] ns h k b = k
ordered-append (m ∷ ms) ns h k b = (
  each-append (λ (n : List ℕ). IsGreater m n) ms ns h.0 b.0,
  ordered-append ms ns h.1 k b.1,
)

each-of-map : (P : List ℕ → Type 0) (f : List ℕ → List ℕ) (ms : List (List ℕ)) → Each (λ m. P (f m)) ms
    → Each P (map f ms)
each-of-map P f [] h = tt
each-of-map P f (m ∷ ms) h = (h.0, each-of-map P f ms h.1)

pub each-mapped : (P Q : List ℕ → Type 0) (f : List ℕ → List ℕ) (ms : List (List ℕ))
    → ((m : List ℕ) → P m → Q (f m)) → Each P ms → Each Q (map f ms)
each-mapped P Q f [] g h = tt
each-mapped P Q f (m ∷ ms) g h = (g m h.0, each-mapped P Q f ms g h.1)

pub each-true : (P : List ℕ → Type 0) (f : List ℕ → List ℕ) (ms : List (List ℕ)) → ((m : List ℕ) → P (f m))
    → Each P (map f ms)
each-true P f [] g = tt
each-true P f (m ∷ ms) g = (g m, each-true P f ms g)

pub ordered-map : (f : List ℕ → List ℕ) (ms : List (List ℕ))
    → ((m n : List ℕ) → IsGreater m n → IsGreater (f m) (f n)) → Ordered ms → Ordered (map f ms)
ordered-map f [] g h = tt
ordered-map f (m ∷ ms) g h = (
  each-mapped (λ (n : List ℕ). IsGreater m n)
      (λ (n : List ℕ). IsGreater (f m) n) f ms (g m) h.0,
  ordered-map f ms g h.1,
)

pub pairs-of : (ms : List (List ℕ)) → Ordered ms → AllPairs (λ m n. IsGreater m n) ms
pairs-of [] h i j d l b = absurd (omega arith)
pairs-of (m ∷ ms) h zero zero d l b = absurd (omega arith)
pairs-of (m ∷ ms) h zero (suc j) d l b =
    All-from_recursion (λ (n : List ℕ). IsGreater m n) ms h.0 j d (omega (arith, b))
pairs-of (m ∷ ms) h (suc i) zero d l b = absurd (omega arith)
pairs-of (m ∷ ms) h (suc i) (suc j) d l b = pairs-of ms h.1 i j d (omega (arith, l)) (omega (arith, b))

-- the same exponent before both
pub greater-after : (e : ℕ) (m n : List ℕ) → IsGreater m n → IsGreater (e ∷ m) (e ∷ n)
greater-after e m n g = record { at = suc g.at; more = g.more; before = before }
  where
    before : (i : ℕ) → i < suc g.at → exponent (e ∷ m) i ≡ exponent (e ∷ n) i
    before zero l = refl
    before (suc i) l = g.before i (omega arith)

-- a greater exponent before
pub greater-before : (e d : ℕ) (m n : List ℕ) → d < e → IsGreater (e ∷ m) (d ∷ n)
greater-before e d m n l = record { at = 0; more = l; before = λ i b. absurd (omega arith) }

-- m stands in the list
abbrev pub Stands : List ℕ → List (List ℕ) → Type 0
Stands m ms = (i : ℕ) × (i < length ms) × (slice_index_or ms i [] ≡ m)

pub stands-later : (m n : List ℕ) (ms : List (List ℕ)) → Stands m ms → Stands m (n ∷ ms)
stands-later m n ms h = (suc h.0, omega (arith, h.1), h.2)

pub stands-left : (m : List ℕ) (ms ns : List (List ℕ)) → Stands m ms → Stands m (ms ++ ns)
stands-left m [] ns h = absurd (omega (arith, h.1))
stands-left m (n ∷ ms) ns (zero, l, e) = (0, omega arith, e)
stands-left m (n ∷ ms) ns (suc i, l, e) =
    stands-later m n (ms ++ ns) (stands-left m ms ns (i, omega (arith, l), e))

pub stands-right : (m : List ℕ) (ms ns : List (List ℕ)) → Stands m ns → Stands m (ms ++ ns)
stands-right m [] ns h = h
stands-right m (n ∷ ms) ns h = stands-later m n (ms ++ ns) (stands-right m ms ns h)

pub stands-map : (f : List ℕ → List ℕ) (m : List ℕ) (ms : List (List ℕ)) → Stands m ms
    → Stands (f m) (map f ms)
stands-map f m [] h = absurd (omega (arith, h.1))
stands-map f m (n ∷ ms) (zero, l, e) = (0, omega arith, ap f e)
stands-map f m (n ∷ ms) (suc i, l, e) = stands-later (f m) (f n) (map f ms)
    (stands-map f m ms (i, omega (arith, l), e))

-- what stands before a monomial is greater
pub before-next : (done rest : List (List ℕ)) (m : List ℕ) → Ordered (done ++ m ∷ rest)
    → Each (λ n. IsGreater n m) done
before-next [] rest m h = tt
before-next (n ∷ done) rest m h = (first done h.0, before-next done rest m h.1)
  where
    first : (done : List (List ℕ)) → Each (λ k. IsGreater n k) (done ++ m ∷ rest) → IsGreater n m
    first [] h = h.0
    first (k ∷ done) h = first done h.1
