-- The value of a monomial, by that of the monomial without its last factor.
use Rattle.std.proofs.Common.{◌≡◌, ℕ, zero, suc, ◌+◌, ◌-◌, ◌<◌, ◌≤◌, ◌⊎◌, inl, inr, List, [], ◌∷◌, ◌++◌}
use Rattle.std.proofs.Common.{length, cond, arith, ap, sym, ◌∙◌, refl}
use Rattle.std.specs.Prelude.{slice_index_or, All}
use Rattle.std.specs.List.{AllByRecursion as Each}
use Rattle.std.proofs.lemmas.Bool.{cases_lt}
use Rattle.std.proofs.lemmas.List.{length-map}
use mathlib.Core.Path.{fun_ext, subst}
use Rattle.p_groups.specs.PGroups.{PGroup, largest_residue}
use Rattle.linear_algebra.specs.Rows.{row}
use Rattle.linear_algebra.proofs.Spans.{row_push, row_before_push}
use Rattle.graded_polynomials.specs.Monomials.{degree, IsMonomial, IsTrimmed}
use Rattle.graded_polynomials.proofs.Monomials.{only-one}
use Rattle.graded_polynomials.proofs.Terms.{eqb-false}
use Rattle.graded_algebra.specs.Algebras.{Generator, degrees, evaluate}
use Rattle.graded_algebra.specs.Vectors.{Vector, unit, residue}
use Rattle.presentation_rows.specs.Factors.{IsLastFactor}
use Rattle.presentation_rows.specs.Values.{vector}
use Rattle.presentation_rows.proofs.LastFactor.{value-by-factor, from-nil}
use Rattle.gc_poly.proofs.Writing.{within-length}
use Rattle.chain_lift.specs.Values.{LiftValue}
use Rattle.chain_lift.specs.Products.{multiply, product_row}
use Rattle.cohomology_degree.specs.Rings.{cohomology}
use Rattle.cohomology_degree.specs.Degrees.{classes, degrees_of, IsLiftBelow, AreValued}
use Rattle.cohomology_degree.specs.declared.degree.Valued.{Valued}
use Rattle.cohomology_degree.proofs.Products.{product-vector}

pub all-at : {X : Type 0} (P : X → Type 0) (xs : List X) (i : ℕ) (x : X) → All P xs → i < length xs
    → x ≡ slice_index_or xs i x → P x
all-at P xs i x a l e = subst P (sym e) (a i x l)

pub degree-of-one : (ds : List ℕ) → degree ds [] ≡ 0
degree-of-one [] = refl
degree-of-one (d ∷ ds) = refl

pub degrees-are : (G : PGroup) (lifts : List LiftValue) → degrees (classes G lifts) ≡ degrees_of lifts
degrees-are G [] = refl
degrees-are G (l ∷ lifts) = ap (λ ds. l.degree ∷ ds) (degrees-are G lifts)

pub positive-degrees : (G : PGroup) (n : ℕ) (lifts : List LiftValue) → All (IsLiftBelow G n) lifts
    → Each (λ d. 0 < d) (degrees (classes G lifts))
positive-degrees G n [] a = tt
positive-degrees G n (l ∷ lifts) a = (
  (let b : 1 ≤ l.degree = (a 0 l (omega arith)).from_one in omega (
    arith,
    b,
  )),
  positive-degrees G n lifts (λ k d b. a (suc k) d (omega (arith, b))),
)

-- a monomial of positive degree is not 1, and its last factor is one of the generators
pub not-one : (q d : ℕ) (ds m : List ℕ) → 0 < d → IsMonomial q ds d m → 0 < length m
not-one q d ds [] p M = absurd (let e = degree-of-one ds in let f : degree ds [] ≡ d = M.degree_is in omega
    (arith, e, f, p))
not-one q d ds (e ∷ m) p M = omega arith

pub last-inside : (G : PGroup) (d : ℕ) (lifts : List LiftValue) (m : List ℕ)
    → IsMonomial (largest_residue G) (degrees (classes G lifts)) d m → length m ≤ length lifts
last-inside G d lifts m M =
    let a = within-length (degrees (classes G lifts)) m M.within in
    let b = ap (λ (ds : List ℕ). length ds) (degrees-are G lifts) in
    let c : length (degrees_of lifts) ≡ length lifts = length-map lifts (λ l. l.degree) in
    omega (arith, a, b, c)

one-vector : (q : ℕ) → vector q (1 ∷ []) ≡ unit q 0
one-vector q = fun_ext (λ i. go i)
  where
    go : (i : ℕ) → vector q (1 ∷ []) i ≡ unit q 0 i
    go zero = refl
    go (suc i) = ap (λ b. residue q (cond b 1 0)) (sym (eqb-false (suc i) 0 (λ e. absurd (omega (arith, e)))))

module _ (G : PGroup) (lifts : List LiftValue) where
  abbrev q : ℕ
  q = largest_residue G

  abbrev gs : List (Generator (Vector (largest_residue G)))
  gs = classes G lifts

  -- the monomial 1
  pub value-of-one : (n : ℕ) (m a : List ℕ) → All (IsLiftBelow G n) lifts → IsMonomial q (degrees gs) 0 m
      → a ≡ 1 ∷ [] → vector q a ≡ evaluate (cohomology G) gs m
  value-of-one n m a b M e = ap (vector q) e ∙ one-vector q ∙ sym (from-nil (cohomology G) 0 (unit q 0) gs)
      ∙ ap (evaluate (cohomology G) gs) (sym (only-one q (degrees gs) m (positive-degrees G n lifts b) M))

  -- a monomial of a list with values
  pub value-of-listed : (d : ℕ) (m a : List ℕ) (v : Valued) → AreValued G d lifts v → (i : ℕ)
      → i < length v.monomials → slice_index_or v.monomials i [] ≡ m → a ≡ row v.values.rows i
      → vector q a ≡ evaluate (cohomology G) gs m
  value-of-listed d m a v A i l e ea = ap (vector q) ea ∙ A.values.each i l
      ∙ ap (evaluate (cohomology G) gs) e

  module _ (d i : ℕ) (L : LiftValue) (m n : List ℕ) (M : IsMonomial q (degrees gs) d m) (t : IsTrimmed n)
      (F : IsLastFactor i n m) (eL : slice_index_or lifts i L ≡ L) where
    abbrev g : Generator (Vector (largest_residue G))
    g = record { degree = L.degree; class = vector q L.class }

    generator-at : (xs : List LiftValue) (k : ℕ)
        → slice_index_or (classes G xs) k g ≡ record {
          degree = (slice_index_or xs k L).degree;
          class = vector q (slice_index_or xs k L).class;
        }
    generator-at [] k = refl
    generator-at (x ∷ xs) zero = refl
    generator-at (x ∷ xs) (suc k) = generator-at xs k

    factor : (e : ℕ) × (e + L.degree ≡ d) × IsMonomial q (degrees gs) e n
        × (evaluate (cohomology G) gs m ≡ multiply G e L.degree (evaluate (cohomology G) gs n)
        (vector q L.class))
    factor = value-by-factor q d i (cohomology G) gs g m n M t F
        (generator-at lifts i ∙ ap (λ (l : LiftValue). record {
          degree = l.degree;
          class = vector q l.class;
        }) eL)

    pub quotient-monomial : (j : ℕ) → j ≡ d - L.degree → IsMonomial q (degrees gs) j n
    quotient-monomial j e = subst (λ k. IsMonomial q (degrees gs) k n)
        (let f : factor.0 + L.degree ≡ d = factor.1 in let z : factor.0 ≡ j = omega (
          arith,
          f,
          e,
        ) in z) factor.2

    -- the product of a row of the rest with the class of the last factor
    pub value-of-product : (j : ℕ) (a out : List ℕ) → j ≡ d - L.degree
        → vector q a ≡ evaluate (cohomology G) gs n → out ≡ product_row G j L.degree a L.class
        → vector q out ≡ evaluate (cohomology G) gs m
    value-of-product j a out e ea eo =
        ap (vector q) eo ∙ product-vector G j L.degree a L.class
        ∙ ap (λ v. multiply G j L.degree v (vector q L.class)) ea
        ∙ ap (λ k. multiply G k L.degree (evaluate (cohomology G) gs n) (vector q L.class))
        (let f : factor.0 + L.degree ≡ d = factor.1 in let z : j ≡ factor.0 = omega (arith, f, e) in z)
        ∙ sym factor.3

-- one more row of values
pub values-push : (q : ℕ) (f : ℕ → Vector q) (rows new : List (List ℕ)) (v : List ℕ) (i : ℕ) → length rows ≡ i
    → ((k : ℕ) → k < i → vector q (row rows k) ≡ f k) → vector q v ≡ f i
    → new ≡ rows ++ v ∷ [] → (k : ℕ) → k < i + 1 → vector q (row new k) ≡ f k
values-push q f rows new v i n each here e k l = ap (λ rs. vector q (row rs k)) e ∙ go (cases_lt k i)
  where
    go : (k < i) ⊎ (i ≤ k) → vector q (row (rows ++ v ∷ []) k) ≡ f k
    go (inl b) = ap (vector q) (row_before_push rows v k (omega (arith, n, b))) ∙ each k b
    go (inr b) = let s : k ≡ i = omega (arith, b, l) in
        ap (λ j. vector q (row (rows ++ v ∷ []) j)) (s ∙ sym n) ∙ ap (vector q) (row_push rows v) ∙ here
        ∙ ap f (sym s)
