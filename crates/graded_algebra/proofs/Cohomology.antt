-- A presentation of the classes presents the cochains up to coboundaries.
use Rattle.std.proofs.Common.{◌≡◌, ℕ, zero, suc, ◌+◌, List, [], ◌∷◌, ◌++◌, sym, refl}
use Rattle.graded_polynomials.specs.Monomials.{IsMonomial}
use Rattle.graded_polynomials.specs.Polynomials.{Term, Polynomial, IsOver, multiple, product}
use Rattle.graded_algebra.specs.Algebras.{Algebra, Generator, degrees, evaluate, value, times}
use Rattle.graded_algebra.specs.Algebras.{IsGradedCommutative}
use Rattle.graded_algebra.specs.Claims.{PresentationClaims, CochainClaims}
use Rattle.graded_algebra.proofs.Evaluation.{evaluate-in}
use Rattle.graded_polynomials.proofs.Terms.{each-append}
use Rattle.graded_polynomials.proofs.Monomials.{over-multiple}
use Rattle.graded_algebra.proofs.Transfer.{IsComparison, images, value-close}

pub over-product : (q : ℕ) (ds : List ℕ) (d e : ℕ) (f g : List Term) → IsOver q ds d f → IsOver q ds e g
    → IsOver q ds (d + e) (product q ds f g)
over-product q ds d e [] g h k = tt
over-product q ds d e (t ∷ f) g h k =
    each-append (λ (s : Term). IsMonomial q ds (d + e) s.monomial) (multiple q ds t.scalar t.monomial g)
    (product q ds f g)
    (over-multiple q ds d e (d + e) t.scalar t.monomial g h.0 k refl) (over-product q ds d e f g h.1 k)

-- what is further said of the classes and their cochains
pub record IsCohomology (V W : Type 0) (A : Algebra V) (B : Algebra W) (In : ℕ → V → Type 0) (k : ℕ → V
    → W) (Cocycle : ℕ → W → Type 0) (Close : ℕ → W → W → Type 0) : Type 0 where
  pub comparison : IsComparison V W A B k Close
  pub close-sym : (d : ℕ) (u v : W) → Close d u v → Close d v u
  pub close-right : (d e : ℕ) (x : V) (u v : W) → Close e u v
      → Close (d + e) (B.mul d e (k d x) u) (B.mul d e (k d x) v)
  pub close-left : (d e : ℕ) (u v : W) (x : V) (w : W) → Close d u v → Close e (k e x) w
      → Close (d + e) (B.mul d e u w) (B.mul d e v w)
  pub injective : (d : ℕ) (x y : V) → In d x → In d y → Close d (k d x) (k d y) → x ≡ y
  pub surjective : (d : ℕ) (u : W) → Cocycle d u → (x : V) × In d x × Close d u (k d x)
  pub in-zero : (d : ℕ) → In d A.zero
  pub in-add : (d : ℕ) (x y : V) → In d x → In d y → In d (A.add x y)

module _ (q : ℕ) (V W : Type 0) (A : Algebra V) (B : Algebra W) (In : ℕ → V
    → Type 0) (L : IsGradedCommutative q V A In)
    (k : ℕ → V → W) (Cocycle : ℕ → W → Type 0) (Close : ℕ → W → W
    → Type 0) (C : IsCohomology V W A B In k Cocycle Close) where
  in-times : (d n : ℕ) (x : V) → In d x → In d (times A n x)
  in-times d zero x h = C.in-zero d
  in-times d (suc n) x h = C.in-add d x (times A n x) h (in-times d n x h)

  pub value-in : (gs : List (Generator V)) (d : ℕ) (f : List Term) → IsOver q (degrees gs) d f
      → In d (value A gs f)
  value-in gs d [] o = C.in-zero d
  value-in gs d (t ∷ f) o =
      C.in-add d _ _ (in-times d t.scalar (evaluate A gs t.monomial)
      (rw o.0.degree_is at (evaluate-in q V A In L gs t.monomial))) (value-in gs d f o.1)

  -- the value of a polynomial in cochains and the cochain of its value
  cochains-close : (gs : List (Generator V)) (d : ℕ) (f : List Term) → IsOver q (degrees gs) d f
      → Close d (k d (value A gs f)) (value B (images V W A B k Close C.comparison gs) f)
  cochains-close gs d f o = value-close V W A B k Close C.comparison q gs d f o

  pub cochains-presented : (n : ℕ) (gs : List (Generator V)) (rs : List Polynomial)
      → ((g : Generator V) → (before after : List (Generator V)) → gs ≡ before ++ g ∷ after
      → In g.degree g.class)
      → PresentationClaims q V A In n gs rs
      → CochainClaims q V W B Cocycle Close k n gs (images V W A B k Close C.comparison gs) rs
  cochains-presented n gs rs inside P = record {
    onto = λ d l u z.
        let x = C.surjective d u z in
        let y = P.onto d l x.0 x.1 in (
          y.polynomial,
          y.over,
          C.comparison.close-trans d u (k d x.0) (in_cochains y.polynomial) x.2
              (rw y.value_is at (cochains-close gs d y.polynomial y.over)),
        );
    exact = λ d l f o. (
      (λ c. (P.exact d l f o).0 (C.injective d (value A gs f) A.zero (value-in gs d f o) (C.in-zero d)
          (rw (C.comparison.zero d) (C.comparison.close-trans d _ _ _ (cochains-close gs d f o) c)))),
      (λ i. C.comparison.close-trans d _ _ _ (C.close-sym d _ _ (cochains-close gs d f o))
          (rw ((P.exact d l f o).1 i, C.comparison.zero d) (C.comparison.close-refl d B.zero))),
    );
    multiplicative = λ d e f g o p.
        C.comparison.close-trans (d + e) _ _ _
        (C.close-sym (d + e) _ _ (cochains-close gs (d + e) (product q (degrees gs) f g)
        (over-product q (degrees gs) d e f g o p)))
        (rw (P.multiplicative d e f g o p)
        (C.comparison.close-trans (d + e) _ _ _ (C.comparison.mul d e (value A gs f) (value A gs g))
        (C.comparison.close-trans (d + e) _ _ _
        (C.close-right d e (value A gs f) _ _ (cochains-close gs e g p))
        (C.close-left d e _ _ (value A gs g) (in_cochains g) (cochains-close gs d f o)
        (cochains-close gs e g p)))));
    generators_needed = λ before g after e f o z c.
        P.generators_needed before g after e f o z
        (sym (C.injective g.degree g.class (value A gs f) (inside g before after e) (value-in gs g.degree f o)
        (C.comparison.close-trans g.degree _ _ _ c
        (C.close-sym g.degree _ _ (cochains-close gs g.degree f o)))));
    relations_needed = P.relations_needed;
  }
    where
      in_cochains : List Term → W
      in_cochains f = value B (images V W A B k Close C.comparison gs) f
