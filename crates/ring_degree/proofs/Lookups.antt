-- What stands in tables and matrices.
use Rattle.std.proofs.Common.{◌≡◌, ℕ, zero, suc, ◌+◌, ◌-◌, ◌<◌, ◌≤◌, List, [], ◌∷◌, All, length, get_or}
use Rattle.std.proofs.Common.{arith, inl, inr, Option, Some, None, IfSome, IsNone, ap, sym, subst, ◌∙◌, refl}
use Rattle.std.proofs.lemmas.List.Elements.{All-get_or}
use Rattle.linear_algebra.specs.Modular.{IsSmallPrime}
use Rattle.linear_algebra.specs.Rows.{entry, row, combination_row}
use Rattle.fp_rows.specs.Values.{MatrixValue, RowValue}
use Rattle.limits.specs.declared.TheConstants.{GREATEST_DEGREE}
use Rattle.graded_polynomials.specs.Monomials.{exponent}
use Rattle.graded_algebra.proofs.Ideals.{degree-nil, fits-nil}
use Rattle.gc_poly.specs.Generators.{Generators, greatest, AreOrdered}
use Rattle.gc_poly.specs.Polynomials.{IsMonomialOf}
use Rattle.gc_poly.proofs.ProductLemmas.{exponents-small}
use Rattle.ring_degree.specs.Critical.{ArePairs, IsPair, form_of_product}
use Rattle.ring_degree.specs.Tables.{at_generator, standard_at, products_at, product_rows, rows_at}
use Rattle.ring_degree.specs.Tables.{AreMatrices}
use Rattle.ring_degree.specs.declared.table.Table.{Table}

pub some-is : {X : Type 0} (P : X → Type 0) (r : Option X) (x : X) → r ≡ Some x → IfSome r P → P x
some-is P r x e h = subst (λ r. IfSome r P) e h

pub none-is : {X : Type 0} (r : Option X) → r ≡ None → IsNone r
none-is r e = subst IsNone (sym e) refl

pub standard-is : (tables : List Table) (e : ℕ) (t : Table) → e < length tables
    → standard_at tables e ≡ (get_or tables e t).standard
standard-is [] e t l = absurd (omega (arith, l))
standard-is (x ∷ tables) zero t l = refl
standard-is (x ∷ tables) (suc e) t l = standard-is tables e t (omega (arith, l))

pub products-are : (tables : List Table) (e : ℕ) (t : Table) → e < length tables
    → products_at tables e ≡ (get_or tables e t).products.items
products-are [] e t l = absurd (omega (arith, l))
products-are (x ∷ tables) zero t l = refl
products-are (x ∷ tables) (suc e) t l = products-are tables e t (omega (arith, l))

pub rows-are : (matrices : List MatrixValue) (i : ℕ) (m : MatrixValue) → i < length matrices
    → rows_at matrices i ≡ (get_or matrices i m).rows
rows-are [] i m l = absurd (omega (arith, l))
rows-are (x ∷ matrices) zero m l = refl
rows-are (x ∷ matrices) (suc i) m l = rows-are matrices i m (omega (arith, l))

-- the exponents of a monomial of a degree that is not too great
pub exponent-small : (g : Generators) (e i : ℕ) (s : List ℕ) → AreOrdered g.degrees → e ≤ GREATEST_DEGREE
    → IsMonomialOf g e s → exponent s i < 255
exponent-small g e i s o l M = let h = exponents-small g e s [] o l record {
  left = e;
  right = 0;
  left_is = M;
  right_is = record {
    within = tt;
    trimmed = tt;
    fitting = fits-nil (greatest g) g.degrees;
    degree_is = degree-nil g.degrees;
  };
  sum = omega arith;
} i in omega (arith, h)

pub prime-is : (p : ℕ) → IsSmallPrime p → p ≡ suc (p - 1)
prime-is p (inl e) = omega (arith, e)
prime-is p (inr (inl e)) = omega (arith, e)
prime-is p (inr (inr (inl e))) = omega (arith, e)
prime-is p (inr (inr (inr e))) = omega (arith, e)

pub generator-below : (ds : List ℕ) (d i : ℕ) → All (λ e. e < d) ds → i < length ds → at_generator ds i < d
generator-below ds d i h l = All-get_or (λ e. e < d) ds i 0 l h

-- the product and the matrix that are read for a pair
module _ (g : Generators) (tables : List Table) (width : ℕ) (forms : List MatrixValue)
    (P : ArePairs g tables width forms) (e i j k : ℕ) (Q : IsPair g.degrees tables e i j k)
    (positive : 0 < at_generator g.degrees i) where
  M : AreMatrices g tables (at_generator g.degrees j + e)
      (length (standard_at tables (at_generator g.degrees j + e)))
      (products_at tables (at_generator g.degrees j + e))
  M = P.tables_are.products (at_generator g.degrees j + e) (let s = Q.degree_is in omega (arith, s, positive))

  pub product-there : j < length (products_at tables (at_generator g.degrees j + e))
  product-there = M.count j Q.second (omega arith)

  pub product-prime : (m : MatrixValue)
      → (get_or (products_at tables (at_generator g.degrees j + e)) j m).p ≡ g.prime
  product-prime m = M.primes j m Q.second (omega arith)

  pub product-row : k < length (product_rows tables (at_generator g.degrees j + e) j)
  product-row = let a = M.counts j Q.second (omega arith) in
      let b = ap (λ a. length (standard_at tables a))
      (let z : at_generator g.degrees j + e - at_generator g.degrees j ≡ e = omega arith in z) in
      let l = Q.within in omega (arith, a, b, l)

  pub product-length : length (row (product_rows tables (at_generator g.degrees j + e) j) k)
      ≡ length (standard_at tables (at_generator g.degrees j + e))
  product-length = (M.rows j Q.second (omega arith) k product-row).length_is

  first-low : at_generator g.degrees i ≤ length tables
  first-low = let s = Q.degree_is in omega (arith, s)

  pub form-there : i < length forms
  form-there = P.forms_are.count i Q.first first-low

  pub form-prime : (m : MatrixValue) → (get_or forms i m).p ≡ g.prime
  form-prime m = P.forms_are.primes i m Q.first first-low

  pub form-width : (m : MatrixValue) → (get_or forms i m).width ≡ width
  form-width m = P.forms_are.widths i m Q.first first-low

  pub form-count : length (rows_at forms i) ≡ length (standard_at tables (at_generator g.degrees j + e))
  form-count = P.forms_are.counts i Q.first first-low ∙ ap (λ a. length (standard_at tables a))
      (let s = Q.degree_is in
      let z : length tables - at_generator g.degrees i ≡ at_generator g.degrees j + e = omega (arith, s) in z)

  read : (D : ℕ) (r : Table) → D ≡ at_generator g.degrees j + e
      → products_at tables (at_generator g.degrees j + e) ≡ (get_or tables D r).products.items
  read D r d = ap (products_at tables) (sym d)
      ∙ products-are tables D r (let s = Q.degree_is in omega (arith, s, positive, d))

  pub product-inside : (D : ℕ) (r : Table) → D ≡ at_generator g.degrees j + e
      → j < length (get_or tables D r).products.items
  product-inside D r d = subst (λ (xs : List MatrixValue). j < length xs) (read D r d) product-there

  -- the matrix that is read has the rows of the products
  pub product-matrix : (D : ℕ) (r : Table) (m : MatrixValue) → D ≡ at_generator g.degrees j + e
      → m ≡ get_or (get_or tables D r).products.items j m
      → (m.rows ≡ product_rows tables (at_generator g.degrees j + e) j) × (m.p ≡ g.prime)
  product-matrix D r m d z = (
    sym (rows-are (products_at tables (at_generator g.degrees j + e)) j m product-there
        ∙ ap (λ (x : MatrixValue). x.rows) (sym same)),
    ap (λ (x : MatrixValue). x.p) same ∙ product-prime m,
  )
    where
      same : m ≡ get_or (products_at tables (at_generator g.degrees j + e)) j m
      same = z ∙ ap (λ (xs : List MatrixValue). get_or xs j m) (sym (read D r d))

  pub form-matrix : (m : MatrixValue) → m ≡ get_or forms i m
      → (m.rows ≡ rows_at forms i) × (m.p ≡ g.prime) × (m.width ≡ width)
  form-matrix m r = (
    sym (rows-are forms i m form-there ∙ ap (λ (x : MatrixValue). x.rows) (sym r)),
    ap (λ (x : MatrixValue). x.p) r ∙ form-prime m,
    ap (λ (x : MatrixValue). x.width) r ∙ form-width m,
  )

  -- the combination is the form
  pub combined : (out : RowValue) (P p w : ℕ) (u : List ℕ) (rows : List (List ℕ))
      → out ≡ record { p = P; entries = combination_row p w (entry u) rows } → P ≡ g.prime
      → p ≡ suc (greatest g) → w ≡ width
      → u ≡ row (product_rows tables (at_generator g.degrees j + e) j) k → rows ≡ rows_at forms i
      → out ≡ record {
        p = g.prime;
        entries = form_of_product (greatest g) g.degrees tables width forms e i j k;
      }
  combined out P p w u rows o a b c d f = o ∙ rw (a, b, c, d, f) refl
