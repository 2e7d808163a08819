-- The first tables.
use Rattle.std.proofs.Common.{◌≡◌, ℕ, zero, suc, ◌<◌, ◌≤◌, List, [], ◌∷◌, length, All}
use Rattle.std.proofs.Common.{arith, ap, sym, subst, ◌∙◌, refl}
use Rattle.std.specs.Prelude.{slice_index_or}
use Rattle.std.proofs.lemmas.List.Elements.{All-from_recursion}
use Rattle.graded_polynomials.specs.Monomials.{IsMonomial, IsGreater, IsTrimmed, exponent}
use Rattle.graded_polynomials.specs.Texts.{power}
use Rattle.graded_polynomials.proofs.Exponents.{same-exponents}
use Rattle.gc_poly.specs.Generators.{Generators, greatest}
use Rattle.ring_completion.specs.Candidates.{AreSome, IsListed}
use Rattle.ring_completion.proofs.Quotients.{power-trimmed}
use Rattle.ring_degree.specs.Finishing.{HasNewGenerators}
use Rattle.ring_degree.specs.Tables.{AreMatrices, AreTables, at_generator, products_at, standard_at}
use Rattle.ring_degree.specs.declared.table.Table.{Table}
use Rattle.ring_degree.proofs.ProductForms.{one-some}

-- the table of degree 0, before generators of degree 1
module _ (g : Generators) (t : Table) (one : t.standard ≡ [] ∷ [])
    (low : (i : ℕ) → i < length g.degrees → 1 ≤ at_generator g.degrees i) where
  pub first-tables : AreTables g (t ∷ [])
  first-tables = record { monomials = monomials; products = products }
    where
      monomials : (e : ℕ) → e < 1 → AreSome (greatest g) g.degrees e (standard_at (t ∷ []) e)
      monomials zero l = subst (AreSome (greatest g) g.degrees 0) (sym one) (one-some (greatest g) g.degrees)
      monomials (suc e) l = absurd (omega (arith, l))

      products : (e : ℕ) → e < 1 → AreMatrices g (t ∷ []) e (length (standard_at (t ∷ []) e))
          (products_at (t ∷ []) e)
      products e l = record {
        count = λ i k h. absurd (let z = low i k in omega (arith, z, h, l));
        primes = λ i m k h. absurd (let z = low i k in omega (arith, z, h, l));
        widths = λ i m k h. absurd (let z = low i k in omega (arith, z, h, l));
        rows = λ i k h. absurd (let z = low i k in omega (arith, z, h, l));
        counts = λ i k h. absurd (let z = low i k in omega (arith, z, h, l));
      }

-- two generators of degree 1
pub two-low : (i : ℕ) → i < 2 → 1 ≤ at_generator (1 ∷ 1 ∷ []) i
two-low zero l = omega arith
two-low (suc zero) l = omega arith
two-low (suc (suc i)) l = absurd (omega (arith, l))

pub first-greater : IsGreater (power 0 1) (power 1 1)
first-greater = record { at = 0; more = omega arith; before = λ i l. absurd (omega (arith, l)) }

pub two-some : AreSome 1 (1 ∷ 1 ∷ []) 1 (power 0 1 ∷ power 1 1 ∷ [])
two-some = record { each = each; descending = descending }
  where
    each : (i : ℕ) → i < 2 → IsMonomial 1 (1 ∷ 1 ∷ []) 1 (slice_index_or (power 0 1 ∷ power 1 1 ∷ []) i [])
    each zero l = record {
      within = tt;
      trimmed = power-trimmed 0;
      fitting = refl;
      degree_is = refl;
    }
    each (suc zero) l = record {
      within = tt;
      trimmed = power-trimmed 1;
      fitting = refl;
      degree_is = refl;
    }
    each (suc (suc i)) l = absurd (omega (arith, l))

    descending : (i j : ℕ) → i < j → j < 2
        → IsGreater (slice_index_or (power 0 1 ∷ power 1 1 ∷ []) i [])
        (slice_index_or (power 0 1 ∷ power 1 1 ∷ []) j [])
    descending zero zero b l = absurd (omega (arith, b))
    descending zero (suc zero) b l = first-greater
    descending zero (suc (suc j)) b l = absurd (omega (arith, l))
    descending (suc i) j b l = absurd (omega (arith, b, l))

pub two-listed : (i : ℕ) → i < 2 → IsListed (power 0 1 ∷ power 1 1 ∷ []) (power i 1)
two-listed zero l = (0, omega arith, refl)
two-listed (suc zero) l = (1, omega arith, refl)
two-listed (suc (suc i)) l = absurd (omega (arith, l))

-- the degree of the generators, at p = 2
module _ (g : Generators) (two : g ≡ record { prime = 2; degrees = 1 ∷ 1 ∷ [] }) where
  pub low-degrees : (i : ℕ) → i < length g.degrees → 1 ≤ at_generator g.degrees i
  low-degrees = subst (λ (g : Generators). (i : ℕ) → i < length g.degrees → 1 ≤ at_generator g.degrees i)
      (sym two) two-low

  module _ (d : ℕ) (one : d ≡ 1) (ms : List (List ℕ)) (m : ms ≡ power 0 1 ∷ power 1 1 ∷ []) where
    pub low-some : AreSome (greatest g) g.degrees d ms
    low-some = subst (λ (g : Generators). AreSome (greatest g) g.degrees d ms) (sym two)
        (subst (λ d. AreSome 1 (1 ∷ 1 ∷ []) d ms) (sym one)
        (subst (AreSome 1 (1 ∷ 1 ∷ []) 1) (sym m) two-some))

    pub low-new : HasNewGenerators g d ms
    low-new i l b = subst (λ ms. IsListed ms (power i 1)) (sym m)
        (two-listed i (subst (λ (g : Generators). i < length g.degrees) two l))

-- a power from its exponents, and a greater power before a smaller one
pub power-from : (i : ℕ) (m es : List ℕ) → IsTrimmed m → ((j : ℕ) → exponent m j ≡ exponent es j)
    → es ≡ power i 1 → m ≡ power i 1
power-from i m es t h e = same-exponents m (power i 1) t (power-trimmed i)
    (λ j. h j ∙ ap (λ xs. exponent xs j) e)

pub above-last : (ms : List (List ℕ)) (y : List ℕ) → ms ≡ power 0 1 ∷ [] → y ≡ power 1 1
    → All (λ n. IsGreater n y) ms
above-last ms y e f = subst (All (λ n. IsGreater n y)) (sym e)
    (subst (λ y. All (λ n. IsGreater n y) (power 0 1 ∷ [])) (sym f)
    (All-from_recursion (λ n. IsGreater n (power 1 1)) (power 0 1 ∷ []) (first-greater, tt)))
