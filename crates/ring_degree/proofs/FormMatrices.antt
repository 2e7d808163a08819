-- The matrices of products, one generator after another.
use Rattle.std.proofs.Common.{◌≡◌, ℕ, zero, suc, ◌+◌, ◌-◌, ◌<◌, List, [], ◌∷◌, ◌++◌, length, get_or, map}
use Rattle.std.proofs.Common.{take, arith, ap, sym, subst, ◌∙◌}
use Rattle.std.proofs.lemmas.List.{length-map, map-append, take_more}
use Rattle.linear_algebra.specs.Rows.{IsRow, IsMatrix}
use Rattle.fp_rows.specs.Values.{MatrixValue}
use Rattle.gc_poly.specs.Generators.{Generators, greatest}
use Rattle.presentation_rows.specs.RowPolynomials.{row_of}
use Rattle.presentation_rows.proofs.RowTerms.{row-of-is-row}
use Rattle.ring_completion.specs.Completions.{generator_times}
use Rattle.ring_degree.specs.Tables.{at_generator, standard_at, rows_at, AreMatrices}
use Rattle.ring_degree.specs.declared.table.Table.{Table}
use Rattle.ring_degree.proofs.Lookups.{rows-are}

-- one more row
pub mapped-more : (f : List ℕ → List ℕ) (ss : List (List ℕ)) (k : ℕ) (s x : List ℕ) (old new : List (List ℕ))
    → k < length ss → old ≡ map f (take k ss) → get_or ss k [] ≡ s → x ≡ f s → new ≡ old ++ x ∷ []
    → new ≡ map f (take (k + 1) ss)
mapped-more f ss k s x old new l h e y z = z ∙ rw (h, y, sym e)
    (sym (ap (map f) (take_more ss k [] l) ∙ map-append f (take k ss) (get_or ss k [] ∷ [])))

module _ (g : Generators) (tables : List Table) (ms : List (List ℕ)) where
  -- the rows of generator i times the standard monomials of the degree that is left
  abbrev pub form_rows_of : ℕ → List (List ℕ)
  form_rows_of i = map (λ s. row_of (greatest g) ms (generator_times (greatest g) g.degrees i s))
      (standard_at tables (length tables - at_generator g.degrees i))

  pub record IsFormMatrix (i : ℕ) (m : MatrixValue) : Type 0 where
    pub prime : m.p ≡ g.prime
    pub width : m.width ≡ length ms
    pub rows : m.rows ≡ form_rows_of i

  module _ (F : List MatrixValue) (e : length F ≡ length g.degrees) (positive : 0 < g.prime)
      (h : (i : ℕ) (m : MatrixValue) → i < length g.degrees → IsFormMatrix i (get_or F i m)) where
    none : MatrixValue
    none = record { p = 0; width = 0; rows = [] }

    pub rows-of-form : (i : ℕ) → i < length g.degrees → rows_at F i ≡ form_rows_of i
    rows-of-form i l = rows-are F i none (omega (arith, l, e)) ∙ (h i none l).rows

    pub forms-shape : AreMatrices g tables (length tables) (length ms) F
    forms-shape = record {
      count = λ i l b. omega (arith, l, e);
      primes = λ i m l b. (h i m l).prime;
      widths = λ i m l b. (h i m l).width;
      rows = λ i l b. subst (IsMatrix g.prime (length ms)) (sym (rows-of-form i l)) (matrix i);
      counts = λ i l b. ap length (rows-of-form i l)
          ∙ length-map (standard_at tables (length tables - at_generator g.degrees i))
          (λ s. row_of (greatest g) ms (generator_times (greatest g) g.degrees i s));
    }
      where
        mapped : (f : List ℕ → List ℕ) → ((s : List ℕ) → IsRow g.prime (length ms) (f s))
            → (ss : List (List ℕ)) → IsMatrix g.prime (length ms) (map f ss)
        mapped f r [] k l = absurd (omega (arith, l))
        mapped f r (s ∷ ss) zero l = r s
        mapped f r (s ∷ ss) (suc k) l = mapped f r ss k (omega (arith, l))

        matrix : (i : ℕ) → IsMatrix g.prime (length ms) (form_rows_of i)
        matrix i = mapped (λ s. row_of (greatest g) ms (generator_times (greatest g) g.degrees i s))
            (λ s. subst (λ p. IsRow p (length ms)
            (row_of (greatest g) ms (generator_times (greatest g) g.degrees i s)))
            (let z : suc (greatest g) ≡ g.prime = omega (arith, positive) in z)
            (row-of-is-row (greatest g) ms (generator_times (greatest g) g.degrees i s)))
            (standard_at tables (length tables - at_generator g.degrees i))
