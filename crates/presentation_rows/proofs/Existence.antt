-- Generators and relations exist through every degree.
use Rattle.std.proofs.Common.{◌≡◌, ◌≢◌, ℕ, zero, suc, ◌+◌, ◌-◌, ◌*◌, ◌<◌, ◌≤◌, ◌⊎◌, List, [], ◌∷◌, ◌++◌}
use Rattle.std.proofs.Common.{length, map, cond, eqb, true, false, inl, inr, arith, ap, sym, ◌∙◌, refl}
use Rattle.std.proofs.lemmas.Bool.{cases_lt}
use Rattle.std.proofs.lemmas.Bool.Decides.{eqb_tells}
use Rattle.std.proofs.lemmas.List.{get_or-map, length-map, get_or_past}
use Rattle.std.proofs.lemmas.List.Elements.{All-from_recursion}
use Rattle.std.specs.List.{AllByRecursion as Each}
use Rattle.std.specs.Prelude.{slice_index_or}
use mathlib.Core.Path.{subst, fun_ext}
use Rattle.linear_algebra.specs.Modular.{IsFieldModulo}
use Rattle.linear_algebra.specs.Rows.{entry, row, IsRow, IsMatrix, IsEchelonOf}
use Rattle.linear_algebra.specs.Kernels.{IsKernelOf, unit_row}
use Rattle.linear_algebra.specs.Choices.{IsGreedy}
use Rattle.linear_algebra.specs.Residues.{Vector, vector, residue}
use Rattle.linear_algebra.proofs.Existence.{echelon}
use Rattle.linear_algebra.proofs.Laws.{greedy_exists, kernel_exists}
use Rattle.linear_algebra.proofs.Residues.{residue-self}
use Rattle.linear_algebra.proofs.Tables.{table, length-table, entry-table}
use Rattle.graded_polynomials.specs.Monomials.{IsMonomial, IsMonomials, degree}
use Rattle.graded_polynomials.specs.AllMonomials.{all_monomials}
use Rattle.graded_polynomials.specs.Polynomials.{Polynomial, Multiple, IsMultiple, IsOneOf, IsOver, multiple}
use Rattle.graded_polynomials.proofs.AllMonomials.{all-monomials, all-each, all-has}
use Rattle.graded_polynomials.proofs.Ordered.{Stands, stands-left, stands-right, stands-map, each-mapped}
use Rattle.graded_polynomials.proofs.Terms.{each-append, each-map}
use Rattle.graded_algebra.specs.Algebras.{Algebra, Generator, degrees, powers, evaluate, evaluate_from}
use Rattle.graded_algebra.specs.Presentations.{IsSpanGenerators, IsRelations, generators_of}
use Rattle.graded_algebra.specs.Vectors.{vectors, unit, units}
use Rattle.graded_algebra.proofs.MoreGenerators.{degrees-append}
use Rattle.graded_algebra.proofs.Relations.{defining}
use Rattle.graded_algebra.proofs.Stability.{relations-up}
use Rattle.presentation_rows.specs.Multiples.{terms_of, AreMultiples}
use Rattle.presentation_rows.specs.Pivots.{new_relations}
use Rattle.presentation_rows.specs.Ranks.{HasRanks}
use Rattle.presentation_rows.specs.RowPolynomials.{row_of}
use Rattle.presentation_rows.specs.Values.{AreValues, AreUnitRows}
use Rattle.presentation_rows.proofs.MultipleRows.{consequence-pivots}
use Rattle.presentation_rows.proofs.NewGenerators.{chosen-units}
use Rattle.presentation_rows.proofs.NewRelations.{relations-from}
use Rattle.presentation_rows.proofs.RowTerms.{row-of-is-row}
use Rattle.presentation_rows.proofs.UnitRows.{unit-matrix}

-- f 0, f 1, .., f (n - 1)
abbrev rows_of : ℕ → (ℕ → List ℕ) → List (List ℕ)
rows_of zero f = []
rows_of (suc n) f = f 0 ∷ rows_of n (λ i. f (suc i))

length-rows : (n : ℕ) (f : ℕ → List ℕ) → length (rows_of n f) ≡ n
length-rows zero f = refl
length-rows (suc n) f = ap suc (length-rows n (λ i. f (suc i)))

row-at : (n : ℕ) (f : ℕ → List ℕ) (i : ℕ) → i < n → row (rows_of n f) i ≡ f i
row-at zero f i l = absurd (omega (arith, l))
row-at (suc n) f zero l = refl
row-at (suc n) f (suc i) l = row-at n (λ i. f (suc i)) i (omega (arith, l))

-- the unit rows of a width
units-exist : (n : ℕ) → AreUnitRows n (rows_of n (unit_row n))
units-exist n = record { count = length-rows n (unit_row n); each = λ i l. row-at n (unit_row n) i l }

each-matrix : (p n : ℕ) (rows : List (List ℕ)) → Each (IsRow p n) rows → IsMatrix p n rows
each-matrix p n rows h i l = All-from_recursion (IsRow p n) rows h i [] l

-- the rows of the multiples of degree d of polynomials, over the monomials ms
module _ (q : ℕ) (ds : List ℕ) (positive : Each (λ d. 0 < d) ds) (d : ℕ) (ms : List (List ℕ)) where
  abbrev multiples-of-one : (r : Polynomial) → (r.degree ≤ d) ⊎ (d < r.degree) → List (List ℕ)
  multiples-of-one r (inl l) = map (λ m. row_of q ms (multiple q ds 1 m r.terms))
      (all_monomials q ds (d - r.degree))
  multiples-of-one r (inr l) = []

  pub cases : (a b : ℕ) → (a ≤ b) ⊎ (b < a)
  cases a b = go (cases_lt b a)
    where
      go : (b < a) ⊎ (a ≤ b) → (a ≤ b) ⊎ (b < a)
      go (inl l) = inr l
      go (inr l) = inl l

  abbrev all-multiples : List Polynomial → List (List ℕ)
  all-multiples [] = []
  all-multiples (r ∷ rs) = multiples-of-one r (cases r.degree d) ++ all-multiples rs

  abbrev IsOneMultiple : List Polynomial → List ℕ → Type 0
  IsOneMultiple rs x = (t : Multiple) × IsMultiple q ds rs d t × (x ≡ row_of q ms (terms_of q ds t))

  later-multiple : (r : Polynomial) (rs : List Polynomial) (x : List ℕ) → IsOneMultiple rs x
      → IsOneMultiple (r ∷ rs) x
  later-multiple r rs x h = (
    h.0,
    record {
      given = inr h.1.given;
      rest = h.1.rest;
      monomial = h.1.monomial;
      degree_is = h.1.degree_is;
    },
    h.2,
  )

  each-of-one : (r : Polynomial) (rs : List Polynomial) (c : (r.degree ≤ d) ⊎ (d < r.degree))
      → Each (IsOneMultiple (r ∷ rs)) (multiples-of-one r c)
  each-of-one r rs (inr l) = tt
  each-of-one r rs (inl l) = each-mapped (IsMonomial q ds (d - r.degree)) (IsOneMultiple (r ∷ rs))
      (λ m. row_of q ms (multiple q ds 1 m r.terms))
      (all_monomials q ds (d - r.degree))
      (λ m M. (
        record { scalar = 1; by = m; of = r },
        record { given = inl refl; rest = d - r.degree; monomial = M; degree_is = omega arith },
        refl,
      ))
      (all-each q ds (d - r.degree))

  each-multiple : (rs : List Polynomial) → Each (IsOneMultiple rs) (all-multiples rs)
  each-multiple [] = tt
  each-multiple (r ∷ rs) = each-append (IsOneMultiple (r ∷ rs)) (multiples-of-one r (cases r.degree d))
      (all-multiples rs)
      (each-of-one r rs (cases r.degree d))
      (each-map (IsOneMultiple rs) (IsOneMultiple (r ∷ rs)) (all-multiples rs) (later-multiple r rs)
      (each-multiple rs))

  stands-of-one : (r : Polynomial) (c : (r.degree ≤ d) ⊎ (d < r.degree)) (m : List ℕ) (e : ℕ)
      → IsMonomial q ds e m → e + r.degree ≡ d
      → Stands (row_of q ms (multiple q ds 1 m r.terms)) (multiples-of-one r c)
  stands-of-one r (inr l) m e M s = absurd (omega (arith, s, l))
  stands-of-one r (inl l) m e M s = stands-map (λ m. row_of q ms (multiple q ds 1 m r.terms)) m
      (all_monomials q ds (d - r.degree))
      (all-has q ds positive (d - r.degree) m
      (let z : e ≡ d - r.degree = omega arith in subst (λ e. IsMonomial q ds e m) z M))

  stands-multiple : (rs : List Polynomial) (r : Polynomial) → IsOneOf r rs → (m : List ℕ) (e : ℕ)
      → IsMonomial q ds e m → e + r.degree ≡ d
      → Stands (row_of q ms (multiple q ds 1 m r.terms)) (all-multiples rs)
  stands-multiple [] r h m e M s = absurd h
  stands-multiple (x ∷ rs) r (inl h) m e M s =
      rw h (stands-left (row_of q ms (multiple q ds 1 m x.terms)) (multiples-of-one x (cases x.degree d))
      (all-multiples rs)
      (stands-of-one x (cases x.degree d) m e M (rw h at s)))
  stands-multiple (x ∷ rs) r (inr h) m e M s =
      stands-right (row_of q ms (multiple q ds 1 m r.terms)) (multiples-of-one x (cases x.degree d))
      (all-multiples rs)
      (stands-multiple rs r h m e M s)

  pub multiples-exist : (rs : List Polynomial) → AreMultiples q ds rs d ms (all-multiples rs)
  multiples-exist rs = record {
    each = λ i l. All-from_recursion (IsOneMultiple rs) (all-multiples rs) (each-multiple rs) i [] l;
    all = λ t h one. rw one (stands-multiple rs t.of h.given t.by h.rest h.monomial h.degree_is);
  }

  one-is-row : (rs : List Polynomial) (x : List ℕ) → IsOneMultiple rs x → IsRow (suc q) (length ms) x
  one-is-row rs x h = rw (h.2) (row-of-is-row q ms (terms_of q ds h.0))

  pub multiples-matrix : (rs : List Polynomial) → IsMatrix (suc q) (length ms) (all-multiples rs)
  multiples-matrix rs = each-matrix (suc q) (length ms) (all-multiples rs)
      (each-map (IsOneMultiple rs) (IsRow (suc q) (length ms)) (all-multiples rs) (one-is-row rs)
      (each-multiple rs))

-- the values of monomials, by rows
module _ (q : ℕ) (ranks : ℕ → ℕ) (mul : ℕ → ℕ → Vector q → Vector q
    → Vector q) (H : HasRanks q ranks mul) where
  abbrev A : Algebra (Vector q)
  A = vectors q mul

  -- v is of degree d
  abbrev IsOf : ℕ → Vector q → Type 0
  IsOf d v = (i : ℕ) → ranks d ≤ i → v i ≡ residue q 0

  of-same : (d e : ℕ) (v : Vector q) → d ≡ e → IsOf d v → IsOf e v
  of-same d e v z h = subst (λ d. IsOf d v) z h

  powers-of : (j : ℕ) (a : Vector q) (g : Generator (Vector q)) (e : ℕ) → IsOf j a
      → IsOf (j + g.degree * e) (powers A j a g e)
  powers-of j a g zero h = of-same j (j + g.degree * zero) a
      (let z : j ≡ j + g.degree * 0 = omega arith in z) h
  powers-of j a g (suc e) h = of-same (j + g.degree * e + g.degree) (j + g.degree * suc e)
      (powers A j a g (suc e)) (omega arith)
      (H.products (j + g.degree * e) g.degree (powers A j a g e) g.class)

  evaluate-of : (j : ℕ) (a : Vector q) (gs : List (Generator (Vector q))) (m : List ℕ) → IsOf j a
      → IsOf (j + degree (degrees gs) m) (evaluate_from A j a gs m)
  evaluate-of j a [] m h = of-same j (j + 0) a (omega arith) h
  evaluate-of j a (g ∷ gs) [] h = of-same j (j + 0) a (omega arith) h
  evaluate-of j a (g ∷ gs) (e ∷ m) h = of-same (j + g.degree * e + degree (degrees gs) m)
      (j + (g.degree * e + degree (degrees gs) m))
      (evaluate_from A j a (g ∷ gs) (e ∷ m)) (omega arith)
      (evaluate-of (j + g.degree * e) (powers A j a g e) gs m (powers-of j a g e h))

  one-of : IsOf 0 (unit q 0)
  one-of zero l = absurd (let o : ranks 0 ≡ 1 = H.one in omega (arith, o, l))
  one-of (suc i) l = go (eqb_tells (suc i) 0)
    where
      go : ((eqb (suc i) 0 ≡ true) × (suc i ≡ 0)) ⊎ ((eqb (suc i) 0 ≡ false) × (suc i ≢ 0))
          → unit q 0 (suc i) ≡ residue q 0
      go (inl h) = absurd (omega (arith, h.1))
      go (inr h) = ap (λ b. residue q (cond b 1 0)) h.0

  value-of : (gs : List (Generator (Vector q))) (d : ℕ) (m : List ℕ) → IsMonomial q (degrees gs) d m
      → IsOf d (evaluate A gs m)
  value-of gs d m M = of-same (0 + degree (degrees gs) m) d (evaluate A gs m) (omega (arith, M.degree_is))
      (evaluate-of 0 (unit q 0) gs m one-of)

  -- the row of a vector of degree d
  abbrev row-of-vector : ℕ → Vector q → List ℕ
  row-of-vector d v = table (ranks d) (λ i. (v i).0)

  vector-is-row : (d : ℕ) (v : Vector q) → IsRow (suc q) (ranks d) (row-of-vector d v)
  vector-is-row d v = record {
    length_is = length-table (ranks d) (λ i. (v i).0);
    below = λ j l. rw (entry-table (ranks d) (λ i. (v i).0) j l) (v j).1;
  }

  vector-back : (d : ℕ) (v : Vector q) → IsOf d v → vector q (row-of-vector d v) ≡ v
  vector-back d v h = fun_ext (λ i. go i (cases_lt i (ranks d)))
    where
      go : (i : ℕ) → (i < ranks d) ⊎ (ranks d ≤ i) → vector q (row-of-vector d v) i ≡ v i
      go i (inl l) = ap (residue q) (entry-table (ranks d) (λ i. (v i).0) i l) ∙ residue-self q (v i)
      go i (inr l) = ap (residue q) (get_or_past (row-of-vector d v) i 0
          (let z : length (row-of-vector d v) ≡ ranks d = length-table (ranks d) (λ i. (v i).0) in omega
          (arith, z, l)))
          ∙ sym (h i l)

  abbrev values-at : List (Generator (Vector q)) → ℕ → List (List ℕ) → List (List ℕ)
  values-at gs d ms = map (λ m. row-of-vector d (evaluate A gs m)) ms

  values-exist : (gs : List (Generator (Vector q))) (d : ℕ) (ms : List (List ℕ))
      → IsMonomials q (degrees gs) d ms → AreValues q A gs ms (values-at gs d ms)
  values-exist gs d ms M = record {
    count = length-map ms (λ m. row-of-vector d (evaluate A gs m));
    each = λ i l. ap (vector q) (get_or-map (λ m. row-of-vector d (evaluate A gs m)) ms i [] [] l)
        ∙ vector-back d (evaluate A gs (slice_index_or ms i []))
        (value-of gs d (slice_index_or ms i []) (M.each i l));
  }

  values-matrix : (gs : List (Generator (Vector q))) (d : ℕ) (ms : List (List ℕ))
      → IsMatrix (suc q) (ranks d) (values-at gs d ms)
  values-matrix gs d ms i l = rw (get_or-map (λ m. row-of-vector d (evaluate A gs m)) ms i [] []
      (rw length-map at l))
      (vector-is-row d (evaluate A gs (slice_index_or ms i [])))

  abbrev basis : ℕ → List (Vector q)
  basis d = units q 0 (ranks d)

  degrees-of-new : (d : ℕ) (vs : List (Vector q)) → Each (λ e. d < e) (degrees (generators_of q A (suc d) vs))
  degrees-of-new d [] = tt
  degrees-of-new d (v ∷ vs) = (omega arith, degrees-of-new d vs)

  weaken : (d : ℕ) (ds : List ℕ) → Each (λ e. d < e) ds → Each (λ e. 0 < e) ds
  weaken d [] h = tt
  weaken d (e ∷ ds) h = (omega (arith, h.0), weaken d ds h.1)

  -- generators and relations of degrees 1 to n
  pub record Presented (n : ℕ) : Type 0 where
    pub generators : List (Generator (Vector q))
    pub relations : List Polynomial
    pub positive : Each (λ e. 0 < e) (degrees generators)
    pub generators_are : IsSpanGenerators q A basis n generators
    pub relations_are : IsRelations q A generators n relations

  module _ (F : IsFieldModulo (suc q)) (n : ℕ) (P : Presented n) where
    abbrev ms : List (List ℕ)
    ms = all_monomials q (degrees P.generators) (suc n)

    monomials-are : IsMonomials q (degrees P.generators) (suc n) ms
    monomials-are = all-monomials q (degrees P.generators) P.positive (suc n)

    abbrev rank : ℕ
    rank = ranks (suc n)

    span : (E : List (List ℕ)) × IsEchelonOf (suc q) rank (values-at P.generators (suc n) ms) E
    span = echelon F (values-at P.generators (suc n) ms) (values-matrix P.generators (suc n) ms)

    positions : (xs : List ℕ) × IsGreedy (suc q) (rows_of rank (unit_row rank)) span.0 xs
    positions = greedy_exists (rows_of rank (unit_row rank)) span.0 F
        (unit-matrix (units-exist rank) (suc q) F.above_one) span.1.matrix

    abbrev new : List (Generator (Vector q))
    new = generators_of q A (suc n) (map (unit q) positions.0)

    abbrev gs : List (Generator (Vector q))
    gs = P.generators ++ new

    gs-are : IsSpanGenerators q A basis (suc n) gs
    gs-are = (
      P.generators,
      ms,
      map (unit q) positions.0,
      P.generators_are,
      monomials-are,
      chosen-units q rank mul P.generators ms (values-at P.generators (suc n) ms) span.0
          (rows_of rank (unit_row rank))
          (values-exist P.generators (suc n) ms monomials-are) span.1
          (units-exist rank) positions.0 positions.1,
      refl,
    )

    above : Each (λ e. n < e) (degrees new)
    above = degrees-of-new n (map (unit q) positions.0)

    gs-positive : Each (λ e. 0 < e) (degrees gs)
    gs-positive = rw (degrees-append P.generators new)
        (each-append (λ e. 0 < e) (degrees P.generators) (degrees new) P.positive
        (weaken n (degrees new) above))

    old : IsRelations q A gs n P.relations
    old = relations-up q (Vector q) A P.generators new n above n (omega arith) P.relations P.relations_are

    abbrev all : List (List ℕ)
    all = all_monomials q (degrees gs) (suc n)

    all-are : IsMonomials q (degrees gs) (suc n) all
    all-are = all-monomials q (degrees gs) gs-positive (suc n)

    abbrev values : List (List ℕ)
    values = values-at gs (suc n) all

    kernel : (K : List (List ℕ)) × IsKernelOf (suc q) values K
    kernel = kernel_exists values F (values-matrix gs (suc n) all)

    abbrev rows : List (List ℕ)
    rows = all-multiples q (degrees gs) gs-positive (suc n) all P.relations

    leading : (E : List (List ℕ)) × IsEchelonOf (suc q) (length all) rows E
    leading = echelon F rows (multiples-matrix q (degrees gs) gs-positive (suc n) all P.relations)

    pub next : Presented (suc n)
    next = record {
      generators = gs;
      relations = P.relations ++ new_relations (suc n) all leading.0 kernel.0;
      positive = gs-positive;
      generators_are = gs-are;
      relations_are = (
        P.relations,
        new_relations (suc n) all leading.0 kernel.0,
        all,
        old,
        all-are,
        relations-from q (suc n) mul gs P.relations all values kernel.0 leading.0 F.above_one all-are
            (values-exist gs (suc n) all all-are) kernel.1
            (consequence-pivots q (suc n) (Vector q) A gs P.relations all rows leading.0
            (λ r o. (defining q (Vector q) A gs n P.relations old r o).vanishes.over) all-are
            (multiples-exist q (degrees gs) gs-positive (suc n) all P.relations) leading.1 F.above_one),
        refl,
      );
    }

  pub presented : IsFieldModulo (suc q) → (n : ℕ) → Presented n
  presented F zero = record {
    generators = [];
    relations = [];
    positive = tt;
    generators_are = refl;
    relations_are = refl;
  }
  presented F (suc n) = next F n (presented F n)
