-- The next degree by tables, for the classes of a p-group.
use Rattle.std.proofs.Common.{◌≡◌, ℕ, zero, suc, ◌+◌, ◌-◌, ◌<◌, ◌≤◌, ◌⊎◌, inl, inr, List, [], ◌∷◌, ◌++◌}
use Rattle.std.proofs.Common.{length}
use Rattle.std.proofs.Common.{length-append, arith, ap, sym, refl, ◌∙◌}
use Rattle.std.specs.Prelude.{slice_index_or}
use Rattle.std.proofs.lemmas.Bool.{cases_lt}
use Rattle.std.proofs.lemmas.List.{get_or_append_left, get_or-append-add, get_or_push, length_push}
use Rattle.std.proofs.lemmas.List.{length-map}
use Rattle.std.specs.Prelude.{All}
use Rattle.std.specs.List.{AllByRecursion as Each}
use mathlib.Core.Path.{subst}
use Rattle.p_groups.specs.PGroups.{PGroup, largest_residue}
use Rattle.p_groups.proofs.Fields.{field}
use Rattle.linear_algebra.specs.Kernels.{IsKernelOf}
use Rattle.fp_rows.specs.Values.{MatrixValue}
use Rattle.graded_polynomials.specs.Polynomials.{Polynomial}
use Rattle.graded_polynomials.specs.Texts.{power}
use Rattle.graded_polynomials.proofs.MoreGenerators.{monomial-more}
use Rattle.graded_algebra.specs.Algebras.{Generator, degrees}
use Rattle.graded_algebra.specs.Presentations.{IsRelations}
use Rattle.graded_algebra.specs.Vectors.{Vector, GradedAlgebra, algebra}
use Rattle.gc_poly.specs.Generators.{Generators, greatest}
use Rattle.presentation_rows.specs.Values.{AreValues}
use Rattle.chain_lift.specs.Values.{LiftValue}
use Rattle.ring_completion.specs.Candidates.{AreLeft, IsListed}
use Rattle.ring_degree.specs.Steps.{IsRingBelow, IsStep}
use Rattle.ring_degree.specs.Tables.{AreMatrices, AreTables, AreTablesOf, at_generator, standard_at}
use Rattle.ring_degree.specs.Finishing.{AreFormsBelow, HasNewGenerators}
use Rattle.ring_degree.specs.declared.step.Step.{Step}
use Rattle.ring_degree.specs.declared.table.Table.{Table}
use Rattle.cohomology_degree.specs.Rings.{cohomology}
use Rattle.cohomology_degree.specs.Degrees.{classes, degrees_of, AreLeftOf, IsLiftBelow}
use Rattle.cohomology_degree.specs.Graded.{graded_classes}
use Rattle.cohomology_degree.specs.KnownTables.{HasTables, generators_from}
use Rattle.cohomology_degree.specs.Nexts.{IsLiftOf}
use Rattle.cohomology_degree.specs.declared.degree.Valued.{Valued}
use Rattle.cohomology_degree.proofs.Factors.{degrees-are}
use Rattle.cohomology_degree.proofs.Growing.{classes-append, degrees-of-append}

-- what is told of the table of the next degree
abbrev pub IsTableGiven : Generators → List Table → Table → List MatrixValue → ℕ → List (List ℕ)
    → List (List ℕ) → Type 0
IsTableGiven gens tables t forms width left kernel =
    (G : GradedAlgebra (greatest gens)) (gs new : List (Generator (Vector (greatest gens))))
    (rs : List Polynomial) (x : Step) (extra values : List (List ℕ))
    → degrees (gs ++ new) ≡ gens.degrees → Each (λ e. e < length tables) (degrees gs)
    → Each (λ e. e ≡ length tables) (degrees new)
    → x.forms.items ≡ forms → length x.left ≡ width → left ≡ x.left ++ extra
    → IsRingBelow (greatest gens) G gs rs (length tables - 1) tables
    → IsStep (greatest gens) G gs rs (length tables - 1) tables x
    → AreLeft (greatest gens) (algebra (greatest gens) G) (gs ++ new) rs (length tables) left
    → AreValues (greatest gens) (algebra (greatest gens) G) (gs ++ new) left values
    → IsKernelOf (suc (greatest gens)) values kernel
    → AreTablesOf (greatest gens) G (gs ++ new) (length tables) (tables ++ t ∷ [])

pub ring-below : (G : PGroup) (n : ℕ) (lifts : List LiftValue) (rs : List Polynomial) (tables : List Table)
    → Each (λ d. 0 < d) (degrees (classes G lifts))
    → IsRelations (largest_residue G) (cohomology G) (classes G lifts) n rs → HasTables G n lifts tables
    → IsRingBelow (largest_residue G) (graded_classes G) (classes G lifts) rs n tables
ring-below G n lifts rs tables p R T =
    record { field = field G; positive = p; relations = R; tables_are = T.are }

-- what the step tells, of the classes
pub step-of : (G : PGroup) (n : ℕ) (lifts : List LiftValue) (rs : List Polynomial) (tables : List Table)
    (x : Step) (gens : Generators) → gens ≡ record { prime = G.table.p; degrees = degrees_of lifts }
    → ((H : GradedAlgebra (greatest gens)) (gs : List (Generator (Vector (greatest gens))))
    (rs : List Polynomial) → degrees gs ≡ gens.degrees
    → IsRingBelow (greatest gens) H gs rs (length tables - 1) tables
    → IsStep (greatest gens) H gs rs (length tables - 1) tables x)
    → IsRingBelow (largest_residue G) (graded_classes G) (classes G lifts) rs n tables
    → IsStep (largest_residue G) (graded_classes G) (classes G lifts) rs n tables x
step-of G n lifts rs tables x gens e S B =
    let q = largest_residue G in
    let l : length tables - 1 ≡ n = (let c = B.tables_are.count in omega (arith, c)) in
    subst (λ k. IsStep q (graded_classes G) (classes G lifts) rs k tables x) l
    (subst (λ (g : Generators). (H : GradedAlgebra (greatest g)) (gs : List (Generator (Vector (greatest g))))
    (rs : List Polynomial) → degrees gs ≡ g.degrees
    → IsRingBelow (greatest g) H gs rs (length tables - 1) tables
    → IsStep (greatest g) H gs rs (length tables - 1) tables x) e S (graded_classes G) (classes G lifts) rs
    (degrees-are G lifts)
    (subst (λ k. IsRingBelow q (graded_classes G) (classes G lifts) rs k tables) (sym l) B))

-- generators of the next degree leave the tables
module _ (g : Generators) (es : List ℕ) (n : ℕ) (above : All (λ e. n < e) es) (tables : List Table)
    (count : length tables ≡ suc n) where
  abbrev more : Generators
  more = record g { degrees = g.degrees ++ es }

  -- a generator of degree to n is one of those before
  pub before : (i e : ℕ) → e ≤ n → i < length (g.degrees ++ es) → at_generator (g.degrees ++ es) i ≤ e
      → (i < length g.degrees) × (at_generator (g.degrees ++ es) i ≡ at_generator g.degrees i)
  before i e b l h = go (cases_lt i (length g.degrees))
    where
      go : (i < length g.degrees) ⊎ (length g.degrees ≤ i)
          → (i < length g.degrees) × (at_generator (g.degrees ++ es) i ≡ at_generator g.degrees i)
      go (inl a) = (a, get_or_append_left g.degrees es 0 i a)
      go (inr a) =
          let k = i - length g.degrees in
          let s : i ≡ length g.degrees + k = omega (arith, a) in
          let z : at_generator (g.degrees ++ es) i ≡ slice_index_or es k 0 =
          ap (λ j. slice_index_or (g.degrees ++ es) j 0) s ∙ get_or-append-add g.degrees es k 0 in
          let x = length-append g.degrees es in
          let y : n < slice_index_or es k 0 = above k 0 (omega (arith, x, l, a)) in
          absurd (omega (arith, z, y, h, b))

  pub tables-grow : AreTables g tables → AreTables (record g { degrees = g.degrees ++ es }) tables
  tables-grow T = record {
    monomials = λ e l. record {
      each = λ i b. monomial-more (greatest g) g.degrees es e (slice_index_or (standard_at tables e) i [])
          ((T.monomials e l).each i b);
      descending = (T.monomials e l).descending;
    };
    products = λ e l. record {
      count = λ i b h. let k = before i e (omega (arith, l, count)) b h in
          (T.products e l).count i k.0 (let z = k.1 in omega (arith, z, h));
      primes = λ i m b h. let k = before i e (omega (arith, l, count)) b h in
          (T.products e l).primes i m k.0 (let z = k.1 in omega (arith, z, h));
      widths = λ i m b h. let k = before i e (omega (arith, l, count)) b h in
          (T.products e l).widths i m k.0 (let z = k.1 in omega (arith, z, h));
      rows = λ i b h. let k = before i e (omega (arith, l, count)) b h in
          (T.products e l).rows i k.0 (let z = k.1 in omega (arith, z, h));
      counts = λ i b h. let k = before i e (omega (arith, l, count)) b h in
          (T.products e l).counts i k.0 (let z = k.1 in omega (arith, z, h))
          ∙ ap (λ d. length (standard_at tables (e - d))) (sym k.1);
    };
  }

-- the tables with that of the next degree, of the classes
pub has-tables-next : (G : PGroup) (n : ℕ) (lifts new : List LiftValue) (rs : List Polynomial)
    (tables : List Table) (t : Table) (x : Step) (gens : Generators) (forms : List MatrixValue)
    (width : ℕ) (extra : List (List ℕ)) (w : Valued) (kernel : List (List ℕ))
    → gens ≡ record { prime = G.table.p; degrees = degrees_of (lifts ++ new) } → All (IsLiftBelow G n) lifts
    → All (IsLiftOf G (suc n)) new
    → x.forms.items ≡ forms → length x.left ≡ width → w.monomials ≡ x.left ++ extra
    → IsRingBelow (largest_residue G) (graded_classes G) (classes G lifts) rs n tables
    → IsStep (largest_residue G) (graded_classes G) (classes G lifts) rs n tables x
    → AreLeftOf G rs (suc n) (lifts ++ new) w → IsKernelOf w.values.p w.values.rows kernel
    → AreTables gens (tables ++ t ∷ [])
    → IsTableGiven gens tables t forms width w.monomials kernel
    → HasTables G (suc n) (lifts ++ new) (tables ++ t ∷ [])
has-tables-next G n lifts new rs tables t x gens forms width extra w kernel e low are ef el em B S A K shape
    given = record {
      shape = subst (λ (g : Generators). AreTables g (tables ++ t ∷ [])) e shape;
      are = subst (λ gs. AreTablesOf (largest_residue G) (graded_classes G) gs (suc n) (tables ++ t ∷ []))
          (sym (classes-append G lifts new))
          (subst (λ k. AreTablesOf (largest_residue G) (graded_classes G) (classes G lifts ++ classes G new) k
          (tables ++ t ∷ []))
          B.tables_are.count
          ((subst (λ (g : Generators). IsTableGiven g tables t forms width w.monomials kernel) e given)
          (graded_classes G) (classes G lifts) (classes G new) rs x extra w.values.rows
          (ap degrees (sym (classes-append G lifts new)) ∙ degrees-are G (lifts ++ new))
          (of-low lifts low) (of-degree new are) ef el em
          (subst (λ k. IsRingBelow (largest_residue G) (graded_classes G) (classes G lifts) rs k tables)
          below B)
          (subst (λ k. IsStep (largest_residue G) (graded_classes G) (classes G lifts) rs k tables x) below S)
          (subst (λ k. AreLeft (largest_residue G) (cohomology G) (classes G lifts ++ classes G new) rs k
          w.monomials)
          (sym B.tables_are.count)
          (subst (λ gs. AreLeft (largest_residue G) (cohomology G) gs rs (suc n) w.monomials)
          (classes-append G lifts new) A.left))
          (subst (λ gs. AreValues (largest_residue G) (cohomology G) gs w.monomials w.values.rows)
          (classes-append G lifts new)
          A.valued.values)
          (subst (λ p. IsKernelOf p w.values.rows kernel) A.valued.prime K)));
    }
  where
    below : n ≡ length tables - 1
    below = let c = B.tables_are.count in omega (arith, c)

    of-low : (xs : List LiftValue) → All (IsLiftBelow G n) xs
        → Each (λ e. e < length tables) (degrees (classes G xs))
    of-low [] a = tt
    of-low (y ∷ ys) a = (
      (let z = (a 0 y (omega arith)).to_n in let c = B.tables_are.count in omega (arith, z, c)),
      of-low ys (λ k d l. a (suc k) d (omega (arith, l))),
    )

    of-degree : (xs : List LiftValue) → All (IsLiftOf G (suc n)) xs
        → Each (λ e. e ≡ length tables) (degrees (classes G xs))
    of-degree [] a = tt
    of-degree (y ∷ ys) a = (
      (a 0 y (omega arith)).degree_is ∙ sym B.tables_are.count,
      of-degree ys (λ k d l. a (suc k) d (omega (arith, l))),
    )

-- the forms of the generators before, where generators of the next degree are added
pub forms-below : (g : Generators) (es : List ℕ) (n width : ℕ) (tables : List Table)
    (forms : List MatrixValue)
    → length tables ≡ suc n → All (λ e. n < e) es → AreMatrices g tables (length tables) width forms
    → AreFormsBelow (record g { degrees = g.degrees ++ es }) tables width forms
forms-below g es n width tables forms count above M = record {
  count = λ i b h. let k = at i b h in M.count i k.0 (let z = k.1 in omega (arith, z, h));
  primes = λ i m b h. let k = at i b h in M.primes i m k.0 (let z = k.1 in omega (arith, z, h));
  widths = λ i m b h. let k = at i b h in M.widths i m k.0 (let z = k.1 in omega (arith, z, h));
  counts = λ i b h. let k = at i b h in M.counts i k.0 (let z = k.1 in omega (arith, z, h))
      ∙ ap (λ d. length (standard_at tables (length tables - d))) (sym k.1);
}
  where
    at : (i : ℕ) → i < length (g.degrees ++ es) → at_generator (g.degrees ++ es) i < length tables
        → (i < length g.degrees) × (at_generator (g.degrees ++ es) i ≡ at_generator g.degrees i)
    at i b h = before g es n above tables count i n (omega arith) b (omega (arith, h, count))

-- the monomials of generators, by number
generators-count : (k m : ℕ) → length (generators_from k m) ≡ m
generators-count k zero = refl
generators-count k (suc m) = length_push (generators_from k m) (power (k + m) 1)
    ∙ (let z = generators-count k m in omega (arith, z))

generator-at : (k m j : ℕ) → j < m → slice_index_or (generators_from k m) j [] ≡ power (k + j) 1
generator-at k zero j l = absurd (omega (arith, l))
generator-at k (suc m) j l = go (cases_lt j m) (generator-at k m j)
  where
    go : (j < m) ⊎ (m ≤ j) → (j < m → slice_index_or (generators_from k m) j [] ≡ power (k + j) 1)
        → slice_index_or (generators_from k (suc m)) j [] ≡ power (k + j) 1
    go (inl a) before = get_or_append_left (generators_from k m) (power (k + m) 1 ∷ []) [] j
        (let c = generators-count k m in omega (arith, a, c)) ∙ before a
    go (inr a) before = let s : j ≡ m = omega (arith, a, l) in
        get_or_push (generators_from k m) (power (k + m) 1) [] j (generators-count k m ∙ sym s)
        ∙ ap (λ n. power (k + n) 1) (sym s)

-- the monomials of the new generators are listed
pub new-are-listed : (lifts new : List LiftValue) (n d : ℕ) (init left : List (List ℕ)) (g : Generators)
    → g.degrees ≡ degrees_of (lifts ++ new) → All (λ e. e ≤ n) (degrees_of lifts) → d ≡ suc n
    → left ≡ init ++ generators_from (length lifts) (length new) → HasNewGenerators g d left
new-are-listed lifts new n d init left g eg low ed el i b h =
    subst (λ ms. IsListed ms (power i 1)) (sym el)
    (subst (λ j. IsListed (init ++ generators_from (length lifts) (length new)) (power j 1))
    (let z : length lifts + (i - length lifts) ≡ i = omega (arith, past) in z) (
      length init + (i - length lifts),
      (let a = length-append init (generators_from (length lifts) (length new)) in
          let c = generators-count (length lifts) (length new) in omega (arith, a, c, past, inside)),
      get_or-append-add init (generators_from (length lifts) (length new)) (i - length lifts) []
          ∙ generator-at (length lifts) (length new) (i - length lifts) (omega (arith, past, inside)),
    ))
  where
    inside : i < length lifts + length new
    inside = let a = ap (λ (ds : List ℕ). length ds) eg in
        let c = length-map (lifts ++ new) (λ (l : LiftValue). l.degree) in
        let e = length-append lifts new in omega (arith, a, c, e, b)

    past : length lifts ≤ i
    past = go (cases_lt i (length lifts))
      where
        go : (i < length lifts) ⊎ (length lifts ≤ i) → length lifts ≤ i
        go (inr a) = a
        go (inl a) =
            let k = length-map lifts (λ (l : LiftValue). l.degree) in
            let z : at_generator g.degrees i ≡ at_generator (degrees_of lifts) i =
            ap (λ ds. at_generator ds i) (eg ∙ degrees-of-append lifts new)
            ∙ get_or_append_left (degrees_of lifts) (degrees_of new) 0 i (omega (arith, a, k)) in
            let y : at_generator (degrees_of lifts) i ≤ n = low i 0 (omega (arith, a, k)) in
            absurd (omega (arith, z, y, h, ed))
