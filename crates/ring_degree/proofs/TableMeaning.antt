-- The table of the next degree is that of its standard monomials and their products.
use Rattle.std.proofs.Common.{◌≡◌, ℕ, zero, suc, ◌+◌, ◌-◌, ◌<◌, ◌≤◌, List, [], ◌∷◌, ◌++◌, length, map}
use Rattle.std.proofs.Common.{replicate, drop, ◌⊎◌, inl, inr, arith, ap, sym, subst, ◌∙◌, refl}
use Rattle.std.specs.Prelude.{slice_index_or}
use Rattle.std.specs.List.{AllByRecursion as Each}
use Rattle.std.proofs.lemmas.Bool.{cases_lt}
use Rattle.std.proofs.lemmas.List.{length-append, length-map, length-replicate, get_or-append-add, get_or-map}
use Rattle.fp_rows.specs.Values.{MatrixValue}
use Rattle.linear_algebra.specs.Kernels.{IsKernelOf}
use Rattle.linear_algebra.specs.Rows.{row}
use Rattle.graded_polynomials.specs.Monomials.{IsMonomial}
use Rattle.graded_polynomials.specs.Polynomials.{Term, Polynomial, scaled}
use Rattle.graded_polynomials.specs.Texts.{power}
use Rattle.graded_polynomials.proofs.Monomials.{only-one}
use Rattle.graded_polynomials.proofs.Terms.{each-append, each-map}
use Rattle.graded_algebra.specs.Algebras.{Generator, degrees, value}
use Rattle.graded_algebra.specs.Presentations.{IsConsequence, IsNormalForm, IsRelations}
use Rattle.graded_algebra.specs.Vectors.{Vector, GradedAlgebra, algebra}
use Rattle.graded_algebra.proofs.MoreGenerators.{degrees-append}
use Rattle.graded_algebra.proofs.Relations.{defining}
use Rattle.graded_algebra.proofs.Stability.{relations-up}
use Rattle.presentation_rows.specs.RowPolynomials.{polynomial_of, row_of}
use Rattle.presentation_rows.specs.Values.{AreValues}
use Rattle.presentation_rows.proofs.RowTerms.{row-of-is-row}
use Rattle.ring_completion.specs.Candidates.{AreSome, IsListed, AreLeft}
use Rattle.ring_completion.specs.Completions.{degree_of, generator_times, IsGenerator, IsStandardOf}
use Rattle.ring_completion.specs.Completions.{IsReduced, AreProducts}
use Rattle.ring_completion.specs.Listings.{AreStandardLists}
use Rattle.ring_completion.specs.Left.{without_pivots}
use Rattle.ring_completion.proofs.AddedGenerators.{ideal-up}
use Rattle.ring_completion.proofs.Factors.{joined-right}
use Rattle.ring_completion.proofs.FormRows.{form-of-product, rows-over-left}
use Rattle.ring_completion.proofs.Results.{separates-left, product-of-form, standard-of-list, all-standard}
use Rattle.ring_completion.proofs.GrownLists.{lists-grow}
use Rattle.ring_completion.proofs.ListedCandidates.{generator-at}
use Rattle.ring_completion.proofs.Listings.{degree-power, within-length}
use Rattle.ring_completion.proofs.Quotients.{degree-positive}
use Rattle.ring_completion.proofs.Stays.{monomial-up, monomial-down, standard-down, times-more, products-grow}
use Rattle.ring_degree.specs.Rests.{IsRest, AreRests}
use Rattle.ring_degree.specs.Steps.{IsRingBelow, IsStep}
use Rattle.ring_degree.specs.Tables.{at_generator, lists, standard_at, rows_at, product_rows, product_in}
use Rattle.ring_degree.specs.Tables.{place_of, AreTablesOf}
use Rattle.ring_degree.specs.declared.step.Step.{Step}
use Rattle.ring_degree.specs.declared.table.Table.{Table}
use Rattle.ring_degree.proofs.AddedTable.{standard-old, standard-new, rows-old, rows-new, lists-drop}
use Rattle.ring_degree.proofs.CriticalMeaning.{place-of-member}
use Rattle.ring_degree.proofs.Degrees.{listed}

no-terms : (es : List (List ℕ)) (z : ℕ) → polynomial_of es (replicate z 0) ≡ []
no-terms [] zero = refl
no-terms [] (suc z) = refl
no-terms (m ∷ es) zero = refl
no-terms (m ∷ es) (suc z) = no-terms es z

-- a row with zeros behind, over a list with more members, stands for the same polynomial
pub polynomial-widened : (ms es : List (List ℕ)) (u : List ℕ) (z : ℕ) → length u ≡ length ms
    → polynomial_of (ms ++ es) (u ++ replicate z 0) ≡ polynomial_of ms u
polynomial-widened [] es [] z e = no-terms es z
polynomial-widened [] es (c ∷ u) z e = absurd (omega (arith, e))
polynomial-widened (m ∷ ms) es [] z e = absurd (omega (arith, e))
polynomial-widened (m ∷ ms) es (zero ∷ u) z e = polynomial-widened ms es u z (omega (arith, e))
polynomial-widened (m ∷ ms) es (suc c ∷ u) z e =
    ap (λ (f : List Term). record { scalar = suc c; monomial = m } ∷ f)
    (polynomial-widened ms es u z (omega (arith, e)))

module _ (q n : ℕ) (G : GradedAlgebra q) (gs new : List (Generator (Vector q))) (rs : List Polynomial)
    (tables : List Table) (B : IsRingBelow q G gs rs n tables)
    (here : Each (λ e. e ≡ suc n) (degrees new))
    (left values kernel : List (List ℕ)) (L : AreLeft q (algebra q G) (gs ++ new) rs (suc n) left)
    (V : AreValues q (algebra q G) (gs ++ new) left values)
    (K : IsKernelOf (suc q) values kernel) where
  abbrev hs : List (Generator (Vector q))
  hs = gs ++ new

  -- the new generators are of higher degree
  pub later : Each (λ e. n < e) (degrees new)
  later = go (degrees new) here
    where
      go : (es : List ℕ) → Each (λ e. e ≡ suc n) es → Each (λ e. n < e) es
      go [] h = tt
      go (e ∷ es) h = ((let z = h.0 in omega (arith, z)), go es h.1)

  pub positive : Each (λ e. 0 < e) (degrees (gs ++ new))
  positive = rw (degrees-append gs new) (each-append (λ e. 0 < e) (degrees gs) (degrees new) B.positive
      (go (degrees new) here))
    where
      go : (es : List ℕ) → Each (λ e. e ≡ suc n) es → Each (λ e. 0 < e) es
      go [] h = tt
      go (e ∷ es) h = ((let z = h.0 in omega (arith, z)), go es h.1)

  pub relations : IsRelations q (algebra q G) (gs ++ new) n rs
  relations = relations-up q (Vector q) (algebra q G) gs new n later n (omega arith) rs B.relations

  consequence-up : (f : List Term) → IsConsequence q (algebra q G) gs rs (suc n) f
      → IsConsequence q (algebra q G) hs rs (suc n) f
  consequence-up f c = record {
    over = each-map (λ t. IsMonomial q (degrees gs) (suc n) t.monomial)
        (λ t. IsMonomial q (degrees hs) (suc n) t.monomial) f
        (λ t M. monomial-up q (algebra q G) gs new (suc n) t.monomial M) c.over;
    ideal = rw (degrees-append gs new)
        (ideal-up q n (degrees gs) (degrees new) later rs
        (λ r o. (defining q (Vector q) (algebra q G) gs n rs B.relations r o).vanishes.over)
        (λ r o. (defining q (Vector q) (algebra q G) gs n rs B.relations r o).positive) f c.ideal);
  }

  -- the form of a generator of lower degree, with zeros behind
  pub form-widened : (ms extra : List (List ℕ)) → left ≡ ms ++ extra → (i e z : ℕ) (s u : List ℕ)
      → IsGenerator q (degrees gs) i → IsMonomial q (degrees gs) e s → length u ≡ length ms
      → IsConsequence q (algebra q G) gs rs (suc n)
      (generator_times q (degrees gs) i s ++ scaled q (polynomial_of ms u))
      → IsConsequence q (algebra q G) (gs ++ new) rs (suc n)
      (generator_times q (degrees (gs ++ new)) i s ++ scaled q (polynomial_of left (u ++ replicate z 0)))
  form-widened ms extra split i e z s u I M l c =
      subst (λ f. IsConsequence q (algebra q G) hs rs (suc n)
      (f ++ scaled q (polynomial_of left (u ++ replicate z 0))))
      (sym (times-more q (algebra q G) gs new i e s I M))
      (subst (λ g. IsConsequence q (algebra q G) hs rs (suc n) (generator_times q (degrees gs) i s
      ++ scaled q g))
      (sym (ap (λ ls. polynomial_of ls (u ++ replicate z 0)) split ∙ polynomial-widened ms extra u z l))
      (consequence-up (generator_times q (degrees gs) i s ++ scaled q (polynomial_of ms u)) c))

  -- the form of a new generator
  pub form-of-new : (i : ℕ) → IsListed left (power i 1)
      → IsConsequence q (algebra q G) (gs ++ new) rs (suc n)
      (generator_times q (degrees (gs ++ new)) i []
      ++ scaled q (polynomial_of left (row_of q left (generator_times q (degrees (gs ++ new)) i []))))
  form-of-new i l = form-of-product q G.mul hs (suc n) rs left L.some i []
      (subst (IsListed left) (sym (joined-right (power i 1))) l)

  -- what is left of a form, reduced by the kernel, is the product
  pub product-is : (i : ℕ) (s u v : List ℕ) → length u ≡ length left
      → IsConsequence q (algebra q G) (gs ++ new) rs (suc n)
      (generator_times q (degrees (gs ++ new)) i s ++ scaled q (polynomial_of left u))
      → IsRest (suc q) kernel u v
      → IsNormalForm q (algebra q G) (gs ++ new) (suc n)
      (value (algebra q G) (gs ++ new) (generator_times q (degrees (gs ++ new)) i s))
      (polynomial_of (without_pivots kernel 0 left) v)
  product-is i s u v l c X =
      subst (IsNormalForm q (algebra q G) hs (suc n)
      (value (algebra q G) hs (generator_times q (degrees hs) i s)))
      (rows-over-left kernel left X.reduced X.is_reduced.zero_at_pivots
      ∙ ap (polynomial_of (without_pivots kernel 0 left)) (sym X.entries))
      (product-of-form q n B.field G hs positive rs relations left values kernel L.some
      (separates-left q n B.field G hs positive rs relations left L) V K
      (generator_times q (degrees hs) i s) u
      X.reduced c (rw (← l) X.is_row) X.is_reduced)

-- the product by its degrees
abbrev product_at : List Table → ℕ → ℕ → ℕ → List ℕ → List Term
product_at tables d e i s = polynomial_of (standard_at tables d)
    (row (product_rows tables d i) (place_of (standard_at tables e) s))

module _ (q n : ℕ) (G : GradedAlgebra q) (gs new : List (Generator (Vector q))) (rs : List Polynomial)
    (tables : List Table) (B : IsRingBelow q G gs rs n tables)
    (here : Each (λ e. e ≡ suc n) (degrees new))
    (x : Step) (S : IsStep q G gs rs n tables x)
    (left extra values kernel : List (List ℕ)) (split : left ≡ x.left ++ extra)
    (L : AreLeft q (algebra q G) (gs ++ new) rs (suc n) left)
    (V : AreValues q (algebra q G) (gs ++ new) left values)
    (K : IsKernelOf (suc q) values kernel)
    (some : (e : ℕ) → e ≤ n → AreSome q (degrees gs) e (standard_at tables e))
    (z : ℕ) (wide : List MatrixValue) (t : Table) (standard-is : t.standard ≡ without_pivots kernel 0 left)
    (widths : (i k : ℕ) → i < length (degrees gs) → k < length (rows_at x.forms.items i)
    → length (row (rows_at x.forms.items i) k) ≡ length x.left)
    (zeros : z + length x.left ≡ length left)
    (counts : (i : ℕ) → i < length (degrees gs) → length (rows_at x.forms.items i)
    ≡ length (standard_at tables (suc n - at_generator (degrees gs) i)))
    (wide-old : (i : ℕ) → i < length (degrees gs)
    → rows_at wide i ≡ map (λ v. v ++ replicate z 0) (rows_at x.forms.items i))
    (wide-new : (i : ℕ) → length (degrees gs) ≤ i → i < length (degrees (gs ++ new))
    → (rows_at wide i ≡ row_of q left (generator_times q (degrees (gs ++ new)) i []) ∷ [])
    × IsListed left (power i 1))
    (rests : (i : ℕ) → i < length (degrees (gs ++ new))
    → AreRests (suc q) kernel (rows_at wide i) (rows_at t.products.items i)) where
  abbrev more : List (Generator (Vector q))
  more = gs ++ new

  abbrev all : List Table
  all = tables ++ t ∷ []

  up : (d : ℕ) (m : List ℕ) → IsMonomial q (degrees gs) d m → IsMonomial q (degrees more) d m
  up d m M = monomial-up q (algebra q G) gs new d m M

  above : Each (λ e. n < e) (degrees new)
  above = later q n G gs new rs tables B here left values kernel L V K

  -- products of lower degree stay
  product-same : (i e : ℕ) (s : List ℕ) → IsGenerator q (degrees gs) i → IsMonomial q (degrees gs) e s
      → degree_of (degrees gs) i + e < suc n
      → product_in (degrees gs) tables i s ≡ product_in (degrees more) all i s
  product-same i e s I M l =
      ap (λ d. product_at tables (degree_of (degrees gs) i + d) d i s) M.degree_is
      ∙ ap (λ ss. polynomial_of ss (row (product_rows tables D i) (place_of (standard_at tables e) s)))
      (sym (standard-old tables t n B.tables_are.count D (omega (arith, l))))
      ∙ same-all
      ∙ sym (ap (λ d. product_at all (degree_of (degrees more) i + d) d i s) (up e s M).degree_is
      ∙ ap (λ d. product_at all (d + e) e i s) (up (degree_of (degrees gs) i) (power i 1) I).degree_is)
    where
      D : ℕ
      D = degree_of (degrees gs) i + e

      same-all : polynomial_of (standard_at all D) (row (product_rows tables D i)
          (place_of (standard_at tables e) s))
          ≡ product_at all D e i s
      same-all = ap (λ rows. polynomial_of (standard_at all D) (row rows (place_of (standard_at tables e) s)))
          (sym (rows-old tables t n B.tables_are.count D i (omega (arith, l))))
          ∙ ap (λ ss. polynomial_of (standard_at all D) (row (product_rows all D i) (place_of ss s)))
          (sym (standard-old tables t n B.tables_are.count e (omega (arith, l))))

  lower : AreProducts q (algebra q G) gs (suc n) (product_in (degrees more) all)
  lower = record {
    reduced = λ i e s I X l. subst (IsReduced q (algebra q G) gs (degree_of (degrees gs) i + e))
        (product-same i e s I X.monomial l) (B.tables_are.products.reduced i e s I X l);
    value_is = λ i e s I X l. subst (λ f. value (algebra q G) gs f
        ≡ value (algebra q G) gs (generator_times q (degrees gs) i s))
        (product-same i e s I X.monomial l) (B.tables_are.products.value_is i e s I X l);
  }

  -- the product in the degree itself, from the row at the place of s
  at-place : (i e k : ℕ) (s : List ℕ) → degree_of (degrees more) i + e ≡ suc n
      → IsMonomial q (degrees more) e s
      → e ≤ n → place_of (standard_at tables e) s ≡ k
      → IsNormalForm q (algebra q G) more (suc n)
      (value (algebra q G) more (generator_times q (degrees more) i s))
      (polynomial_of (without_pivots kernel 0 left) (row (rows_at t.products.items i) k))
      → IsNormalForm q (algebra q G) more (suc n)
      (value (algebra q G) more (generator_times q (degrees more) i s)) (product_in (degrees more) all i s)
  at-place i e k s total M low p N =
      subst (IsNormalForm q (algebra q G) more (suc n)
      (value (algebra q G) more (generator_times q (degrees more) i s)))
      (sym (ap (λ d. product_at all (degree_of (degrees more) i + d) d i s) M.degree_is
      ∙ ap (λ d. product_at all d e i s) total
      ∙ ap (λ ss. polynomial_of ss (row (product_rows all (suc n) i) (place_of (standard_at all e) s)))
      (standard-new tables t n B.tables_are.count ∙ standard-is)
      ∙ ap (λ rows. polynomial_of (without_pivots kernel 0 left) (row rows (place_of (standard_at all e) s)))
      (rows-new tables t n B.tables_are.count i)
      ∙ ap (λ ss. polynomial_of (without_pivots kernel 0 left) (row (rows_at t.products.items i)
      (place_of ss s)))
      (standard-old tables t n B.tables_are.count e low)
      ∙ ap (λ j. polynomial_of (without_pivots kernel 0 left) (row (rows_at t.products.items i) j)) p)) N

  -- of a generator of lower degree
  of-old : (i e : ℕ) (s : List ℕ) → i < length (degrees gs) → IsStandardOf q (algebra q G) more e s
      → degree_of (degrees more) i + e ≡ suc n
      → IsNormalForm q (algebra q G) more (suc n)
      (value (algebra q G) more (generator_times q (degrees more) i s)) (product_in (degrees more) all i s)
  of-old i e s il X total = at-place i e at.0 s total X.monomial low
      (ap (place_of (standard_at tables e)) (sym at.2)
      ∙ place-of-member (standard_at tables e) (some e low).descending at.0 at.1)
      (product-is q n G gs new rs tables B here left values kernel L V K i s
      (row (rows_at wide i) at.0) (row (rows_at t.products.items i) at.0)
      (ap length wide-row ∙ length-append (row (rows_at x.forms.items i) at.0) (replicate z 0)
      ∙ (let a = widths i at.0 il inside in let b = length-replicate {A = ℕ} z 0 in
      omega (arith, a, b, zeros)))
      (subst (λ u. IsConsequence q (algebra q G) more rs (suc n)
      (generator_times q (degrees more) i s ++ scaled q (polynomial_of left u))) (sym wide-row)
      (form-widened q n G gs new rs tables B here left values kernel L V K x.left extra split i e z s
      (row (rows_at x.forms.items i) at.0) I M (widths i at.0 il inside)
      (subst (λ r. IsConsequence q (algebra q G) gs rs (suc n)
      (generator_times q (degrees gs) i r ++ scaled q
      (polynomial_of x.left (row (rows_at x.forms.items i) at.0))))
      (ap (λ d. slice_index_or (standard_at tables d) at.0 []) (sym e-is) ∙ at.2)
      (S.forms_are i at.0 il (subst (λ d. at.0 < length (standard_at tables d)) e-is at.1)))))
      ((rests i (let c = ap (λ (ds : List ℕ). length ds) (degrees-append gs new) in
      let d = length-append (degrees gs) (degrees new) in omega (arith, c, d, il))).each at.0
      (let a = ap length (wide-old i il) in
      let b = length-map (rows_at x.forms.items i) (λ v. v ++ replicate z 0) in omega (arith, a, b, inside))))
    where
      I : IsGenerator q (degrees gs) i
      I = generator-at q (degrees gs) i il

      same-degree : degree_of (degrees more) i ≡ degree_of (degrees gs) i
      same-degree = (up (degree_of (degrees gs) i) (power i 1) I).degree_is

      low : e ≤ n
      low = let p = degree-positive (degrees gs) i B.positive I.within in omega (arith, p, same-degree, total)

      e-is : e ≡ suc n - at_generator (degrees gs) i
      e-is = let p = degree-power (degrees gs) i il in omega (arith, p, same-degree, total)

      M : IsMonomial q (degrees gs) e s
      M = monomial-down q (algebra q G) gs new n above e low s X.monomial

      at : IsListed (standard_at tables e) s
      at = (listed q n G gs rs tables B e low s).0
          record { monomial = M; standard = standard-down q (algebra q G) gs new e s X.standard }

      inside : at.0 < length (rows_at x.forms.items i)
      inside = let c = counts i il in
          let b : at.0 < length (standard_at tables (suc n - at_generator (degrees gs) i)) =
          subst (λ d. at.0 < length (standard_at tables d)) e-is at.1 in omega (arith, b, c)

      wide-row : row (rows_at wide i) at.0 ≡ row (rows_at x.forms.items i) at.0 ++ replicate z 0
      wide-row = ap (λ rows. row rows at.0) (wide-old i il)
          ∙ get_or-map (λ v. v ++ replicate z 0) (rows_at x.forms.items i) at.0 [] [] inside

  -- of a new generator
  of-new : (i e : ℕ) (s : List ℕ) → length (degrees gs) ≤ i → i < length (degrees more)
      → IsStandardOf q (algebra q G) more e s → degree_of (degrees more) i + e ≡ suc n
      → IsNormalForm q (algebra q G) more (suc n)
      (value (algebra q G) more (generator_times q (degrees more) i s)) (product_in (degrees more) all i s)
  of-new i e s il jl X total = at-place i e 0 s total X.monomial (omega (arith, none))
      (ap (λ d. place_of (standard_at tables d) s) none
      ∙ ap (λ ss. place_of ss s) B.tables_are.one ∙ ap (place_of ([] ∷ [])) one)
      (subst (λ r. IsNormalForm q (algebra q G) more (suc n)
      (value (algebra q G) more (generator_times q (degrees more) i r))
      (polynomial_of (without_pivots kernel 0 left) (row (rows_at t.products.items i) 0))) (sym one)
      (product-is q n G gs new rs tables B here left values kernel L V K i []
      (row (rows_at wide i) 0) (row (rows_at t.products.items i) 0)
      (ap length wide-row ∙ (row-of-is-row q left (generator_times q (degrees more) i [])).length_is)
      (subst (λ u. IsConsequence q (algebra q G) more rs (suc n)
      (generator_times q (degrees more) i [] ++ scaled q (polynomial_of left u))) (sym wide-row)
      (form-of-new q n G gs new rs tables B here left values kernel L V K i (wide-new i il jl).1))
      ((rests i jl).each 0 (let a = ap length (wide-new i il jl).0 in omega (arith, a)))))
    where
      degree-is : degree_of (degrees more) i ≡ suc n
      degree-is = degree-power (degrees more) i jl
          ∙ ap (λ ds. at_generator ds i) (degrees-append gs new)
          ∙ ap (λ j. at_generator (degrees gs ++ degrees new) j)
          (let w : i ≡ length (degrees gs) + (i - length (degrees gs)) = omega (arith, il) in w)
          ∙ get_or-append-add (degrees gs) (degrees new) (i - length (degrees gs)) 0
          ∙ member (degrees new) (i - length (degrees gs)) here
          (let c = ap (λ (ds : List ℕ). length ds) (degrees-append gs new) in
          let d = length-append (degrees gs) (degrees new) in omega (arith, c, d, il, jl))
        where
          member : (es : List ℕ) (k : ℕ) → Each (λ e. e ≡ suc n) es → k < length es
              → slice_index_or es k 0 ≡ suc n
          member [] k h l = absurd (omega (arith, l))
          member (e ∷ es) zero h l = h.0
          member (e ∷ es) (suc k) h l = member es k h.1 (omega (arith, l))

      none : e ≡ 0
      none = omega (arith, degree-is, total)

      one : s ≡ []
      one = only-one q (degrees more) s (positive q n G gs new rs tables B here left values kernel L V K)
          (subst (λ d. IsMonomial q (degrees more) d s) none X.monomial)

      wide-row : row (rows_at wide i) 0 ≡ row_of q left (generator_times q (degrees more) i [])
      wide-row = ap (λ rows. row rows 0) (wide-new i il jl).0

  pub tables-of : AreTablesOf q G (gs ++ new) (suc n) (tables ++ t ∷ [])
  tables-of = record {
    count = length-append tables (t ∷ []) ∙ (let c = B.tables_are.count in omega (arith, c));
    one = standard-old tables t n B.tables_are.count 0 (omega arith) ∙ B.tables_are.one;
    standard = subst (AreStandardLists q (algebra q G) more (suc n))
        (ap (λ ss. drop 1 (lists tables) ++ ss ∷ []) (sym standard-is)
        ∙ sym (lists-drop tables t n B.tables_are.count))
        (lists-grow q (algebra q G) gs new n above (drop 1 (lists tables)) lists-count B.tables_are.standard
        left kernel L.some
        (standard-of-list q n B.field G more
        (positive q n G gs new rs tables B here left values kernel L V K) rs
        (relations q n G gs new rs tables B here left values kernel L V K) left values kernel L.some
        (separates-left q n B.field G more (positive q n G gs new rs tables B here left values kernel
        L V K) rs
        (relations q n G gs new rs tables B here left values kernel L V K) left L) V K)
        (all-standard q n B.field G more
        (positive q n G gs new rs tables B here left values kernel L V K) rs
        (relations q n G gs new rs tables B here left values kernel L V K) left values kernel L.some
        (separates-left q n B.field G more (positive q n G gs new rs tables B here left values kernel
        L V K) rs
        (relations q n G gs new rs tables B here left values kernel L V K) left L) V K));
    products = products-grow q (algebra q G) gs new n above (product_in (degrees more) all) lower
        (λ i e s I X total. in-degree i e s I X total (cases_lt i (length (degrees gs))));
  }
    where
      lists-count : length (drop 1 (lists tables)) ≡ n
      lists-count = go (lists tables)
          (length-map tables (λ (t : Table). t.standard) ∙ B.tables_are.count)
        where
          go : (ls : List (List (List ℕ))) → length ls ≡ suc n → length (drop 1 ls) ≡ n
          go [] l = absurd (omega (arith, l))
          go (y ∷ ls) l = omega (arith, l)

      in-degree : (i e : ℕ) (s : List ℕ) → IsGenerator q (degrees more) i → IsStandardOf q (algebra q G)
          more e s
          → degree_of (degrees more) i + e ≡ suc n → (i < length (degrees gs)) ⊎ (length (degrees gs) ≤ i)
          → IsNormalForm q (algebra q G) more (suc n)
          (value (algebra q G) more (generator_times q (degrees more) i s))
          (product_in (degrees more) all i s)
      in-degree i e s I X total (inl l) = of-old i e s l X total
      in-degree i e s I X total (inr l) = of-new i e s l (within-length (degrees more) i I.within) X total
