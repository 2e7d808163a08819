-- The generators, the relations and the standard monomials of the next degree.
use Rattle.std.proofs.Common.{◌≡◌, ℕ, suc, ◌<◌, ◌≤◌, List, [], ◌∷◌, ◌++◌, length, map, arith, ap, sym, ◌∙◌}
use Rattle.std.proofs.Common.{refl}
use Rattle.std.specs.Prelude.{All}
use Rattle.std.specs.List.{AllByRecursion as Each}
use Rattle.std.proofs.lemmas.List.Elements.{All-append, All-map, All-weaker}
use mathlib.Core.Path.{subst}
use Rattle.p_groups.specs.PGroups.{PGroup, largest_residue}
use Rattle.p_groups.proofs.Fields.{field}
use Rattle.linear_algebra.specs.Rows.{entry, row, IsEchelonOf, IsInSpan, AreInSpan}
use Rattle.linear_algebra.specs.Kernels.{IsKernelOf}
use Rattle.linear_algebra.specs.Choices.{IsGreedy, rows_at, ArePreimages}
use Rattle.linear_algebra.proofs.Spans.{in_span_trans}
use Rattle.linear_algebra.proofs.GreedyChoice.{greedy-spans}
use Rattle.fp_rows.specs.Values.{MatrixValue}
use Rattle.graded_polynomials.specs.Polynomials.{Polynomial}
use Rattle.graded_algebra.specs.Algebras.{Generator, degrees}
use Rattle.graded_algebra.specs.Presentations.{IsSpanGenerators, IsRelations}
use Rattle.graded_algebra.specs.Vectors.{Vector}
use Rattle.graded_algebra.proofs.Stability.{relations-up}
use Rattle.gc_poly.specs.Generators.{Generators, greatest}
use Rattle.presentation_rows.specs.Values.{AreValues, AreUnitRows}
use Rattle.presentation_rows.specs.Pivots.{new_relations}
use Rattle.presentation_rows.proofs.Combinations.{span-with}
use Rattle.min_res.specs.Stages.{rank_of}
use Rattle.chain_lift.specs.Values.{LiftValue}
use Rattle.chain_lift.specs.Products.{multiply}
use Rattle.ring_completion.specs.Candidates.{AreSome}
use Rattle.ring_completion.proofs.Results.{generators-of-left, relations-of-list, separates-left}
use Rattle.ring_completion.proofs.Results.{nothing-leads}
use Rattle.ring_completion.proofs.Results.{standard-of-list, all-standard}
use Rattle.cohomology_degree.specs.Rings.{cohomology, dual_basis}
use Rattle.cohomology_degree.specs.Degrees.{classes, degrees_of, new_lift, AreLeftOf, AreValued, IsDegree}
use Rattle.cohomology_degree.specs.Degrees.{IsLiftBelow}
use Rattle.cohomology_degree.specs.Nexts.{IsLiftOf}
use Rattle.cohomology_degree.specs.Standard.{AreStandard, without_pivots}
use Rattle.cohomology_degree.specs.declared.degree.Valued.{Valued}
use Rattle.cohomology_degree.specs.declared.degree.Degree.{Degree}
use Rattle.cohomology_degree.proofs.Factors.{degrees-are}
use Rattle.cohomology_degree.specs.Graded.{graded_classes}
use Rattle.cohomology_degree.proofs.Growing.{classes-append, new-classes}
use Rattle.cohomology_degree.proofs.StandardMonomials.{standard-among, values-left}

-- the dual basis is in the span of the values and of the rows that are chosen
pub basis-in-span : (p width : ℕ) (rows span basis all : List (List ℕ)) (places : List ℕ)
    → IsEchelonOf p width rows span → IsGreedy p basis span places
    → all ≡ rows ++ rows_at basis places → AreInSpan p all basis
basis-in-span p width rows span basis all places E g e i l =
    subst (λ R. IsInSpan p R (entry (row basis i))) (sym e)
    (in_span_trans (span-with rows span (rows_at basis places) E.spanned)
    (greedy-spans p basis span (length basis) places g i l))

-- the generators of the next degree
pub chosen-generators : (G : PGroup) (n : ℕ) (lifts new : List LiftValue) (basis : List (List ℕ))
    (places : List ℕ) → new ≡ map (λ k. new_lift G (suc n) (row basis k)) places
    → (v : Valued) (span : List (List ℕ)) (rs : List Polynomial)
    → Each (λ d. 0 < d) (degrees (classes G lifts))
    → IsSpanGenerators (largest_residue G) (cohomology G) (dual_basis G) n (classes G lifts)
    → IsRelations (largest_residue G) (cohomology G) (classes G lifts) n rs
    → AreLeftOf G rs (suc n) lifts v → AreUnitRows (rank_of G (suc n)) basis
    → IsEchelonOf (suc (largest_residue G)) (rank_of G (suc n)) v.values.rows span
    → IsGreedy (suc (largest_residue G)) basis span places → All (λ k. k < length basis) places
    → IsSpanGenerators (largest_residue G) (cohomology G) (dual_basis G) (suc n) (classes G (lifts ++ new))
chosen-generators G n lifts new basis places en v span rs positive P R A U E g inside =
    subst (λ gs. IsSpanGenerators (largest_residue G) (cohomology G) (dual_basis G) (suc n) gs)
    (sym (classes-append G lifts new ∙ ap (λ gs. classes G lifts ++ gs) (ap (classes G) en
    ∙ new-classes G (suc n) (rank_of G (suc n)) basis places U inside)))
    (generators-of-left (largest_residue G) n (field G) (graded_classes G) (classes G lifts) positive rs R
    v.monomials v.values.rows span basis places A.left A.valued.values P E U g)

pub above-new : (G : PGroup) (n e : ℕ) (new : List LiftValue) → e ≤ n → All (IsLiftOf G (suc n)) new
    → Each (λ d. e < d) (degrees (classes G new))
above-new G n e [] l a = tt
above-new G n e (x ∷ new) l a = (
  (let d = (a 0 x (omega arith)).degree_is in omega (arith, d, l)),
  above-new G n e new l (λ k y b. a (suc k) y (omega (arith, b))),
)

-- the lifts through the next degree
pub all-below : (G : PGroup) (n : ℕ) (lifts new : List LiftValue) → All (IsLiftBelow G n) lifts
    → All (IsLiftOf G (suc n)) new → All (IsLiftBelow G (suc n)) (lifts ++ new)
all-below G n lifts new a b = All-append (IsLiftBelow G (suc n)) lifts new
    (All-weaker (IsLiftBelow G n) (IsLiftBelow G (suc n))
    (λ l h. record {
      group_is = h.group_is;
      from_one = h.from_one;
      to_n = (let z = h.to_n in omega (arith, z));
    }) lifts a)
    (All-weaker (IsLiftOf G (suc n)) (IsLiftBelow G (suc n))
    (λ l h. record {
      group_is = h.group_is;
      from_one = (let z = h.degree_is in omega (arith, z));
      to_n = (let z = h.degree_is in omega (arith, z));
    }) new b)

-- the old relations, with the new generators
pub old-relations : (G : PGroup) (n : ℕ) (lifts new : List LiftValue) (rs : List Polynomial)
    → IsRelations (largest_residue G) (cohomology G) (classes G lifts) n rs → All (IsLiftOf G (suc n)) new
    → IsRelations (largest_residue G) (cohomology G) (classes G (lifts ++ new)) n rs
old-relations G n lifts new rs P are =
    subst (λ gs. IsRelations (largest_residue G) (cohomology G) gs n rs) (sym (classes-append G lifts new))
    (relations-up (largest_residue G) (Vector (largest_residue G)) (cohomology G) (classes G lifts)
    (classes G new) n (above-new G n n new (omega arith) are) n (omega arith) rs P)

-- monomials in the generators of the lifts
pub some-of-gens : (G : PGroup) (lifts : List LiftValue) (gens : Generators) (d : ℕ) (ms : List (List ℕ))
    → gens ≡ record { prime = G.table.p; degrees = degrees_of lifts }
    → AreSome (largest_residue G) (degrees (classes G lifts)) d ms
    → AreSome (greatest gens) gens.degrees d ms
some-of-gens G lifts gens d ms e S =
    subst (λ (g : Generators). AreSome (greatest g) g.degrees d ms) (sym e)
    (subst (λ ds. AreSome (largest_residue G) ds d ms) (degrees-are G lifts) S)

pub new-lifts-are : (G : PGroup) (n : ℕ) (basis : List (List ℕ)) (places : List ℕ) (new : List LiftValue)
    → new ≡ map (λ k. new_lift G (suc n) (row basis k)) places → All (IsLiftOf G (suc n)) new
new-lifts-are G n basis places new e =
    subst (All (IsLiftOf G (suc n))) (sym e)
    (All-map (IsLiftOf G (suc n)) (λ k. new_lift G (suc n) (row basis k)) places
    (λ k d l. record { group_is = refl; degree_is = refl }))

-- of the next degree, with all its generators: what is left, and the kernel of its values
module _ (G : PGroup) (n : ℕ) (lifts : List LiftValue) (rs : List Polynomial)
    (positive : Each (λ d. 0 < d) (degrees (classes G lifts)))
    (R : IsRelations (largest_residue G) (cohomology G) (classes G lifts) n rs)
    (w : Valued) (A : AreLeftOf G rs (suc n) lifts w) (kernel : List (List ℕ))
    (K : IsKernelOf w.values.p w.values.rows kernel) where
  abbrev q : ℕ
  q = largest_residue G

  abbrev gs : List (Generator (Vector (largest_residue G)))
  gs = classes G lifts

  kernel-is : IsKernelOf (suc (largest_residue G)) w.values.rows kernel
  kernel-is = subst (λ p. IsKernelOf p w.values.rows kernel) A.valued.prime K

  pub next-relations : (new : List Polynomial) → new ≡ new_relations (suc n) w.monomials [] kernel
      → IsRelations q (cohomology G) gs (suc n) (rs ++ new)
  next-relations new e = subst (λ new. IsRelations q (cohomology G) gs (suc n) (rs ++ new)) (sym e)
      (relations-of-list q n (field G) (graded_classes G) gs positive rs R w.monomials w.values.rows kernel
      A.left.some (separates-left q n (field G) (graded_classes G) gs positive rs R w.monomials A.left)
      A.valued.values kernel-is []
      (nothing-leads q n (field G) (graded_classes G) gs positive rs R w.monomials A.left))

  standard : AreStandard q (cohomology G) gs (suc n) (without_pivots kernel 0 w.monomials)
  standard = standard-among q (suc n) (cohomology G) gs w.monomials kernel A.left.some
      (standard-of-list q n (field G) (graded_classes G) gs positive rs R w.monomials w.values.rows kernel
      A.left.some (separates-left q n (field G) (graded_classes G) gs positive rs R w.monomials A.left)
      A.valued.values kernel-is)
      (all-standard q n (field G) (graded_classes G) gs positive rs R w.monomials w.values.rows kernel
      A.left.some (separates-left q n (field G) (graded_classes G) gs positive rs R w.monomials A.left)
      A.valued.values kernel-is)

  -- what is kept of the degree
  pub next-degree-is : (D : Degree) (basis : List (List ℕ)) → AreUnitRows (rank_of G (suc n)) basis
      → D.left ≡ w
      → D.standard.monomials ≡ without_pivots kernel 0 w.monomials
      → D.standard.values ≡ record w.values { rows = without_pivots kernel 0 w.values.rows }
      → D.preimages.p ≡ w.values.p → D.preimages.width ≡ length w.values.rows
      → ArePreimages w.values.p w.values.rows kernel basis D.preimages.rows → IsDegree G (suc n) lifts D
  next-degree-is D basis U ew em ev ep en P = record {
    left = subst (AreValued G (suc n) lifts) (sym ew) A.valued;
    kernel = kernel;
    kernel_is = subst (λ v. IsKernelOf (suc (largest_residue G)) v.values.rows kernel) (sym ew) kernel-is;
    standard = record {
      prime = ap (λ (m : MatrixValue). m.p) ev ∙ A.valued.prime;
      width = ap (λ (m : MatrixValue). m.width) ev ∙ A.valued.width;
      some = record { each = λ i l. (all.each i l).0; descending = all.descending };
      values = subst (λ ms. AreValues q (cohomology G) gs ms D.standard.values.rows) (sym em)
          (subst (λ rows. AreValues q (cohomology G) gs (without_pivots kernel 0 w.monomials) rows)
          (sym (ap (λ (m : MatrixValue). m.rows) ev))
          (values-left q (multiply G) gs w.monomials w.values.rows kernel A.valued.values));
    };
    others = subst (λ v. D.standard.monomials ≡ without_pivots kernel 0 v.monomials) (sym ew) em;
    all = all;
    preimages_prime = ep ∙ A.valued.prime;
    preimages_width = subst (λ v. D.preimages.width ≡ length v.monomials) (sym ew)
        (en ∙ A.valued.values.count);
    basis = basis;
    basis_is = U;
    preimages = subst (λ v. ArePreimages (suc (largest_residue G)) v.values.rows kernel basis
        D.preimages.rows) (sym ew)
        (subst (λ p. ArePreimages p w.values.rows kernel basis D.preimages.rows) A.valued.prime P);
  }
    where
      all : AreStandard q (cohomology G) gs (suc n) D.standard.monomials
      all = subst (AreStandard q (cohomology G) gs (suc n)) (sym em) standard
