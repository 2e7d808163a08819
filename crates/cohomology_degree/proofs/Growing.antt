-- One more generator, and generators of a degree by their places in the dual basis.
use Rattle.std.proofs.Common.{◌≡◌, ℕ, suc, ◌<◌, ◌≤◌, List, [], ◌∷◌, ◌++◌, length, map, arith, ap, sym, ◌∙◌}
use Rattle.std.proofs.Common.{refl, append_assoc}
use Rattle.std.specs.Prelude.{slice_index_or, All}
use Rattle.std.specs.List.{AllByRecursion as Each}
use Rattle.std.proofs.lemmas.List.Elements.{All-append, All-weaker, All-map}
use mathlib.Core.Path.{subst}
use Rattle.p_groups.specs.PGroups.{PGroup, largest_residue}
use Rattle.linear_algebra.specs.Rows.{row}
use Rattle.graded_algebra.specs.Algebras.{Generator, degrees}
use Rattle.graded_algebra.specs.Presentations as presentations
use Rattle.graded_algebra.specs.Vectors.{Vector, unit}
use Rattle.graded_algebra.proofs.MoreGenerators.{from-more}
use Rattle.gc_poly.specs.Generators.{Generators}
use Rattle.presentation_rows.specs.Values.{vector, AreValues, AreUnitRows}
use Rattle.presentation_rows.proofs.UnitRows.{unit-vector}
use Rattle.chain_lift.specs.Values.{LiftValue}
use Rattle.ring_completion.specs.Candidates.{AreSome}
use Rattle.ring_completion.proofs.Stays.{monomial-up, monomial-down, standard-up, standard-down}
use Rattle.cohomology_degree.specs.Rings.{cohomology}
use Rattle.cohomology_degree.specs.Degrees.{classes, degrees_of, new_lift, IsLiftBelow, AreValued, IsDegree}
use Rattle.cohomology_degree.specs.Standard.{AreStandard}
use Rattle.cohomology_degree.specs.declared.degree.Valued.{Valued}
use Rattle.cohomology_degree.specs.declared.degree.Degree.{Degree}

pub degrees-of-append : (xs ys : List LiftValue) → degrees_of (xs ++ ys) ≡ degrees_of xs ++ degrees_of ys
degrees-of-append [] ys = refl
degrees-of-append (x ∷ xs) ys = ap (λ ds. x.degree ∷ ds) (degrees-of-append xs ys)

pub classes-append : (G : PGroup) (xs ys : List LiftValue)
    → classes G (xs ++ ys) ≡ classes G xs ++ classes G ys
classes-append G [] ys = refl
classes-append G (x ∷ xs) ys = ap (λ gs. record {
  degree = x.degree;
  class = vector (largest_residue G) x.class;
} ∷ gs) (classes-append G xs ys)

-- the new generators have the unit vectors as classes
pub new-classes : (G : PGroup) (d b : ℕ) (basis : List (List ℕ)) (places : List ℕ) → AreUnitRows b basis
    → All (λ k. k < length basis) places
    → classes G (map (λ k. new_lift G d (row basis k)) places) ≡ presentations.generators_of
    (largest_residue G) (cohomology G) d (map (unit (largest_residue G)) places)
new-classes G d b basis [] U a = refl
new-classes G d b basis (k ∷ places) U a =
    ap (λ (c : Vector (largest_residue G)). record {
      degree = d;
      class = c;
    } ∷ classes G (map (λ k. new_lift G d (row basis k)) places))
    (ap (vector (largest_residue G)) (U.each k inside) ∙ unit-vector (largest_residue G) b k inside)
    ∙ ap (λ gs. record { degree = d; class = unit (largest_residue G) k } ∷ gs)
    (new-classes G d b basis places U (λ i x l. a (suc i) x (omega (arith, l))))
  where
    inside : k < b
    inside = let z : k < length basis = a 0 k (omega arith) in let n = U.count in omega (arith, z, n)

-- generators of higher degree leave what is kept of a degree
module _ (G : PGroup) (d : ℕ) (lifts new : List LiftValue)
    (above : Each (λ e. d < e) (degrees (classes G new))) where
  abbrev q : ℕ
  q = largest_residue G

  abbrev gs : List (Generator (Vector (largest_residue G)))
  gs = classes G lifts

  abbrev hs : List (Generator (Vector (largest_residue G)))
  hs = classes G new

  pub valued-stays : (v : Valued) → AreValued G d lifts v → AreValued G d (lifts ++ new) v
  valued-stays v A = record {
    prime = A.prime;
    width = A.width;
    some = subst (λ ks. AreSome q (degrees ks) d v.monomials) (sym (classes-append G lifts new)) (record {
      each = λ i l. monomial-up q (cohomology G) gs hs d (slice_index_or v.monomials i []) (A.some.each i l);
      descending = A.some.descending;
    });
    values = subst (λ ks. AreValues q (cohomology G) ks v.monomials v.values.rows)
        (sym (classes-append G lifts new)) (record {
          count = A.values.count;
          each = λ i l. A.values.each i l
              ∙ sym (from-more (cohomology G) 0 (unit q 0) gs hs (slice_index_or v.monomials i [])
              (A.some.each i l).within);
        });
  }

  standard-stays : (ms : List (List ℕ)) → AreStandard q (cohomology G) gs d ms
      → AreStandard q (cohomology G) (classes G (lifts ++ new)) d ms
  standard-stays ms A = subst (λ ks. AreStandard q (cohomology G) ks d ms) (sym (classes-append G lifts new))
      (record {
        each = λ i l. (
          monomial-up q (cohomology G) gs hs d (slice_index_or ms i []) (A.each i l).0,
          standard-up q (cohomology G) gs hs d above d (omega arith) (slice_index_or ms i []) (A.each i l).1,
        );
        all = λ m M s. A.all m (monomial-down q (cohomology G) gs hs d above d (omega arith) m M)
            (standard-down q (cohomology G) gs hs d m s);
        descending = A.descending;
      })

  pub degree-stays : (D : Degree) → IsDegree G d lifts D → IsDegree G d (lifts ++ new) D
  degree-stays D I = record {
    left = valued-stays D.left I.left;
    kernel = I.kernel;
    kernel_is = I.kernel_is;
    standard = valued-stays D.standard I.standard;
    others = I.others;
    all = standard-stays D.standard.monomials I.all;
    preimages_prime = I.preimages_prime;
    preimages_width = I.preimages_width;
    basis = I.basis;
    basis_is = I.basis_is;
    preimages = I.preimages;
  }

pub lifts-below : (G : PGroup) (n : ℕ) (lifts new : List LiftValue) (basis : List (List ℕ)) (places : List ℕ)
    → All (IsLiftBelow G n) lifts
    → new ≡ map (λ k. new_lift G (suc n) (row basis k)) places → All (IsLiftBelow G (suc n)) (lifts ++ new)
lifts-below G n lifts new basis places a e =
    All-append (IsLiftBelow G (suc n)) lifts new
    (All-weaker (IsLiftBelow G n) (IsLiftBelow G (suc n))
    (λ l b. record {
      group_is = b.group_is;
      from_one = b.from_one;
      to_n = (let z = b.to_n in omega (arith, z));
    }) lifts a)
    (subst (All (IsLiftBelow G (suc n))) (sym e)
    (All-map (IsLiftBelow G (suc n)) (λ k. new_lift G (suc n) (row basis k)) places
    (λ k d l. record { group_is = refl; from_one = omega arith; to_n = omega arith })))

pub degrees-bounded : (G : PGroup) (m : ℕ) (xs : List LiftValue) (ds : List ℕ) → All (IsLiftBelow G m) xs
    → ds ≡ degrees_of xs → All (λ e. e ≤ m) ds
degrees-bounded G m xs ds a e = subst (All (λ e. e ≤ m)) (sym e)
    (All-map (λ e. e ≤ m) (λ (l : LiftValue). l.degree) xs (λ k d l. (a k d l).to_n))

pub gens-added : (p d : ℕ) (lifts old new : List LiftValue) (l : LiftValue) (g k : Generators)
    → g ≡ record { prime = p; degrees = degrees_of (lifts ++ old) } → l.degree ≡ d
    → new ≡ old ++ l ∷ [] → k ≡ record g { degrees = g.degrees ++ d ∷ [] }
    → k ≡ record { prime = p; degrees = degrees_of (lifts ++ new) }
gens-added p d lifts old new l g k eg ed en ek =
    ek ∙ ap (λ (g : Generators). record g { degrees = g.degrees ++ d ∷ [] }) eg
    ∙ ap (λ ds. record { prime = p; degrees = ds })
    (ap (λ e. degrees_of (lifts ++ old) ++ e ∷ []) (sym ed) ∙ sym (degrees-of-append (lifts ++ old) (l ∷ []))
    ∙ ap degrees_of (append_assoc lifts old (l ∷ []) ∙ ap (λ xs. lifts ++ xs) (sym en)))
