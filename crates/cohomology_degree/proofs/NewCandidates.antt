-- The candidates of the next degree with the monomials of its new generators.
use Rattle.std.proofs.Common.{◌≡◌, ℕ, suc, ◌+◌, ◌<◌, List, [], ◌∷◌, ◌++◌, length, take, arith, ap, sym, ◌∙◌}
use Rattle.std.proofs.Common.{refl}
use Rattle.std.specs.Prelude.{slice_index_or, All}
use Rattle.std.specs.List.{AllByRecursion as Each}
use Rattle.std.proofs.lemmas.List.{get_or_push, get_or_append_left, length_push, length-map, length-take}
use Rattle.std.proofs.lemmas.List.{append_assoc, take_more, get_or-take, length-append}
use Rattle.std.proofs.lemmas.List.Elements.{All-append, All-from_get_or}
use mathlib.Core.Path.{subst}
use Rattle.p_groups.specs.PGroups.{PGroup, largest_residue}
use Rattle.p_groups.proofs.Fields.{field}
use Rattle.graded_polynomials.specs.Monomials.{IsGreater}
use Rattle.graded_polynomials.specs.Texts.{power}
use Rattle.graded_algebra.specs.Algebras.{Generator, degrees}
use Rattle.graded_algebra.specs.Vectors.{Vector, IsOfDegree}
use Rattle.graded_algebra.proofs.VectorLemmas.{one-free}
use Rattle.presentation_rows.specs.Values.{vector}
use Rattle.chain_lift.specs.Values.{LiftValue}
use Rattle.ring_completion.specs.Candidates.{AreCandidates}
use Rattle.ring_completion.proofs.AddedCandidates.{candidates-with-last}
use Rattle.cohomology_degree.specs.Rings.{cohomology}
use Rattle.cohomology_degree.specs.Degrees.{classes, IsLiftBelow}
use Rattle.cohomology_degree.specs.Graded.{graded_classes}
use Rattle.cohomology_degree.specs.KnownTables.{AreCandidatesOf}
use Rattle.cohomology_degree.specs.Nexts.{IsLiftOf}
use Rattle.cohomology_degree.proofs.Factors.{degrees-are, positive-degrees}
use Rattle.cohomology_degree.proofs.Growing.{classes-append}

module _ (G : PGroup) (n : ℕ) (lifts : List LiftValue) (l : LiftValue) (of : IsLiftOf G (suc n) l)
    (below : All (IsLiftBelow G (suc n)) lifts) (ms : List (List ℕ))
    (C : AreCandidatesOf G (suc n) lifts ms) where
  abbrev q : ℕ
  q = largest_residue G

  abbrev g : Generator (Vector (largest_residue G))
  g = record { degree = l.degree; class = vector (largest_residue G) l.class }

  more : classes G (lifts ++ l ∷ []) ≡ classes G lifts ++ g ∷ []
  more = classes-append G lifts (l ∷ [])

  count : length (degrees (classes G lifts)) ≡ length lifts
  count = ap (λ (x : List ℕ). length x) (degrees-are G lifts) ∙ length-map lifts (λ (x : LiftValue). x.degree)

  all-below : All (IsLiftBelow G (suc n)) (lifts ++ l ∷ [])
  all-below = All-append (IsLiftBelow G (suc n)) lifts (l ∷ []) below
      (All-from_get_or (IsLiftBelow G (suc n)) (l ∷ []) l (λ k b. last k b))
    where
      last : (k : ℕ) → k < 1 → IsLiftBelow G (suc n) (slice_index_or (l ∷ []) k l)
      last k b = subst (λ j. IsLiftBelow G (suc n) (slice_index_or (l ∷ []) j l))
          (let z : 0 ≡ k = omega (arith, b) in z)
          (record {
            group_is = of.group_is;
            from_one = (let z = of.degree_is in omega (arith, z));
            to_n = (let z = of.degree_is in omega (arith, z));
          })

  pub candidates-more : AreCandidatesOf G (suc n) (lifts ++ l ∷ []) (ms ++ power (length lifts) 1 ∷ [])
  candidates-more =
      subst (λ gs. AreCandidates q (cohomology G) gs (suc n) (ms ++ power (length lifts) 1 ∷ [])) (sym more)
      (subst (λ k. AreCandidates q (cohomology G) (classes G lifts ++ g ∷ []) (suc n) (ms ++ power k 1 ∷ []))
      count
      (candidates-with-last q n (Vector q) (cohomology G) (IsOfDegree q (graded_classes G))
      (graded_classes G).laws (classes G lifts) g of.degree_is (positive-degrees G (suc n) lifts below)
      (subst (λ gs. Each (λ d. 0 < d) (degrees gs)) more
      (positive-degrees G (suc n) (lifts ++ l ∷ []) all-below))
      (λ k e. one-free q (graded_classes G) k (field G).above_one e) ms C))

  pub candidates-before : All (λ m. IsGreater m (power (length lifts) 1)) ms
  candidates-before = All-from_get_or (λ (m : List ℕ). IsGreater m last) ms [] (λ i b.
      subst (λ x. IsGreater x last) (get_or_append_left ms (last ∷ []) [] i b)
      (subst (λ x. IsGreater (slice_index_or (ms ++ last ∷ []) i []) x)
      (get_or_push ms last [] (length ms) refl)
      (candidates-more.some.descending i (length ms) b
      (let c = length_push ms last in omega (arith, c)))))
    where
      last : List ℕ
      last = power (length lifts) 1

-- the same of the first new generators and one more
module _ (G : PGroup) (n : ℕ) (lifts new : List LiftValue) (i : ℕ) (within : i < length new)
    (are : All (IsLiftOf G (suc n)) new) (below : All (IsLiftBelow G n) lifts) (ms : List (List ℕ))
    (C : AreCandidatesOf G (suc n) (lifts ++ take i new) ms) where
  abbrev l : LiftValue
  l = slice_index_or new i (record { group = G; degree = 0; class = []; height = 0 })

  of : IsLiftOf G (suc n) l
  of = are i (record { group = G; degree = 0; class = []; height = 0 }) within

  first-below : All (IsLiftBelow G (suc n)) (lifts ++ take i new)
  first-below = All-append (IsLiftBelow G (suc n)) lifts (take i new)
      (λ k d b. let h = below k d b in record {
        group_is = h.group_is;
        from_one = h.from_one;
        to_n = (let z = h.to_n in omega (arith, z));
      })
      (λ k d b. let a : k < i = (let t = length-take i new in omega (arith, b, t)) in
      let h : IsLiftOf G (suc n) (slice_index_or (take i new) k d) =
      subst (IsLiftOf G (suc n)) (sym (get_or-take i new k d a)) (are k d (omega (arith, a, within))) in
      record {
        group_is = h.group_is;
        from_one = (let z = h.degree_is in omega (arith, z));
        to_n = (let z = h.degree_is in omega (arith, z));
      })

  place : length (lifts ++ take i new) ≡ length lifts + i
  place = let a = length-append lifts (take i new) in let t = length-take i new in omega (arith, a, t, within)

  pub next-before : All (λ m. IsGreater m (power (length lifts + i) 1)) ms
  next-before = subst (λ k. All (λ m. IsGreater m (power k 1)) ms) place
      (candidates-before G n (lifts ++ take i new) l of first-below ms C)

  pub next-candidates : (after : List (List ℕ)) → after ≡ ms ++ power (length lifts + i) 1 ∷ []
      → AreCandidatesOf G (suc n) (lifts ++ take (i + 1) new) after
  next-candidates after e =
      subst (AreCandidatesOf G (suc n) (lifts ++ take (i + 1) new)) (sym e)
      (subst (λ ls. AreCandidatesOf G (suc n) ls (ms ++ power (length lifts + i) 1 ∷ []))
      (append_assoc lifts (take i new) (l ∷ []) ∙ ap (λ xs. lifts ++ xs) (sym (take_more new i
      (record { group = G; degree = 0; class = []; height = 0 }) within)))
      (subst (λ k. AreCandidatesOf G (suc n) ((lifts ++ take i new) ++ l ∷ []) (ms ++ power k 1 ∷ [])) place
      (candidates-more G n (lifts ++ take i new) l of first-below ms C)))
