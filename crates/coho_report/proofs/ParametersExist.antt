-- The search for parameters has an answer.
use Rattle.std.proofs.Common.{◌≡◌, ◌∙◌, ◌⊎◌, inl, inr, ℕ, zero, suc, ◌<◌, List, [], ◌∷◌}
use Rattle.std.proofs.Common.{length, map, Option, Some, refl, sym, ap, subst, arith}
use Rattle.std.specs.Prelude.{slice_get, slice_index_or}
use Rattle.std.specs.List.{AllByRecursion as Each}
use Rattle.std.proofs.lemmas.List.{length-map}
use Rattle.std.proofs.lemmas.List.Elements.{All-from_recursion}
use Rattle.linear_algebra.specs.Modular.{IsSmallPrime}
use Rattle.p_groups.specs.PGroups.{PGroup, largest_residue, prime_of}
use Rattle.elementary_subgroups.specs.Bases.{NumberedSubgroup}
use Rattle.graded_polynomials.specs.Polynomials.{Polynomial, IsPolynomial}
use Rattle.graded_algebra.specs.Algebras.{Generator, degrees}
use Rattle.graded_algebra.specs.Vectors.{Vector}
use Rattle.graded_algebra.proofs.SpansUnique.{span-generators-unique}
use Rattle.gc_poly.specs.Generators.{Generators}
use Rattle.gc_poly.specs.Polynomials.{IsOverGenerators}
use Rattle.param_test.specs.Finiteness.{IsFinite}
use Rattle.param_test.specs.Parameters.{Passes, restriction}
use Rattle.param_test.specs.Tables.{CandidateValue, TableValue, degrees_of}
use Rattle.param_test.specs.Tuples.{IsTuple}
use Rattle.chain_lift.specs.Embeddings.{elementary}
use Rattle.ring_present.specs.Rings.{cohomology, dual_basis, IsPresentation}
use Rattle.coho_report.specs.Parameters.{at_places, greatest_rank, own_generators, class_of, IsRestriction}
use Rattle.coho_report.specs.Parameters.{IsRestricted, AreParameters}
use Rattle.coho_report.specs.Related.{AreRelated}
use Rattle.coho_report.specs.Subgroups.{IsToldOf}
use Rattle.coho_report.specs.Values.{SubgroupValue}
use Rattle.coho_report.proofs.CandidatesExist.{candidates_exist, restricted_exist}
use Rattle.coho_report.proofs.FinitenessDecided.{decide_finite}
use Rattle.coho_report.proofs.ListsBelow.{ascends_below}
use Rattle.coho_report.proofs.OwnRings.{positive_degrees}
use Rattle.coho_report.proofs.TuplesExist.{search_has_answer}

module _ (G : PGroup) (n : ℕ) where
  -- v tells the degrees of the generators of its own ring
  abbrev TellsOwn : SubgroupValue → Type 0
  TellsOwn v = (own : List (Generator (Vector (largest_residue G)))) × (relations : List Polynomial)
      × IsPresentation (elementary G (length v.basis)) n own relations × (v.generators ≡ degrees own)

  tells_own : (gs : List (Generator (Vector (largest_residue G)))) (ss : List NumberedSubgroup)
      (vs : List SubgroupValue) → AreRelated (IsToldOf G n gs) ss vs → Each TellsOwn vs
  tells_own gs [] [] r = tt
  tells_own gs [] (v ∷ vs) r = absurd r
  tells_own gs (s ∷ ss) [] r = absurd r
  tells_own gs (s ∷ ss) (v ∷ vs) r = (
    (
      r.0.own,
      r.0.relations,
      subst (λ b. IsPresentation (elementary G (length b)) n r.0.own r.0.relations) (sym r.0.basis_is)
          r.0.presentation,
      r.0.generators_are,
    ),
    tells_own gs ss vs r.1,
  )

  abbrev ring_of : SubgroupValue → Generators
  ring_of v = record { prime = prime_of G; degrees = v.generators }

  -- a restriction is over the generators that are told
  restriction_over : (g : Generator (Vector (largest_residue G))) (v : SubgroupValue) (f : Polynomial)
      → TellsOwn v → IsRestriction G n g v f → IsOverGenerators (ring_of v) f
  restriction_over g v f t r =
      let q = largest_residue G in
      let E = elementary G (length v.basis) in
      let same = span-generators-unique q (cohomology E) (dual_basis E) n r.own t.0
      r.presentation.generators_are t.2.generators_are in
      subst (λ d. IsPolynomial q v.generators d f.terms) (sym r.image.degree_is)
      (subst (λ ds. IsPolynomial q ds g.degree f.terms) (ap degrees same ∙ sym t.3)
      r.image.form.polynomial)

  module _ (gs : List (Generator (Vector (largest_residue G)))) where
    -- what a subgroup's ring needs of the restrictions of a list of candidates at place j
    abbrev OverAt : List CandidateValue → ℕ → Generators → Type 0
    OverAt cs j g = Each (λ (c : CandidateValue).
        IsOverGenerators g (slice_index_or c.images j (record { degree = 0; terms = [] }))) cs

    images-over : (h : Generator (Vector (largest_residue G))) (vs : List SubgroupValue)
        (fs : List Polynomial) → Each TellsOwn vs → AreRelated (IsRestriction G n h) vs fs
        → (j : ℕ) (v : SubgroupValue)
        → slice_get vs j ≡ Some v
        → IsOverGenerators (ring_of v) (slice_index_or fs j (record { degree = 0; terms = [] }))
    images-over h [] fs t r j v e = absurd (cc)
    images-over h (w ∷ vs) [] t r j v e = absurd r
    images-over h (w ∷ vs) (f ∷ fs) t r zero v e =
        let same : w ≡ v = cc in
        subst (λ v. IsOverGenerators (ring_of v) f) same (restriction_over h w f t.0 r.0)
    images-over h (w ∷ vs) (f ∷ fs) t r (suc j) v e = images-over h vs fs t.1 r.1 j v e

    all-over : (vs : List SubgroupValue) (fs : List Polynomial) (cs : List CandidateValue) → Each TellsOwn vs
        → AreRelated (IsRestricted G n gs vs) fs cs → (j : ℕ) (v : SubgroupValue) → slice_get vs j ≡ Some v
        → OverAt cs j (ring_of v)
    all-over vs [] [] t r j v e = tt
    all-over vs [] (c ∷ cs) t r j v e = absurd r
    all-over vs (f ∷ fs) [] t r j v e = absurd r
    all-over vs (f ∷ fs) (c ∷ cs) t r j v e =
        (images-over (class_of G gs f) vs c.images t r.0.images_are j v e, all-over vs fs cs t r.1 j v e)

    at-candidate : (cs : List CandidateValue) (j : ℕ) (g : Generators) (none : CandidateValue) → OverAt cs j g
        → (k : ℕ) → k < length cs
        → IsOverGenerators g
        (slice_index_or (slice_index_or cs k none).images j (record { degree = 0; terms = [] }))
    at-candidate [] j g none h k l = absurd (omega (arith, l))
    at-candidate (c ∷ cs) j g none h zero l = h.0
    at-candidate (c ∷ cs) j g none h (suc k) l = at-candidate cs j g none h.1 k (omega (arith, l))

    -- what holds of the generators at each place is decided one place after the other
    abbrev OnAll : List Generators → (ℕ → Generators → Type 0) → Type 0
    OnAll rings Q = (j : ℕ) (g : Generators) → slice_get rings j ≡ Some g → Q j g

    decide_on : (rings : List Generators) (Q : ℕ → Generators → Type 0)
        → ((j : ℕ) (g : Generators) → slice_get rings j ≡ Some g → Q j g ⊎ (Q j g → ⊥))
        → OnAll rings Q ⊎ (OnAll rings Q → ⊥)
    decide_on [] Q decide = inl (λ j g e. absurd (cc))
    decide_on (r ∷ rings) Q decide =
        go (decide 0 r refl) (decide_on rings (λ j. Q (suc j)) (λ j g e. decide (suc j) g e))
      where
        joined : Q 0 r → OnAll rings (λ j. Q (suc j)) → OnAll (r ∷ rings) Q
        joined first later zero g e = let same : r ≡ g = cc in subst (Q 0) same first
        joined first later (suc j) g e = later j g e

        go : Q 0 r ⊎ (Q 0 r → ⊥) → OnAll rings (λ j. Q (suc j)) ⊎ (OnAll rings (λ j. Q (suc j)) → ⊥)
            → OnAll (r ∷ rings) Q ⊎ (OnAll (r ∷ rings) Q → ⊥)
        go (inl f) (inl p) = inl (joined f p)
        go (inl f) (inr not) = inr (λ h. not (λ j g e. h (suc j) g e))
        go (inr not) p = inr (λ h. not (h 0 r refl))

    -- generators at a place are those of a subgroup
    ring-at : (vs : List SubgroupValue) (j : ℕ) (g : Generators)
        → slice_get (own_generators (prime_of G) vs) j ≡ Some g
        → (v : SubgroupValue) × (slice_get vs j ≡ Some v) × (ring_of v ≡ g)
    ring-at [] j g e = absurd (cc)
    ring-at (v ∷ vs) zero g e = let same : ring_of v ≡ g = cc in (v, refl, same)
    ring-at (v ∷ vs) (suc j) g e = ring-at vs j g e

    mapped-over : (g : Generators) (f : ℕ → Polynomial) (m : ℕ) (tuple : List ℕ)
        → ((k : ℕ) → k < m → IsOverGenerators g (f k)) → Each (λ k. k < m) tuple
        → Each (IsOverGenerators g) (map f tuple)
    mapped-over g f m [] over h = tt
    mapped-over g f m (k ∷ tuple) over h = (over k h.0, mapped-over g f m tuple over h.1)

    pub decide_passes : (vs : List SubgroupValue) (fs : List Polynomial) (cs : List CandidateValue)
        → Each TellsOwn vs → AreRelated (IsRestricted G n gs vs) fs cs → (r : ℕ) (tuple : List ℕ)
        → IsTuple (length (degrees_of cs)) r tuple
        → Passes (record {
          prime = prime_of G;
          subgroups = own_generators (prime_of G) vs;
          candidates = cs;
        }) tuple ⊎ (Passes (record {
          prime = prime_of G;
          subgroups = own_generators (prime_of G) vs;
          candidates = cs;
        }) tuple → ⊥)
    decide_passes vs fs cs told related r tuple T =
        let t : TableValue = record {
          prime = prime_of G;
          subgroups = own_generators (prime_of G) vs;
          candidates = cs;
        } in
        let below = subst (λ m. Each (λ k. k < m) tuple) (length-map cs (λ (c : CandidateValue). c.degree))
        (ascends_below 0 (length (degrees_of cs)) tuple T.ascends) in
        decide_on (own_generators (prime_of G) vs) (λ j g. IsFinite g (map (restriction t j) tuple)) (λ j g e.
        let at = ring-at vs j g e in
        decide_finite g (map (restriction t j) tuple)
        (subst (λ (g : Generators). IsSmallPrime g.prime) at.2 G.law.prime)
        (All-from_recursion (IsOverGenerators g) (map (restriction t j) tuple)
        (mapped-over g (restriction t j) (length cs) tuple
        (λ k l. subst (λ g. IsOverGenerators g (restriction t j k)) at.2
        (at-candidate cs j (ring_of at.0) _ (all-over vs fs cs told related j at.0 at.1) k l)) below)))

  pub parameters_exist : (presented : (E : PGroup) → (gs : List (Generator (Vector (largest_residue E))))
      × (rs : List Polynomial) × IsPresentation E n gs rs)
      → (gs : List (Generator (Vector (largest_residue G)))) (rs : List Polynomial) → IsPresentation G n gs rs
      → (ss : List NumberedSubgroup) (vs : List SubgroupValue) → AreRelated (IsToldOf G n gs) ss vs
      → (found : Option (List Polynomial)) × AreParameters G n gs vs found
  parameters_exist presented gs rs P ss vs told =
      let q = largest_residue G in
      let positive = positive_degrees q (cohomology G) (dual_basis G) n gs P.generators_are in
      let fs = candidates_exist G gs positive n in
      let cs = restricted_exist G n presented gs vs fs.0 fs.2 in
      let t : TableValue = record {
        prime = prime_of G;
        subgroups = own_generators (prime_of G) vs;
        candidates = cs.0;
      } in
      let own = tells_own gs ss vs told in
      let places = search_has_answer (degrees_of cs.0) (greatest_rank vs) (Passes t)
      (decide_passes gs vs fs.0 cs.0 own cs.1 (greatest_rank vs)) in (
        at_places fs.0 places.0,
        record {
          candidates = fs.0;
          restricted = cs.0;
          places = places.0;
          candidates_are = fs.1;
          restricted_are = cs.1;
          found = places.1;
          parameters_are = refl;
        },
      )
