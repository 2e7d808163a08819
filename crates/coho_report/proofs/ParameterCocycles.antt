-- By cocycles, the parameters of a report restrict to polynomials that leave a finite ring on each subgroup.
use Rattle.std.proofs.Common.{◌≡◌, ◌∙◌, ℕ, zero, suc, ◌<◌, ◌≤◌, List, [], ◌∷◌, ◌++◌, length}
use Rattle.std.proofs.Common.{map, Option, Some, None, Bool, true, false, cond, sym, ap, arith}
use Rattle.std.specs.Prelude.{IfSome, slice_get, slice_index_or}
use Rattle.std.specs.List.{AllByRecursion as Each}
use Rattle.std.proofs.lemmas.List.{length-map}
use mathlib.Core.Path.{subst}
use Rattle.group_modules.specs.Tables.{monoid}
use Rattle.p_groups.specs.PGroups.{PGroup, largest_residue, prime_of, group}
use Rattle.elementary_subgroups.specs.Bases.{NumberedSubgroup, IsSubgroupOf}
use Rattle.elementary_subgroups.specs.Sets.{IsIn}
use Rattle.group_algebra.specs.Coordinates.{layer_coordinates}
use Rattle.min_res.specs.Stages.{stage_rows}
use Rattle.bar_complex.proofs.Cohomologous.{near-sym}
use Rattle.graded_polynomials.specs.Monomials.{IsMonomial, is_exterior}
use Rattle.graded_polynomials.specs.Polynomials.{Polynomial, IsOver}
use Rattle.graded_polynomials.proofs.Terms.{each-append}
use Rattle.graded_algebra.specs.Algebras.{Generator, degrees, value}
use Rattle.graded_algebra.specs.Vectors.{Vector}
use Rattle.graded_algebra.proofs.SpansUnique.{span-generators-unique}
use Rattle.cohomology_algebra.specs.Claims.{vector_cocycle}
use Rattle.presentation_rows.proofs.RowTerms.{each-term}
use Rattle.group_cocycles.specs.Rings.{Generators, cochain_of, cocycles_of}
use Rattle.group_cocycles.proofs.Rings.{degrees-same, value-cocycle}
use Rattle.param_test.specs.Bounds.{greatest}
use Rattle.param_test.specs.Finiteness.{IsFinite}
use Rattle.param_test.specs.Parameters.{IsFoundIn, restriction}
use Rattle.param_test.specs.Tables.{CandidateValue, TableValue, degrees_of}
use Rattle.param_test.specs.Tuples.{IsTuple}
use Rattle.chain_lift.specs.Embeddings.{elementary}
use Rattle.ring_present.specs.Rings.{cohomology, dual_basis, IsPresentation}
use Rattle.ring_present.specs.Standard.{AreStandard}
use Rattle.coho_report.specs.Candidates.{polynomials_of, AreCombinations, AreCandidatesIn, AreCandidates}
use Rattle.coho_report.specs.Cohomology as report
use Rattle.coho_report.specs.Cohomology.{with_cocycle, AreFiniteOn, AreParametersOf}
use Rattle.coho_report.specs.Parameters.{at_places, greatest_rank, own_generators, class_of, IsRestriction}
use Rattle.coho_report.specs.Parameters.{IsRestricted, AreParameters}
use Rattle.coho_report.specs.Related.{AreRelated}
use Rattle.coho_report.specs.Subgroups.{IsImage, IsToldOf}
use Rattle.coho_report.specs.Values.{SubgroupValue}
use Rattle.coho_report.proofs.ListsBelow.{ascends_below}
use Rattle.coho_report.proofs.Related.{get-map, related-get, related-length, related-place}
use Rattle.coho_report.proofs.RestrictedCocycles.{restriction-is}
use Rattle.coho_report.proofs.SubgroupRings.{ring_of, rings_of, each-ring, ranks-same}

each-last : {X : Type 0} (P : X → Type 0) (xs : List X) (x : X) → Each P (xs ++ x ∷ []) → P x
each-last P [] x h = h.0
each-last P (y ∷ xs) x h = each-last P xs x h.1

each-at : {X : Type 0} (P : X → Type 0) (xs : List X) → Each P xs → (k : ℕ) (d : X) → k < length xs
    → P (slice_index_or xs k d)
each-at P [] h k d l = absurd (omega (arith, l))
each-at P (x ∷ xs) h zero d l = h.0
each-at P (x ∷ xs) h (suc k) d l = each-at P xs h.1 k d (omega (arith, l))

abbrev none : Polynomial
none = record { degree = 0; terms = [] }

module _ (G : PGroup) (n : ℕ) (gs : List (Generator (Vector (largest_residue G)))) where
  abbrev q : ℕ
  q = largest_residue G

  abbrev hs : Generators G
  hs = cocycles_of G gs

  -- f is a polynomial of degree 1 to m in the generators
  abbrev Over : ℕ → Polynomial → Type 0
  Over m f = (1 ≤ f.degree) × (f.degree ≤ m) × IsOver q (degrees gs) f.degree f.terms

  -- candidates are polynomials in the generators
  rows-over : (d : ℕ) (ms rows : List (List ℕ)) → AreStandard q (cohomology G) gs (suc d) ms
      → Each (Over (suc d)) (polynomials_of (suc d) ms rows)
  rows-over d ms [] S = tt
  rows-over d ms (row ∷ rows) S = (
    (
      omega arith,
      omega arith,
      each-term (λ t. IsMonomial q (degrees gs) (suc d) t.monomial) ms row (λ k c l h. (S.each k l).0),
    ),
    rows-over d ms rows S,
  )

  over-in : (d : ℕ) (fs : List Polynomial) → AreCandidatesIn G gs (suc d) fs → Each (Over (suc d)) fs
  over-in d fs a = go (is_exterior q (suc d)) a
    where
      go : (t : Bool) → cond t (fs ≡ []) (AreCombinations G gs (suc d) fs) → Each (Over (suc d)) fs
      go true e = subst (Each (Over (suc d))) (sym e) tt
      go false c =
          subst (Each (Over (suc d))) (sym c.polynomials_are) (rows-over d c.monomials c.rows c.monomials_are)

  wider-over : (d : ℕ) (fs : List Polynomial) → Each (Over d) fs → Each (Over (suc d)) fs
  wider-over d [] h = tt
  wider-over d (f ∷ fs) h =
      ((h.0.0, (let l = h.0.1 in omega (arith, l)), h.0.2), wider-over d fs h.1)

  candidates-over : (d : ℕ) (fs : List Polynomial) → AreCandidates G gs d fs → Each (Over d) fs
  candidates-over zero fs e = subst (Each (Over zero)) (sym e) tt
  candidates-over (suc d) fs (before, new, early, here, is) =
      subst (Each (Over (suc d))) (sym is)
      (each-append (Over (suc d)) before new (wider-over d before (candidates-over d before early))
      (over-in d new here))

  -- the restriction of the value of a polynomial is that of its cocycle
  restricted-cocycle : (s : NumberedSubgroup) → IsSubgroupOf G.table s
      → (own : List (Generator (Vector q))) (rs : List Polynomial) (f y : Polynomial)
      → IsOver q (degrees gs) f.degree f.terms → IsImage G s.basis own (class_of G gs f) y
      → report.IsRestriction G (record { subgroup = s; generators = own; relations = rs })
      (with_cocycle G hs f) y
  restricted-cocycle s S own rs f y over I =
      restriction-is G s S own rs (class_of G gs f) (cochain_of G hs f.terms)
      (near-sym q (monoid (group G)) f.degree (cochain_of G hs f.terms)
      (vector_cocycle q (group G) (layer_coordinates G) (stage_rows G) f.degree
      (value (cohomology G) gs f.terms))
      (value-cocycle G gs f.degree f.terms over)) y I

  image-of : (s : NumberedSubgroup) (v : SubgroupValue) (T : IsToldOf G n gs s v)
      (g : Generator (Vector q)) (y : Polynomial) → IsRestriction G n g v y → IsImage G s.basis T.own g y
  image-of s v T g y r =
      let E = elementary G (length v.basis) in
      let P : IsPresentation E n T.own T.relations =
      subst (λ b. IsPresentation (elementary G (length b)) n T.own T.relations) (sym T.basis_is)
      T.presentation in
      let same = span-generators-unique q (cohomology E) (dual_basis E) n r.own T.own
      r.presentation.generators_are P.generators_are in
      subst (λ b. IsImage G b T.own g y) T.basis_is (subst (λ own. IsImage G v.basis own g y) same r.image)

  module _ (s : NumberedSubgroup) (S : IsSubgroupOf G.table s) (v : SubgroupValue) (T : IsToldOf G n gs s v)
      (vs : List SubgroupValue) (j : ℕ) (at : slice_get vs j ≡ Some v) (fs : List Polynomial)
      (t : TableValue) (restricted : AreRelated (IsRestricted G n gs vs) fs t.candidates)
      (over : Each (Over n) fs) where
    images-of : (ks : List ℕ) → Each (λ k. k < length t.candidates) ks
        → AreRelated (report.IsRestriction G (ring_of G n gs s v T))
        (map (with_cocycle G hs) (map (λ k. slice_index_or fs k none) ks)) (map (restriction t j) ks)
    images-of [] b = tt
    images-of (k ∷ ks) b =
        let c : CandidateValue = record { degree = 0; images = [] } in
        let f = slice_index_or fs k none in
        let here = related-place (IsRestricted G n gs vs) fs t.candidates restricted k none c b.0 in
        let y = restriction t j k in
        let r = related-get (IsRestriction G n (class_of G gs f)) vs
        (slice_index_or t.candidates k c).images here.images_are j v none at in
        let count = related-length (IsRestricted G n gs vs) fs t.candidates restricted in
        let low : k < length fs = let l = b.0 in omega (arith, count, l) in (
          restricted-cocycle s S T.own T.relations f y (each-at (Over n) fs over k none low).2
              (image-of s v T (class_of G gs f) y r),
          images-of ks b.1,
        )

  each-within : (fs : List Polynomial) → Each (Over n) fs
      → Each (λ f. (1 ≤ f.degree) × (f.degree ≤ n)) fs
  each-within [] h = tt
  each-within (f ∷ fs) h = ((h.0.0, h.0.1), each-within fs h.1)

  each-over : (fs : List Polynomial) → Each (Over n) fs
      → Each (λ f. IsOver q (degrees hs) f.degree f.terms) fs
  each-over [] h = tt
  each-over (f ∷ fs) h =
      (subst (λ ds. IsOver q ds f.degree f.terms) (degrees-same G gs) h.0.2, each-over fs h.1)

  module _ (ss : List NumberedSubgroup) (vs : List SubgroupValue) (told : AreRelated (IsToldOf G n gs) ss vs)
      (listed : (s : NumberedSubgroup) → IsIn s ss → IsSubgroupOf G.table s) (fs : List Polynomial)
      (cs : List CandidateValue) (restricted : AreRelated (IsRestricted G n gs vs) fs cs)
      (over : Each (Over n) fs) where
    abbrev table : TableValue
    table = record {
      prime = prime_of G;
      subgroups = own_generators (prime_of G) vs;
      candidates = cs;
    }

    chosen-over : (ks : List ℕ) → Each (λ k. k < length cs) ks
        → Each (Over n) (map (λ k. slice_index_or fs k none) ks)
    chosen-over [] b = tt
    chosen-over (k ∷ ks) b =
        let count = related-length (IsRestricted G n gs vs) fs cs restricted in
        let low : k < length fs = let l = b.0 in omega (arith, count, l) in
        (each-at (Over n) fs over k none low, chosen-over ks b.1)

    found-by-cocycles : (places : Option (List ℕ)) → IsFoundIn table (greatest_rank vs) places
        → IfSome (at_places fs places) (AreParametersOf G n hs (rings_of G n gs ss vs told))
    found-by-cocycles None F = tt
    found-by-cocycles (Some ks) F =
        let tuple = each-last (IsTuple (length (degrees_of cs)) (greatest_rank vs)) F.earlier ks
        F.first.members in
        let below = subst (λ m. Each (λ k. k < m) ks) (length-map cs (λ (c : CandidateValue). c.degree))
        (ascends_below 0 (length (degrees_of cs)) ks tuple.ascends) in
        let chosen = chosen-over ks below in
        let ps = map (λ k. slice_index_or fs k none) ks in
        record {
          within = each-within ps chosen;
          polynomials = each-over ps chosen;
          count = length-map ks (λ k. slice_index_or fs k none) ∙ tuple.length_is
              ∙ ap greatest (ranks-same G n gs ss vs told);
          finite = each-ring G n gs (AreFiniteOn G hs ps) ss vs told (λ s i v T j e.
              let ys = map (restriction table j) ks in
              record {
                images = ys;
                restrictions = images-of s (listed s i) v T vs j e fs table restricted over ks below;
                finite = subst (λ ds. IsFinite (record { prime = prime_of G; degrees = ds }) ys)
                    T.generators_are
                    (F.pass j (record { prime = prime_of G; degrees = v.generators })
                    (get-map (λ (v : SubgroupValue). record { prime = prime_of G; degrees = v.generators }) vs
                    j v e));
              });
        }

  pub parameters-by-cocycles : (ss : List NumberedSubgroup) (vs : List SubgroupValue)
      (told : AreRelated (IsToldOf G n gs) ss vs)
      → ((s : NumberedSubgroup) → IsIn s ss → IsSubgroupOf G.table s)
      → (found : Option (List Polynomial)) → AreParameters G n gs vs found
      → IfSome found (AreParametersOf G n hs (rings_of G n gs ss vs told))
  parameters-by-cocycles ss vs told listed found P =
      subst (λ found. IfSome found (AreParametersOf G n hs (rings_of G n gs ss vs told)))
      (sym P.parameters_are)
      (found-by-cocycles ss vs told listed P.candidates P.restricted P.restricted_are
      (candidates-over n P.candidates P.candidates_are) P.places P.found)
