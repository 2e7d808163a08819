-- Tables of candidates, and polynomials at places.
use Rattle.std.proofs.Common.{◌≡◌, ◌∙◌, ℕ, zero, suc, ◌<◌, ◌≤◌, List, [], ◌∷◌, length, map, take}
use Rattle.std.proofs.Common.{sym, ap, subst, arith, Some}
use Rattle.std.specs.Prelude.{All, AllPairs, slice_get, slice_index_or}
use Rattle.std.proofs.lemmas.List.{length-map, length-take-le}
use Rattle.std.proofs.lemmas.Option.{same_Some}
use Rattle.p_groups.specs.PGroups.{PGroup, largest_residue}
use Rattle.graded_polynomials.specs.Polynomials.{Polynomial}
use Rattle.graded_algebra.specs.Presentations.{IsNormalForm}
use Rattle.presentation_rows.specs.Values.{vector}
use Rattle.gc_poly.specs.Generators.{Generators}
use Rattle.gc_poly.specs.Polynomials.{IsOverGenerators}
use Rattle.param_test.specs.Tables.{CandidateValue, AreRestrictions}
use Rattle.ring_present.specs.Rings.{cohomology}
use Rattle.ring_present.specs.Values.{RingValue, generators_of}
use Rattle.coho_report.specs.Choices.{IsFormAt}
use Rattle.coho_report.specs.Related.{AreRelated}
use Rattle.coho_report.specs.Restrictors.{IsFormOf, Restricts}
use Rattle.coho_report.specs.Tables.{generators_by, IsTabled}
use Rattle.coho_report.specs.declared.candidates.Candidate.{Candidate}
use Rattle.coho_report.specs.declared.restrictors.Restrictor.{Restrictor}
use Rattle.coho_report.proofs.Images.{images_over}
use Rattle.coho_report.proofs.NumberedLists.{at-place, some-member}
use Rattle.coho_report.proofs.Related.{all-related, related-length}

-- the member at a place, by any that stands for one past the end
pub at-default : {X : Type 0} (xs : List X) (i : ℕ) (x z : X) → i < length xs → x ≡ slice_index_or xs i z
    → (d : X) → slice_index_or xs i d ≡ x
at-default xs i x z l e d = let m = some-member xs i l in m.1 d ∙ sym (m.1 z) ∙ sym e

module _ {A B : Type 0} (R : A → B → Type 0) where
  -- the members at one place of lists, of which one has only the first i
  pub related-at : (xs : List A) (i : ℕ) (ys : List B) (k : ℕ) (d : A) (e : B) → AreRelated R (take i xs) ys
      → k < length ys → R (slice_index_or xs k d) (slice_index_or ys k e)
  related-at [] zero [] k d e r l = absurd (omega (arith, l))
  related-at [] (suc i) [] k d e r l = absurd (omega (arith, l))
  related-at [] zero (y ∷ ys) k d e r l = absurd r
  related-at [] (suc i) (y ∷ ys) k d e r l = absurd r
  related-at (x ∷ xs) zero [] k d e r l = absurd (omega (arith, l))
  related-at (x ∷ xs) zero (y ∷ ys) k d e r l = absurd r
  related-at (x ∷ xs) (suc i) [] k d e r l = absurd (omega (arith, l))
  related-at (x ∷ xs) (suc i) (y ∷ ys) zero d e r l = r.0
  related-at (x ∷ xs) (suc i) (y ∷ ys) (suc k) d e r l = related-at xs i ys k d e r.1 (omega (arith, l))

  pub related-count : (xs : List A) (i : ℕ) (ys : List B) → AreRelated R (take i xs) ys → i < length xs
      → length ys ≡ i
  related-count xs i ys r l =
      let same = related-length R (take i xs) ys r in
      let count = length-take-le i xs (omega (arith, l)) in
      omega (arith, same, count)

module _ (rs : List Restrictor) where
  -- none of those before has a higher degree
  pub tabled_order : (cs : List Candidate) (i : ℕ) (ys : List CandidateValue) (x : Candidate)
      → AreRelated (IsTabled rs) (take i cs) ys → AllPairs (λ c d. c.degree ≤ d.degree) cs → i < length cs
      → x ≡ slice_index_or cs i x → All (λ v. v.degree ≤ x.degree) ys
  tabled_order cs i ys x r order l here k e below =
      let at = related-at (IsTabled rs) cs i ys k x e r below in
      let same = at.degree_is in
      let count = related-count (IsTabled rs) cs i ys r l in
      let less = order k i x (omega (arith, below, count)) l in
      let top : x.degree ≡ (slice_index_or cs i x).degree = ap (λ (c : Candidate). c.degree) here in
      omega (arith, same, less, top)

module _ (c : Candidate) where
  one_over : (x : Restrictor) (f : Polynomial) → Restricts x c → IsFormOf c x f
      → IsOverGenerators (record {
        prime = x.own.value.ring.prime;
        degrees = map (λ g. g.degree) x.own.value.ring.generators;
      }) f
  one_over x f w r =
      let G = x.map.group in
      images_over G x.map.basis x.own.value.ring.prime x.own.value.ring.generators
      (record { degree = c.degree; class = vector (largest_residue G) c.class.entries } ∷ []) (f ∷ [])
      w.restrictor.own.ring_is.prime_is (r, tt) 0 f (omega arith)

  over_at : (xs : List Restrictor) (fs : List Polynomial) → All (λ x. Restricts x c) xs
      → AreRelated (IsFormOf c) xs fs → (j : ℕ) (g : Generators) (f : Polynomial)
      → slice_get (generators_by xs) j ≡ Some g → slice_get fs j ≡ Some f → IsOverGenerators g f
  over_at [] [] w r j g f hg hf = absurd (cc)
  over_at [] (y ∷ fs) w r j g f hg hf = absurd r
  over_at (x ∷ xs) [] w r j g f hg hf = absurd r
  over_at (x ∷ xs) (y ∷ fs) w r zero g f hg hf =
      let own : Generators = record {
        prime = x.own.value.ring.prime;
        degrees = map (λ g. g.degree) x.own.value.ring.generators;
      } in
      subst (λ g. IsOverGenerators g f) (same_Some own g hg)
      (subst (IsOverGenerators own) (same_Some y f hf) (one_over x y (w 0 x (omega arith)) r.0))
  over_at (x ∷ xs) (y ∷ fs) w r (suc j) g f hg hf =
      over_at xs fs (λ k d l. w (suc k) d (omega (arith, l))) r.1 j g f hg hf

  -- the restrictions of a candidate to the subgroups
  pub restrictions_are : (xs : List Restrictor) (gs : List Generators) (fs : List Polynomial)
      → gs ≡ generators_by xs → All (λ x. Restricts x c) xs → AreRelated (IsFormOf c) xs fs
      → AreRestrictions gs c.degree fs
  restrictions_are xs gs fs e w r = subst (λ gs. AreRestrictions gs c.degree fs) (sym e) (record {
    count = related-length (IsFormOf c) xs fs r ∙ sym (length-map xs (λ (x : Restrictor). record {
      prime = x.own.value.ring.prime;
      degrees = map (λ g. g.degree) x.own.value.ring.generators;
    }));
    degrees = all-related (IsFormOf c) (λ f. f.degree ≡ c.degree) (λ x f h. h.degree_is) xs fs r;
    over = over_at xs fs w r;
  })

-- a normal form of the class of the candidate at a place
pub form_at : (R : RingValue) (cs : List Candidate) (k : ℕ) (x : Candidate) (v : List ℕ) (f : Polynomial)
    → k < length cs → x ≡ slice_index_or cs k x → v ≡ x.class.entries → f.degree ≡ x.degree
    → ((G : PGroup) → R.group ≡ Some G → IsNormalForm (largest_residue G) (cohomology G)
    (generators_of (largest_residue G) R.generators) x.degree (vector (largest_residue G) v) f.terms)
    → IsFormAt R cs k f
form_at R cs k x v f l e same degree form = record {
  degree_is = λ d. degree ∙ ap (λ (x : Candidate). x.degree) (sym (at-place cs k x l e d));
  form = λ G g d. subst (λ (c : Candidate). IsNormalForm (largest_residue G) (cohomology G)
      (generators_of (largest_residue G) R.generators) f.degree (vector (largest_residue G) c.class.entries)
      f.terms) (sym (at-place cs k x l e d))
      (subst (λ v. IsNormalForm (largest_residue G) (cohomology G)
      (generators_of (largest_residue G) R.generators) f.degree (vector (largest_residue G) v) f.terms) same
      (subst (λ n. IsNormalForm (largest_residue G) (cohomology G)
      (generators_of (largest_residue G) R.generators) n (vector (largest_residue G) v) f.terms) (sym degree)
      (form G g)));
}
