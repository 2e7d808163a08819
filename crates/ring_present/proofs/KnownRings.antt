-- What a ring is, from what it keeps.
use Rattle.std.proofs.Common.{◌≡◌, ℕ, ◌<◌, List, length, map, arith, ap, sym, ◌∙◌}
use Rattle.std.specs.Prelude.{slice_index_or, Option, Some, None}
use Rattle.std.proofs.lemmas.List.{length-map, get_or-map}
use mathlib.Core.Path.{subst}
use Rattle.p_groups.specs.PGroups.{PGroup}
use Rattle.graded_polynomials.specs.Polynomials.{Polynomial}
use Rattle.gc_poly.specs.Generators.{Generators}
use Rattle.gc_poly.specs.Polynomials.{IsOverGenerators}
use Rattle.min_res.specs.Stages.{rank_of}
use Rattle.chain_lift.specs.Values.{LiftValue}
use Rattle.ring_present.specs.Values.{RingValue, GeneratorValue}
use Rattle.ring_present.specs.Known.{IsKnown}
use Rattle.cohomology_degree.specs.Degrees.{lifted, IsLiftBelow}
use Rattle.ring_present.specs.Stores.{IsRingStore}
use Rattle.cohomology_degree.specs.declared.degree.Degree.{Degree}
use Rattle.cohomology_degree.proofs.Factors.{all-at}
use Rattle.ring_present.proofs.RelationsOver.{relations-over}
use Rattle.ring_present.proofs.Shown.{ring-at}

-- what is seen of a ring
abbrev pub seen : Option PGroup → Generators → List LiftValue → List Polynomial → List Degree
    → List (List ℕ) → RingValue
seen group gens lifts rs Ds cs = record {
  prime = gens.prime;
  group = group;
  degree = length Ds;
  generators = lifted lifts;
  relations = rs;
  standard = map (λ d. d.standard.monomials) Ds;
  candidates = cs;
}

known-store : (group : Option PGroup) (gens : Generators) (lifts : List LiftValue) (rs : List Polynomial)
    (Ds : List Degree) (cs : List (List ℕ))
    → IsRingStore group gens lifts rs Ds → IsKnown (seen group gens lifts rs Ds cs)
known-store None gens lifts rs Ds cs S = record {
  degree_is = ap (λ (Ds : List Degree). length Ds) S.through.no_degrees;
  no_generators = ap lifted S.through.no_generators;
  no_relations = S.through.no_relations;
  no_standard = ap (map (λ (d : Degree). d.standard.monomials)) S.through.no_degrees;
}
known-store (Some G) gens lifts rs Ds cs S = record {
  prime_is = S.through.prime;
  high = S.through.high;
  presentation = S.through.presentation;
  standard_count = length-map Ds (λ (d : Degree). d.standard.monomials);
}

pub known-ring : (R : RingValue) (group : Option PGroup) (gens : Generators) (lifts : List LiftValue)
    (rs : List Polynomial) (Ds : List Degree) {cs : List (List ℕ)}
    → IsRingStore group gens lifts rs Ds → seen group gens lifts rs Ds cs ≡ R → IsKnown R
known-ring R group gens lifts rs Ds {cs} S e = subst IsKnown e (known-store group gens lifts rs Ds cs S)

over-store : (group : Option PGroup) (gens : Generators) (lifts : List LiftValue) (rs : List Polynomial)
    (Ds : List Degree) → IsRingStore group gens lifts rs Ds
    → (i : ℕ) (f : Polynomial) → i < length rs → f ≡ slice_index_or rs i f
    → IsOverGenerators (record { prime = gens.prime; degrees = map (λ g. g.degree) (lifted lifts) }) f
over-store None gens lifts rs Ds S i f l e = absurd
    (let n = ap (λ (rs : List Polynomial). length rs) S.through.no_relations in omega (arith, n, l))
over-store (Some G) gens lifts rs Ds S i f l e =
    all-at (IsOverGenerators
    (record { prime = gens.prime; degrees = map (λ g. g.degree) (lifted lifts) })) rs i f
    (relations-over G (length Ds) gens.prime (lifted lifts) rs S.through.prime S.through.presentation) l e

-- a relation is a polynomial over the generators
pub relation-over : (R : RingValue) (group : Option PGroup) (gens : Generators) (lifts : List LiftValue)
    (rs : List Polynomial) (Ds : List Degree) {cs : List (List ℕ)} → IsRingStore group gens lifts rs Ds
    → seen group gens lifts rs Ds cs ≡ R → (i : ℕ) (f : Polynomial) → i < length R.relations
    → f ≡ slice_index_or rs i f
    → IsOverGenerators (record { prime = R.prime; degrees = map (λ g. g.degree) R.generators }) f
relation-over R group gens lifts rs Ds S e i f l at =
    subst (λ (R : RingValue). IsOverGenerators
    (record { prime = R.prime; degrees = map (λ g. g.degree) R.generators }) f) e
    (over-store group gens lifts rs Ds S i f
    (let n = ap (λ (R : RingValue). length R.relations) e in omega (arith, n, l)) at)

lifted-at : (lifts : List LiftValue) (i : ℕ) (L : LiftValue) (g : GeneratorValue) → i < length lifts
    → L ≡ slice_index_or lifts i L
    → record { degree = L.degree; class = L.class } ≡ slice_index_or (lifted lifts) i g
lifted-at lifts i L g l e = ap (λ (l : LiftValue). record { degree = l.degree; class = l.class }) e
    ∙ sym (get_or-map (λ (l : LiftValue). record { degree = l.degree; class = l.class }) lifts i L g l)

-- the class of a generator has the rank of its degree as its length
pub class-length : (R : RingValue) (group : Option PGroup) (gens : Generators) (lifts : List LiftValue)
    (rs : List Polynomial) (Ds : List Degree) {cs : List (List ℕ)} → IsRingStore group gens lifts rs Ds
    → seen group gens lifts rs Ds cs ≡ R → (i : ℕ) (L : LiftValue) (n : ℕ) → i < length R.generators
    → L ≡ slice_index_or lifts i L → n ≡ rank_of L.group L.degree
    → (G : PGroup) → R.group ≡ Some G → (g : GeneratorValue)
    → n ≡ rank_of G (slice_index_or R.generators i g).degree
class-length R group gens lifts rs Ds S e i L n l at r G known g =
    let inside : i < length lifts =
    (let a = ap (λ (R : RingValue). length R.generators) e in let b : length
    (lifted lifts) ≡ length lifts = length-map lifts _ in omega (arith, a, b, l)) in
    let ring = ring-at group gens lifts rs Ds G S (ap (λ (R : RingValue). R.group) e ∙ known) in
    r ∙ ap (λ (H : PGroup). rank_of H L.degree)
    (all-at (IsLiftBelow G (length Ds)) lifts i L ring.lower.lifts_are inside at).group_is
    ∙ ap (λ (g : GeneratorValue). rank_of G g.degree) (lifted-at lifts i L g inside at
    ∙ ap (λ (R : RingValue). slice_index_or R.generators i g) e)
