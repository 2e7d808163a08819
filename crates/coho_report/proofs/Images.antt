-- The restriction of a generator of a ring through a degree.
use Rattle.std.proofs.Common.{◌≡◌, ◌∙◌, ℕ, ◌-◌, ◌<◌, ◌≤◌, List, [], length, map, ap, sym, subst, arith}
use Rattle.std.specs.Prelude.{slice_index, slice_index_or, All, Option, Some}
use Rattle.std.proofs.lemmas.List.{get_or-map, length-map}
use Rattle.std.proofs.lemmas.Option.{same_Some}
use Rattle.std.proofs.lemmas.List.Elements.{All-from_recursion}
use Rattle.p_groups.specs.PGroups.{PGroup, group, largest_residue, prime_of}
use Rattle.elementary_subgroups.specs.Bases.{NumberedSubgroup}
use Rattle.linear_algebra.specs.Residues.{residue}
use Rattle.graded_polynomials.specs.Polynomials.{Polynomial, IsPolynomial}
use Rattle.graded_algebra.specs.Algebras.{Generator}
use Rattle.graded_algebra.specs.Presentations.{IsNormalForm}
use Rattle.graded_algebra.specs.Vectors.{Vector}
use Rattle.presentation_rows.specs.Values.{vector}
use Rattle.gc_poly.specs.Generators.{Generators}
use Rattle.gc_poly.specs.Polynomials.{IsOverGenerators}
use Rattle.min_res.specs.Stages.{rank_of, stage_rows}
use Rattle.chain_maps.proofs.Vectors.{vector-claims, extended-past, length-entries}
use Rattle.chain_maps_along.specs.Along as along
use Rattle.group_algebra.specs.Coordinates.{layer_coordinates}
use Rattle.chain_lift.specs.Embeddings.{elementary, embedding, restrict_row}
use Rattle.ring_present.specs.Rings.{cohomology, dual_basis}
use Rattle.ring_present.specs.Values.{GeneratorValue, RingValue, generators_of}
use Rattle.ring_present.proofs.RelationsOver.{degrees-are}
use Rattle.coho_report.specs.OwnRings.{IsRingThrough}
use Rattle.coho_report.specs.Related.{AreRelated}
use Rattle.coho_report.specs.Subgroups.{restricted, IsImage, IsToldOf}
use Rattle.coho_report.specs.Values.{SubgroupValue}
use Rattle.coho_report.proofs.OwnRings.{degrees_within, IsWithin}
use Rattle.coho_report.proofs.Related.{all-related, related-length}

-- a generator with its class as a vector
abbrev pub vector_of : (q : ℕ) → GeneratorValue → Generator (Vector q)
vector_of q g = record { degree = g.degree; class = vector q g.class }

pub no_generator : GeneratorValue
no_generator = record { degree = 0; class = [] }

-- generator i of a ring through degree n has a degree from 1 to n
pub generator_within : (G : PGroup) (n : ℕ) (R : RingValue) → IsRingThrough G n R → (i : ℕ)
    (g : GeneratorValue) → i < length R.generators → (1 ≤ (slice_index_or R.generators i g).degree)
    × ((slice_index_or R.generators i g).degree ≤ n)
generator_within G n R ring i g l =
    let q = largest_residue G in
    let gs = generators_of q R.generators in
    let Within = IsWithin q (cohomology G) (dual_basis G) n in
    let all : All Within gs = All-from_recursion Within gs
    (degrees_within q (cohomology G) (dual_basis G) n gs ring.presentation.generators_are) in
    let same = get_or-map (vector_of q) R.generators i g (vector_of q g) l in
    let count = length-map R.generators (vector_of q) in
    subst Within same (all i (vector_of q g) (omega (arith, count, l)))

-- the degree of generator i, as the list of degrees has it
pub degree_at : (R : RingValue) (gens : Generators) (i d : ℕ)
    → gens ≡ record { prime = R.prime; degrees = map (λ g. g.degree) R.generators }
    → d ≡ slice_index gens.degrees i → i < length R.generators → (g : GeneratorValue)
    → d ≡ (slice_index_or R.generators i g).degree
degree_at R gens i d same e l g = e ∙ ap (λ (gens : Generators). slice_index gens.degrees i) same
    ∙ get_or-map (λ (g : GeneratorValue). g.degree) R.generators i g 0 l

-- the length of the row of a restriction, over each group that is this one
pub restriction_length : (G H : PGroup) (basis : List ℕ) (g : Option PGroup) (d : ℕ) (x y : List ℕ)
    → g ≡ Some (elementary G (length basis)) → g ≡ Some H → y ≡ restrict_row G basis d x
    → length y ≡ rank_of H d
restriction_length G H basis g d x y known also e =
    let same : elementary G (length basis) ≡ H =
    same_Some (elementary G (length basis)) H (sym known ∙ also) in
    ap (λ (r : List ℕ). length r) e
    ∙ length-entries (rank_of (elementary G (length basis)) d)
    (restricted G basis d (vector (largest_residue G) x)) ∙ ap (λ E. rank_of E d) same

module _ (G : PGroup) (basis : List ℕ) where
  abbrev E : PGroup
  E = elementary G (length basis)

  -- the restriction on vectors is 0 from the rank on
  pub restricted_past : (d : ℕ) (v : Vector (largest_residue G)) (i : ℕ) → rank_of E d ≤ i
      → restricted G basis d v i ≡ residue (largest_residue G) 0
  restricted_past d v i l = extended-past (rank_of E d)
      (along.restrict (largest_residue G) (group E) (group G) (embedding G basis) (layer_coordinates E)
      (stage_rows E) (layer_coordinates G) (stage_rows G) d (λ k. v k.0)) i l

  -- the row of a restriction stands for the restriction on vectors
  pub row_is_restricted : (d : ℕ) (x : List ℕ)
      → vector (largest_residue G) (restrict_row G basis d x)
      ≡ restricted G basis d (vector (largest_residue G) x)
  row_is_restricted d x =
      let claims = vector-claims (largest_residue G) (rank_of E d) in
      claims.of_vector (restricted G basis d (vector (largest_residue G) x))
      (λ i l. restricted_past d (vector (largest_residue G) x) i l)

  pub image_is : (own : List (Generator (Vector (largest_residue G)))) (R : RingValue) (i : ℕ)
      (g : Generator (Vector (largest_residue G))) (d : ℕ) (x y : List ℕ) (f : Polynomial)
      → i < length R.generators
      → ((h : GeneratorValue) → d ≡ (slice_index_or R.generators i h).degree)
      → ((h : GeneratorValue) → x ≡ (slice_index_or R.generators i h).class)
      → y ≡ restrict_row G basis d x → f.degree ≡ d
      → IsNormalForm (largest_residue G) (cohomology E) own d (vector (largest_residue G) y) f.terms
      → IsImage G basis own (slice_index_or (generators_of (largest_residue G) R.generators) i g) f
  image_is own R i g d x y f l degree class row fd form =
      let q = largest_residue G in
      let h = no_generator in
      let at : slice_index_or R.generators i h ≡ record { degree = d; class = x } =
      (λ j. record { degree = sym (degree h) j; class = sym (class h) j }) in
      let here : slice_index_or (generators_of q R.generators) i g ≡ vector_of q (record {
        degree = d;
        class = x;
      }) = get_or-map (vector_of q) R.generators i h g l ∙ ap (vector_of q) at in
      subst (λ g. IsImage G basis own g f) (sym here) (record {
        degree_is = fd;
        form = subst (λ v. IsNormalForm q (cohomology E) own d v f.terms)
            (ap (vector q) row ∙ row_is_restricted d x) form;
      })

-- images are polynomials over the generators of the subgroup's ring
pub images_over : (G : PGroup) (basis : List ℕ) (p : ℕ) (own : List GeneratorValue)
    (gs : List (Generator (Vector (largest_residue G)))) (fs : List Polynomial) → p ≡ prime_of G
    → AreRelated (IsImage G basis (generators_of (largest_residue G) own)) gs fs
    → All (IsOverGenerators (record { prime = p; degrees = map (λ g. g.degree) own })) fs
images_over G basis p own gs fs e related =
    let q = largest_residue G in
    all-related (IsImage G basis (generators_of q own))
    (IsOverGenerators (record { prime = p; degrees = map (λ g. g.degree) own }))
    (λ g f image. subst (λ p. IsPolynomial (p - 1) (map (λ g. g.degree) own) f.degree f.terms) (sym e)
    (subst (λ d. IsPolynomial q (map (λ g. g.degree) own) d f.terms) (sym image.degree_is)
    (subst (λ ds. IsPolynomial q ds g.degree f.terms) (degrees-are q own) image.form.polynomial)))
    gs fs related

-- there are as many images as generators
pub told_counts : (G : PGroup) (n : ℕ) (gs : List GeneratorValue) (ss : List NumberedSubgroup)
    (vs : List SubgroupValue) → AreRelated (IsToldOf G n (generators_of (largest_residue G) gs)) ss vs
    → All (λ v. length v.images ≡ length gs) vs
told_counts G n gs ss vs related =
    let q = largest_residue G in
    all-related (IsToldOf G n (generators_of q gs)) (λ v. length v.images ≡ length gs)
    (λ s v told. related-length (IsImage G s.basis told.own) (generators_of q gs) v.images told.images_are
    ∙ length-map gs (vector_of q)) ss vs related
