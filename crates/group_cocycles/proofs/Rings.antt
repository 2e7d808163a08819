-- From what holds of generators by vectors to the cohomology ring.
use Rattle.std.specs.Prelude.{◌≡◌, ℕ, zero, suc, ◌+◌, ◌↔◌, List, [], ◌∷◌, ◌++◌, length, refl}
use Rattle.std.proofs.Common.{sym, ◌∙◌, ap, arith}
use Rattle.std.specs.List.{AllByRecursion as Each}
use mathlib.Core.Path.{subst, fun_ext}
use Rattle.group_modules.specs.Module.{Module}
use Rattle.group_modules.specs.Field.{Below, Fp, residue, plus, minus}
use Rattle.group_modules.specs.Resolutions.{rank}
use Rattle.group_modules.specs.Tables.{monoid}
use Rattle.p_groups.specs.PGroups.{PGroup, largest_residue, group, order_of}
use Rattle.p_groups.proofs.Fields.{field}
use Rattle.group_algebra.specs.Coordinates.{layer_coordinates}
use Rattle.min_res.specs.Stages.{stage_rows}
use Rattle.min_res.proofs.StageRows.{stage_rows_are}
use Rattle.graded_polynomials.specs.Monomials.{exponent}
use Rattle.graded_polynomials.specs.Polynomials.{Term, Polynomial, IsOver, IsInIdeal, product}
use Rattle.graded_algebra.specs.Algebras.{Generator, degrees, value}
use Rattle.graded_algebra.specs.Cochains.{cochains}
use Rattle.graded_algebra.specs.Vectors.{Vector, units}
use Rattle.graded_algebra.specs.Claims.{CochainClaims}
use Rattle.resolution_stages.proofs.FromDefinitions.{resolution-claims}
use Rattle.bar_comparison.proofs.Classes.{bar-normal, bar-cocycle}
use Rattle.bar_comparison.proofs.Stages.{stages}
use Rattle.cup_products.proofs.Laws.{product-claims}
use Rattle.graded_algebra.proofs.Transfer.{value-close}
use Rattle.resolution_stages.specs.Claims.{ResolutionClaims}
use Rattle.bar_complex.proofs.Cohomologous.{near-sym}
use Rattle.cohomology_algebra.specs.Claims.{IsPresentation, cohomology, vector_cocycle}
use Rattle.cohomology_algebra.proofs.Cocycles.{compared}
use Rattle.cohomology_algebra.proofs.Ring.{images-are, ring-claims}
use Rattle.group_cocycles.specs.Cocycles.{GroupCochain, IsCocycle, IsCoboundary, AreCohomologous, cup}
use Rattle.group_cocycles.proofs.Degrees.{IsWithin, IsGraded, generators-within, relations-graded}
use Rattle.group_cocycles.specs.Rings.{Generators, IsIn, cochain_of, cocycles_of, IsCohomologyRing}

module _ (G : PGroup) where
  abbrev q : ℕ
  q = largest_residue G

  abbrev Classes : Type 0
  Classes = List (Generator (Vector q))

  abbrev k : ℕ → Vector q → GroupCochain G
  k d v = vector_cocycle q (group G) (layer_coordinates G) (stage_rows G) d v

  pub degrees-same : (gs : Classes) → degrees gs ≡ degrees (cocycles_of G gs)
  degrees-same [] = refl
  degrees-same (g ∷ gs) = ap (λ ds. g.degree ∷ ds) (degrees-same gs)

  all-cocycles : (gs : Classes) → Each (λ h. IsCocycle G h.degree h.class) (cocycles_of G gs)
  all-cocycles [] = tt
  all-cocycles (g ∷ gs) = (
    (
      bar-normal (stages q (group G) (layer_coordinates G) (stage_rows G)
          (resolution-claims q (field G) (group G) (layer_coordinates G) (stage_rows G) (stage_rows_are G)))
          g.degree (λ i. g.class i.0),
      bar-cocycle (stages q (group G) (layer_coordinates G) (stage_rows G)
          (resolution-claims q (field G) (group G) (layer_coordinates G) (stage_rows G) (stage_rows_are G)))
          g.degree (λ i. g.class i.0),
    ),
    all-cocycles gs,
  )

  cocycles-within : (n : ℕ) (gs : Classes) → Each (λ g. IsWithin n g.degree) gs
      → Each (λ h. IsWithin n h.degree) (cocycles_of G gs)
  cocycles-within n [] w = tt
  cocycles-within n (g ∷ gs) w = (w.0, cocycles-within n gs w.1)

  -- what a list of relations satisfies by classes, by cocycles
  graded-within : (gs : Classes) (n : ℕ) (rs : List Polynomial)
      → Each (IsGraded q (cohomology q (group G) (layer_coordinates G) (stage_rows G)) gs n) rs
      → Each (λ r. IsWithin n r.degree) rs
  graded-within gs n [] e = tt
  graded-within gs n (r ∷ rs) e = (e.0.0, graded-within gs n rs e.1)

  graded-cocycles : (gs : Classes) (n : ℕ) (rs : List Polynomial)
      → Each (IsGraded q (cohomology q (group G) (layer_coordinates G) (stage_rows G)) gs n) rs
      → Each (λ r. IsIn G (cocycles_of G gs) r.degree r.terms) rs
  graded-cocycles gs n [] e = tt
  graded-cocycles gs n (r ∷ rs) e =
      (subst (λ ds. IsOver q ds r.degree r.terms) (degrees-same gs) e.0.1, graded-cocycles gs n rs e.1)

  abbrev K : Module (suc q) (monoid (group G))
  K = Fp q (monoid (group G))

  minus-zero : minus q (residue q 0) ≡ residue q 0
  minus-zero =
      sym (K.add-zero (minus q (residue q 0))) ∙ K.add-comm (minus q (residue q 0)) (residue q 0)
      ∙ K.add-neg (residue q 0)

  -- u - 0 is u
  less-zero : (u : GroupCochain G) → ◌≡◌ {A = GroupCochain G} (λ xs. plus q (u xs) (minus q (residue q 0))) u
  less-zero u =
      fun_ext (λ xs. ap (plus q (u xs)) minus-zero ∙ K.add-zero (u xs))

  -- a cochain that differs by a coboundary from 0 is one
  pub zero-close : (d : ℕ) (u : GroupCochain G)
      → AreCohomologous G d u (λ xs. residue q 0) ↔ IsCoboundary G d u
  zero-close zero u = ((λ h. h), (λ h. h))
  zero-close (suc d) u = (
    (λ h. subst (λ v. IsCoboundary G (suc d) v) (less-zero u) h),
    (λ h. subst (λ v. IsCoboundary G (suc d) v) (sym (less-zero u)) h),
  )

  abbrev head-or : {X : Type 0} → X → List X → X
  head-or x [] = x
  head-or x (y ∷ ys) = y

  abbrev rest : {X : Type 0} → List X → List X
  rest [] = []
  rest (y ∷ ys) = ys

  -- the class of which a generator is the cocycle, and its place
  pub record IsSplit (gs : Classes) (before : Generators G) (h : Generator (GroupCochain G)) : Type 0 where
    pub first : Classes
    pub middle : Generator (Vector q)
    pub last : Classes
    pub whole : gs ≡ first ++ middle ∷ last
    pub place : length first ≡ length before
    pub degree : middle.degree ≡ h.degree
    pub class : k middle.degree middle.class ≡ h.class

  split : (gs : Classes) (before : Generators G) (h : Generator (GroupCochain G)) (after : Generators G)
      → cocycles_of G gs ≡ before ++ h ∷ after → IsSplit gs before h
  split [] [] h after e = absurd (let n : 0 ≡ suc (length after) = ap length e in omega (arith, n))
  split [] (b ∷ before) h after e =
      absurd (let n : 0 ≡ suc (length (before ++ h ∷ after)) = ap length e in omega (arith, n))
  split (g ∷ gs) [] h after e = record {
    first = [];
    middle = g;
    last = gs;
    whole = refl;
    place = refl;
    degree = ap (λ (hs : Generators G). (head-or h hs).degree) e;
    class = ap (λ (hs : Generators G). (head-or h hs).class) e;
  }
  split (g ∷ gs) (b ∷ before) h after e =
      let s : IsSplit gs before h = split gs before h after (ap rest e) in
      record {
        first = g ∷ s.first;
        middle = s.middle;
        last = s.last;
        whole = ap (λ xs. g ∷ xs) s.whole;
        place = ap suc s.place;
        degree = s.degree;
        class = s.class;
      }

  stage-claims : ResolutionClaims q (group G) (layer_coordinates G) (stage_rows G)
  stage-claims =
      resolution-claims q (field G) (group G) (layer_coordinates G) (stage_rows G) (stage_rows_are G)

  -- the value of a polynomial at cocycles, and the cocycle of its value
  pub value-cocycle : (gs : List (Generator (Vector q))) (d : ℕ) (f : List Term) → IsOver q (degrees gs) d f
      → AreCohomologous G d (cochain_of G (cocycles_of G gs) f)
      (k d (value (cohomology q (group G) (layer_coordinates G) (stage_rows G)) gs f))
  value-cocycle gs d f o =
      near-sym q (monoid (group G)) d
      (k d (value (cohomology q (group G) (layer_coordinates G) (stage_rows G)) gs f))
      (cochain_of G (cocycles_of G gs) f)
      (subst (λ hs. AreCohomologous G d
      (k d (value (cohomology q (group G) (layer_coordinates G) (stage_rows G)) gs f))
      (cochain_of G hs f))
      (images-are q (group G) (layer_coordinates G) (stage_rows G) (field G) (stage_rows_are G) gs)
      (value-close (Vector q) (GroupCochain G)
      (cohomology q (group G) (layer_coordinates G) (stage_rows G)) (cochains (Below (order_of G)) q) k
      (AreCohomologous G)
      (compared q (group G) (layer_coordinates G) (stage_rows G) stage-claims
      (product-claims q (group G) (layer_coordinates G) (stage_rows G) (field G) stage-claims)) q gs d f o))

  module _ (n : ℕ) (gs : Classes) (rs : List Polynomial)
      (P : IsPresentation q (group G) (layer_coordinates G) (stage_rows G) n gs rs) where
    abbrev hs : Generators G
    hs = cocycles_of G gs

    claims : CochainClaims q (Vector q) (GroupCochain G) (cochains (Below (order_of G)) q) (IsCocycle G)
        (AreCohomologous G) k n gs hs rs
    claims =
        (ring-claims q (group G) (layer_coordinates G) (stage_rows G) (field G) (stage_rows_are G) n gs rs
        P).cocycles

    -- polynomials in the classes are polynomials in the cocycles
    back : (d : ℕ) (f : List Term) → IsIn G hs d f → IsOver q (degrees gs) d f
    back d f o = subst (λ ds. IsOver q ds d f) (sym (degrees-same gs)) o

    relations-are : Each (IsGraded q (cohomology q (group G) (layer_coordinates G) (stage_rows G)) gs n) rs
    relations-are =
        relations-graded q (cohomology q (group G) (layer_coordinates G) (stage_rows G)) gs n rs
        P.relations_are

    pub is-cohomology-ring : IsCohomologyRing G n hs rs
    is-cohomology-ring = record {
      cocycles = all-cocycles gs;
      within = cocycles-within n gs
          (generators-within q (cohomology q (group G) (layer_coordinates G) (stage_rows G))
          (λ d. units q 0 (rank q (group G) (stage_rows G).ranks d)) n gs P.generators_are);
      relations_within = graded-within gs n rs relations-are;
      graded = graded-cocycles gs n rs relations-are;
      onto = λ d l u z.
          let found = claims.onto d l u z in
          (found.0, subst (λ ds. IsOver q ds d found.0) (degrees-same gs) found.1, found.2);
      exact = λ d l f o.
          let both = claims.exact d l f (back d f o) in
          let close = zero-close d (cochain_of G hs f) in (
            (λ h. subst (λ ds. IsInIdeal q ds rs d f) (degrees-same gs) (both.0 (close.1 h))),
            (λ h. close.0 (both.1 (subst (λ ds. IsInIdeal q ds rs d f) (sym (degrees-same gs)) h))),
          );
      multiplicative = λ d e f g o v.
          subst (λ ds. AreCohomologous G (d + e) (cochain_of G hs (product q ds f g))
          (cup G d (cochain_of G hs f) (cochain_of G hs g))) (degrees-same gs)
          (claims.multiplicative d e f g (back d f o) (back e g v));
      generators_needed = λ before h after e f o z c.
          let s : IsSplit gs before h = split gs before h after e in
          claims.generators_needed s.first s.middle s.last s.whole f
          (subst (λ d. IsOver q (degrees gs) d f) (sym s.degree) (back h.degree f o))
          (subst (λ m. Each (λ t. exponent t.monomial m ≡ 0) f) (sym s.place) z)
          (subst (λ d. AreCohomologous G d (k s.middle.degree s.middle.class) (cochain_of G hs f))
          (sym s.degree)
          (subst (λ u. AreCohomologous G h.degree u (cochain_of G hs f)) (sym s.class) c));
      relations_needed = λ before r after e i.
          claims.relations_needed before r after e
          (subst (λ ds. IsInIdeal q ds (before ++ after) r.degree r.terms) (sym (degrees-same gs)) i);
    }
