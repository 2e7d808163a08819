-- The cocycles of the dual basis of a degree are a basis of the cohomology.
use Rattle.std.specs.Prelude.{◌≡◌, ℕ, zero, suc, ◌+◌, ◌*◌, ◌<◌, List, [], ◌∷◌, length, map, refl}
use Rattle.std.specs.Prelude.{cond, eqb}
use Rattle.std.proofs.Common.{sym, ◌∙◌, ap, arith}
use Rattle.std.specs.List.{AllByRecursion as Each}
use Rattle.std.proofs.Math.Nat.{zero-mod}
use mathlib.Core.Path.{fun_ext, subst}
use Rattle.group_modules.specs.Field.{Below, residue, plus}
use Rattle.group_modules.specs.Tables.{monoid}
use Rattle.linear_algebra.specs.Rows.{IsRow, entry}
use Rattle.linear_algebra.proofs.Residues.{plus-comm, plus-zero, times-one, times-residue}
use Rattle.resolution_stages.proofs.FromDefinitions.{resolution-claims}
use Rattle.p_groups.specs.PGroups.{PGroup, largest_residue, group, order_of, prime_of}
use Rattle.p_groups.proofs.Fields.{field}
use Rattle.group_algebra.specs.Coordinates.{layer_coordinates}
use Rattle.min_res.specs.Stages.{stage_rows, rank_of}
use Rattle.min_res.proofs.StageRows.{stage_rows_are}
use Rattle.bar_comparison.specs.Claims.{ClassMapClaims}
use Rattle.bar_comparison.specs.Comparison.{bar_cocycle}
use Rattle.bar_comparison.proofs.Classes.{bar-normal, bar-cocycle, one-class}
use Rattle.bar_comparison.proofs.ClassMap.{class-map-claims}
use Rattle.bar_comparison.proofs.Comparison.{MinimalStages}
use Rattle.bar_comparison.proofs.Stages.{stages}
use Rattle.bar_complex.proofs.Cohomologous.{near-sym}
use Rattle.graded_polynomials.proofs.Terms.{eqb-self, eqb-false}
use Rattle.graded_algebra.specs.Vectors.{Vector, unit, units}
use Rattle.group_cocycles.specs.Cocycles.{GroupCochain, IsCocycle, AreCohomologous, IsClassOf, cocycle_of}
use Rattle.group_cocycles.specs.Dimensions.{combination, IsBasis, IsDimension}
use Rattle.group_cocycles.proofs.Classes.{row_of_class, class-row}

module _ (q : ℕ) where
  -- the sum of the units at the places from k on, each times the number in its place of the row
  abbrev sum-of-units : ℕ → List ℕ → Vector q
  sum-of-units k [] i = residue q 0
  sum-of-units k (c ∷ x) i = plus q (residue q (c * (unit q k i).0)) (sum-of-units (suc k) x i)

  zero-times : (c : ℕ) → residue q (c * (residue q 0).0) ≡ residue q 0
  zero-times c = ap (λ z. residue q (c * z)) (zero-mod (suc q)) ∙ ap (residue q) (omega arith)

  one-times : (c : ℕ) → residue q (c * (residue q 1).0) ≡ residue q c
  one-times c = sym (times-residue q c (residue q 1)) ∙ times-one q c

  -- its entry at place k + j is entry j of the row
  before-units : (k : ℕ) (x : List ℕ) (i : ℕ) → i < k → sum-of-units k x i ≡ residue q 0
  before-units k [] i l = refl
  before-units k (c ∷ x) i l =
      ap (λ b. plus q (residue q (c * (residue q (cond b 1 0)).0)) (sum-of-units (suc k) x i))
      (eqb-false i k (omega (arith, l)))
      ∙ ap (λ z. plus q z (sum-of-units (suc k) x i)) (zero-times c)
      ∙ ap (plus q (residue q 0)) (before-units (suc k) x i (omega (arith, l)))
      ∙ plus-zero q (residue q 0)

  at-units : (j k : ℕ) (x : List ℕ) → sum-of-units k x (k + j) ≡ residue q (entry x j)
  at-units j k [] = refl
  at-units zero k (c ∷ x) =
      let here : k + zero ≡ k = omega arith in
      ap (λ b. plus q (residue q (c * (residue q (cond b 1 0)).0)) (sum-of-units (suc k) x (k + zero)))
      (ap (λ i. eqb i k) here ∙ eqb-self k)
      ∙ ap (λ z. plus q z (sum-of-units (suc k) x (k + zero))) (one-times c)
      ∙ ap (plus q (residue q c)) (before-units (suc k) x (k + zero) (omega arith))
      ∙ plus-zero q (residue q c)
  at-units (suc j) k (c ∷ x) =
      let next : k + suc j ≡ suc k + j = omega arith in
      ap (λ b. plus q (residue q (c * (residue q (cond b 1 0)).0)) (sum-of-units (suc k) x (k + suc j)))
      (eqb-false (k + suc j) k (omega arith))
      ∙ ap (λ z. plus q z (sum-of-units (suc k) x (k + suc j))) (zero-times c)
      ∙ plus-comm q (residue q 0) (sum-of-units (suc k) x (k + suc j))
      ∙ plus-zero q (sum-of-units (suc k) x (k + suc j))
      ∙ ap (sum-of-units (suc k) x) next ∙ at-units j (suc k) x

module _ (G : PGroup) (d : ℕ) where
  abbrev r : ℕ
  r = largest_residue G

  abbrev minimal : MinimalStages r (monoid (group G))
  minimal = stages r (group G) (layer_coordinates G) (stage_rows G)
      (resolution-claims r (field G) (group G) (layer_coordinates G) (stage_rows G) (stage_rows_are G))

  claims : ClassMapClaims r (group G) (layer_coordinates G) (stage_rows G)
  claims = class-map-claims r (group G) (layer_coordinates G) (stage_rows G)

  -- the cocycle of a vector of degree d
  abbrev cocycle : Vector r → GroupCochain G
  cocycle v = bar_cocycle r (group G) (layer_coordinates G) (stage_rows G) d (λ i. v i.0)

  abbrev basis-from : ℕ → ℕ → List (GroupCochain G)
  basis-from k m = map cocycle (units r k m)

  length-basis : (k m : ℕ) → length (basis-from k m) ≡ m
  length-basis k zero = refl
  length-basis k (suc m) = ap suc (length-basis (suc k) m)

  all-cocycles : (k m : ℕ) → Each (IsCocycle G d) (basis-from k m)
  all-cocycles k zero = tt
  all-cocycles k (suc m) = (
    (
      bar-normal minimal d (λ i. unit r k i.0),
      bar-cocycle minimal d (λ i. unit r k i.0),
    ),
    all-cocycles (suc k) m,
  )

  -- a combination of the cocycles of units is the cocycle of their combination
  combined : (k : ℕ) (x : List ℕ) (t : List (Below (order_of G)))
      → combination G x (basis-from k (length x)) t ≡ cocycle (sum-of-units r k x) t
  combined k [] t = sym (claims.zero d t)
  combined k (c ∷ x) t =
      ap (plus r (residue r (c * (cocycle (unit r k) t).0))) (combined (suc k) x t)
      ∙ ap (λ z. plus r z (cocycle (sum-of-units r (suc k) x) t))
      (sym (claims.multiple d c (λ i. unit r k i.0) t))
      ∙ sym (claims.sum d (λ i. residue r (c * (unit r k i.0).0)) (λ i. sum-of-units r (suc k) x i.0) t)

  -- so the combinations are the cocycles of the classes
  combination-is : (x : List ℕ) (m : ℕ) → length x ≡ m
      → combination G x (basis-from 0 m) ≡ cocycle_of G d x
  combination-is x m e =
      ap (λ n. combination G x (basis-from 0 n)) (sym e)
      ∙ fun_ext (λ t. combined 0 x t)
      ∙ ap (λ (c : Vector r). cocycle c) (fun_ext (λ i.
      ap (sum-of-units r 0 x) (let z : i ≡ 0 + i = omega arith in z) ∙ at-units r i 0 x))

  pub is-basis : IsBasis G d (basis-from 0 (rank_of G d))
  is-basis = record {
    cocycles = all-cocycles 0 (rank_of G d);
    one = λ u z.
        let b = rank_of G d in
        let us = basis-from 0 b in
        let p = prime_of G in
        let same = length-basis 0 b in
        let found = one-class minimal d u z in
        let x = row_of_class G d found.0 in
        let is : IsClassOf G d u x = class-row G d u found.0 (λ v. (
          (λ h. found.2 v (near-sym r (monoid (group G)) d
              (bar_cocycle r (group G) (layer_coordinates G) (stage_rows G) d v) u h)),
          (λ e. near-sym r (monoid (group G)) d u
              (bar_cocycle r (group G) (layer_coordinates G) (stage_rows G) d v)
              (subst (λ w. AreCohomologous G d u
              (bar_cocycle r (group G) (layer_coordinates G) (stage_rows G) d w)) (sym e) found.1)),
        )) in (
          x,
          record {
            row = subst (λ n. IsRow p n x) (sym same) is.class;
            cohomologous = subst (λ w. AreCohomologous G d w u)
                (sym (combination-is x b is.class.length_is)) is.cohomologous;
            only = λ y row close.
                let width : IsRow p b y = subst (λ n. IsRow p n y) same row in
                is.only y width (subst (λ w. AreCohomologous G d w u)
                (combination-is y b width.length_is) close);
          },
        );
  }

  -- the rank is the dimension
  pub rank-is-dimension : IsDimension G d (rank_of G d)
  rank-is-dimension = (basis-from 0 (rank_of G d), is-basis, length-basis 0 (rank_of G d))
