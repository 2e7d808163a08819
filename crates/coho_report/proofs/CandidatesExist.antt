-- There are candidates through each degree, and their restrictions to the subgroups.
use Rattle.std.proofs.Common.{◌≡◌, Bool, true, false, cond, ℕ, zero, suc, ◌<◌, ◌≤◌, List}
use Rattle.std.proofs.Common.{[], ◌∷◌, ◌++◌, length, refl, sym, subst, arith}
use Rattle.std.specs.List.{AllByRecursion as Each}
use Rattle.p_groups.specs.PGroups.{PGroup, largest_residue, prime_of, group}
use Rattle.p_groups.proofs.Fields.{field}
use Rattle.group_algebra.specs.Coordinates.{layer_coordinates}
use Rattle.graded_polynomials.specs.Monomials.{is_exterior}
use Rattle.graded_polynomials.specs.Polynomials.{Polynomial}
use Rattle.graded_polynomials.proofs.Terms.{each-append}
use Rattle.graded_algebra.specs.Algebras.{Generator, degrees}
use Rattle.graded_algebra.specs.Vectors.{Vector}
use Rattle.cohomology_algebra.proofs.Ring.{graded}
use Rattle.min_res.specs.Stages.{stage_rows}
use Rattle.min_res.proofs.StageRows.{stage_rows_are}
use Rattle.param_test.specs.Tables.{CandidateValue}
use Rattle.chain_lift.specs.Embeddings.{elementary}
use Rattle.ring_present.specs.Rings.{cohomology, IsPresentation}
use Rattle.ring_present.specs.Standard.{AreStandard}
use Rattle.coho_report.specs.Candidates.{polynomials_of, AreCombinations, AreCandidatesIn, AreCandidates}
use Rattle.coho_report.specs.Parameters.{class_of, IsRestriction, IsRestricted}
use Rattle.coho_report.specs.Related.{AreRelated}
use Rattle.coho_report.specs.Values.{SubgroupValue}
use Rattle.coho_report.proofs.NormalForms.{standard_exist}
use Rattle.coho_report.proofs.ReportSubgroups.{image_exists}
use Rattle.coho_report.proofs.TuplesExist.{combinations_exist}

module _ (G : PGroup) (gs : List (Generator (Vector (largest_residue G))))
    (positive : Each (λ d. 0 < d) (degrees gs)) where
  abbrev q : ℕ
  q = largest_residue G

  standard : (d : ℕ) → (ms : List (List ℕ)) × AreStandard q (cohomology G) gs d ms
  standard d = standard_exist q (field G)
      (graded q (group G) (layer_coordinates G) (stage_rows G) (field G) (stage_rows_are G)) gs positive d

  combinations_in : (d : ℕ) → (fs : List Polynomial) × AreCombinations G gs d fs
  combinations_in d =
      let ms = standard d in
      let rows = combinations_exist (prime_of G) (length ms.0) in (
        polynomials_of d ms.0 rows.0,
        record {
          monomials = ms.0;
          rows = rows.0;
          monomials_are = ms.1;
          rows_are = rows.1;
          polynomials_are = refl;
        },
      )

  degrees-of-rows : (d : ℕ) (ms rows : List (List ℕ))
      → Each (λ (f : Polynomial). f.degree ≤ d) (polynomials_of d ms rows)
  degrees-of-rows d ms [] = tt
  degrees-of-rows d ms (row ∷ rows) = (omega arith, degrees-of-rows d ms rows)

  in-degree : (d : ℕ) → (fs : List Polynomial) × AreCandidatesIn G gs d fs
      × Each (λ (f : Polynomial). f.degree ≤ d) fs
  in-degree d = go (is_exterior q d)
    where
      go : (t : Bool) → (fs : List Polynomial) × cond t (fs ≡ []) (AreCombinations G gs d fs)
          × Each (λ (f : Polynomial). f.degree ≤ d) fs
      go true = ([], refl, tt)
      go false =
          let c = combinations_in d in (
            c.0,
            c.1,
            subst (Each (λ (f : Polynomial). f.degree ≤ d)) (sym c.1.polynomials_are)
                (degrees-of-rows d c.1.monomials c.1.rows),
          )

  wider : (d : ℕ) (fs : List Polynomial) → Each (λ (f : Polynomial). f.degree ≤ d) fs
      → Each (λ (f : Polynomial). f.degree ≤ suc d) fs
  wider d [] h = tt
  wider d (f ∷ fs) h = ((let l = h.0 in omega (arith, l)), wider d fs h.1)

  pub candidates_exist : (n : ℕ) → (fs : List Polynomial) × AreCandidates G gs n fs
      × Each (λ (f : Polynomial). f.degree ≤ n) fs
  candidates_exist zero = ([], refl, tt)
  candidates_exist (suc n) =
      let early = candidates_exist n in
      let here = in-degree (suc n) in (
        early.0 ++ here.0,
        (early.0, here.0, early.1, here.1, refl),
        each-append (λ (f : Polynomial). f.degree ≤ suc n) early.0 here.0 (wider n early.0 early.2) here.2,
      )

module _ (G : PGroup) (n : ℕ) (presented : (E : PGroup)
    → (gs : List (Generator (Vector (largest_residue E)))) × (rs : List Polynomial)
    × IsPresentation E n gs rs)
  where
    restriction_exists : (g : Generator (Vector (largest_residue G))) → g.degree ≤ n → (v : SubgroupValue)
        → (f : Polynomial) × IsRestriction G n g v f
    restriction_exists g to v =
        let own = presented (elementary G (length v.basis)) in
        let image = image_exists G n presented v.basis own.0 own.1 own.2 g to in
        (image.0, record { own = own.0; relations = own.1; presentation = own.2; image = image.1 })

    restrictions_exist : (g : Generator (Vector (largest_residue G))) → g.degree ≤ n
        → (vs : List SubgroupValue) → (fs : List Polynomial) × AreRelated (IsRestriction G n g) vs fs
    restrictions_exist g to [] = ([], tt)
    restrictions_exist g to (v ∷ vs) =
        let first = restriction_exists g to v in
        let rest = restrictions_exist g to vs in
        (first.0 ∷ rest.0, (first.1, rest.1))

    pub restricted_exist : (gs : List (Generator (Vector (largest_residue G)))) (vs : List SubgroupValue)
        (fs : List Polynomial) → Each (λ (f : Polynomial). f.degree ≤ n) fs
        → (cs : List CandidateValue) × AreRelated (IsRestricted G n gs vs) fs cs
    restricted_exist gs vs [] h = ([], tt)
    restricted_exist gs vs (f ∷ fs) h =
        let images = restrictions_exist (class_of G gs f) h.0 vs in
        let rest = restricted_exist gs vs fs h.1 in (
          record { degree = f.degree; images = images.0 } ∷ rest.0,
          (record { degree_is = refl; images_are = images.1 }, rest.1),
        )
