-- There is a report through each degree.
use Rattle.std.proofs.Common.{ℕ, suc, List, refl}
use Rattle.p_groups.specs.PGroups.{PGroup, largest_residue, group, prime_of, order_of}
use Rattle.p_groups.proofs.Fields.{field}
use Rattle.group_algebra.specs.Coordinates.{layer_coordinates}
use Rattle.graded_polynomials.specs.Polynomials.{Polynomial}
use Rattle.graded_algebra.specs.Algebras.{Generator, degrees}
use Rattle.graded_algebra.specs.Vectors.{Vector}
use Rattle.presentation_rows.specs.Ranks.{HasRanks}
use Rattle.presentation_rows.proofs.Existence.{Presented, presented}
use Rattle.min_res.specs.Stages.{stage_rows, rank_of}
use Rattle.chain_maps.proofs.Vectors.{product-claims}
use Rattle.chain_lift.specs.Products.{multiply}
use Rattle.ring_present.specs.Rings.{cohomology, dual_basis, IsPresentation}
use Rattle.coho_report.specs.Values.{ReportValue}
use Rattle.coho_report.specs.Reports.{IsReport, ranks_below}
use Rattle.coho_report.proofs.OwnRings.{degrees_within}
use Rattle.coho_report.proofs.ParametersExist.{parameters_exist}
use Rattle.coho_report.proofs.ReportSubgroups.{all_told}
use Rattle.coho_report.proofs.SubgroupsExist.{subgroups_exist}

ranks-are : (E : PGroup) → HasRanks (largest_residue E) (rank_of E) (multiply E)
ranks-are E = record {
  one = refl;
  products = λ d e v w i l. (product-claims (largest_residue E) (group E) (layer_coordinates E)
      (stage_rows E) d e v w).past i l;
}

-- generators and relations of degrees 1 to n
presentation : (E : PGroup) (n : ℕ) → (gs : List (Generator (Vector (largest_residue E))))
    × (rs : List Polynomial) × IsPresentation E n gs rs
presentation E n =
    let P = presented (largest_residue E) (rank_of E) (multiply E) (ranks-are E) (field E) n in (
      P.generators,
      P.relations,
      record { generators_are = P.generators_are; relations_are = P.relations_are },
    )

module _ (G : PGroup) where
  abbrev q : ℕ
  q = largest_residue G

  known : (n : ℕ) → Presented q (rank_of G) (multiply G) (ranks-are G) n
  known n = presented q (rank_of G) (multiply G) (ranks-are G) (field G) n

  a_report : (n : ℕ) → (r : ReportValue) × IsReport G n r
  a_report n =
      let q = largest_residue G in
      let gs = (known n).generators in
      let list = subgroups_exist G.table G.law.law in
      let told = all_told G n (λ E. presentation E n) gs
      (degrees_within q (cohomology G) (dual_basis G) n gs (known n).generators_are) list.0 in
      let made : IsPresentation G n gs (known n).relations = record {
        generators_are = (known n).generators_are;
        relations_are = (known n).relations_are;
      } in
      let found = parameters_exist G n (λ E. presentation E n) gs (known n).relations made list.0 told.0
      told.1 in (
        record {
          prime = prime_of G;
          order = order_of G;
          degree = n;
          ranks = ranks_below G (suc n);
          generators = degrees gs;
          relations = (known n).relations;
          subgroups = told.0;
          parameters = found.0;
        },
        record {
          prime = refl;
          order_is = refl;
          degree = refl;
          ranks = refl;
          generators = gs;
          degrees_are = refl;
          presentation = made;
          subgroups = list.0;
          subgroups_are = list.1;
          told = told.1;
          parameters = found.1;
        },
      )

  pub report_exists : (n : ℕ) → (r : ReportValue) × IsReport G n r
  report_exists n = a_report n
