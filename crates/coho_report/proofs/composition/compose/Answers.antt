use Rattle.std.proofs.Common.{◌≡◌, ◌∙◌, ◌+◌, ◌≤◌, suc, List, sym, ap, subst, arith, Option}
use Rattle.p_groups.specs.PGroups.{PGroup, largest_residue, order_of}
use Rattle.graded_polynomials.specs.Polynomials.{Polynomial}
use Rattle.group_table.specs.Tables.{order}
use Rattle.ring_present.specs.Values.{generators_of}
use Rattle.ring_present.proofs.RelationsOver.{degrees-are}
use Rattle.coho_report.specs.Choices.{IsChosen}
use Rattle.coho_report.specs.Related.{AreRelated}
use Rattle.coho_report.specs.Restrictors.{IsRestrictor, IsRestrictorOf}
use Rattle.coho_report.specs.declared.restrictors.Restrictor.{Restrictor}
use Rattle.coho_report.proofs.Related.{all-related}
use Rattle.std.specs.Prelude.{All}
use Rattle.coho_report.specs.Parameters.{AreParameters}
use Rattle.coho_report.specs.Reports.{ranks_below}
use Rattle.coho_report.specs.Subgroups.{IsToldOf}
use Rattle.coho_report.proofs.CohomologyReports.{cohomology-report}
use Rattle.coho_report.proofs.Images.{told_counts}
use Rattle.coho_report.proofs.ParametersTold.{low_ranks, parameters_told}
use Rattle.coho_report.proofs.composition.compose.Goals as goal

pub find_parameters-requires-clause-restrictors : goal.find_parameters-requires-clause-restrictors
find_parameters-requires-clause-restrictors c =
    let G = c.args.res.now.group in
    let n = c.in_ok-ring.ring.degree in
    let told = c.in_ok-told.ensures.told in
    subst (λ (xs : List Restrictor). All (IsRestrictor G n) xs) (sym c.deref.ensures.value)
    (all-related (IsRestrictorOf G n) (IsRestrictor G n) (λ s x r. r.restrictor) told.0
    c.in_ok-told.told.restrictors.items told.3)

pub find_parameters-requires-clause-ranks : goal.find_parameters-requires-clause-ranks
find_parameters-requires-clause-ranks c =
    let G = c.args.res.now.group in
    let told = c.in_ok-told.ensures.told in
    let order = c.order-order.ensures.value
    ∙ ap (λ (G : PGroup). order_of G) (c.group.ensures ∙ c.algebra.ensures) in
    let low = c.order-order.ensures.small in
    let small : order_of G ≤ 256 = omega (arith, order, low) in
    subst (λ (xs : List Restrictor). All (λ x. x.own.value.rank ≤ 8) xs) (sym c.deref.ensures.value)
    (low_ranks G small c.in_ok-ring.ring.degree told.0 c.in_ok-told.told.restrictors.items told.1 told.3)

pub invariant_of-result : goal.invariant_of-result
invariant_of-result c =
    let G = c.args.res.now.group in
    let ring = c.in_ok-ring.ring in
    let told = c.in_ok-told.ensures.told in (
      told_counts G ring.degree ring.generators told.0 c.in_ok-told.told.reports.items told.2,
      c.in_ok-parameters.ensures.over,
    )

pub returns-clause-report : goal.returns-clause-report
returns-clause-report c =
    let G = c.args.res.now.group in
    let ring = c.in_ok-ring.ring in
    let through = c.in_ok-ring.ensures in
    let q = largest_residue G in
    let gs = generators_of q ring.generators in
    let next : c.args.n + 1 ≡ suc c.args.n = omega arith in
    let told = c.in_ok-told.ensures.told in
    let found : Option (List Polynomial) = c.in_ok-parameters.parameters in
    record {
      prime = through.prime_is;
      order_is = c.order-order.ensures.value
          ∙ ap (λ (G : PGroup). order G.table) (c.group.ensures ∙ c.algebra.ensures);
      degree = through.degree_is;
      ranks = c.in_ok-ranks.ensures ∙ ap (ranks_below G) next;
      generators = gs;
      degrees_are = sym (degrees-are q ring.generators);
      presentation = through.presentation;
      subgroups = told.0;
      subgroups_are = told.1;
      told = subst (λ n. AreRelated (IsToldOf G n gs) told.0 c.in_ok-told.told.reports.items)
          through.degree_is told.2;
      parameters = subst (λ n. AreParameters G n gs c.in_ok-told.told.reports.items found) through.degree_is
          (parameters_told G ring.degree gs told.0 c.in_ok-told.told.restrictors.items
          c.in_ok-told.told.reports.items told.3 told.2 found
          (subst (λ xs. IsChosen G ring.degree gs xs found) c.deref.ensures.value
          c.in_ok-parameters.ensures.parameters));
    }

pub returns-clause-cohomology : goal.returns-clause-cohomology
returns-clause-cohomology c = cohomology-report c.args.res.now.group c.args.n _ (returns-clause-report c)
