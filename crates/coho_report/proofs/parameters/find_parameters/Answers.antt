use Rattle.std.proofs.Common.{◌≡◌, ◌∙◌, ◌≤◌, ◌<◌, List, length, map, sym, ap, subst, arith, Some}
use Rattle.std.proofs.lemmas.List.{length-map}
use Rattle.std.specs.Prelude.{All, AllPairs}
use Rattle.limits.specs.declared.TheConstants.{GREATEST_DEGREE}
use Rattle.p_groups.specs.PGroups.{largest_residue, prime_of}
use Rattle.gc_poly.specs.Generators.{Generators}
use Rattle.param_test.specs.Bounds.{greatest}
use Rattle.param_test.specs.Parameters.{IsFoundIn}
use Rattle.ring_present.specs.Values.{generators_of}
use Rattle.param_test.specs.Tables.{CandidateValue, TableValue, degrees_of}
use Rattle.coho_report.specs.Choices.{IsClassIn, IsFormAt}
use Rattle.coho_report.specs.Related.{AreRelated}
use Rattle.coho_report.specs.Tables.{IsTabled, generators_by}
use Rattle.coho_report.proofs.Chosen.{forms_are}
use Rattle.coho_report.specs.declared.restrictors.Restrictor.{Restrictor}
use Rattle.coho_report.proofs.Related.{related-length}
use Rattle.coho_report.proofs.Places.{found_tuple, ascends_below, greatest_at_most, forms_low, forms_over}
use Rattle.coho_report.specs.Restrictors.{Restricts}
use Rattle.coho_report.specs.declared.candidates.Candidate.{Candidate}
use Rattle.coho_report.proofs.Finding.{few_classes, low_classes, classes_are, classes_ascend, all_restrict}
use Rattle.coho_report.proofs.Finding.{classes_in}
use Rattle.coho_report.proofs.parameters.find_parameters.Goals as goal

pub table_of-requires-clause-restricts : goal.table_of-requires-clause-restricts
table_of-requires-clause-restricts c =
    let G = c.args.res.now.group in
    let n = c.args.ring.now.degree in
    let gs = generators_of (largest_residue G) c.args.ring.now.generators in
    let found = c.in_ok-candidates.ensures in
    let xs = c.args.restrictors.now in
    subst (λ (cs : List Candidate). All (λ c. All (λ x. Restricts x c) xs) cs) (sym c.deref.ensures.value)
    (all_restrict G gs n xs c.in_ok-candidates.candidates.items c.requires.restrictors
    (classes_are G gs n found.0 c.in_ok-candidates.candidates.items found.1 found.2))

pub table_of-requires-clause-few : goal.table_of-requires-clause-few
table_of-requires-clause-few c =
    let G = c.args.res.now.group in
    let n = c.args.ring.now.degree in
    let gs = generators_of (largest_residue G) c.args.ring.now.generators in
    let found = c.in_ok-candidates.ensures in
    subst (λ (cs : List Candidate). length cs ≤ 4294967295) (sym c.deref.ensures.value)
    (few_classes G gs n found.0 c.in_ok-candidates.candidates.items found.1 found.2 c.requires.high)

pub table_of-requires-clause-low : goal.table_of-requires-clause-low
table_of-requires-clause-low c =
    let G = c.args.res.now.group in
    let n = c.args.ring.now.degree in
    let gs = generators_of (largest_residue G) c.args.ring.now.generators in
    let found = c.in_ok-candidates.ensures in
    subst (λ (cs : List Candidate). All (λ c. c.degree ≤ GREATEST_DEGREE) cs) (sym c.deref.ensures.value)
    (low_classes G gs n found.0 c.in_ok-candidates.candidates.items found.1 found.2 c.requires.high)

pub table_of-requires-clause-order : goal.table_of-requires-clause-order
table_of-requires-clause-order c =
    let G = c.args.res.now.group in
    let n = c.args.ring.now.degree in
    let gs = generators_of (largest_residue G) c.args.ring.now.generators in
    let found = c.in_ok-candidates.ensures in
    subst (λ (cs : List Candidate). AllPairs (λ c d. c.degree ≤ d.degree) cs) (sym c.deref.ensures.value)
    (classes_ascend G gs n found.0 c.in_ok-candidates.candidates.items found.1 found.2)

pub forms_at-requires-clause-classes : goal.forms_at-requires-clause-classes
forms_at-requires-clause-classes c =
    let G = c.args.res.now.group in
    let R = c.args.ring.now in
    let n = R.degree in
    let gs = generators_of (largest_residue G) R.generators in
    let found = c.in_ok-candidates.ensures in
    subst (λ (cs : List Candidate). All (IsClassIn R) cs) (sym c.deref-in-Some.ensures.value)
    (classes_in G gs R c.in_ok-candidates.candidates.items c.requires.ring
    (classes_are G gs n found.0 c.in_ok-candidates.candidates.items found.1 found.2))

pub forms_at-requires-clause-places : goal.forms_at-requires-clause-places
forms_at-requires-clause-places c =
    let places = c.in-Some.places in
    let cs = c.deref-in-Some.result.now in
    let tuple = found_tuple c.in_ok-table.table c.greatest_rank.result c.in_ok-search.field-0 places
    c.in_ok-search.ensures c.in-Some.is in
    let tabled = c.in_ok-table.table.candidates in
    let count : length (degrees_of tabled) ≡ length cs = length-map tabled (λ (v : CandidateValue). v.degree)
    ∙ related-length (IsTabled c.args.restrictors.now) c.deref.result.now tabled
    c.in_ok-table.ensures.candidates
    ∙ ap (λ (cs : List Candidate). length cs) (c.deref.ensures.value ∙ sym c.deref-in-Some.ensures.value) in
    let below = subst (λ n. All (λ k. k < n) places) count
    (ascends_below 0 (length (degrees_of tabled)) places tuple.ascends) in
    below

pub bound_of-requires-clause-few : goal.bound_of-requires-clause-few
bound_of-requires-clause-few c =
    let places = c.in-Some.places in
    let cs = c.deref-in-Some.result.now in
    let tuple = found_tuple c.in_ok-table.table c.greatest_rank.result c.in_ok-search.field-0 places
    c.in_ok-search.ensures c.in-Some.is in
    let forms = c.in_ok-forms-in-Some.forms.items in
    let count = related-length (IsFormAt c.args.ring.now cs) places forms c.in_ok-forms-in-Some.ensures in
    let number = tuple.length_is in
    let most = greatest_at_most (λ (x : Restrictor). x.own.value.rank) 8 c.args.restrictors.now
    c.requires.ranks in
    let same = ap (λ fs. length fs) c.deref-in-Some-2.ensures.value in
    omega (arith, count, number, most, same, c.greatest_rank.ensures)

pub bound_of-requires-clause-low : goal.bound_of-requires-clause-low
bound_of-requires-clause-low c =
    let places = c.in-Some.places in
    let cs = c.deref-in-Some.result.now in
    let tuple = found_tuple c.in_ok-table.table c.greatest_rank.result c.in_ok-search.field-0 places
    c.in_ok-search.ensures c.in-Some.is in
    let tabled = c.in_ok-table.table.candidates in
    let count : length (degrees_of tabled) ≡ length cs = length-map tabled (λ (v : CandidateValue). v.degree)
    ∙ related-length (IsTabled c.args.restrictors.now) c.deref.result.now tabled
    c.in_ok-table.ensures.candidates
    ∙ ap (λ (cs : List Candidate). length cs) (c.deref.ensures.value ∙ sym c.deref-in-Some.ensures.value) in
    let below = subst (λ n. All (λ k. k < n) places) count
    (ascends_below 0 (length (degrees_of tabled)) places tuple.ascends) in
    let G = c.args.res.now.group in
    let n = c.args.ring.now.degree in
    let gs = generators_of (largest_residue G) c.args.ring.now.generators in
    let found = c.in_ok-candidates.ensures in
    let forms = c.in_ok-forms-in-Some.forms.items in
    let low = subst (λ (cs : List Candidate). All (λ c. c.degree ≤ GREATEST_DEGREE) cs)
    (sym c.deref-in-Some.ensures.value)
    (low_classes G gs n found.0 c.in_ok-candidates.candidates.items found.1 found.2 c.requires.high) in
    subst (λ fs. All (λ f. f.degree ≤ GREATEST_DEGREE) fs) (sym c.deref-in-Some-2.ensures.value)
    (forms_low c.args.ring.now cs places forms c.in_ok-forms-in-Some.ensures low below)

pub returns-clause-over : goal.returns-clause-over
returns-clause-over c = forms_over c.args.ring.now c.deref-in-Some.result.now c.in-Some.places
    c.in_ok-forms-in-Some.forms.items c.in_ok-forms-in-Some.ensures c.args.res.now.group
    c.requires.ring.group_is c.requires.ring.prime_is

pub returns-clause-parameters : goal.returns-clause-parameters
returns-clause-parameters c =
    let G = c.args.res.now.group in
    let R = c.args.ring.now in
    let xs = c.args.restrictors.now in
    let places = c.in-Some.places in
    let cs = c.in_ok-candidates.candidates.items in
    let found = c.in_ok-candidates.ensures in
    let table = c.in_ok-table.table in
    let tabled = table.candidates in
    let tuple = found_tuple table c.greatest_rank.result c.in_ok-search.field-0 places c.in_ok-search.ensures
    c.in-Some.is in
    let count : length (degrees_of tabled) ≡ length cs = length-map tabled (λ (v : CandidateValue). v.degree)
    ∙ related-length (IsTabled xs) c.deref.result.now tabled c.in_ok-table.ensures.candidates
    ∙ ap (λ (cs : List Candidate). length cs) c.deref.ensures.value in
    let below = subst (λ n. All (λ k. k < n) places) count
    (ascends_below 0 (length (degrees_of tabled)) places tuple.ascends) in
    let prime : table.prime ≡ prime_of G = c.in_ok-table.ensures.prime ∙ c.prime.ensures.value
    ∙ ap (λ (g : Generators). g.prime) c.gens.ensures ∙ c.requires.ring.prime_is in
    let whole : table ≡ record { prime = prime_of G; subgroups = generators_by xs; candidates = tabled } =
    (λ i. record { prime = prime i; subgroups = c.in_ok-table.ensures.subgroups i; candidates = tabled }) in
    let some = subst (IsFoundIn table c.greatest_rank.result) c.in-Some.is c.in_ok-search.ensures in
    record {
      candidates = found.0;
      classes = cs;
      restricted = tabled;
      places = Some places;
      candidates_are = found.1;
      classes_are = found.2;
      restricted_are = subst (λ (cs : List Candidate). AreRelated (IsTabled xs) cs tabled)
          c.deref.ensures.value c.in_ok-table.ensures.candidates;
      found = subst (λ (t : TableValue). IsFoundIn t (greatest (map (λ x. x.own.value.rank) xs))
          (Some places)) whole (subst (λ r. IsFoundIn table r (Some places)) c.greatest_rank.ensures some);
      parameters_are = ap Some (forms_are G R c.requires.ring found.0 cs found.2 places
          c.in_ok-forms-in-Some.forms.items
          (subst (λ (cs : List Candidate). AreRelated (IsFormAt R cs) places
          c.in_ok-forms-in-Some.forms.items) c.deref-in-Some.ensures.value c.in_ok-forms-in-Some.ensures)
          below);
    }
