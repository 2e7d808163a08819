use Rattle.std.proofs.Common.{◌∙◌, arith, refl, sym, ap, subst}
use Rattle.std.specs.Prelude.{All}
use Rattle.param_test.specs.Tables.{CandidateValue, TableValue}
use Rattle.coho_report.specs.Restrictors.{Restricts}
use Rattle.coho_report.specs.Tables.{IsTabled}
use Rattle.coho_report.specs.declared.candidates.Candidate.{Candidate}
use Rattle.coho_report.proofs.NumberedLists.{at-place}
use Rattle.coho_report.proofs.Related.{related-next}
use Rattle.coho_report.proofs.Tabled.{related-count, restrictions_are, tabled_order}
use Rattle.coho_report.proofs.parameters.table_of.Goals as goal

pub restrictions-requires : goal.restrictions-requires
restrictions-requires c =
    let x = c.index-candidates-i.result in
    subst (λ c'. All (λ x. Restricts x c') c.args.restrictors.now) (sym c.index-candidates-i.is)
    (c.requires.restricts c.loop-i.i x c.loop-i-test.true)

pub add_candidate-requires-clause-few : goal.add_candidate-requires-clause-few
add_candidate-requires-clause-few c =
    let count = related-count (IsTabled c.args.restrictors.now) c.args.candidates.now c.loop-i.i
    c.loop-i.table.candidates c.loop-i.invariant.tabled c.loop-i-test.true in
    omega (arith, count, c.loop-i-test.true, c.requires.few)

pub add_candidate-requires-clause-order : goal.add_candidate-requires-clause-order
add_candidate-requires-clause-order c = tabled_order c.args.restrictors.now c.args.candidates.now c.loop-i.i
    c.loop-i.table.candidates c.index-candidates-i.result c.loop-i.invariant.tabled c.requires.order
    c.loop-i-test.true c.index-candidates-i.is

pub add_candidate-requires-clause-images : goal.add_candidate-requires-clause-images
add_candidate-requires-clause-images c =
    let x = c.index-candidates-i.result in
    restrictions_are x c.args.restrictors.now c.loop-i.table.subgroups c.in_ok-images.images
    c.loop-i.invariant.subgroups
    (subst (λ c'. All (λ x. Restricts x c') c.args.restrictors.now) (sym c.index-candidates-i.is)
    (c.requires.restricts c.loop-i.i x c.loop-i-test.true)) c.in_ok-images.ensures

pub loop-i-preserved : goal.loop-i-preserved
loop-i-preserved c =
    let cs = c.args.candidates.now in
    let x = c.index-candidates-i.result in
    let v : CandidateValue = record { degree = x.degree; images = c.in_ok-images.images } in
    let new = c.in_ok-add_candidate.ensures.ok in
    record {
      prime = ap (λ (t : TableValue). t.prime) new ∙ c.loop-i.invariant.prime;
      subgroups = ap (λ (t : TableValue). t.subgroups) new ∙ c.loop-i.invariant.subgroups;
      tabled = related-next (IsTabled c.args.restrictors.now) cs c.loop-i.i c.loop-i.table.candidates
          c.add_candidate.new.self.candidates v c.loop-i.invariant.tabled c.loop-i-test.true
          (λ (d : Candidate). subst (λ y. IsTabled c.args.restrictors.now y v)
          (sym (at-place cs c.loop-i.i x c.loop-i-test.true c.index-candidates-i.is d))
          (record { degree_is = refl; images_are = c.in_ok-images.ensures }))
          (ap (λ (t : TableValue). t.candidates) new);
    }
