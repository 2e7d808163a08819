use Rattle.std.proofs.Common.{◌+◌, [], length, ap, sym, ◌∙◌}
use Rattle.std.specs.Prelude.{slice_index_or}
use Rattle.std.proofs.lemmas.List.{length_push}
use Rattle.std.proofs.lemmas.Option.{slice_get_within, get_or_from_slice_get}
use mathlib.Core.Path.{subst}
use Rattle.p_groups.specs.PGroups.{PGroup, largest_residue}
use Rattle.fp_rows.specs.Values.{MatrixValue}
use Rattle.fp_rows.specs.Refs.{entries_of}
use Rattle.graded_polynomials.specs.Monomials.{IsMonomial}
use Rattle.graded_algebra.specs.Algebras.{degrees, evaluate}
use Rattle.presentation_rows.specs.Values.{vector}
use Rattle.cohomology_degree.specs.Rings.{cohomology}
use Rattle.cohomology_degree.specs.Degrees.{classes, HasStandardQuotients}
use Rattle.cohomology_degree.proofs.Factors.{values-push}
use Rattle.cohomology_degree.proofs.values.Lower.values.Goals as goal

pub write_value-requires-clause-monomial : goal.write_value-requires-clause-monomial
write_value-requires-clause-monomial c =
    let G : PGroup = c.args.self.now.group.now in
    subst (IsMonomial (largest_residue G) (degrees (classes G c.args.self.now.lifts.now)) c.args.d)
    (get_or_from_slice_get c.args.monomials.now c.loop-i.i c.get.result.now [] c.get.ensures)
    (c.requires.monomials.each c.loop-i.i
    (slice_get_within c.args.monomials.now c.loop-i.i c.get.result.now c.get.ensures))

pub write_value-requires-clause-quotients : goal.write_value-requires-clause-quotients
write_value-requires-clause-quotients c =
    subst (HasStandardQuotients c.args.self.now.group.now c.args.self.now.lifts.now)
    (get_or_from_slice_get c.args.monomials.now c.loop-i.i c.get.result.now [] c.get.ensures)
    (c.requires.quotients c.loop-i.i []
    (slice_get_within c.args.monomials.now c.loop-i.i c.get.result.now c.get.ensures))

pub loop-i-preserved : goal.loop-i-preserved
loop-i-preserved c =
    let G : PGroup = c.args.self.now.group.now in
    let rows = ap (λ (m : MatrixValue). m.rows) c.in_ok-push.ensures.pushed in
    record {
      prime = ap (λ (m : MatrixValue). m.p) c.in_ok-push.ensures.pushed ∙ c.loop-i.invariant.prime;
      width = ap (λ (m : MatrixValue). m.width) c.in_ok-push.ensures.pushed ∙ c.loop-i.invariant.width;
      count = ap length rows ∙ length_push c.loop-i.values.rows (entries_of c.view.result)
          ∙ ap (λ n. n + 1) c.loop-i.invariant.count;
      value_prime = c.in_ok-write_value.ensures.prime ∙ c.loop-i.invariant.value_prime;
      value_length = c.in_ok-write_value.ensures.length ∙ c.loop-i.invariant.value_length;
      each = values-push (largest_residue G)
          (λ k. evaluate (cohomology G) (classes G c.args.self.now.lifts.now)
          (slice_index_or c.args.monomials.now k []))
          c.loop-i.values.rows c.push.new.self.rows
          (entries_of c.view.result) c.loop-i.i c.loop-i.invariant.count c.loop-i.invariant.each
          (ap (vector (largest_residue G)) c.view.ensures.entries ∙ c.in_ok-write_value.ensures.value
          ∙ ap (evaluate (cohomology G) (classes G c.args.self.now.lifts.now))
          (sym (get_or_from_slice_get c.args.monomials.now c.loop-i.i c.get.result.now [] c.get.ensures)))
          rows;
    }
