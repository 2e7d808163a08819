use Rattle.std.proofs.Common.{◌≡◌, suc, ◌-◌, arith, ap, sym, ◌∙◌}
use mathlib.Core.Path.{subst}
use Rattle.p_groups.specs.PGroups.{PGroup, largest_residue}
use Rattle.p_groups.proofs.Fields.{residues}
use Rattle.fp_rows.specs.Refs.{entries_of}
use Rattle.graded_polynomials.specs.Monomials.{IsMonomial}
use Rattle.graded_algebra.specs.Algebras.{degrees}
use Rattle.min_res.specs.Stages.{rank_of}
use Rattle.ring_completion.specs.Completions.{IsStandardOf}
use Rattle.cohomology_degree.specs.Rings.{cohomology}
use Rattle.cohomology_degree.specs.Degrees.{classes}
use Rattle.cohomology_degree.proofs.Factors.{value-of-one, value-of-listed}
use Rattle.cohomology_degree.proofs.values.Lower.value_of.Goals as goal

pub row_of-requires-clause-listed : goal.row_of-requires-clause-listed
row_of-requires-clause-listed c =
    let G : PGroup = c.args.self.now.group.now in
    let e : c.args.d ≡ suc (c.args.d - 1) = omega (arith, c.if-d-eq0.false) in
    let s : IsStandardOf (largest_residue G) (cohomology G) (classes G c.args.self.now.lifts.now)
    (suc (c.args.d - 1)) c.args.m.now =
    subst (λ k. IsStandardOf (largest_residue G) (cohomology G) (classes G c.args.self.now.lifts.now) k
    c.args.m.now) e c.requires.standard in
    (c.requires.lower.degrees_are.each (c.args.d - 1) c.index-self-d.result
    (omega (arith, e, c.requires.within))).all.all c.args.m.now s.monomial s.standard

pub row_of-requires-clause-rows : goal.row_of-requires-clause-rows
row_of-requires-clause-rows c =
    let e : c.args.d ≡ suc (c.args.d - 1) = omega (arith, c.if-d-eq0.false) in
    (c.requires.lower.degrees_are.each (c.args.d - 1) c.index-self-d.result
    (omega (arith, e, c.requires.within))).standard.values.count

pub returns-then-d-eq0-clause-value : goal.returns-then-d-eq0-clause-value
returns-then-d-eq0-clause-value c =
    let G : PGroup = c.args.self.now.group.now in
    value-of-one G c.args.self.now.lifts.now _ c.args.m.now
    (entries_of c.view.result) c.requires.lower.lifts_are
    (subst (λ k. IsMonomial (largest_residue G)
    (degrees (classes G c.args.self.now.lifts.now)) k c.args.m.now) c.if-d-eq0.true
    c.requires.standard.monomial)
    (c.view.ensures.entries ∙ c.requires.one.1)

pub returns-else-d-eq0-clause-modulus : goal.returns-else-d-eq0-clause-modulus
returns-else-d-eq0-clause-modulus c =
    let G : PGroup = c.args.self.now.group.now in
    let e : c.args.d ≡ suc (c.args.d - 1) = omega (arith, c.if-d-eq0.false) in
    c.row_of.ensures.modulus ∙ (c.requires.lower.degrees_are.each (c.args.d - 1) c.index-self-d.result
    (omega (arith, e, c.requires.within))).standard.prime ∙ residues G

pub returns-else-d-eq0-clause-length : goal.returns-else-d-eq0-clause-length
returns-else-d-eq0-clause-length c =
    let G : PGroup = c.args.self.now.group.now in
    let e : c.args.d ≡ suc (c.args.d - 1) = omega (arith, c.if-d-eq0.false) in
    c.row_of.ensures.length ∙ (c.requires.lower.degrees_are.each (c.args.d - 1) c.index-self-d.result
    (omega (arith, e, c.requires.within))).standard.width ∙ ap (rank_of G) (sym e)

pub returns-else-d-eq0-clause-value : goal.returns-else-d-eq0-clause-value
returns-else-d-eq0-clause-value c =
    let G : PGroup = c.args.self.now.group.now in
    let e : c.args.d ≡ suc (c.args.d - 1) = omega (arith, c.if-d-eq0.false) in
    value-of-listed G c.args.self.now.lifts.now (suc (c.args.d - 1)) c.args.m.now
    (entries_of c.row_of.result) _
    (c.requires.lower.degrees_are.each (c.args.d - 1) c.index-self-d.result
    (omega (arith, e, c.requires.within))).standard
    c.row_of.ensures.value.0 c.row_of.ensures.value.1 c.row_of.ensures.value.2 c.row_of.ensures.value.3
