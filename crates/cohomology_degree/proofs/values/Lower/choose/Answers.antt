use Rattle.std.proofs.Common.{ℕ, suc, length, arith, ap, sym, ◌∙◌}
use Rattle.std.proofs.lemmas.List.{length-map}
use mathlib.Core.Path.{subst}
use Rattle.p_groups.specs.PGroups.{PGroup}
use Rattle.p_groups.proofs.Fields.{residues}
use Rattle.linear_algebra.specs.Rows.{row, IsEchelonOf, AreInSpan}
use Rattle.linear_algebra.specs.Choices.{IsGreedy}
use Rattle.min_res.specs.Stages.{rank_of}
use Rattle.cohomology_degree.specs.Degrees.{IsLower, new_lift}
use Rattle.cohomology_degree.proofs.Factors.{positive-degrees}
use Rattle.cohomology_degree.proofs.Nexts.{chosen-generators, new-lifts-are, basis-in-span}
use Rattle.cohomology_degree.proofs.values.Lower.choose.Goals as goal

pub new_places-requires-clause-same_prime : goal.new_places-requires-clause-same_prime
new_places-requires-clause-same_prime c =
    c.requires.basis_prime ∙ sym (c.requires.left.valued.prime ∙ residues c.args.res.now.group)

pub new_places-requires-clause-same_width : goal.new_places-requires-clause-same_width
new_places-requires-clause-same_width c =
    c.requires.basis_width ∙ sym c.requires.left.valued.width

pub new_generators-requires-clause-relations : goal.new_generators-requires-clause-relations
new_generators-requires-clause-relations c = c.requires.presentation.relations_are

pub returns-clause-lifts : goal.returns-clause-lifts
returns-clause-lifts c =
    new-lifts-are c.args.res.now.group (length c.args.self.now.degrees.now) c.args.basis.now.rows
    c.in_ok-places.places c.in_ok-lifts.lifts.items c.in_ok-lifts.ensures.lifts

pub new_generators-requires-clause-few : goal.new_generators-requires-clause-few
new_generators-requires-clause-few c = let l = c.in_ok-places.ensures.few in omega (arith, l, c.requires.few)

pub returns-clause-few : goal.returns-clause-few
returns-clause-few c =
    let e = ap length c.in_ok-lifts.ensures.lifts in
    let m = length-map c.in_ok-places.places
    (λ k. new_lift c.args.res.now.group (suc (length c.args.self.now.degrees.now))
    (row c.args.basis.now.rows k)) in
    let l = c.in_ok-places.ensures.few in
    omega (arith, e, m, l, c.requires.few)

pub returns-clause-generators : goal.returns-clause-generators
returns-clause-generators c =
    let G : PGroup = c.args.res.now.group in
    let n : ℕ = length c.args.self.now.degrees.now in
    let A = c.requires.left.valued in
    chosen-generators G n c.args.self.now.lifts.now c.in_ok-lifts.lifts.items c.args.basis.now.rows
    c.in_ok-places.places c.in_ok-lifts.ensures.lifts c.args.left.now c.in_ok-places.ensures.greedy.0
    c.args.self.now.relations.now
    (positive-degrees G n c.args.self.now.lifts.now
    (subst (λ (g : PGroup). IsLower g c.args.self.now.lifts.now c.args.self.now.degrees.now)
    c.requires.group c.requires.lower).lifts_are)
    c.requires.presentation.generators_are c.requires.presentation.relations_are c.requires.left
    c.requires.basis
    (subst (λ p. IsEchelonOf p (rank_of G
    (suc n)) c.args.left.now.values.rows c.in_ok-places.ensures.greedy.0) A.prime
    (subst (λ w. IsEchelonOf c.args.left.now.values.p w c.args.left.now.values.rows
    c.in_ok-places.ensures.greedy.0) A.width c.in_ok-places.ensures.greedy.1))
    (subst (λ p. IsGreedy p c.args.basis.now.rows c.in_ok-places.ensures.greedy.0 c.in_ok-places.places)
    A.prime c.in_ok-places.ensures.greedy.2)
    c.in_ok-places.ensures.inside

pub returns-clause-spans : goal.returns-clause-spans
returns-clause-spans c =
    let G : PGroup = c.args.res.now.group in
    subst (λ p. AreInSpan p c.new_generators.new.left.values.rows c.args.basis.now.rows)
    (c.requires.left.valued.prime
    ∙ sym c.in_ok-lifts.ensures.left.valued.prime)
    (basis-in-span c.args.left.now.values.p c.args.left.now.values.width c.args.left.now.values.rows
    c.in_ok-places.ensures.greedy.0 c.args.basis.now.rows c.new_generators.new.left.values.rows
    c.in_ok-places.places
    c.in_ok-places.ensures.greedy.1 c.in_ok-places.ensures.greedy.2 c.in_ok-lifts.ensures.rows)
