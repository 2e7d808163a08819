use Rattle.std.proofs.Common.{◌≡◌, ◌<◌, List, length, arith, ap, sym, ◌∙◌}
use mathlib.Core.Path.{subst}
use Rattle.p_groups.specs.PGroups.{largest_residue}
use Rattle.fp_rows.specs.Refs.{entries_of}
use Rattle.graded_polynomials.specs.Polynomials.{Polynomial, Term}
use Rattle.graded_algebra.specs.Presentations.{IsNormalForm}
use Rattle.presentation_rows.specs.Values.{vector}
use Rattle.cohomology_degree.specs.Rings.{cohomology}
use Rattle.ring_present.specs.Values.{generators_of}
use Rattle.ring_present.proofs.Shown.{seen-of, some-group, prime-seen, targets-seen, width-of-forms}
use Rattle.ring_present.proofs.Shown.{monomials-seen, form-seen}
use Rattle.ring_present.proofs.ring.Ring.normal_form.Goals as goal

pub combination-requires-clause-prime : goal.combination-requires-clause-prime
combination-requires-clause-prime c =
    let k = c.self.inside.known in
    let seen = seen-of c.args.self.now k.group k.gens k.lifts.items k.relations.items k.degrees.items
    c.self.view_is in
    let some : 0 < length k.degrees.items =
    (let e = seen.degree_is in omega (arith, e, c.requires.from, c.requires.to)) in
    let g = some-group k.group k.gens k.lifts.items k.relations.items k.degrees.items
    c.self.invariant.0 some in
    c.requires.prime ∙ sym (prime-seen c.args.self.now k.group k.gens k.lifts.items k.relations.items
    k.degrees.items seen c.self.invariant.0 c.args.d c.index-degree.result.now c.index-degree.ensures
    c.requires.from c.requires.to g.0 (seen.group_is ∙ g.1))

pub combination-requires-clause-length : goal.combination-requires-clause-length
combination-requires-clause-length c =
    let k = c.self.inside.known in
    let seen = seen-of c.args.self.now k.group k.gens k.lifts.items k.relations.items k.degrees.items
    c.self.view_is in
    let some : 0 < length k.degrees.items =
    (let e = seen.degree_is in omega (arith, e, c.requires.from, c.requires.to)) in
    let g = some-group k.group k.gens k.lifts.items k.relations.items k.degrees.items
    c.self.invariant.0 some in
    c.requires.length g.0 (seen.group_is ∙ g.1)
    ∙ sym (targets-seen c.args.self.now k.group k.gens k.lifts.items k.relations.items k.degrees.items seen
    c.self.invariant.0 c.args.d c.index-degree.result.now c.index-degree.ensures c.requires.from
    c.requires.to g.0 (seen.group_is ∙ g.1))

pub polynomial_of-requires-clause-monomials : goal.polynomial_of-requires-clause-monomials
polynomial_of-requires-clause-monomials c =
    let k = c.self.inside.known in
    let seen = seen-of c.args.self.now k.group k.gens k.lifts.items k.relations.items k.degrees.items
    c.self.view_is in
    let some : 0 < length k.degrees.items =
    (let e = seen.degree_is in omega (arith, e, c.requires.from, c.requires.to)) in
    let g = some-group k.group k.gens k.lifts.items k.relations.items k.degrees.items
    c.self.invariant.0 some in
    monomials-seen c.args.self.now k.group k.gens k.lifts.items k.relations.items k.degrees.items seen
    c.self.invariant.0 c.args.d c.index-degree.result.now c.index-degree.ensures c.requires.from
    c.requires.to g.0 (seen.group_is ∙ g.1)

pub polynomial_of-requires-clause-prime : goal.polynomial_of-requires-clause-prime
polynomial_of-requires-clause-prime c =
    let k = c.self.inside.known in
    let seen = seen-of c.args.self.now k.group k.gens k.lifts.items k.relations.items k.degrees.items
    c.self.view_is in
    let some : 0 < length k.degrees.items =
    (let e = seen.degree_is in omega (arith, e, c.requires.from, c.requires.to)) in
    let g = some-group k.group k.gens k.lifts.items k.relations.items k.degrees.items
    c.self.invariant.0 some in
    c.view.ensures.modulus ∙ c.in_ok-row.ensures.prime
    ∙ prime-seen c.args.self.now k.group k.gens k.lifts.items k.relations.items k.degrees.items seen
    c.self.invariant.0 c.args.d c.index-degree.result.now c.index-degree.ensures c.requires.from
    c.requires.to g.0 (seen.group_is ∙ g.1)
    ∙ seen.prime_is

pub polynomial_of-requires-clause-length : goal.polynomial_of-requires-clause-length
polynomial_of-requires-clause-length c =
    let k = c.self.inside.known in
    let seen = seen-of c.args.self.now k.group k.gens k.lifts.items k.relations.items k.degrees.items
    c.self.view_is in
    let some : 0 < length k.degrees.items =
    (let e = seen.degree_is in omega (arith, e, c.requires.from, c.requires.to)) in
    let g = some-group k.group k.gens k.lifts.items k.relations.items k.degrees.items
    c.self.invariant.0 some in
    width-of-forms c.args.self.now k.group k.gens k.lifts.items k.relations.items k.degrees.items seen
    c.self.invariant.0 c.args.d c.index-degree.result.now c.index-degree.ensures c.requires.from
    c.requires.to g.0 (seen.group_is ∙ g.1)
    (entries_of c.args.class) (entries_of c.view.result) (c.view.ensures.entries ∙ c.in_ok-row.ensures.row)

pub returns-clause-form : goal.returns-clause-form
returns-clause-form c G known =
    let k = c.self.inside.known in
    let seen = seen-of c.args.self.now k.group k.gens k.lifts.items k.relations.items k.degrees.items
    c.self.view_is in
    let p : Rattle.fp_rows.specs.Refs.modulus_of c.args.class ≡ c.index-degree.result.now.preimages.p =
    c.requires.prime
    ∙ sym (prime-seen c.args.self.now k.group k.gens k.lifts.items k.relations.items k.degrees.items seen
    c.self.invariant.0 c.args.d c.index-degree.result.now c.index-degree.ensures c.requires.from
    c.requires.to G known) in
    subst (λ (f : List Term). IsNormalForm (largest_residue G) (cohomology G)
    (generators_of (largest_residue G) c.args.self.now.generators) c.args.d
    (vector (largest_residue G) (entries_of c.args.class)) f)
    (sym (ap (λ (f : Polynomial). f.terms) c.in_ok-form.ensures))
    (form-seen c.args.self.now k.group k.gens k.lifts.items k.relations.items k.degrees.items seen
    c.self.invariant.0 c.args.d c.index-degree.result.now c.index-degree.ensures c.requires.from
    c.requires.to G known
    (entries_of c.args.class) (entries_of c.view.result)
    (record {
      length_is = c.requires.length G known;
      below = λ j l. (let n = c.requires.length G known in let b = c.args.class.below j
          (omega (arith, l, n)) in omega (arith, b, p));
    })
    (c.view.ensures.entries ∙ c.in_ok-row.ensures.row))
