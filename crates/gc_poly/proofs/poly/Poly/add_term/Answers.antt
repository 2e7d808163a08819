-- The term at the monomial is changed or taken out, or a term is put in.
use Rattle.gc_poly.proofs.AddTerm.{sum-stored, changed-there, put-there, left-alone}
use Rattle.gc_poly.proofs.poly.Poly.add_term.Goals as goal

pub returns-in-Ok-clause-ok : goal.returns-in-Ok-clause-ok
returns-in-Ok-clause-ok c =
    changed-there c.args.gens.now c.self.inside.degree c.self.inside.terms.items c.args.self.now
    c.self.view_is c.requires.over c.args.c c.requires.below c.args.m.now c.requires.monomial
    c.modulus.result c.in-Ok.i c.modulus.ensures.value c.deref.result.now c.deref.ensures.value
    c.in-Ok.ensures.found.0 c.in-Ok.ensures.found.1
    c.add_at.new.terms.items c.add_at.ensures.zero c.add_at.ensures.other

pub invariant_of-self : goal.invariant_of-self
invariant_of-self c = sum-stored record {
  degree = c.self.inside.degree;
  terms = c.add_at.new.terms.items;
} (returns-in-Ok-clause-ok c)

pub returns-in_ok-insert-in-Err-clause-ok : goal.returns-in_ok-insert-in-Err-clause-ok
returns-in_ok-insert-in-Err-clause-ok c =
    put-there c.args.gens.now c.self.inside.degree c.self.inside.terms.items c.args.self.now c.self.view_is
    c.requires.over c.args.c c.requires.below c.args.m.now c.requires.monomial
    c.in-Err.i c.if-c-ne0.true c.deref.result.now c.deref.ensures.value c.in-Err.ensures.within
    c.in-Err.ensures.above c.in-Err.ensures.here
    c.in_ok-monomial-in-Err.monomial c.in_ok-monomial-in-Err.ensures c.new.result c.new.ensures
    c.insert.new.self.items c.in_ok-insert-in-Err.ensures.items

pub invariant_of-self-in-Continue-branch-2 : goal.invariant_of-self-in-Continue-branch-2
invariant_of-self-in-Continue-branch-2 c =
    sum-stored record {
      degree = c.self.inside.degree;
      terms = c.insert.new.self.items;
    } (returns-in_ok-insert-in-Err-clause-ok c)

pub returns-else-c-ne0-clause-ok : goal.returns-else-c-ne0-clause-ok
returns-else-c-ne0-clause-ok c =
    left-alone c.args.gens.now c.self.inside.degree c.self.inside.terms.items c.args.self.now c.self.view_is
    c.requires.over c.args.c c.requires.below c.args.m.now c.requires.monomial c.if-c-ne0.false
