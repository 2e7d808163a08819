use Rattle.gc_poly.proofs.Finding.{found-some, found-none}
use Rattle.gc_poly.proofs.monos.Monos.position.Goals as goal

pub returns-clause-some : goal.returns-clause-some
returns-clause-some c = rw (← c.self.view_is)
    (found-some c.get_index_of.result c.self.inside.monomials.keys c.args.m.now c.get_index_of.ensures.index)

pub returns-clause-none : goal.returns-clause-none
returns-clause-none c = rw (← c.self.view_is)
    (found-none c.get_index_of.result c.self.inside.monomials.keys c.args.m.now c.get_index_of.ensures.found)
