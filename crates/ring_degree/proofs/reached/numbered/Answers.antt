use Rattle.std.proofs.Common.{◌++◌, ap, sym, ◌∙◌}
use Rattle.ring_degree.proofs.Inserting.{before-member}
use Rattle.ring_degree.proofs.reached.numbered.Goals as goal

pub push-requires : goal.push-requires
push-requires c = before-member c.loop-m.monomials c.next.new.self.rest.items c.args.list.items c.in-Some.m
    (ap (λ ms. c.loop-m.monomials ++ ms) (sym c.in-Some.ensures.steps.0) ∙ c.loop-m.invariant) c.requires
