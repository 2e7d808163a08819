use Rattle.std.proofs.Common.{arith, subst, sym}
use Rattle.graded_polynomials.specs.Monomials.{IsTrimmed}
use Rattle.graded_polynomials.proofs.Monomials.{trimmed-joined}
use Rattle.gc_poly.proofs.Joining.{joined-step, joined-end}
use Rattle.gc_poly.proofs.mono.Mono.joined.Goals as goal

pub loop-i-preserved : goal.loop-i-preserved
loop-i-preserved c =
    joined-step c.args.self.now c.args.other.now c.loop-i.exponents.items c.push.new.self.items c.loop-i.i
    c.exponent.result c.exponent-in-loop-i.result
    c.loop-i.invariant (omega arith) c.exponent.ensures c.exponent-in-loop-i.ensures c.in_ok-push.ensures.ok

pub returns : goal.returns
returns c = joined-end c.args.self.now c.args.other.now c.loop-i.exponents.items c.loop-i.i c.loop-i.invariant
    (omega arith)

pub invariant_of-result : goal.invariant_of-result
invariant_of-result c = subst IsTrimmed (sym (returns c))
    (trimmed-joined c.args.self.now c.args.other.now c.len.ensures.trimmed c.len-2.ensures.trimmed)
