use Rattle.std.proofs.Common.{take}
use Rattle.gc_poly.specs.Polynomials.{IsSumOf}
use Rattle.gc_poly.specs.Substitution.{substituted}
use Rattle.gc_poly.proofs.substitution.subst.Given as goal

abbrev pub invariant-loop-i : goal.invariant-loop-i
invariant-loop-i l = IsSumOf l.to l.f.degree (substituted l.to l.images (take l.i l.f.terms)) l.out
