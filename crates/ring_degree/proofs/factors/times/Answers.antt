use Rattle.std.proofs.Common.{◌-◌, arith, sym, ◌∙◌}
use Rattle.std.proofs.lemmas.Bool.{false≢true}
use Rattle.ring_degree.proofs.Multiplying.{fit-times, unfit-times}
use Rattle.ring_degree.proofs.factors.times.Goals as goal
use Rattle.ring_degree.proofs.factors.times.Goals.{else-is_exterior-via-then-is_exterior+else-exponent-gt0}
use Rattle.ring_degree.proofs.factors.times.Goals.{else-is_exterior-via-else-is_exterior}

pub returns-then-exponent-gt0-clause-none : goal.returns-then-exponent-gt0-clause-none
returns-then-exponent-gt0-clause-none c _ =
    unfit-times (c.args.gens.now.prime - 1) c.args.gens.now.degrees c.args.s.now c.args.i c.requires.within
    (sym c.is_exterior.ensures ∙ c.if-is_exterior.true)
    (omega (arith, c.if-exponent-gt0.true, c.exponent.ensures))

pub returns-clause-fitting : goal.returns-clause-fitting
returns-clause-fitting c =
    fit-times (c.args.gens.now.prime - 1) c.args.gens.now.degrees c.args.s.now c.args.i
    c.requires.monomial.1.fitting
    (elim c.else-is_exterior.branch [
      | else-is_exterior-via-then-is_exterior+else-exponent-gt0 w ↦
          λ e. omega (arith, w.if-exponent-gt0.false, w.exponent.ensures)
      | else-is_exterior-via-else-is_exterior w ↦
          λ e. absurd (false≢true (sym w.if-is_exterior.false ∙ c.is_exterior.ensures ∙ e))
    ])
