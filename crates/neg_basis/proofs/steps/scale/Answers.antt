use Rattle.std.proofs.Common.{◌*◌, ◌%◌, arith, ap, ◌∙◌, refl}
use Rattle.linear_algebra.specs.Rows.{entry}
use Rattle.group_table.specs.Prime.{prime_value}
use Rattle.linear_algebra.proofs.RowLemmas.{is_scaled}
use Rattle.neg_basis.proofs.Prepared.{same_row_value, scaled_by_one}
use Rattle.neg_basis.proofs.steps.scale.Goals as goal

pub returns : goal.returns
returns c = same_row_value c.loop-i.invariant.prime
    (is_scaled (prime_value c.args.p) c.args.c c.args.v.now.entries c.loop-i.v.entries
    c.loop-i.invariant.length_kept
    (λ j l. c.loop-i.invariant.done j (omega (arith, c.loop-i.invariant.length_kept))
    ∙ ap (λ m. c.args.c * entry c.args.v.now.entries j % m) c.value-m.ensures))

pub returns-then-c-eq1 : goal.returns-then-c-eq1
returns-then-c-eq1 c = same_row_value refl (rw (c.if-c-eq1.true, ← c.requires.same_prime)
    (scaled_by_one c.len-len.ensures.row))
