-- The number so far is at most that of the whole word.
use Rattle.std.proofs.Common.{◌-◌, arith, length}
use Rattle.pc_group.proofs.WordNumbers.{number-small, number-rest, next-small}
use Rattle.pc_group.proofs.word_numbers.word_number.Goals as goal

pub overflow_mul-x : goal.overflow_mul-x
overflow_mul-x c =
    let h = next-small c.args.prime c.args.word.now c.loop-s.s c.loop-s.x c.loop-s-test.true
    c.loop-s.invariant c.requires.prime c.requires.small in
    let f = c.requires.few in
    omega (arith, h, f)

pub overflow_add-x : goal.overflow_add-x
overflow_add-x c =
    let h = next-small c.args.prime c.args.word.now c.loop-s.s c.loop-s.x c.loop-s-test.true
    c.loop-s.invariant c.requires.prime c.requires.small in
    let f = c.requires.few in
    omega (arith, h, f)

pub returns-clause-below : goal.returns-clause-below
returns-clause-below c =
    let s = c.requires.prime in
    let e = c.loop-s.invariant in
    let d = number-rest c.args.prime (omega (arith, s)) c.args.word.now
    (length c.args.word.now - c.loop-s.s) in
    let f = number-small c.args.prime (omega (arith, s)) c.args.word.now c.requires.small in
    omega (arith, d, e, f)
