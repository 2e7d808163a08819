use Rattle.fp_rows.proofs.PlaceLemmas.{bit_at_low, bit_at_low_zero, low_small, whole_small}
use Rattle.fp_rows.proofs.words.lowest.Goals as goal

pub returns-then-count-lt64-clause-kept : goal.returns-then-count-lt64-clause-kept
returns-then-count-lt64-clause-kept c = λ b l m. bit_at_low c.args.word c.args.count b c.if-count-lt64.true m

pub returns-then-count-lt64-clause-zero : goal.returns-then-count-lt64-clause-zero
returns-then-count-lt64-clause-zero c = λ b l m. bit_at_low_zero c.args.word c.args.count b
    c.if-count-lt64.true m

pub returns-then-count-lt64-clause-small : goal.returns-then-count-lt64-clause-small
returns-then-count-lt64-clause-small c = λ _. low_small c.args.word c.args.count c.if-count-lt64.true

pub returns-else-count-lt64-clause-small : goal.returns-else-count-lt64-clause-small
returns-else-count-lt64-clause-small c =
    λ m. whole_small c.args.word c.args.count c.ranges.word.fits c.if-count-lt64.false m
