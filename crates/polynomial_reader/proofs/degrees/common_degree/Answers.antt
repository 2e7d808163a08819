use Rattle.std.proofs.Common.{refl}
use Rattle.polynomial_reader.proofs.DegreeLemmas.{mixed-fault}
use Rattle.polynomial_reader.proofs.degrees.common_degree.Goals as goal

pub returns-in-Some-first_other : goal.returns-in-Some-first_other
returns-in-Some-first_other c = mixed-fault c.args.degrees.now c.in-Some-first_other.e
    c.in-len1-up.len_at_least
    (c.in_default.ensures.none refl) c.in-Some-first_other.ensures.some
