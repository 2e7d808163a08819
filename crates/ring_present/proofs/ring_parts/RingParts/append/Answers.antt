use Rattle.ring_present.proofs.Stores.{on-err}
use Rattle.ring_present.proofs.ring_parts.RingParts.append.Goals as goal

pub returns-in_err-reserve-4-clause-tables_kept : goal.returns-in_err-reserve-4-clause-tables_kept
returns-in_err-reserve-4-clause-tables_kept c =
    on-err c.from_residual-in_err-reserve-4.result c.in_ok-reserve.ensures.items
