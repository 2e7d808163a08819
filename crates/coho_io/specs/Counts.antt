-- How often calls on a path have failed, by their kind.
use Rattle.std.specs.Prelude.{ℕ}
use Rattle.coho_io.specs.declared.counts.Counts.{Counts}
use Rattle.coho_io.specs.declared.counts.Kind.{Kind}
use Rattle.coho_io.specs.declared.counts.Kind.TheVariants.{Read, Write}
use Rattle.coho_io.specs.Causes.{one_more}

abbrev pub count_of : Kind → Counts → ℕ
count_of Read counts = counts.reads
count_of Write counts = counts.writes

-- one more of a kind, up to the greatest count
abbrev pub raised : Kind → Counts → Counts
raised Read counts = record counts { reads = one_more counts.reads }
raised Write counts = record counts { writes = one_more counts.writes }

abbrev pub no_faults : Counts
no_faults = record { reads = 0; writes = 0 }
