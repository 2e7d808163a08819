use Rattle.std.proofs.Common.{ap}
use Rattle.group_table.specs.Prime.{prime_value}
use Rattle.fp_rows.proofs.BitLemmas.{cleared_bits}
use Rattle.fp_rows.proofs.Primes.{prime_above_one, other_prime}
use Rattle.fp_rows.proofs.ShortLemmas.{zero_bytes, short_zero_bytes, short_zero_bits}
use Rattle.fp_rows.proofs.short_row.ShortCells.zero.Goals as goal

pub returns-in-P2-clause-short : goal.returns-in-P2-clause-short
returns-in-P2-clause-short c = short_zero_bits (prime_value c.args.p) c.args.len (prime_above_one c.args.p)
    c.requires (ap prime_value c.in-P2.is)

pub returns-in-P2-clause-zeros : goal.returns-in-P2-clause-zeros
returns-in-P2-clause-zeros c = cleared_bits 4 c.args.len

pub returns-in_default : goal.returns-in_default
returns-in_default c = record {
  short = short_zero_bytes (prime_value c.args.p) c.args.len (prime_above_one c.args.p) c.requires
      (other_prime c.args.p c.in_default.not-P2);
  zeros = zero_bytes c.args.len c.requires;
}
