-- The numbers modulo the prime of a p-group are a field, and its order is a power of the prime.
use Rattle.std.specs.Prelude.{◌≡◌, ℕ, suc, ◌<◌, ◌^◌}
use Rattle.std.proofs.Common.{arith, sym, ◌∙◌, ap}
use mathlib.Core.Path.{subst}
use Rattle.group_table.specs.Tables.{order_is}
use Rattle.linear_algebra.specs.Modular.{IsFieldModulo}
use Rattle.linear_algebra.proofs.Fields.{field_of_prime}
use Rattle.augmentation_ideal.specs.Claims.{IsPrimePower}
use Rattle.radical_layers.proofs.SmallPrimes.{prime-of-field}
use Rattle.p_groups.specs.PGroups.{PGroup, largest_residue, order_of, prime_of}

module _ (G : PGroup) where
  pub residues : suc (largest_residue G) ≡ prime_of G
  residues = let a : 1 < prime_of G = (field_of_prime (prime_of G) G.law.prime).above_one in omega (arith, a)

  pub field : IsFieldModulo (suc (largest_residue G))
  field = subst IsFieldModulo (sym residues) (field_of_prime (prime_of G) G.law.prime)

  pub prime_power : IsPrimePower (largest_residue G) (order_of G)
  prime_power = record {
    prime = prime-of-field field;
    exponent = G.table.n;
    power = order_is G.table ∙ ap (λ p. p ^ G.table.n) (sym residues);
  }
