-- The primes, ranks and orders of small groups.
use Rattle.std.specs.Prelude.{ℕ}
use Rattle.small_groups.specs.declared.SmallGroup.{SmallGroup}
use Rattle.small_groups.specs.declared.SmallGroup.TheVariants.{Trivial, Two, Four, Three, Klein, Nine}
use Rattle.small_groups.specs.declared.SmallGroup.TheVariants.{Dihedral, Quaternion, Sixteen, TwentySeven}
use Rattle.small_groups.specs.declared.SmallGroup.TheVariants.{ThirtyTwoPlus, ThirtyTwoMinus}

abbrev pub prime_of : SmallGroup → ℕ
prime_of Trivial = 2
prime_of Two = 2
prime_of Four = 2
prime_of Three = 3
prime_of Klein = 2
prime_of Nine = 3
prime_of Dihedral = 2
prime_of Quaternion = 2
prime_of Sixteen = 2
prime_of TwentySeven = 3
prime_of ThirtyTwoPlus = 2
prime_of ThirtyTwoMinus = 2

abbrev pub rank_of : SmallGroup → ℕ
rank_of Trivial = 0
rank_of Two = 1
rank_of Four = 2
rank_of Three = 1
rank_of Klein = 2
rank_of Nine = 2
rank_of Dihedral = 3
rank_of Quaternion = 3
rank_of Sixteen = 4
rank_of TwentySeven = 3
rank_of ThirtyTwoPlus = 5
rank_of ThirtyTwoMinus = 5

-- the number of elements, p^n
abbrev pub order_of : SmallGroup → ℕ
order_of Trivial = 1
order_of Two = 2
order_of Four = 4
order_of Three = 3
order_of Klein = 4
order_of Nine = 9
order_of Dihedral = 8
order_of Quaternion = 8
order_of Sixteen = 16
order_of TwentySeven = 27
order_of ThirtyTwoPlus = 32
order_of ThirtyTwoMinus = 32
