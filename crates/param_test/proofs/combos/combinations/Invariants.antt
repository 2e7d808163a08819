use Rattle.std.proofs.Common.{◌≡◌, ◌-◌, ◌≤◌, length}
use Rattle.group_table.specs.Prime.{prime_value}
use Rattle.param_test.specs.Odometers.{IsListed}
use Rattle.param_test.proofs.combos.combinations.Given as goal

abbrev pub invariant-loop-rows : goal.invariant-loop-rows
invariant-loop-rows l = record {
  prime : l.rows.p ≡ prime_value l.p;
  width : l.rows.width ≡ l.count;
  few : length l.rows.rows ≤ 63;
  listed : IsListed l.modulus l.count l.rows.rows l.places.items l.digits.items;
}

abbrev pub decreases-loop-rows : goal.decreases-loop-rows
decreases-loop-rows l = 63 - length l.rows.rows
