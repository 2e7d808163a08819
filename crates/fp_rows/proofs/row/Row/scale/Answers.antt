use Rattle.std.proofs.Common.{ℕ, ◌*◌, ◌%◌, ◌<◌, List, length, map, arith, refl}
use Rattle.std.proofs.lemmas.List.{get_or-map, length-map}
use Rattle.std.proofs.Math.Nat.{mod-lt}
use Rattle.group_table.specs.Prime.{prime_value}
use Rattle.linear_algebra.specs.Rows.{entry, IsRow}
use Rattle.fp_rows.specs.Cells.{cells_of}
use Rattle.fp_rows.proofs.Primes.{prime_above_one}
use Rattle.fp_rows.proofs.row.Row.scale.Goals as goal

pub invariant_of-self : goal.invariant_of-self
invariant_of-self c =
    let p : ℕ = prime_value c.self.inside.prime in
    let xs : List ℕ = cells_of c.self.inside.cells in
    let positive : 0 < p = (let o = prime_above_one c.self.inside.prime in omega (arith, o)) in
    let s : IsRow p (length (map (λ x. c.args.c * x % p) xs)) (map (λ x. c.args.c * x % p) xs) = record {
      length_is = refl;
      below = λ j l. rw (get_or-map (λ x. c.args.c * x % p) xs j 0 0 (rw length-map at l))
          (mod-lt (c.args.c * entry xs j) positive);
    } in
    record { row = rw c.scale.ensures.scaled s; packed = c.scale.ensures.packed }
