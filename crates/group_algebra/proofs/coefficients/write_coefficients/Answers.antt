use Rattle.std.proofs.Common.{◌≡◌, ◌-◌, ◌<◌, ℕ, List, suc, length, arith}
use Rattle.group_table.specs.Prime.{prime_value}
use Rattle.linear_algebra.specs.Modular.{IsCongruent, sum_below}
use Rattle.linear_algebra.specs.Rows.{IsRow, entry}
use Rattle.linear_algebra.proofs.Congruences.{congruent_mod}
use Rattle.fp_rows.specs.Refs.{entries_of, modulus_of}
use Rattle.fp_rows.proofs.BitLemmas.{added_to_zeros}
use Rattle.fp_rows.proofs.Primes.{prime_above_one}
use Rattle.fp_rows.proofs.RefLemmas.{ref_is_row}
use Rattle.group_algebra.proofs.CoefficientLemmas.{coefficients-are, later-sum, less-and-plus}
use Rattle.group_algebra.proofs.coefficients.write_coefficients.Goals as goal

pub returns-clause-coefficients : goal.returns-clause-coefficients
returns-clause-coefficients c =
    let P : ℕ = prime_value c.args.p in
    let x : List ℕ = entries_of c.args.x in
    let n : ℕ = length x in
    let above : 1 < P = prime_above_one c.args.p in
    let row : IsRow P n x = rw (← c.requires.modulus) (ref_is_row c.args.x) in
    let copy : c.add.new.self.entries ≡ x =
    rw (c.add.ensures, c.clear.ensures, c.requires.same_prime, ← c.requires.modulus, c.requires.same_length)
    (added_to_zeros (modulus_of c.args.x) x c.args.x.below) in
    let rest : IsCongruent P c.sum-rest.result (sum_below (n - 1) (λ i. entry x (suc i))) =
    rw (
      c.sum-rest.ensures.value,
      c.part.ensures.modulus,
      c.requires.modulus,
      later-sum x row c.requires.some (entries_of c.part.result)
          (rw (← c.len.ensures.count) c.part.ensures.entries),
    ) (congruent_mod _) in
    rw (c.set.ensures, copy) (coefficients-are x row c.requires.some c.sum-rest.result c.add_product.result
    c.add_product.ensures.below rest
    (rw (
      c.add_product.ensures.value,
      c.value.ensures,
      c.get.ensures.value,
    ) (less-and-plus (entry x 0) c.sum-rest.result (omega (arith, above)))))
