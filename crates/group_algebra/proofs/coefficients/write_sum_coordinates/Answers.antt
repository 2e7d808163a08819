use Rattle.std.proofs.Common.{◌≡◌, ℕ, List, length}
use Rattle.linear_algebra.specs.Modular.{IsCongruent, sum_below}
use Rattle.linear_algebra.specs.Rows.{entry}
use Rattle.linear_algebra.proofs.Congruences.{congruent_mod}
use Rattle.fp_rows.specs.Refs.{entries_of, modulus_of}
use Rattle.fp_rows.proofs.BitLemmas.{added_to_zeros}
use Rattle.fp_rows.proofs.RefLemmas.{ref_is_row}
use Rattle.group_algebra.proofs.CoefficientLemmas.{sum-coordinates-are}
use Rattle.group_algebra.proofs.coefficients.write_sum_coordinates.Goals as goal

pub returns-clause-coordinates : goal.returns-clause-coordinates
returns-clause-coordinates c =
    let a : List ℕ = entries_of c.args.a in
    let copy : c.add.new.self.entries ≡ a =
    rw (c.add.ensures, c.clear.ensures, c.requires.same_prime, c.requires.same_length)
    (added_to_zeros (modulus_of c.args.a) a c.args.a.below) in
    let sum : IsCongruent (modulus_of c.args.a) c.sum.result (sum_below (length a) (entry a)) =
    rw c.sum.ensures.value (congruent_mod _) in
    rw (c.set.ensures, copy) (sum-coordinates-are a
    (ref_is_row c.args.a) c.requires.some c.sum.result c.sum.ensures.below sum)
