use Rattle.std.proofs.Common.{◌≡◌, ℕ, ◌<◌, List, length, arith, ap, sym, ◌∙◌}
use mathlib.Core.Path.{subst}
use Rattle.group_table.specs.Prime.{prime_value}
use Rattle.linear_algebra.specs.Rows.{entry, IsRow}
use Rattle.linear_algebra.proofs.Reducing.{add_multiple_is_row}
use Rattle.fp_rows.specs.Numbers.{numbers_of}
use Rattle.fp_rows.specs.Short.{short_cells_of}
use Rattle.fp_rows.specs.Values.{RowValue}
use Rattle.fp_rows.proofs.Primes.{prime_above_one}
use Rattle.fp_rows.proofs.short_row.ShortRow.add.Goals as goal

pub invariant_of-self : goal.invariant_of-self
invariant_of-self c =
    let p : ℕ = prime_value c.self.inside.prime in
    let n : ℕ = c.self.inside.len in
    let ys : List ℕ = numbers_of c.args.r.entries in
    let positive : 0 < p = (let o = prime_above_one c.self.inside.prime in omega (arith, o)) in
    let primes : prime_value c.args.r.modulus ≡ p = c.requires.same_prime
    ∙ sym (ap (λ (v : RowValue). v.p) c.self.view_is) in
    let same : length ys ≡ n = c.requires.same_length
    ∙ sym (ap (λ (v : RowValue). length v.entries) c.self.view_is)
    ∙ c.self.invariant.row.length_is in
    let r : IsRow p n ys = record {
      length_is = same;
      below = λ j l. subst (λ q. entry ys j < q) primes (c.args.r.below j (rw same l));
    } in
    record {
      few = c.self.invariant.few;
      row = rw c.add.ensures.sum (add_multiple_is_row c.args.c
          (short_cells_of c.self.inside.cells n) ys positive c.self.invariant.row r);
      room = c.add.ensures.room;
    }
