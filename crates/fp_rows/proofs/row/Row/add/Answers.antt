use Rattle.std.proofs.Common.{◌≡◌, ℕ, ◌<◌, List, length, arith, ap, sym, ◌∙◌}
use mathlib.Core.Path.{subst}
use Rattle.group_table.specs.Prime.{prime_value}
use Rattle.linear_algebra.specs.Rows.{entry, add_multiple, IsRow}
use Rattle.linear_algebra.proofs.Reducing.{add_multiple_is_row}
use Rattle.fp_rows.specs.Cells.{cells_of}
use Rattle.fp_rows.specs.Numbers.{numbers_of}
use Rattle.fp_rows.specs.Values.{RowValue}
use Rattle.fp_rows.proofs.Primes.{prime_above_one}
use Rattle.fp_rows.proofs.ListLemmas.{row_at_length}
use Rattle.fp_rows.proofs.row.Row.add.Goals as goal

pub add-requires-clause-added : goal.add-requires-clause-added
add-requires-clause-added c =
    let p : ℕ = prime_value c.self.inside.prime in
    let ys : List ℕ = numbers_of c.args.r.entries in
    let primes : prime_value c.args.r.modulus ≡ p = c.requires.same_prime
    ∙ sym (ap (λ (v : RowValue). v.p) c.self.view_is) in
    record {
      length_is = c.requires.same_length ∙ sym (ap (λ (v : RowValue). length v.entries) c.self.view_is);
      below = λ j l. subst (λ q. entry ys j < q) primes
          (c.args.r.below j (rw (c.requires.same_length
          ∙ sym (ap (λ (v : RowValue). length v.entries) c.self.view_is)) l));
    }

pub invariant_of-self : goal.invariant_of-self
invariant_of-self c =
    let p : ℕ = prime_value c.self.inside.prime in
    let xs : List ℕ = cells_of c.self.inside.cells in
    let ys : List ℕ = numbers_of c.args.r.entries in
    let positive : 0 < p = (let o = prime_above_one c.self.inside.prime in omega (arith, o)) in
    let primes : prime_value c.args.r.modulus ≡ p = c.requires.same_prime
    ∙ sym (ap (λ (v : RowValue). v.p) c.self.view_is) in
    let same : length ys ≡ length xs = c.requires.same_length
    ∙ sym (ap (λ (v : RowValue). length v.entries) c.self.view_is) in
    let r : IsRow p (length xs) ys = record {
      length_is = same;
      below = λ j l. subst (λ q. entry ys j < q) primes (c.args.r.below j (rw same l));
    } in
    let sum : IsRow p (length (add_multiple p c.args.c xs ys)) (add_multiple p c.args.c xs ys) =
    row_at_length (add_multiple_is_row c.args.c xs ys positive c.self.invariant.row r) in
    record { row = rw c.add.ensures.sum sum; packed = c.add.ensures.packed }
