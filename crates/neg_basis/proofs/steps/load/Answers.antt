use Rattle.std.proofs.Common.{◌≡◌, ◌<◌, ℕ, length, ap, ◌∙◌}
use Rattle.std.proofs.lemmas.List.{length-replicate}
use Rattle.linear_algebra.specs.Modular.{IsCongruent}
use Rattle.linear_algebra.specs.Rows.{entry, add_multiple, IsRow}
use Rattle.fp_rows.specs.Values.{RowValue}
use Rattle.fp_rows.specs.Refs.{entries_of}
use Rattle.fp_rows.proofs.Primes.{prime_above_one}
use Rattle.fp_rows.proofs.RefLemmas.{ref_is_row}
use Rattle.neg_basis.proofs.Prepared.{loaded, zeros}
use Rattle.neg_basis.proofs.steps.load.Goals as goal

both : (c : goal.After-add) → IsRow c.args.v.now.p (length c.args.v.now.entries) c.add.new.self.entries
    × ((j : ℕ) → IsCongruent c.args.v.now.p (entry c.add.new.self.entries j) (entry (entries_of c.args.r) j))
both c = let n : length c.clear.new.self.entries ≡ length c.args.v.now.entries =
    ap (λ (r : RowValue). length r.entries) c.clear.ensures ∙ length-replicate (length c.args.v.now.entries)
    0 in
    let q : c.clear.new.self.p ≡ c.args.v.now.p = ap (λ (r : RowValue). r.p) c.clear.ensures in
    let one : 1 < c.args.v.now.p = rw c.requires.same_prime at (prime_above_one c.args.r.modulus) in
    let r : IsRow c.args.v.now.p (length c.clear.new.self.entries) (entries_of c.args.r) =
    rw n (rw (c.requires.same_prime, c.requires.same_length) at (ref_is_row c.args.r)) in
    let e : c.add.new.self.entries
    ≡ add_multiple c.args.v.now.p 1 c.clear.new.self.entries (entries_of c.args.r) =
    ap (λ (r : RowValue). r.entries) c.add.ensures
    ∙ ap (λ p. add_multiple p 1 c.clear.new.self.entries (entries_of c.args.r)) q in
    rw (e, ← n) (loaded (entries_of c.args.r) c.clear.new.self.entries one r
    (λ j. ap (λ (r : RowValue). entry r.entries j) c.clear.ensures ∙ zeros (length c.args.v.now.entries) j))

pub returns : goal.returns
returns c = record {
  prime = ap (λ (r : RowValue). r.p) c.add.ensures ∙ ap (λ (r : RowValue). r.p) c.clear.ensures;
  row = (both c).0;
  entries = (both c).1;
}
