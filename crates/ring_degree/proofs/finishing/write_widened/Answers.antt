use Rattle.std.proofs.Common.{ℕ, length, arith, ap, sym, subst, ◌∙◌}
use Rattle.fp_rows.specs.Refs.{entries_of}
use Rattle.fp_rows.specs.Parts.{GainsPart}
use Rattle.fp_rows.specs.Values.{RowValue}
use Rattle.fp_rows.proofs.Primes.{prime_above_one}
use Rattle.std.proofs.lemmas.List.{length-replicate}
use Rattle.ring_degree.proofs.Widening.{widened-is}
use Rattle.ring_degree.proofs.finishing.write_widened.Goals as goal

pub add_part-requires-clause-factor : goal.add_part-requires-clause-factor
add_part-requires-clause-factor c =
    let e = ap (λ (r : RowValue). r.p) c.clear.ensures in
    omega (arith, prime_above_one c.args.v.modulus, e, c.requires.prime)

pub add_part-requires-clause-same_prime : goal.add_part-requires-clause-same_prime
add_part-requires-clause-same_prime c = sym (ap (λ (r : RowValue). r.p) c.clear.ensures ∙ c.requires.prime)

pub add_part-requires-clause-within : goal.add_part-requires-clause-within
add_part-requires-clause-within c =
    let e = ap (λ (r : RowValue). length r.entries) c.clear.ensures in
    let z = length-replicate {A = ℕ} (length c.args.out.now.entries) 0 in
    omega (arith, e, z, c.requires.length)

pub returns : goal.returns
returns c =
    let p = c.add_part.ensures.prime ∙ ap (λ (r : RowValue). r.p) c.clear.ensures in
    let es = widened-is c.args.out.now.p (entries_of c.args.v) c.add_part.new.self.entries
    (length c.args.out.now.entries) c.requires.length
    (λ j l. let b = c.args.v.below j l in omega (arith, b, c.requires.prime))
    (subst (λ xs. GainsPart c.args.out.now.p 0 1 (entries_of c.args.v) xs c.add_part.new.self.entries)
    (ap (λ (r : RowValue). r.entries) c.clear.ensures)
    (subst (λ p. GainsPart p 0 1 (entries_of c.args.v) c.clear.new.self.entries c.add_part.new.self.entries)
    (ap (λ (r : RowValue). r.p) c.clear.ensures) c.add_part.ensures.gains)) in
    λ i. record { p = p i; entries = es i }
