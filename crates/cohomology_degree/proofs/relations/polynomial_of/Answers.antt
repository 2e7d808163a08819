use Rattle.std.proofs.Common.{◌≡◌, ◌-◌, suc, length, [], arith}
use Rattle.std.proofs.lemmas.Option.{get_or_from_slice_get}
use Rattle.linear_algebra.specs.Rows.{IsRow}
use Rattle.fp_rows.specs.Refs.{entries_of, modulus_of}
use Rattle.fp_rows.proofs.Primes.{prime_above_one}
use Rattle.fp_rows.proofs.RefLemmas.{ref_is_row}
use Rattle.cohomology_degree.proofs.RelationSteps.{term-added, polynomial-is}
use Rattle.cohomology_degree.proofs.relations.polynomial_of.Goals as goal

pub loop-i-preserved : goal.loop-i-preserved
loop-i-preserved c = term-added c.args.gens.now c.args.d c.loop-i.i c.get.result c.args.monomials.now
    (entries_of c.args.row)
    c.get-in-loop-i.result.now c.loop-i.f c.add_term.new.self
    (omega arith) (omega arith) c.get.ensures.value
    (get_or_from_slice_get c.args.monomials.now c.loop-i.i c.get-in-loop-i.result.now []
    c.get-in-loop-i.ensures) c.loop-i.invariant
    c.in_ok-add_term.ensures.ok

pub returns : goal.returns
returns c =
    let p : modulus_of c.args.row ≡ suc (c.args.gens.now.prime - 1) =
    omega (arith, prime_above_one c.args.row.modulus, c.requires.prime) in
    let r : IsRow (suc (c.args.gens.now.prime - 1)) (length c.args.monomials.now) (entries_of c.args.row) =
    rw (← p, ← c.requires.length)
    (ref_is_row c.args.row) in
    polynomial-is c.args.gens.now c.args.d c.loop-i.i c.args.monomials.now
    (entries_of c.args.row) c.loop-i.f c.requires.monomials r (omega arith)
    c.loop-i.invariant
