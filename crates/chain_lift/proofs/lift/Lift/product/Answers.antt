use Rattle.std.proofs.Common.{◌≡◌, ◌≤◌, ◌+◌, ◌*◌, ◌<◌, suc, length, arith, ap, sym, ◌∙◌}
use Rattle.std.proofs.Math.Nat.{mul-le-mul_left}
use mathlib.Core.Path.{subst}
use Rattle.group_table.specs.Tables.{order}
use Rattle.linear_algebra.specs.Rows.{entry, IsRow}
use Rattle.fp_rows.specs.Refs.{entries_of}
use Rattle.p_groups.specs.PGroups.{largest_residue}
use Rattle.p_groups.proofs.Fields.{residues}
use Rattle.min_res.specs.Stages.{rank_of}
use Rattle.chain_maps.proofs.Vectors.{ahead-is}
use Rattle.group_cocycles.specs.Cocycles.{cup, cocycle_of, IsClassOf}
use Rattle.chain_lift.specs.Stores.{IsLiftStore}
use Rattle.chain_lift.specs.Maps.{IsLiftMap}
use Rattle.chain_lift.proofs.Levels.{level-at}
use Rattle.chain_lift.proofs.CupProducts.{product-class}
use Rattle.chain_lift.proofs.Pairings.{product-is}
use Rattle.chain_lift.proofs.lift.Lift.product.Goals as goal

pub write_pairings-requires-clause-primes : goal.write_pairings-requires-clause-primes
write_pairings-requires-clause-primes c =
    let S : IsLiftStore c.args.self.now c.self.inside.class.p c.self.inside.levels.items =
    subst (λ v. IsLiftStore v c.self.inside.class.p c.self.inside.levels.items) c.self.view_is
    c.self.invariant in
    let M : IsLiftMap c.args.self.now.group c.args.self.now.degree c.args.self.now.class c.args.j
    c.index-level.result.now.rows
    = (level-at c.args.self.now c.self.inside.class.p c.self.inside.levels.items S c.args.j
    c.index-level.result.now c.requires.degree
    c.index-level.ensures).rows_are in
    (c.requires.prime ∙ sym M.prime, c.requires.out_prime ∙ sym M.prime)

pub write_pairings-requires-clause-argument : goal.write_pairings-requires-clause-argument
write_pairings-requires-clause-argument c =
    let S : IsLiftStore c.args.self.now c.self.inside.class.p c.self.inside.levels.items =
    subst (λ v. IsLiftStore v c.self.inside.class.p c.self.inside.levels.items) c.self.view_is
    c.self.invariant in
    let M : IsLiftMap c.args.self.now.group c.args.self.now.degree c.args.self.now.class c.args.j
    c.index-level.result.now.rows
    = (level-at c.args.self.now c.self.inside.class.p c.self.inside.levels.items S c.args.j
    c.index-level.result.now c.requires.degree
    c.index-level.ensures).rows_are in
    let some : 1 ≤ order c.args.self.now.group.table = c.args.self.now.group.law.law.some in
    let rank : length (entries_of c.args.a) ≡ rank_of c.args.self.now.group c.args.j = c.requires.length in
    let long : length (entries_of c.args.a) * 1 ≤ length
    (entries_of c.args.a) * order c.args.self.now.group.table =
    mul-le-mul_left (length (entries_of c.args.a)) some in
    let w : c.index-level.result.now.rows.width ≡ order c.args.self.now.group.table * length
    (entries_of c.args.a) = M.width
    ∙ ap (λ k. order c.args.self.now.group.table * k) (sym rank) in
    omega (arith, w, long)

pub write_pairings-requires-clause-out_length : goal.write_pairings-requires-clause-out_length
write_pairings-requires-clause-out_length c =
    let S : IsLiftStore c.args.self.now c.self.inside.class.p c.self.inside.levels.items =
    subst (λ v. IsLiftStore v c.self.inside.class.p c.self.inside.levels.items) c.self.view_is
    c.self.invariant in
    let M : IsLiftMap c.args.self.now.group c.args.self.now.degree c.args.self.now.class c.args.j
    c.index-level.result.now.rows
    = (level-at c.args.self.now c.self.inside.class.p c.self.inside.levels.items S c.args.j
    c.index-level.result.now c.requires.degree
    c.index-level.ensures).rows_are in
    c.requires.out_length ∙ ap (rank_of c.args.self.now.group)
    (sym (ahead-is c.args.self.now.degree c.args.j)) ∙ sym M.count

pub returns-clause-value : goal.returns-clause-value
returns-clause-value c =
    let S : IsLiftStore c.args.self.now c.self.inside.class.p c.self.inside.levels.items =
    subst (λ v. IsLiftStore v c.self.inside.class.p c.self.inside.levels.items) c.self.view_is
    c.self.invariant in
    let M : IsLiftMap c.args.self.now.group c.args.self.now.degree c.args.self.now.class c.args.j
    c.index-level.result.now.rows
    = (level-at c.args.self.now c.self.inside.class.p c.self.inside.levels.items S c.args.j
    c.index-level.result.now c.requires.degree
    c.index-level.ensures).rows_are in
    let r : IsRow (suc (largest_residue c.args.self.now.group)) (rank_of c.args.self.now.group c.args.j)
    (entries_of c.args.a) = record {
      length_is = c.requires.length;
      below = λ k l. subst (λ p. entry (entries_of c.args.a) k < p) (c.requires.prime
          ∙ sym (residues c.args.self.now.group))
          (c.args.a.below k (subst (λ n. k < n) (sym c.requires.length) l));
    } in
    product-is c.args.self.now.group c.args.j c.args.self.now.degree
    (entries_of c.args.a) c.args.self.now.class c.index-level.result.now.rows _ M r
    (c.write_pairings.ensures.length ∙ c.requires.out_length
    ∙ ap (rank_of c.args.self.now.group) (sym (ahead-is c.args.self.now.degree c.args.j)) ∙ sym M.count)
    c.write_pairings.ensures.value

pub returns-clause-cup_product : goal.returns-clause-cup_product
returns-clause-cup_product c =
    subst (λ x. IsClassOf c.args.self.now.group (c.args.j + c.args.self.now.degree)
    (cup c.args.self.now.group c.args.j (cocycle_of c.args.self.now.group c.args.j (entries_of c.args.a))
    (cocycle_of c.args.self.now.group c.args.self.now.degree c.args.self.now.class)) x)
    (sym (returns-clause-value c))
    (product-class c.args.self.now.group c.args.j c.args.self.now.degree (entries_of c.args.a)
    c.args.self.now.class)
