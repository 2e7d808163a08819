use Rattle.std.proofs.Common.{◌≡◌, ◌≤◌, ◌*◌, ◌<◌, suc, length, get_or, map, arith, ap, sym, ◌∙◌}
use Rattle.std.proofs.Math.Nat.{mul-le-mul_left}
use mathlib.Core.Path.{subst}
use Rattle.group_table.specs.Tables.{order}
use Rattle.linear_algebra.specs.Rows.{entry, IsRow}
use Rattle.fp_rows.specs.Refs.{entries_of}
use Rattle.p_groups.specs.PGroups.{largest_residue}
use Rattle.p_groups.proofs.Fields.{residues}
use Rattle.group_cocycles.specs.Cocycles.{cocycle_of, IsClassOf}
use Rattle.min_res.specs.Stages.{rank_of}
use Rattle.chain_lift.specs.declared.level.Level.{Level}
use Rattle.chain_lift.specs.EmbeddingValues.{EmbedValue}
use Rattle.chain_lift.specs.EmbeddingStores.{IsEmbedStore}
use Rattle.chain_lift.specs.MapsAlong.{IsMapAlong}
use Rattle.chain_lift.specs.Embeddings.{elementary, elementary_over, embedding}
use Rattle.chain_lift.proofs.EmbeddingLevels.{rows-at, class-at}
use Rattle.chain_lift.proofs.EmbeddingMaps.{restriction-is}
use Rattle.chain_lift.proofs.embedding.EmbedMap.restrict.Goals as goal

pub write_pairings-requires-clause-primes : goal.write_pairings-requires-clause-primes
write_pairings-requires-clause-primes c =
    let M : IsMapAlong c.args.self.now.group (elementary_over c.args.self.now.group
    (length c.args.self.now.basis))
    (embedding c.args.self.now.group c.args.self.now.basis) c.args.d c.index-level.result.now.rows
    = rows-at _ _ _ _ c.self.view_is c.self.invariant c.args.d c.index-level.result.now c.requires.degree
    c.index-level.ensures in
    (c.requires.prime ∙ sym M.prime, c.requires.out_prime ∙ sym M.prime)

pub write_pairings-requires-clause-argument : goal.write_pairings-requires-clause-argument
write_pairings-requires-clause-argument c =
    let M : IsMapAlong c.args.self.now.group (elementary_over c.args.self.now.group
    (length c.args.self.now.basis))
    (embedding c.args.self.now.group c.args.self.now.basis) c.args.d c.index-level.result.now.rows
    = rows-at _ _ _ _ c.self.view_is c.self.invariant c.args.d c.index-level.result.now c.requires.degree
    c.index-level.ensures in
    let some : 1 ≤ order c.args.self.now.group.table = c.args.self.now.group.law.law.some in
    let long : length (entries_of c.args.class) * 1 ≤ length (entries_of c.args.class) * order
    c.args.self.now.group.table =
    mul-le-mul_left (length (entries_of c.args.class)) some in
    let w : c.index-level.result.now.rows.width ≡ order c.args.self.now.group.table * length
    (entries_of c.args.class) = M.width
    ∙ ap (λ k. order c.args.self.now.group.table * k) (sym c.requires.length) in
    omega (arith, w, long)

pub write_pairings-requires-clause-out_length : goal.write_pairings-requires-clause-out_length
write_pairings-requires-clause-out_length c =
    let M : IsMapAlong c.args.self.now.group (elementary_over c.args.self.now.group
    (length c.args.self.now.basis))
    (embedding c.args.self.now.group c.args.self.now.basis) c.args.d c.index-level.result.now.rows
    = rows-at _ _ _ _ c.self.view_is c.self.invariant c.args.d c.index-level.result.now c.requires.degree
    c.index-level.ensures in
    c.requires.out_length ∙ sym M.count

pub returns-clause-value : goal.returns-clause-value
returns-clause-value c =
    let M : IsMapAlong c.args.self.now.group (elementary_over c.args.self.now.group
    (length c.args.self.now.basis))
    (embedding c.args.self.now.group c.args.self.now.basis) c.args.d c.index-level.result.now.rows
    = rows-at _ _ _ _ c.self.view_is c.self.invariant c.args.d c.index-level.result.now c.requires.degree
    c.index-level.ensures in
    let r : IsRow (suc (largest_residue c.args.self.now.group)) (rank_of c.args.self.now.group c.args.d)
    (entries_of c.args.class) = record {
      length_is = c.requires.length;
      below = λ k l. subst (λ p. entry (entries_of c.args.class) k < p)
          (c.requires.prime ∙ sym (residues c.args.self.now.group))
          (c.args.class.below k (subst (λ n. k < n) (sym c.requires.length) l));
    } in
    restriction-is c.args.self.now.group (elementary_over c.args.self.now.group
    (length c.args.self.now.basis))
    (embedding c.args.self.now.group c.args.self.now.basis) c.args.d (entries_of c.args.class)
    c.index-level.result.now.rows _ M r
    (c.write_pairings.ensures.length ∙ c.requires.out_length ∙ sym M.count)
    c.write_pairings.ensures.value

pub returns-clause-cocycle : goal.returns-clause-cocycle
returns-clause-cocycle c =
    subst (λ x. IsClassOf (elementary c.args.self.now.group (length c.args.self.now.basis)) c.args.d
    (λ xs. cocycle_of c.args.self.now.group c.args.d (entries_of c.args.class)
    (map (embedding c.args.self.now.group c.args.self.now.basis) xs)) x)
    (sym (returns-clause-value c))
    (class-at _ _ _ _ c.self.view_is c.self.invariant c.args.d (entries_of c.args.class))
