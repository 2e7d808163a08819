use Rattle.std.proofs.Common.{◌≡◌, ◌≢◌, ◌<◌, ℕ, List, slice_set, length, arith, ap, sym, ◌∙◌}
use Rattle.std.proofs.Common.{below_more, get_or-set_same, get_or-set_other}
use Rattle.std.proofs.lemmas.List.{length-set, length-replicate}
use mathlib.Core.Path.{subst}
use Rattle.group_table.specs.Tables.{order}
use Rattle.linear_algebra.specs.Rows.{entry}
use Rattle.radical_layers.specs.Placing.{place_of}
use Rattle.fp_rows.specs.Refs.{entries_of}
use Rattle.p_groups.specs.PGroups.{PGroup}
use Rattle.group_algebra.specs.Coordinates.{sizes}
use Rattle.group_algebra.proofs.algebra.Algebra.factors_of.Goals as goal

pub loop-k-init : goal.loop-k-init
loop-k-init c = record {
  count = length-replicate {A = ℕ} 256 0;
  entries = λ k l. absurd (omega (arith, l));
  below = λ k l. absurd (omega (arith, l));
}

pub loop-k-preserved : goal.loop-k-preserved
loop-k-preserved c =
    let xs : List ℕ = c.loop-k.factors in
    let i : ℕ = c.loop-k.k in
    let inside : i < length xs = omega (
      arith,
      c.loop-k-test.true,
      c.order-k-end.ensures.small,
      c.loop-k.invariant.count,
    ) in
    record {
      count = length-set xs i c.get.result ∙ c.loop-k.invariant.count;
      entries = below_more (λ k. entry (slice_set xs i c.get.result) k
          ≡ entry (entries_of c.args.a.row)
          (place_of (sizes c.args.self.now) c.args.a.count c.args.a.index k))
          i
          (λ k l. get_or-set_other xs i k c.get.result 0 (let z : k ≢ i = omega (arith, l) in z)
          ∙ c.loop-k.invariant.entries k l)
          (get_or-set_same xs i c.get.result 0 inside ∙ c.get.ensures.value
          ∙ ap (entry (entries_of c.args.a.row)) c.place.ensures.value);
      below = below_more (λ k. entry (slice_set xs i c.get.result) k < c.args.self.now.table.p) i
          (λ k l. subst (λ y. y < c.args.self.now.table.p)
          (sym (get_or-set_other xs i k c.get.result 0 (let z : k ≢ i = omega (arith, l) in z)))
          (c.loop-k.invariant.below k l))
          (subst (λ y. y < c.args.self.now.table.p) (sym (get_or-set_same xs i c.get.result 0 inside))
          (subst (λ p. c.get.result < p) c.requires.modulus c.get.ensures.below));
    }

pub returns-clause-count : goal.returns-clause-count
returns-clause-count c = c.loop-k.invariant.count

pub returns-clause-entries : goal.returns-clause-entries
returns-clause-entries c k l =
    let n : c.order-k-end.result ≡ order c.args.self.now.table =
    subst (λ (X : PGroup). c.order-k-end.result ≡ order X.table) c.self.view_is c.order-k-end.ensures.value in
    c.loop-k.invariant.entries k (omega (arith, l, n, c.loop-k-test.false))

pub returns-clause-below : goal.returns-clause-below
returns-clause-below c k l =
    let n : c.order-k-end.result ≡ order c.args.self.now.table =
    subst (λ (X : PGroup). c.order-k-end.result ≡ order X.table) c.self.view_is c.order-k-end.ensures.value in
    c.loop-k.invariant.below k (omega (arith, l, n, c.loop-k-test.false))
