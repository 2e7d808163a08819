use Rattle.std.proofs.Common.{◌≡◌, ◌<◌, ℕ, List, arith, ap, ap₂, sym, ◌∙◌, refl}
use mathlib.Core.Path.{subst}
use Rattle.linear_algebra.specs.Rows.{add_multiple, entry, row}
use Rattle.linear_algebra.proofs.CombinationRows.{IsPartialCombination, partial-step, partial-end}
use Rattle.fp_rows.specs.Refs.{entries_of}
use Rattle.fp_rows.specs.Values.{RowValue}
use Rattle.fp_rows.proofs.Turns.{IsRowTurn, row-turn, row-end}
use Rattle.fp_rows.proofs.matrix.Matrix.combine.Goals as goal

pub add_row-requires-clause-row : goal.add_row-requires-clause-row
add_row-requires-clause-row c =
    let t : IsRowTurn c.args.self.now c.loop-k.k c.in-Some.row.now c.next.new.self =
    row-turn _ _ _ c.loop-k.row-iterator _ c.loop-k.invariant.left c.in-Some.ensures.steps in
    rw (t.entries, c.loop-k.invariant.prime, c.loop-k.invariant.sum.is_row.length_is)
    (c.iter-row-items.ensures.matrix c.loop-k.k t.inside)

pub loop-k-preserved : goal.loop-k-preserved
loop-k-preserved c =
    let t : IsRowTurn c.args.self.now c.loop-k.k c.in-Some.row.now c.next.new.self =
    row-turn _ _ _ c.loop-k.row-iterator _ c.loop-k.invariant.left c.in-Some.ensures.steps in
    let u : ℕ → ℕ = entry (entries_of c.args.u) in
    let rows : List (List ℕ) = c.args.self.now.rows in
    let old : List ℕ = c.loop-k.out.entries in
    let new : c.add_row.new.self.entries ≡ add_multiple c.args.self.now.p (u c.loop-k.k) old
    (row rows c.loop-k.k) =
    rw (c.add_row.ensures, c.loop-k.invariant.prime, c.get.ensures.value, t.entries) refl in
    let some : 0 < c.args.self.now.p = omega (arith, c.args.u.above_one, c.requires.primes.0) in
    record {
      left = t.left;
      prime = ap (λ (r : RowValue). r.p) c.add_row.ensures ∙ c.loop-k.invariant.prime;
      sum = rw new
          (partial-step u rows c.loop-k.k old some c.iter-row-items.ensures.matrix t.inside
          c.loop-k.invariant.sum);
    }

pub returns : goal.returns
returns c =
    let u : ℕ → ℕ = entry (entries_of c.args.u) in
    let rows : List (List ℕ) = c.args.self.now.rows in
    let some : 0 < c.args.self.now.p = omega (arith, c.args.u.above_one, c.requires.primes.0) in
    ap₂ (λ (p : ℕ) (es : List ℕ). record { p = p; entries = es }) (c.loop-k.invariant.prime
    ∙ sym c.requires.primes.1)
    (partial-end u rows c.loop-k.out.entries some c.iter-row-items.ensures.matrix
    (subst (λ k. IsPartialCombination c.args.self.now.p c.args.self.now.width u rows k c.loop-k.out.entries)
    (row-end _ _ _ c.loop-k.invariant.left c.in-None.ensures.steps.0) c.loop-k.invariant.sum))
