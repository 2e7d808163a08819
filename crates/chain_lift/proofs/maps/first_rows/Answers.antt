use Rattle.std.proofs.Common.{◌≡◌, ◌<◌, ◌+◌, ◌*◌, ◌∷◌, [], ◌++◌, ℕ, List, length, set, arith, ap, sym, ◌∙◌}
use Rattle.std.proofs.lemmas.List.{length_push, length-set}
use mathlib.Core.Path.{subst}
use Rattle.group_table.specs.Tables.{order}
use Rattle.linear_algebra.specs.Rows.{entry}
use Rattle.fp_rows.specs.Refs.{entries_of}
use Rattle.fp_rows.specs.Values.{RowValue, MatrixValue}
use Rattle.group_algebra.specs.Coordinates.{layer_coordinates, row_of}
use Rattle.chain_lift.specs.RowMaps.{multiple_of_one}
use Rattle.chain_lift.proofs.Lists.{rows-push}
use Rattle.chain_lift.proofs.Multiples.{coefficients-of, others-stay}
use Rattle.chain_lift.proofs.maps.first_rows.Goals as goal

pub push-requires-clause-same_width : goal.push-requires-clause-same_width
push-requires-clause-same_width c =
    let set_to : c.set.new.self.entries ≡ set c.loop-i.multiple.entries 0 c.get.result =
    ap (λ (x : RowValue). x.entries) c.set.ensures in
    let p : c.get.result < c.args.algebra.now.table.p =
    subst (λ m. c.get.result < m) c.requires c.get.ensures.below in
    ap (λ (x : List ℕ). length x) (c.view-in-loop-i.ensures.entries
    ∙ c.to_layers.ensures.layers (multiple_of_one c.args.algebra.now c.get.result)
    (coefficients-of c.args.algebra.now c.loop-i.multiple.entries _ _ c.get.result
    c.loop-i.invariant.multiple_length c.loop-i.invariant.zeros
    set_to c.view.ensures.entries p))
    ∙ ((layer_coordinates c.args.algebra.now 1).row-is _).length_is
    ∙ (let z : order c.args.algebra.now.table * 1 ≡ order c.args.algebra.now.table = omega arith in z)
    ∙ sym c.loop-i.invariant.rows_width

pub loop-i-preserved : goal.loop-i-preserved
loop-i-preserved c =
    let set_to : c.set.new.self.entries ≡ set c.loop-i.multiple.entries 0 c.get.result =
    ap (λ (x : RowValue). x.entries) c.set.ensures in
    let p : c.get.result < c.args.algebra.now.table.p =
    subst (λ m. c.get.result < m) c.requires c.get.ensures.below in
    let value :
    c.to_layers.new.out.entries ≡ row_of c.args.algebra.now 1
    (multiple_of_one c.args.algebra.now c.get.result)
    = c.to_layers.ensures.layers (multiple_of_one c.args.algebra.now c.get.result)
    (coefficients-of c.args.algebra.now c.loop-i.multiple.entries _ _ c.get.result
    c.loop-i.invariant.multiple_length c.loop-i.invariant.zeros
    set_to c.view.ensures.entries p) in
    let pushed : c.push.new.self.rows ≡ c.loop-i.rows.rows ++ _ ∷ [] =
    ap (λ (x : MatrixValue). x.rows) c.in_ok-push.ensures.pushed in
    record {
      multiple_prime = ap (λ (x : RowValue). x.p) c.set.ensures ∙ c.loop-i.invariant.multiple_prime;
      multiple_length = ap (λ (x : List ℕ). length x) set_to ∙ length-set _ _ _
          ∙ c.loop-i.invariant.multiple_length;
      zeros = others-stay c.loop-i.multiple.entries _ c.get.result set_to c.loop-i.invariant.zeros;
      layers_prime = c.to_layers.ensures.prime ∙ c.loop-i.invariant.layers_prime;
      layers_length = ap (λ (x : List ℕ). length x) (value)
          ∙ ((layer_coordinates c.args.algebra.now 1).row-is _).length_is
          ∙ (let z : order c.args.algebra.now.table * 1 ≡ order c.args.algebra.now.table = omega arith in z);
      rows_prime = ap (λ (x : MatrixValue). x.p) c.in_ok-push.ensures.pushed ∙ c.loop-i.invariant.rows_prime;
      rows_width = ap (λ (x : MatrixValue). x.width) c.in_ok-push.ensures.pushed
          ∙ c.loop-i.invariant.rows_width;
      count = ap (λ (x : List (List ℕ)). length x) pushed ∙ length_push c.loop-i.rows.rows _
          ∙ ap (λ n. n + 1) c.loop-i.invariant.count;
      each = rows-push c.loop-i.i (λ i. row_of c.args.algebra.now 1
          (multiple_of_one c.args.algebra.now (entry (entries_of c.args.class) i)))
          c.loop-i.rows.rows _ _ c.loop-i.invariant.count c.loop-i.invariant.each
          (c.view-in-loop-i.ensures.entries ∙ value
          ∙ ap (λ k. row_of c.args.algebra.now 1 (multiple_of_one c.args.algebra.now k)) c.get.ensures.value)
          pushed;
    }
