use Rattle.std.proofs.Common.{◌≤◌, ◌++◌, ◌∷◌, [], ◌+◌, ℕ, List, length, arith, ap, sym, ◌∙◌, refl}
use Rattle.group_table.specs.Tables.{order}
use Rattle.linear_algebra.specs.Rows.{IsMatrix}
use Rattle.linear_algebra.specs.Choices.{rows_at, IsGreedy}
use Rattle.std.proofs.lemmas.List.{length_push}
use Rattle.linear_algebra.proofs.GreedyChoice.{greedy-below}
use Rattle.radical_layers.specs.LayerBasis.{layer_basis as basis_rows, layer_sizes}
use Rattle.group_algebra.proofs.FirstLayers.{AreFirstLayers, first-start, first-next, first-end}
use Rattle.group_algebra.proofs.FirstLayers.{first-shorter, few-rows, rows-next, sizes-next-of}
use Rattle.group_algebra.proofs.layers.layer_basis.Goals as goal

pub loop-rows-init : goal.loop-rows-init
loop-rows-init c = (
  (
    ap (λ m. m.p) c.new-rows.ensures ∙ c.prime.ensures,
    ap (λ m. m.width) c.new-rows.ensures
        ∙ c.order.ensures.value,
  ),
  c.in_ok-power.ensures.kept,
  (
    [],
    [],
    ap (λ m. m.rows) c.new-rows.ensures,
    c.new-sizes.ensures.items,
    refl,
    first-start c.args.group.now c.in_ok-power.power.rows c.in_ok-power.ensures.power,
  ),
)

pub greedy-requires-clause-few : goal.greedy-requires-clause-few
greedy-requires-clause-few c =
    let M : IsMatrix c.args.group.now.table.p (order c.args.group.now.table) c.loop-rows.power.rows =
    rw (c.loop-rows.invariant.1.0, c.loop-rows.invariant.1.1) at c.rows-in-loop-rows.ensures.matrix in
    let few : length c.loop-rows.power.rows ≤ order c.args.group.now.table =
    few-rows c.args.group.now c.loop-rows.power.rows M c.rows-in-loop-rows.ensures.echelon in
    omega (arith, few, c.order.ensures.small, c.order.ensures.value)

pub push_layer-requires-clause-inside : goal.push_layer-requires-clause-inside
push_layer-requires-clause-inside c i l =
    (greedy-below c.loop-rows.power.p c.loop-rows.power.rows c.in_ok-next.next.rows
    (length c.loop-rows.power.rows) c.in_ok-taken.taken c.in_ok-taken.ensures i l).1

pub loop-rows-smaller : goal.loop-rows-smaller
loop-rows-smaller c =
    let A : AreFirstLayers c.args.group.now c.loop-rows.invariant.2.0 c.loop-rows.invariant.2.1
    c.loop-rows.power.rows = c.loop-rows.invariant.2.5 in
    first-shorter c.args.group.now c.loop-rows.invariant.2.0 c.loop-rows.invariant.2.1 c.loop-rows.power.rows
    A c.in_ok-next.next.rows
    (omega (arith, c.loop-rows-test.true, c.rows-in-loop-rows.ensures.count))
    (c.in_ok-next.ensures.power (length c.loop-rows.invariant.2.0) A.next_is)

pub loop-rows-preserved : goal.loop-rows-preserved
loop-rows-preserved c =
    let Es : List (List (List ℕ)) = c.loop-rows.invariant.2.0 in
    let xs : List (List ℕ) = c.loop-rows.invariant.2.1 in
    let E : List (List ℕ) = c.loop-rows.power.rows in
    let x : List ℕ = c.in_ok-taken.taken in (
      (
        ap (λ m. m.p) c.in_ok-push_layer.ensures
            ∙ c.loop-rows.invariant.0.0,
        ap (λ m. m.width) c.in_ok-push_layer.ensures
            ∙ c.loop-rows.invariant.0.1,
      ),
      c.in_ok-next.ensures.kept,
      (
        Es ++ E ∷ [],
        xs ++ x ∷ [],
        ap (λ m. m.rows) c.in_ok-push_layer.ensures
            ∙ ap (λ rows. rows ++ rows_at E x) c.loop-rows.invariant.2.2
            ∙ sym (rows-next Es xs E x c.loop-rows.invariant.2.4),
        c.in_ok-push.ensures.items ∙ ap (λ k. c.loop-rows.sizes.items ++ k ∷ []) c.len.ensures
            ∙ ap (λ ks. ks ++ length x ∷ []) c.loop-rows.invariant.2.3
            ∙ sym (sizes-next-of Es xs E x c.loop-rows.invariant.2.4),
        length_push xs x ∙ ap (λ k. k + 1) c.loop-rows.invariant.2.4 ∙ sym (length_push Es E),
        let A : AreFirstLayers c.args.group.now Es xs E = c.loop-rows.invariant.2.5 in
            let g : IsGreedy c.args.group.now.table.p E c.in_ok-next.next.rows x =
            rw c.loop-rows.invariant.1.0 at c.in_ok-taken.ensures in
            first-next c.args.group.now Es xs E A c.in_ok-next.next.rows x
            (omega (arith, c.loop-rows-test.true, c.rows-in-loop-rows.ensures.count))
            (c.in_ok-next.ensures.power (length Es) A.next_is) g,
      ),
    )

pub returns-clause-sizes : goal.returns-clause-sizes
returns-clause-sizes c = c.loop-rows.invariant.2.3
    ∙ ap layer_sizes (sym (first-end c.args.group.now c.loop-rows.invariant.2.0 c.loop-rows.invariant.2.1
    c.loop-rows.power.rows c.loop-rows.invariant.2.5
    (omega (arith, c.rows-in-loop-rows.ensures.count, c.loop-rows-test.false))))

pub returns-clause-rows : goal.returns-clause-rows
returns-clause-rows c = c.loop-rows.invariant.2.2
    ∙ ap basis_rows (sym (first-end c.args.group.now c.loop-rows.invariant.2.0 c.loop-rows.invariant.2.1
    c.loop-rows.power.rows c.loop-rows.invariant.2.5
    (omega (arith, c.rows-in-loop-rows.ensures.count, c.loop-rows-test.false))))
