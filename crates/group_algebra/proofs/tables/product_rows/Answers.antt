use Rattle.std.proofs.Common.{◌≡◌, ◌<◌, ◌≤◌, ◌+◌, ◌++◌, ◌*◌, [], ℕ, List, length, map, arith, ap, sym}
use Rattle.std.proofs.Common.{◌∙◌, refl}
use Rattle.std.proofs.lemmas.List.{length-map, get_or-map}
use Rattle.std.proofs.Math.Nat.{mul-le-mul_right}
use mathlib.Core.Path.{subst}
use Rattle.group_table.specs.Tables.{order}
use Rattle.linear_algebra.specs.Rows.{combination_row, entry, row, IsMatrix}
use Rattle.p_groups.specs.PGroups.{PGroup}
use Rattle.group_algebra.specs.Tables.{HasShape, IsProductRow}
use Rattle.group_algebra.proofs.Combined.{combined, positive}
use Rattle.group_algebra.proofs.TableLemmas.{each-appended, shape-appended, product-of-members}
use Rattle.group_algebra.proofs.TableLemmas.{translates-matrix}
use Rattle.group_algebra.proofs.tables.product_rows.Goals as goal

pub rows_between-requires-clause-inside : goal.rows_between-requires-clause-inside
rows_between-requires-clause-inside c =
    let n : ℕ = order c.args.group.now.table in
    let l : c.loop-l.l < n = subst (λ m. c.loop-l.l < m) c.loop-l.invariant.order_is c.loop-l-test.true in
    let z : (c.loop-l.l + 1) * n ≤ n * n =
    mul-le-mul_right n (let y : c.loop-l.l + 1 ≤ n = omega (arith, l) in y) in
    rw (c.loop-l.invariant.order_is, c.requires.translates.rows)
    (let y : c.loop-l.l * n + n ≤ n * n = omega (arith, z) in y)

pub loop-l-preserved : goal.loop-l-preserved
loop-l-preserved c =
    let G : PGroup = c.args.group.now in
    let n : ℕ = order G.table in
    let l : ℕ = c.loop-l.l in
    let W : List (List ℕ) = c.in_ok-moved.moved.rows in
    let T : List (List ℕ) = c.args.translates.now.rows in
    let B : List (List ℕ) = c.args.members.now.rows in
    let I = c.loop-l.invariant in
    let f : List ℕ → List ℕ = λ u. combination_row G.table.p n (entry u) W in
    let p : c.in_ok-moved.moved.p ≡ G.table.p = c.in_ok-moved.ensures.prime ∙ c.requires.translates.prime in
    let w : c.in_ok-moved.moved.width ≡ n = c.in_ok-moved.ensures.width ∙ c.requires.translates.width in
    let count : length W ≡ n = omega (arith, c.in_ok-moved.ensures.count, I.order_is) in
    let inside : l < n = subst (λ m. l < m) I.order_is c.loop-l-test.true in
    let W-is : (g : ℕ) → g < n → row W g ≡ row T (l * n + g) =
    λ g b. c.in_ok-moved.ensures.rows g
    (let m : g < c.order-n.result = subst (λ m. g < m) (sym I.order_is) b in omega (arith, m))
    ∙ ap (λ m. row T (l * m + g)) I.order_is in
    let M : IsMatrix G.table.p n W =
    translates-matrix G T W l c.requires.translates.rows count c.requires.translate_rows W-is inside in
    let pushed : c.push_combinations.new.m ≡ record c.loop-l.m { rows = c.loop-l.m.rows ++ map f B } =
    rw (p, w) at c.in_ok-push_combinations.ensures in
    let len : length (map f B) ≡ n = length-map B f ∙ c.requires.members.rows in
    record {
      order_is = I.order_is;
      shape = subst (λ k. HasShape G k c.push_combinations.new.m)
          (let z : l * n + n ≡ (l + 1) * n = omega arith in z)
          (shape-appended G (l * n) n c.loop-l.m c.push_combinations.new.m (map f B) I.shape len pushed);
      rows = rw pushed (each-appended (IsProductRow G) c.loop-l.m.rows (map f B) I.rows (λ k b.
          let m : k < length B = (let e = length-map B f in omega (arith, b, e)) in
          let k-in : k < n = omega (arith, m, c.requires.members.rows) in
          subst (IsProductRow G (length c.loop-l.m.rows + k)) (sym (get_or-map f B k [] [] m))
          (product-of-members G B T W (length c.loop-l.m.rows + k) k l (f (row B k)) c.requires.member_rows
          c.requires.translates.rows c.requires.translate_rows W-is (ap (λ x. x + k) I.shape.rows) k-in inside
          (combined (row B k) W (f (row B k)) (positive G) M count refl))));
    }
