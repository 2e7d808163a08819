use Rattle.std.proofs.Common.{◌≡◌, ◌<◌, ◌++◌, [], ◌∷◌, length, map, take, get_or, arith, sym, ap, ◌∙◌}
use Rattle.std.proofs.lemmas.List.{take_more, take_all, length-map, get_or-map}
use Rattle.linear_algebra.specs.Rows.{pivot}
use Rattle.fp_rows.specs.Lists.{lists}
use Rattle.fp_rows.proofs.ListLemmas.{row_lists, length-lists}
use Rattle.fp_rows.proofs.from_rows.pivots_of.Goals as goal

count : (c : goal.In_ok-push) → length (lists c.args.rows.now) ≡ length c.args.rows.now
count c = length-lists c.args.rows.now

pub loop-r-preserved : goal.loop-r-preserved
loop-r-preserved c =
    let n = count c in
    let inside : c.loop-r.r-index < length (lists c.args.rows.now) = omega (arith, n) in
    let whole : c.loop-r.r-index < length (map pivot (lists c.args.rows.now)) =
    omega (arith, inside, length-map (lists c.args.rows.now) pivot) in
    let last : c.first.result ≡ get_or (map pivot (lists c.args.rows.now)) c.loop-r.r-index 0 =
    c.first.ensures
    ∙ ap pivot (sym (row_lists c.args.rows.now c.loop-r.r-index c.r-item.result
    (omega arith) c.r-item.is))
    ∙ sym (get_or-map pivot (lists c.args.rows.now) c.loop-r.r-index [] 0 inside) in
    c.in_ok-push.ensures.items
    ∙ ap (λ ps. ps ++ c.first.result ∷ []) c.loop-r.invariant
    ∙ ap (λ q. take c.loop-r.r-index (map pivot (lists c.args.rows.now)) ++ q ∷ []) last
    ∙ sym (take_more (map pivot (lists c.args.rows.now)) c.loop-r.r-index 0 whole)

pub returns : goal.returns
returns c =
    let n = length-lists c.args.rows.now in
    let end : length (map pivot (lists c.args.rows.now)) ≡ length (lists c.args.rows.now) =
    length-map (lists c.args.rows.now) pivot in
    c.loop-r.invariant ∙ take_all c.loop-r.r-index (map pivot (lists c.args.rows.now)) (omega (arith, n, end))
