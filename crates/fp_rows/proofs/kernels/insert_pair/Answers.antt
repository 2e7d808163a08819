use Rattle.std.proofs.Common.{◌≡◌, ℕ, ◌<◌, List, length, map, arith, ap, sym, ◌∙◌, refl}
use Rattle.std.specs.Prelude.{insert}
use Rattle.linear_algebra.specs.Rows.{entry, pivot}
use Rattle.linear_algebra.specs.Elimination.{IsPlace, IsPrepared}
use Rattle.linear_algebra.proofs.AddedRow.{place_is, added_pivots}
use Rattle.linear_algebra.proofs.Spans.{in_span_pushed}
use Rattle.fp_rows.specs.Lists.{lists}
use Rattle.fp_rows.proofs.ListLemmas.{length-lists, lists-insert, over-insert}
use Rattle.fp_rows.proofs.SolvingLemmas.{solved_independent}
use Rattle.fp_rows.proofs.kernels.insert_pair.Goals as goal

pub returns-clause-solved : goal.returns-clause-solved
returns-clause-solved c =
    let p : ℕ = c.args.v.p in
    let one : 1 < p = c.clear_vecs.ensures.field.above_one in
    let L : List (List ℕ) = lists c.args.rows.now.items in
    let s : List ℕ = c.args.v.entries in
    let pos : ℕ = c.place_of-at.result in
    let P : IsPlace c.args.t pos L = place_is L c.deref.result.now s c.args.t pos c.requires.echelon
    (c.deref.ensures.value ∙ c.requires.pivots_are) c.requires.zero_at_pivots c.requires.monic
    c.place_of-at.ensures.within c.place_of-at.ensures.below c.place_of-at.ensures.here in
    let rows' : lists c.insert-2.new.self.items ≡ insert (lists c.clear_vecs.new.rows.items) pos s =
    ap lists c.in_ok-insert-2.ensures.items ∙ lists-insert c.clear_vecs.new.rows.items pos c.args.v in
    let made' : lists c.insert-3.new.self.items ≡ insert
    (lists c.clear_vecs.new.made.items) pos c.args.u.entries = ap lists c.in_ok-insert-3.ensures.items
    ∙ lists-insert c.clear_vecs.new.made.items pos c.args.u in
    let lr : length L ≡ length c.args.rows.now.items = length-lists c.args.rows.now.items in
    let lm : length (lists c.args.made.now.items) ≡ length c.args.made.now.items =
    length-lists c.args.made.now.items in
    λ gens k K same h prep urow umade before zeros. rw (rows', made')
    (solved_independent (lists c.clear_vecs.new.rows.items)
    (lists c.clear_vecs.new.made.items) h s c.args.u.entries c.args.t pos one prep c.requires.place
    c.requires.inside c.clear_vecs.ensures.cleared P
    (omega (arith, c.clear_vecs.ensures.made_count, length-lists c.clear_vecs.new.made.items, lm))
    (rw same at c.clear_vecs.ensures.made_rows)
    (λ i l. c.clear_vecs.ensures.maps gens umade (λ i b. h.made i (omega (arith, b, lr))) i
    (omega (arith, l, lm, c.requires.same_count)))
    (λ i x l z. c.clear_vecs.ensures.kept i x (omega (arith, l, lm, c.requires.same_count)) z)
    urow umade before zeros)

pub returns-clause-over : goal.returns-clause-over
returns-clause-over c = rw c.in_ok-insert-2.ensures.items
    (over-insert c.args.v.p c.clear_vecs.new.rows.items c.place_of-at.result c.args.v
    c.clear_vecs.ensures.over refl)

pub returns-clause-made_over : goal.returns-clause-made_over
returns-clause-made_over c = rw c.in_ok-insert-3.ensures.items
    (over-insert c.args.v.p c.clear_vecs.new.made.items c.place_of-at.result c.args.u
    c.clear_vecs.ensures.made_over c.requires.same_prime)

pub returns-clause-pivots_are : goal.returns-clause-pivots_are
returns-clause-pivots_are c =
    let p : ℕ = c.args.v.p in
    let one : 1 < p = c.clear_vecs.ensures.field.above_one in
    let L : List (List ℕ) = lists c.args.rows.now.items in
    let s : List ℕ = c.args.v.entries in
    let pos : ℕ = c.place_of-at.result in
    let P : IsPlace c.args.t pos L = place_is L c.deref.result.now s c.args.t pos c.requires.echelon
    (c.deref.ensures.value ∙ c.requires.pivots_are) c.requires.zero_at_pivots c.requires.monic
    c.place_of-at.ensures.within c.place_of-at.ensures.below c.place_of-at.ensures.here in
    let rows' : lists c.insert-2.new.self.items ≡ insert (lists c.clear_vecs.new.rows.items) pos s =
    ap lists c.in_ok-insert-2.ensures.items ∙ lists-insert c.clear_vecs.new.rows.items pos c.args.v in
    let prep : IsPrepared p (length s) L s s = record {
      is_row = c.requires.row_is;
      zero_at_pivots = c.requires.zero_at_pivots;
      monic = λ b. ap (entry s) (sym c.requires.place) ∙ c.requires.monic;
      made = in_span_pushed L s;
      gives_back = in_span_pushed L s;
    } in
    c.in_ok-insert.ensures.items ∙ added_pivots s s c.args.t pos one c.requires.matrix c.requires.echelon prep
    c.requires.place c.requires.inside c.clear_vecs.ensures.cleared P
    c.args.pivots.now.items c.requires.pivots_are ∙ ap (map pivot) (sym rows')
