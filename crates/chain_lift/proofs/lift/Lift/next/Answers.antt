use Rattle.std.proofs.Common.{◌≡◌, ◌+◌, ◌^◌, ◌<◌, ℕ, suc, arith, ap, ap₂, sym, ◌∙◌}
use mathlib.Core.Path.{subst}
use Rattle.linear_algebra.specs.Rows.{row}
use Rattle.fp_rows.specs.Values.{MatrixValue}
use Rattle.p_groups.specs.PGroups.{PGroup}
use Rattle.min_res.specs.Defined.{IsStageAt}
use Rattle.min_res.specs.Values.{StageValue}
use Rattle.group_algebra.specs.RowMaps.{map_row}
use Rattle.chain_lift.specs.RowMaps.{FitTogether, image_row, section_of}
use Rattle.chain_lift.proofs.Levels.{stage-along, fit, next-rows-are}
use Rattle.chain_lift.proofs.lift.Lift.next.Goals as goal

pub next_rows-requires : goal.next_rows-requires
next_rows-requires c =
    let V : PGroup = c.args.self.now.group in
    let e : c.algebra-algebra.result.now ≡ V = c.algebra-algebra.ensures ∙ c.requires.group in
    let A : IsStageAt V (c.args.self.now.degree + (c.args.self.now.height + 1)) c.deref-3.result.now
    = stage-along c.args.res.now.group V c.requires.group _ _ _ _
    (ap₂ (λ (x y : ℕ). x + (y + 1)) c.degree.ensures c.height-d.ensures)
    (c.deref-3.ensures ∙ c.in_ok-source.ensures.cases) c.stage_at.ensures.stage in
    let B : IsStageAt V (c.args.self.now.height + 1) c.deref-4.result.now
    = stage-along c.args.res.now.group V c.requires.group _ _ _ _ (ap (λ (y : ℕ). y + 1) c.height-d.ensures)
    (c.deref-4.ensures
    ∙ c.in_ok-target.ensures.cases) c.stage_at-2.ensures.stage in
    let r : c.rank-rank.result ≡ c.last-before.result.now.target.value.rank = c.rank-rank.ensures
    ∙ ap (λ (x : StageValue). x.rank) c.deref-2.ensures in
    let w : c.last-before.result.now.source.value.kernel.width < 2 ^ 64 =
    subst (λ k. k < 2 ^ 64) (c.width-width.ensures
    ∙ ap (λ (m : MatrixValue). m.width) (c.kernel.ensures
    ∙ ap (λ (x : StageValue). x.kernel) c.deref.ensures)) (omega arith) in
    subst (λ G. FitTogether G c.rank-rank.result c.last-before.result.now.rows c.deref-3.result.now
    c.deref-4.result.now) (sym e)
    (fit V c.args.self.now.degree c.args.self.now.height c.args.self.now.class c.last-before.result.now
    c.last-before.ensures c.deref-3.result.now
    c.deref-4.result.now A B c.rank-rank.result r
    w)

pub returns : goal.returns
returns c =
    let V : PGroup = c.args.self.now.group in
    let e : c.algebra-algebra.result.now ≡ V = c.algebra-algebra.ensures ∙ c.requires.group in
    let A : IsStageAt V (c.args.self.now.degree + (c.args.self.now.height + 1)) c.deref-3.result.now
    = stage-along c.args.res.now.group V c.requires.group _ _ _ _
    (ap₂ (λ (x y : ℕ). x + (y + 1)) c.degree.ensures c.height-d.ensures)
    (c.deref-3.ensures ∙ c.in_ok-source.ensures.cases) c.stage_at.ensures.stage in
    let B : IsStageAt V (c.args.self.now.height + 1) c.deref-4.result.now
    = stage-along c.args.res.now.group V c.requires.group _ _ _ _ (ap (λ (y : ℕ). y + 1) c.height-d.ensures)
    (c.deref-4.ensures
    ∙ c.in_ok-target.ensures.cases) c.stage_at-2.ensures.stage in
    let r : c.rank-rank.result ≡ c.last-before.result.now.target.value.rank = c.rank-rank.ensures
    ∙ ap (λ (x : StageValue). x.rank) c.deref-2.ensures in
    let P : PGroup → Type 0 = λ G. (i : ℕ) → i < c.deref-3.result.now.rank
    → row c.in_ok-rows.rows.rows i ≡ section_of c.deref-4.result.now
    (map_row G c.rank-rank.result c.last-before.result.now.rows.rows (image_row c.deref-3.result.now i)) in
    record {
      source_is = subst (λ d. IsStageAt V d c.in_ok-source.source.value)
          (let z : c.args.self.now.degree +
          (c.args.self.now.height + 1) ≡ c.args.self.now.degree + suc c.args.self.now.height =
          omega arith in z)
          (subst (λ s. IsStageAt V (c.args.self.now.degree +
          (c.args.self.now.height + 1)) s) c.deref-3.ensures A);
      target_is = subst (λ d. IsStageAt V d c.in_ok-target.target.value)
          (let z : c.args.self.now.height + 1 ≡ suc c.args.self.now.height = omega arith in z)
          (subst (λ s. IsStageAt V (c.args.self.now.height + 1) s) c.deref-4.ensures B);
      rows_are = next-rows-are V c.args.self.now.degree c.args.self.now.height c.args.self.now.class
          c.last-before.result.now c.last-before.ensures
          c.deref-3.result.now c.deref-4.result.now A B
          c.rank-rank.result r c.in_ok-rows.rows (c.in_ok-rows.ensures.prime
          ∙ ap (λ (G : PGroup). G.table.p) e) c.in_ok-rows.ensures.width c.in_ok-rows.ensures.count
          (subst P e c.in_ok-rows.ensures.rows);
    }
