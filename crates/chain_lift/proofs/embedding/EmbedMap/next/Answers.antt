use Rattle.std.proofs.Common.{◌≡◌, ◌+◌, ◌^◌, ◌<◌, ℕ, List, suc, length, arith, ap, sym, ◌∙◌, refl}
use mathlib.Core.Path.{subst}
use Rattle.linear_algebra.specs.Rows.{row}
use Rattle.fp_rows.specs.Values.{MatrixValue}
use Rattle.p_groups.specs.PGroups.{PGroup}
use Rattle.min_res.specs.Defined.{IsStageAt}
use Rattle.min_res.specs.Values.{StageValue}
use Rattle.chain_lift.specs.Embeddings.{elementary}
use Rattle.chain_lift.specs.EmbeddingStores.{IsEmbedStore}
use Rattle.chain_lift.specs.EmbeddingRows.{AreImages, FitAlong, listed, value_along}
use Rattle.chain_lift.specs.RowMaps.{image_row, section_of}
use Rattle.chain_lift.proofs.Levels.{stage-along}
use Rattle.chain_lift.proofs.EmbeddingLevels.{fit, next-rows-are, images-at}
use Rattle.chain_lift.proofs.embedding.EmbedMap.next.Goals as goal

pub next_rows_along-requires-clause-images : goal.next_rows_along-requires-clause-images
next_rows_along-requires-clause-images c =
    let G : PGroup = c.args.self.now.group in
    let S : IsEmbedStore c.args.self.now c.self.inside.subgroup c.self.inside.levels.items =
    subst (λ v. IsEmbedStore v c.self.inside.subgroup c.self.inside.levels.items) c.self.view_is
    c.self.invariant in
    subst (λ (E : PGroup). AreImages E c.algebra-2.result.now c.self.inside.subgroup.images)
    (sym (c.algebra.ensures ∙ c.requires.own))
    (subst (λ (H : PGroup). AreImages (elementary G (length c.args.self.now.basis)) H
    c.self.inside.subgroup.images)
    (sym (c.algebra-2.ensures ∙ c.requires.group))
    (images-at G c.args.self.now.basis c.self.inside.subgroup S.subgroup S.basis))

pub next_rows_along-requires-clause-fit : goal.next_rows_along-requires-clause-fit
next_rows_along-requires-clause-fit c =
    let G : PGroup = c.args.self.now.group in
    let basis : List ℕ = c.args.self.now.basis in
    let E : PGroup = elementary G (length basis) in
    let s : IsStageAt E (c.args.self.now.height + 1) c.deref-3.result.now
    = stage-along c.args.re.now.group E c.requires.own _ _ _ _ (ap (λ (y : ℕ). y + 1) c.height-d.ensures)
    (c.deref-3.ensures ∙ c.in_ok-source.ensures.cases) c.stage_at.ensures.stage in
    let t : IsStageAt G (c.args.self.now.height + 1) c.deref-4.result.now
    = stage-along c.args.rg.now.group G c.requires.group _ _ _ _ (ap (λ (y : ℕ). y + 1) c.height-d.ensures)
    (c.deref-4.ensures ∙ c.in_ok-target.ensures.cases) c.stage_at-2.ensures.stage in
    let r : c.rank-rank.result ≡ c.last-before.result.now.target.value.rank = c.rank-rank.ensures
    ∙ ap (λ (x : StageValue). x.rank) c.deref-2.ensures in
    let w : c.last-before.result.now.source.value.kernel.width < 2 ^ 64 =
    subst (λ k. k < 2 ^ 64) (c.width-width.ensures
    ∙ ap (λ (m : MatrixValue). m.width) (c.kernel.ensures
    ∙ ap (λ (x : StageValue). x.kernel) c.deref.ensures)) (omega arith) in
    subst (λ (D : PGroup). FitAlong D c.algebra-2.result.now c.rank-rank.result c.last-before.result.now.rows
    c.deref-3.result.now
    c.deref-4.result.now) (sym (c.algebra.ensures ∙ c.requires.own))
    (subst (λ (H : PGroup). FitAlong E H c.rank-rank.result c.last-before.result.now.rows c.deref-3.result.now
    c.deref-4.result.now)
    (sym (c.algebra-2.ensures ∙ c.requires.group))
    (fit G basis c.args.self.now.height c.last-before.result.now c.last-before.ensures c.deref-3.result.now
    c.deref-4.result.now s t
    c.rank-rank.result r w))

pub returns : goal.returns
returns c =
    let G : PGroup = c.args.self.now.group in
    let basis : List ℕ = c.args.self.now.basis in
    let E : PGroup = elementary G (length basis) in
    let S : IsEmbedStore c.args.self.now c.self.inside.subgroup c.self.inside.levels.items =
    subst (λ v. IsEmbedStore v c.self.inside.subgroup c.self.inside.levels.items) c.self.view_is
    c.self.invariant in
    let s : IsStageAt E (c.args.self.now.height + 1) c.deref-3.result.now
    = stage-along c.args.re.now.group E c.requires.own _ _ _ _ (ap (λ (y : ℕ). y + 1) c.height-d.ensures)
    (c.deref-3.ensures ∙ c.in_ok-source.ensures.cases) c.stage_at.ensures.stage in
    let t : IsStageAt G (c.args.self.now.height + 1) c.deref-4.result.now
    = stage-along c.args.rg.now.group G c.requires.group _ _ _ _ (ap (λ (y : ℕ). y + 1) c.height-d.ensures)
    (c.deref-4.ensures ∙ c.in_ok-target.ensures.cases) c.stage_at-2.ensures.stage in
    let r : c.rank-rank.result ≡ c.last-before.result.now.target.value.rank = c.rank-rank.ensures
    ∙ ap (λ (x : StageValue). x.rank) c.deref-2.ensures in
    let source : c.algebra.result.now ≡ E = c.algebra.ensures ∙ c.requires.own in
    let target : c.algebra-2.result.now ≡ G = c.algebra-2.ensures ∙ c.requires.group in
    let P : PGroup → PGroup → Type 0 = λ D H. (i : ℕ) → i < c.deref-3.result.now.rank
    → row c.in_ok-rows.rows.rows i ≡ section_of c.deref-4.result.now
    (value_along D H (listed D H c.self.inside.subgroup.images)
    c.rank-rank.result c.last-before.result.now.rows.rows (image_row c.deref-3.result.now i)) in
    record {
      source_is = subst (λ d. IsStageAt E d c.in_ok-source.source.value)
          (let z : c.height-d.result + 1 ≡ suc c.args.self.now.height = omega (arith, c.height-d.ensures) in
          z)
          (stage-along c.args.re.now.group E c.requires.own _ _ _ _ refl c.in_ok-source.ensures.cases
          c.stage_at.ensures.stage);
      target_is = subst (λ d. IsStageAt G d c.in_ok-target.target.value)
          (let z : c.height-d.result + 1 ≡ suc c.args.self.now.height = omega (arith, c.height-d.ensures) in
          z)
          (stage-along c.args.rg.now.group G c.requires.group _ _ _ _ refl c.in_ok-target.ensures.cases
          c.stage_at-2.ensures.stage);
      rows_are = next-rows-are G basis c.args.self.now.height c.last-before.result.now c.last-before.ensures
          c.deref-3.result.now
          c.deref-4.result.now s t c.rank-rank.result r c.self.inside.subgroup S.subgroup S.basis
          c.in_ok-rows.rows
          (c.in_ok-rows.ensures.prime ∙ ap (λ (H : PGroup). H.table.p) target) c.in_ok-rows.ensures.width
          c.in_ok-rows.ensures.count
          (subst (λ D. P D G) source (subst (λ H. P c.algebra.result.now H) target
          c.in_ok-rows.ensures.rows));
    }
