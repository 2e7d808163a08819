use Rattle.std.proofs.Common.{◌≡◌, ◌+◌, ◌-◌, ◌<◌, ℕ, List, [], ◌∷◌, length, arith, ap, ap₂, sym, ◌∙◌, refl}
use Rattle.std.proofs.lemmas.List.{length_push}
use mathlib.Core.Path.{subst}
use Rattle.group_table.specs.Tables.{GroupTable}
use Rattle.linear_algebra.specs.Rows.{entry}
use Rattle.linear_algebra.specs.Kernels.{unit_row}
use Rattle.fp_rows.specs.Refs.{entries_of}
use Rattle.fp_rows.specs.Values.{RowValue}
use Rattle.p_groups.specs.PGroups.{PGroup}
use Rattle.elementary_subgroups.specs.Bases.{NumberedSubgroup, IsSubgroupOf}
use Rattle.chain_lift.specs.declared.level.Level.{Level}
use Rattle.chain_lift.specs.Embeddings.{elementary, elementary_over, embedding}
use Rattle.chain_lift.specs.EmbeddingStores.{IsEmbedLevel}
use Rattle.chain_lift.proofs.Levels.{stage-along}
use Rattle.chain_lift.proofs.EmbeddingMaps.{first-map}
use Rattle.chain_lift.proofs.EmbeddingLevels.{first-level, same-value, store-start}
use Rattle.chain_lift.proofs.embedding.EmbedMap.new.Goals as goal

pub invariant_of-result : goal.invariant_of-result
invariant_of-result c =
    let G : PGroup = c.args.rg.now.group in
    let A : PGroup = c.algebra-algebra.result.now in
    let basis : List ℕ = c.args.e.now.basis in
    let e : A ≡ G = c.algebra-algebra.ensures in
    let same : c.in_ok-group.group ≡ A = c.in_ok-group.ensures ∙ c.group.ensures in
    let copy : c.in_ok-subgroup.subgroup ≡ c.args.e.now = c.in_ok-subgroup.ensures in
    let one : entries_of c.view.result ≡ 1 ∷ [] = c.view.ensures.entries
    ∙ ap (λ (r : RowValue). r.entries) c.set_unit.ensures
    ∙ ap (λ (r : RowValue). unit_row (length r.entries) 0) c.in_ok-one.ensures in
    let count : length (entries_of c.view.result) ≡ 1 = ap (λ (x : List ℕ). length x) one in
    let own : c.args.re.now.group ≡ elementary A (length basis) =
    subst (λ x. c.args.re.now.group ≡ elementary x (length basis)) (sym e) c.requires.own in
    let L : IsEmbedLevel A basis 0 (record {
      source = c.in_ok-clone.field-0;
      target =
          c.in_ok-clone-2.field-0;
      rows = c.in_ok-first_rows.field-0;
    })
    = record {
      source_is = stage-along c.args.re.now.group (elementary A (length basis)) own _ _ _ _ refl
          c.in_ok-clone.ensures.cases
          c.stage_at.ensures.stage;
      target_is = stage-along G A (sym e) _ _ _ _ refl c.in_ok-clone-2.ensures.cases
          c.stage_at-2.ensures.stage;
      rows_are = first-map A (elementary_over A (length basis)) (embedding A basis) c.in_ok-first_rows.field-0
          (entries_of c.view.result)
          (ap (λ (x : List ℕ). entry x 0) one) c.in_ok-first_rows.ensures.prime
          c.in_ok-first_rows.ensures.width
          (c.in_ok-first_rows.ensures.count ∙ count)
          (c.in_ok-first_rows.ensures.rows 0 (let z : 0 < length (entries_of c.view.result) =
          omega (arith, count) in z));
    } in
    let pushed : length c.push.new.self.items ≡ length c.new-levels.result.items + 1 =
    ap (λ (x : List Level). length x) c.in_ok-push.ensures.items
    ∙ length_push c.new-levels.result.items _ in
    let none : length c.push.new.self.items - 1 ≡ 0 =
    (let z : length c.new-levels.result.items ≡ 0 = ap (λ (x : List Level). length x)
    c.new-levels.ensures.items in omega (arith, pushed, z)) in
    store-start _ _ c.new-levels.result.items _ _
    (subst (λ (x : PGroup). IsSubgroupOf x.table c.in_ok-subgroup.subgroup) (sym (same ∙ e))
    (subst (λ (x : NumberedSubgroup). IsSubgroupOf G.table x) (sym copy) c.requires.subgroup))
    refl
    (first-level A c.in_ok-group.group (sym same) basis c.in_ok-subgroup.subgroup.basis
    (ap (λ (x : NumberedSubgroup). x.basis) (sym copy)) _ L)
    none c.new-levels.ensures.items c.in_ok-push.ensures.items

pub returns : goal.returns
returns c =
    let same : c.in_ok-group.group ≡ c.args.rg.now.group = c.in_ok-group.ensures ∙ c.group.ensures
    ∙ c.algebra-algebra.ensures in
    let pushed : length c.push.new.self.items ≡ length c.new-levels.result.items + 1 =
    ap (λ (x : List Level). length x) c.in_ok-push.ensures.items
    ∙ length_push c.new-levels.result.items _ in
    let none : length c.push.new.self.items - 1 ≡ 0 =
    (let z : length c.new-levels.result.items ≡ 0 = ap (λ (x : List Level). length x)
    c.new-levels.ensures.items in omega (arith, pushed, z)) in
    same-value _ _ _ _ _ _ same (ap (λ (x : NumberedSubgroup). x.basis) c.in_ok-subgroup.ensures) none
