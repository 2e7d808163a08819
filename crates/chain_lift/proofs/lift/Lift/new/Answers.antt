use Rattle.std.proofs.Common.{◌≡◌, ◌+◌, ◌-◌, ◌<◌, ℕ, List, length, replicate, arith, ap, ap₂, sym, ◌∙◌, refl}
use Rattle.std.proofs.lemmas.List.{length_push}
use mathlib.Core.Path.{subst}
use Rattle.linear_algebra.specs.Rows.{entry, add_multiple}
use Rattle.fp_rows.specs.Refs.{entries_of, modulus_of}
use Rattle.fp_rows.specs.Values.{RowValue}
use Rattle.p_groups.specs.PGroups.{PGroup}
use Rattle.min_res.specs.Stages.{rank_of}
use Rattle.chain_lift.specs.declared.level.Level.{Level}
use Rattle.chain_lift.specs.Stores.{IsLevel}
use Rattle.chain_lift.proofs.LiftRows.{first-map}
use Rattle.chain_lift.proofs.Levels.{stage-along, first-level, added, same-value, store-start}
use Rattle.chain_lift.proofs.lift.Lift.new.Goals as goal

pub invariant_of-result : goal.invariant_of-result
invariant_of-result c =
    let A : PGroup = c.algebra-algebra.result.now in
    let same : c.in_ok-group.group ≡ A = c.in_ok-group.ensures ∙ c.group.ensures in
    let below : (k : ℕ) → k < length (entries_of c.args.class) → entry (entries_of c.args.class) k < A.table.p
    = λ k l. subst (λ p. entry (entries_of c.args.class) k < p) (c.requires.prime
    ∙ ap (λ (G : PGroup). G.table.p) (sym c.algebra-algebra.ensures))
    (c.args.class.below k l) in
    let kept : c.add.new.self.entries ≡ entries_of c.args.class =
    ap (λ (x : RowValue). x.entries) c.add.ensures
    ∙ ap (λ (k : RowValue). add_multiple k.p 1 k.entries (entries_of c.args.class)) c.in_ok-kept.ensures
    ∙ ap₂ (λ (p n : ℕ). add_multiple p 1 (replicate n 0) (entries_of c.args.class))
    (c.prime.ensures ∙ ap (λ (G : PGroup). G.table.p) (same ∙ c.algebra-algebra.ensures)
    ∙ sym c.requires.prime) c.len.ensures.count
    ∙ added (modulus_of c.args.class) (length (entries_of c.args.class))
    (entries_of c.args.class) c.len.ensures.row in
    let ranks : length (entries_of c.args.class) ≡ rank_of A c.args.q
    = (let P : PGroup → Type 0 = λ G. length (entries_of c.args.class) ≡ rank_of G c.args.q in subst P
    (sym c.algebra-algebra.ensures) c.requires.length) in
    let L : IsLevel A c.args.q (entries_of c.args.class) 0
    (record {
      source = c.in_ok-clone.field-0;
      target = c.in_ok-clone-2.field-0;
      rows = c.in_ok-first_rows.field-0;
    })
    = record {
      source_is = stage-along c.args.res.now.group A (sym c.algebra-algebra.ensures) _ _ _ _
          (let z : c.args.q ≡ c.args.q + 0 = omega arith in
          z) c.in_ok-clone.ensures.cases c.stage_at.ensures.stage;
      target_is = stage-along c.args.res.now.group A
          (sym c.algebra-algebra.ensures) _ _ _ _ refl c.in_ok-clone-2.ensures.cases
          c.stage_at-2.ensures.stage;
      rows_are = first-map A c.args.q
          (entries_of c.args.class) c.in_ok-first_rows.field-0 c.in_ok-first_rows.ensures.prime
          c.in_ok-first_rows.ensures.width
          c.in_ok-first_rows.ensures.count ranks below c.in_ok-first_rows.ensures.rows;
    } in
    let count : length c.push.new.self.items ≡ length c.new-levels.result.items + 1 =
    ap (λ (x : List Level). length x) c.in_ok-push.ensures.items
    ∙ length_push c.new-levels.result.items _ in
    let none : length c.push.new.self.items - 1 ≡ 0 =
    (let z : length c.new-levels.result.items ≡ 0 = ap
    (λ (x : List Level). length x) c.new-levels.ensures.items in omega (arith, count, z)) in
    store-start _ _ c.new-levels.result.items _ _
    (ap (λ (x : RowValue). x.p) c.add.ensures ∙ ap (λ (x : RowValue). x.p) c.in_ok-kept.ensures
    ∙ c.prime.ensures)
    (let P : PGroup → ℕ → Type 0 = λ G n. n ≡ rank_of G c.args.q in
    subst (λ G. P G (length c.add.new.self.entries)) (sym same)
    (subst (λ n. P A n) (sym (ap (λ (x : List ℕ). length x) kept)) ranks))
    (first-level A c.in_ok-group.group (sym same) c.args.q (entries_of c.args.class) c.add.new.self.entries
    (sym kept) _ L) none
    c.new-levels.ensures.items c.in_ok-push.ensures.items

pub returns : goal.returns
returns c =
    let same : c.in_ok-group.group ≡ c.args.res.now.group = c.in_ok-group.ensures ∙ c.group.ensures
    ∙ c.algebra-algebra.ensures in
    let kept : c.add.new.self.entries ≡ entries_of c.args.class =
    ap (λ (x : RowValue). x.entries) c.add.ensures
    ∙ ap (λ (k : RowValue). add_multiple k.p 1 k.entries (entries_of c.args.class)) c.in_ok-kept.ensures
    ∙ ap₂ (λ (p n : ℕ). add_multiple p 1 (replicate n 0) (entries_of c.args.class))
    (c.prime.ensures ∙ ap (λ (G : PGroup). G.table.p) same ∙ sym c.requires.prime) c.len.ensures.count
    ∙ added (modulus_of c.args.class) (length (entries_of c.args.class))
    (entries_of c.args.class) c.len.ensures.row in
    let count : length c.push.new.self.items ≡ length c.new-levels.result.items + 1 =
    ap (λ (x : List Level). length x) c.in_ok-push.ensures.items
    ∙ length_push c.new-levels.result.items _ in
    let none : length c.push.new.self.items - 1 ≡ 0 =
    (let z : length c.new-levels.result.items ≡ 0 = ap
    (λ (x : List Level). length x) c.new-levels.ensures.items in omega (arith, count, z)) in
    same-value c.in_ok-group.group c.args.res.now.group c.args.q c.add.new.self.entries
    (entries_of c.args.class)
    (length c.push.new.self.items - 1) 0 same kept none
