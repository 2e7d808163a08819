use Rattle.std.proofs.Common.{◌≡◌, ℕ, suc, ◌+◌, ◌-◌, ◌<◌, ◌≤◌, ◌++◌, ◌∷◌, [], ◌∙◌, ap, ap₂, sym, subst, arith}
use Rattle.std.proofs.Common.{drop, take, length, length-take, length-drop, All}
use Rattle.std.proofs.lemmas.List.Elements.{All-get_or}
use Rattle.std.proofs.lemmas.Slice.{between_to_end}
use Rattle.power_commutator.specs.Presentations.{IsWord, multiply}
use Rattle.power_commutator.specs.Collect.{product_of, spell}
use Rattle.power_commutator.proofs.Collecting.{product-word}
use Rattle.pc_group.specs.Collection.{passed}
use Rattle.pc_group.proofs.CollectedWords.{few-generators, right-after, passed-after, collected}
use Rattle.pc_group.proofs.CollectedWords.{collected-more, collected-all}
use Rattle.pc_group.proofs.collection.+collect_generator.Goals as goal

pub overflow_add-k : goal.overflow_add-k
overflow_add-k t c =
    let consistent = c.presentation-presentation.ensures.consistent in
    let few = few-generators c.args.c.now.prime c.args.c.now.gens consistent.prime consistent.few in
    omega (arith, few, c.requires.last)

pub push_factors-requires : goal.push_factors-requires
push_factors-requires t c =
    let w = c.args.word.now in
    let k = c.args.k in
    let consistent = c.presentation-presentation.ensures.consistent in
    let few = few-generators c.args.c.now.prime c.args.c.now.gens consistent.prime consistent.few in
    omega (
      arith,
      few,
      c.requires.last,
      c.requires.word.len,
      length-take (length w - k) (drop k w),
      length-drop k w,
    )

pub passed_by-requires-clause-count : goal.passed_by-requires-clause-count
passed_by-requires-clause-count t c =
    let consistent = c.presentation-presentation.ensures.consistent in
    let few = few-generators c.args.c.now.prime c.args.c.now.gens consistent.prime consistent.few in
    omega (arith, few, ap (λ Q. Q.gens) c.presentation-presentation.ensures.value)

pub passed_by-requires-clause-after : goal.passed_by-requires-clause-after
passed_by-requires-clause-after t c =
    let w = c.args.word.now in
    let k = c.args.k in
    let one : k + 1 ≡ suc k = omega arith in
    let right : c.deref.result.now ≡ spell (suc k) (drop k w) =
    c.deref.ensures.value
    ∙ c.in_ok-push_factors.ensures
    ∙ ap (λ r. r ++ spell (k + 1) (take (length w - k) (drop k w))) c.new-right.ensures.items
    ∙ ap₂ spell one (between_to_end w k (length w) (omega arith)) in
    subst (λ Q. All (λ j. (k < j) × (j ≤ Q.gens)) c.deref.result.now)
    (sym c.presentation-presentation.ensures.value)
    (subst (All (λ j. (k < j) × (j ≤ c.args.c.now.gens))) (sym right)
    (right-after c.args.c.now k w c.requires.word.len c.requires.last))

pub loop-j-init : goal.loop-j-init
loop-j-init t c =
    let w = c.args.word.now in
    let k = c.args.k in
    let P = c.args.c.now in
    let consistent = c.presentation-presentation.ensures.consistent in
    let one : k + 1 ≡ suc k = omega arith in
    let right : c.deref.result.now ≡ spell (suc k) (drop k w) =
    c.deref.ensures.value
    ∙ c.in_ok-push_factors.ensures
    ∙ ap (λ r. r ++ spell (k + 1) (take (length w - k) (drop k w))) c.new-right.ensures.items
    ∙ ap₂ spell one (between_to_end w k (length w) (omega arith)) in
    let uncollected : c.deref-j-items.result.now ≡ passed P k (spell (suc k) (drop k w)) =
    c.deref-j-items.ensures.value
    ∙ c.in_ok-uncollected.ensures
    ∙ ap₂ (λ Q js. passed Q k js) c.presentation-presentation.ensures.value right in
    let put = spell 1 (take k w) ++ k ∷ [] in
    let group = c.presentation-presentation.ensures.group in
    record {
      word = subst (IsWord P.prime P.gens 0) (sym c.put_generator.ensures)
          (product-word P consistent.prime consistent.valid group put);
      product =
          ap₂ (λ a js. multiply P a (product_of P js)) c.put_generator.ensures uncollected
          ∙ collected P consistent.prime consistent.valid group w k c.requires.word c.requires.first
          c.requires.last;
    }

pub collect_generator-requires : goal.collect_generator-requires
collect_generator-requires t c =
    let w = c.args.word.now in
    let k = c.args.k in
    let P = c.args.c.now in
    let consistent = c.presentation-presentation.ensures.consistent in
    let one : k + 1 ≡ suc k = omega arith in
    let right : c.deref.result.now ≡ spell (suc k) (drop k w) =
    c.deref.ensures.value
    ∙ c.in_ok-push_factors.ensures
    ∙ ap (λ r. r ++ spell (k + 1) (take (length w - k) (drop k w))) c.new-right.ensures.items
    ∙ ap₂ spell one (between_to_end w k (length w) (omega arith)) in
    let uncollected : c.deref-j-items.result.now ≡ passed P k (spell (suc k) (drop k w)) =
    c.deref-j-items.ensures.value
    ∙ c.in_ok-uncollected.ensures
    ∙ ap₂ (λ Q js. passed Q k js) c.presentation-presentation.ensures.value right in
    let After : ℕ → Type 0 = λ j. (k < j) × (j ≤ P.gens) in
    let after : All After c.deref-j-items.result.now =
    subst (All After) (sym uncollected)
    (passed-after P consistent.valid k c.requires.first (spell (suc k) (drop k w))
    (right-after P k w c.requires.word.len c.requires.last)) in
    let j = All-get_or After c.deref-j-items.result.now c.loop-j.j-index 0 c.loop-j-test.true after in
    (omega (arith, j.0, j.1, c.decreases), (omega (arith, j.0), (j.1, c.loop-j.invariant.word)))

pub loop-j-preserved : goal.loop-j-preserved
loop-j-preserved t c =
    let consistent = c.presentation-presentation.ensures.consistent in
    let more =
    collected-more c.args.c.now consistent.prime consistent.valid c.presentation-presentation.ensures.group
    c.loop-j.word c.collect_generator.new.word
    c.deref-j-items.result.now c.loop-j.j-index _ c.loop-j.invariant.word c.in_ok-collect_generator.ensures
    c.loop-j-test.true c.loop-j.invariant.product in
    record { word = more.0; product = more.1 }

pub returns : goal.returns
returns t c =
    let consistent = c.presentation-presentation.ensures.consistent in
    collected-all c.args.c.now consistent.prime consistent.valid c.presentation-presentation.ensures.group
    c.loop-j.word c.deref-j-items.result.now
    c.loop-j.j-index _ c.loop-j.invariant.word c.loop-j-test.false c.loop-j.invariant.product
