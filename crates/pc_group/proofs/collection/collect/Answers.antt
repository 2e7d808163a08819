use Rattle.std.proofs.Common.{◌≡◌, ◌+◌, ◌∙◌, ap, sym, subst, drop, length, get_or, replicate}
use Rattle.std.specs.List.{refill}
use Rattle.power_commutator.specs.Presentations.{IsWord, multiply, generator, identity}
use Rattle.power_commutator.specs.Collect.{product_of}
use Rattle.power_commutator.proofs.Collecting.{product-word}
use Rattle.pc_group.proofs.MadeParts.{identity-replicate}
use Rattle.pc_group.proofs.CollectedWords.{collected-more, refilled}
use Rattle.pc_group.proofs.collection.collect.Goals as goal

pub loop-k-init : goal.loop-k-init
loop-k-init c =
    let P = c.args.c.now in
    let consistent = c.presentation.ensures.consistent in
    let group = c.presentation.ensures.group in
    let one : c.in_ok-word.word.items ≡ identity P.gens =
    c.in_ok-word.ensures.items_if_clones_equal (λ y e. e)
    ∙ ap (λ n. replicate n 0) (c.gens.ensures.value ∙ ap (λ Q. Q.gens) c.presentation.ensures.value)
    ∙ identity-replicate P.gens in
    record {
      word = subst (IsWord P.prime P.gens 0) (sym one) group.group.one-word;
      product =
          ap (λ w. multiply P w (product_of P c.args.gens.now)) one
          ∙ group.group.one-mul (product_of P c.args.gens.now)
          (product-word P consistent.prime consistent.valid group c.args.gens.now);
    }

pub loop-k-preserved : goal.loop-k-preserved
loop-k-preserved c =
    let P = c.args.c.now in
    let consistent = c.presentation.ensures.consistent in
    let w = c.loop-k.word.items in
    let k = get_or c.args.gens.now c.loop-k.k-index 0 in
    let next : c.collect_generator.new.word ≡ multiply P w (generator 1 P.gens k) =
    c.in_ok-collect_generator.ensures ∙ ap
    (λ v. multiply P v (generator 1 P.gens k)) c.deref_mut.ensures.value in
    let more =
    collected-more P consistent.prime consistent.valid c.presentation.ensures.group w
    c.collect_generator.new.word c.args.gens.now c.loop-k.k-index
    (product_of P c.args.gens.now) c.loop-k.invariant.word next c.loop-k-test.true c.loop-k.invariant.product
    in
    let same : refill (length w) w c.collect_generator.new.word ≡ c.collect_generator.new.word =
    refilled w c.collect_generator.new.word (more.0.len ∙ sym c.loop-k.invariant.word.len) in
    record {
      word = subst (IsWord P.prime P.gens 0) (sym same) more.0;
      product = ap (λ v. multiply P v (product_of P (drop (c.loop-k.k-index + 1) c.args.gens.now))) same
          ∙ more.1;
    }
