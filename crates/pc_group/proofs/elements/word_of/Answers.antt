-- There are at most 8 exponents, and each is the remainder of what is left.
use Rattle.std.proofs.Common.{◌≡◌, suc, ◌∙◌, ap, ◌-◌, ◌+◌, ◌/◌, ◌%◌, arith, lit<, length, [], ◌∷◌, ◌++◌}
use Rattle.std.proofs.Common.{append_assoc, length-append}
use Rattle.power_commutator.specs.Presentations.{word_of}
use Rattle.pc_group.proofs.CollectedWords.{few-generators}
use Rattle.pc_group.proofs.elements.word_of.Goals as goal

pub push_reserved-requires : goal.push_reserved-requires
push_reserved-requires c =
    let k = c.presentation-p.ensures.consistent in
    let few = few-generators c.args.c.now.prime c.args.c.now.gens k.prime k.few in
    let count = c.loop-i.invariant.count in
    let room = c.loop-i.invariant.room in
    let more = c.loop-i-test.true in
    let gens = c.gens-i-end.ensures.value ∙ ap (λ P. P.gens) c.presentation-p.ensures.value in
    (lit< tt, omega (arith, few, count, room, more, gens))

pub loop-i-preserved : goal.loop-i-preserved
loop-i-preserved c =
    let P = c.args.c.now in
    let more = c.loop-i-test.true in
    let gens = c.gens-i-end.ensures.value ∙ ap (λ P. P.gens) c.presentation-p.ensures.value in
    let prime = c.value-prime.ensures ∙ c.prime.ensures.value
    ∙ ap (λ P. P.prime) c.presentation-p.ensures.value in
    let left = P.gens - (c.loop-i.i + 1) in
    let rest = c.loop-i.rest in
    let items = c.loop-i.word.items in
    record {
      exponents =
          ap (λ xs. xs ++ word_of P.prime left (rest / c.value-prime.result)) c.push_reserved.ensures.items
          ∙ append_assoc items (rest % c.value-prime.result ∷ [])
          (word_of P.prime left (rest / c.value-prime.result))
          ∙ ap (λ q. items ++ (rest % q ∷ word_of P.prime left (rest / q))) prime
          ∙ ap (λ n. items ++ word_of P.prime n rest)
          (let z : suc left ≡ P.gens - c.loop-i.i = omega (arith, more, gens) in z)
          ∙ c.loop-i.invariant.exponents;
      count =
          let e = c.loop-i.invariant.count in
          let l = length-append items (rest % c.value-prime.result ∷ []) in
          ap length c.push_reserved.ensures.items ∙ omega (arith, e, l);
      room = c.push_reserved.ensures.capacity ∙ c.loop-i.invariant.room;
    }
