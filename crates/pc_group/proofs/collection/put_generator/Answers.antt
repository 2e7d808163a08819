use Rattle.std.proofs.Common.{◌≡◌, ◌+◌, ◌-◌, ◌<◌, ◌≤◌, ◌∙◌, ap, arith, length, get_or, drop, take}
use Rattle.std.proofs.Common.{length-drop, length-take, replicate}
use Rattle.std.proofs.Math.ListN.{set}
use Rattle.std.proofs.lemmas.List.{length-set}
use Rattle.std.proofs.lemmas.Slice.{between_to_end}
use Rattle.std.proofs.lemmas.List.Elements.{All-get_or}
use Rattle.power_commutator.specs.Presentations.{power_word}
use Rattle.pc_group.proofs.CollectedWords.{put-below-written, put-power-written}
use Rattle.pc_group.proofs.collection.put_generator.Goals as goal

pub overflow_add-word : goal.overflow_add-word
overflow_add-word c =
    let w = c.args.word.now in
    let P = c.args.c.now in
    let e : get_or w (c.args.k - 1) 0 < P.prime =
    All-get_or (λ e. e < P.prime) w (c.args.k - 1) 0
    (omega (arith, c.requires.word.len, c.requires.first, c.requires.last)) c.requires.word.small in
    let p : c.value-prime.result ≡ P.prime = c.value-prime.ensures ∙ c.prime.ensures.value
    ∙ ap (λ Q. Q.prime) c.presentation-presentation.ensures.value in
    omega (arith, e, p, c.value-prime.type_inv)

pub returns-then-word-place : goal.returns-then-word-place
returns-then-word-place c =
    let w = c.args.word.now in
    let P = c.args.c.now in
    let k = c.args.k in
    let consistent = c.presentation-presentation.ensures.consistent in
    let p : c.value-prime.result ≡ P.prime = c.value-prime.ensures ∙ c.prime.ensures.value
    ∙ ap (λ Q. Q.prime) c.presentation-presentation.ensures.value in
    let below : get_or w (k - 1) 0 + 1 < c.value-prime.result = c.if-word-place.true in
    let m = P.gens - k in
    let filled : c.fill.new.self ≡ replicate m 0 =
    c.fill.ensures.after (λ y e. e) ∙ ap (λ n. replicate n 0)
    (let xs = set w (k - 1) (get_or w (k - 1) 0 + 1) in
    let e : length (take (length xs - (k - 1 + 1)) (drop (k - 1 + 1) xs)) ≡ m =
    omega (
      arith,
      length-take (length xs - (k - 1 + 1)) (drop (k - 1 + 1) xs),
      length-drop (k - 1 + 1) xs,
      length-set w (k - 1) (get_or w (k - 1) 0 + 1),
      c.requires.word.len,
      c.requires.first,
      c.requires.last,
    ) in e) in
    put-below-written P consistent.prime consistent.valid c.presentation-presentation.ensures.group w
    c.fill.new.self k (k - 1 + 1)
    (length (set w (k - 1) (get_or w (k - 1) 0 + 1)) - (k - 1 + 1))
    (get_or w (k - 1) 0 + 1) m c.requires.word c.requires.first c.requires.last
    (omega (arith, c.requires.first)) (omega (arith, length-set w (k - 1) (get_or w (k - 1) 0 + 1)))
    (omega arith) (omega (arith, below, p)) filled (omega (arith, c.requires.last))

pub returns-else-word-place : goal.returns-else-word-place
returns-else-word-place c =
    let w = c.args.word.now in
    let P = c.args.c.now in
    let k = c.args.k in
    let consistent = c.presentation-presentation.ensures.consistent in
    let p : c.value-prime.result ≡ P.prime = c.value-prime.ensures ∙ c.prime.ensures.value
    ∙ ap (λ Q. Q.prime) c.presentation-presentation.ensures.value in
    let large : c.value-prime.result ≤ get_or w (k - 1) 0 + 1 = c.if-word-place.false in
    let copied : c.copy_from_slice.new.self ≡ drop (k - 1) (power_word P k) = c.copy_from_slice.ensures.after
    ∙ between_to_end c.as_slice-power.result.now (k - 1) (length c.as_slice-power.result.now) (omega arith)
    ∙ ap (drop (k - 1)) (c.as_slice-power.ensures ∙ c.power_word.ensures.value
    ∙ ap (λ Q. power_word Q k) c.presentation-presentation.ensures.value) in
    put-power-written P consistent.prime consistent.valid c.presentation-presentation.ensures.group w
    c.copy_from_slice.new.self k
    (length w - (k - 1)) c.requires.word c.requires.first c.requires.last (omega arith)
    (omega (arith, large, p)) copied
