use Rattle.std.proofs.Common.{◌≡◌, ◌∙◌, ◌+◌, ◌-◌, ◌++◌, IfOk, sym, ap, ap₂, subst, arith}
use Rattle.std.proofs.lemmas.List.{append-nil}
use Rattle.power_commutator.specs.Presentations.{commutator_word, identity}
use Rattle.sample_groups.proofs.ProductWords.{mixed_commutator, right_commutator}
use Rattle.sample_groups.proofs.products.commutator_in_product.Goals as goal

pub returns-then-i-n : goal.returns-then-i-n
returns-then-i-n c =
    let n = c.gens-n.ensures.value in
    let m = c.gens-m.ensures.value in
    let e = mixed_commutator c.args.p.now c.args.q.now c.gens-n.ensures.valid c.gens-m.ensures.valid
    c.args.j c.args.i c.requires.first (omega (arith, c.if-i-n.true, n)) (omega (arith, c.if-j-n.false, n))
    c.requires.last in
    subst (λ w. IfOk c.identity.result (λ r. r.items ≡ w)) (ap₂ (λ n m. identity (n + m)) n m ∙ sym e)
    c.identity.ensures

pub returns-else-i-n : goal.returns-else-i-n
returns-else-i-n c =
    let P = c.args.p.now in
    let Q = c.args.q.now in
    let n = c.gens-n.ensures.value in
    let j = c.args.j in
    let i = c.args.i in
    let e = right_commutator P Q c.gens-n.ensures.valid c.gens-m.ensures.valid
    j i (omega (arith, c.if-i-n.false, n)) c.requires.order c.requires.last in
    subst (λ w. IfOk c.placed-else-i-n.result (λ r. r.items ≡ w))
    (append-nil (identity c.gens-n.result ++ c.commutator-else-i-n.result.now.items)
    ∙ ap (λ w. identity c.gens-n.result ++ w) c.commutator-else-i-n.ensures.value
    ∙ ap (λ n. identity n ++ commutator_word Q (j - n) (i - n)) n ∙ sym e)
    c.placed-else-i-n.ensures
