use Rattle.std.proofs.Common.{refl, ◌≡◌, ℕ, ◌∙◌, ap, sym, subst, inl, inr, arith, below_more}
use Rattle.group_table.specs.Tables.{product}
use Rattle.elementary_subgroups.specs.Sets.{IsIn}
use Rattle.subgroup_list.proofs.Bools.{differ_here, differ_there, agree}
use Rattle.subgroup_list.proofs.Comparison.{before_here, before_there, agree_all}
use Rattle.elementary_subgroups.proofs.GroupLaws.{law_of}
use Rattle.subgroup_list.proofs.classes.conjugate_comes_before.Goals as goal

pub returns-then-here-there-clause-before : goal.returns-then-here-there-clause-before
returns-then-here-there-clause-before c = λ h l C.
    let q : c.mul-in-loop-x.result ≡ product c.args.g.now
    (product c.args.g.now c.args.by c.loop-x.x) c.inv-inverse.result =
    c.mul-in-loop-x.ensures.value
    ∙ ap (λ w. product c.args.g.now w c.inv-inverse.result) c.mul.ensures.value in
    let P : ℕ → Type 0 = λ w. IsIn w c.args.m.now in
    before_there (law_of c.args.g.now c.order-x-end.ensures.law) c.args.by c.inv-inverse.result
    c.args.m.now l c.requires.element c.inv-inverse.ensures.below c.inv-inverse.ensures.left
    c.requires.full C c.loop-x.x (omega arith) c.loop-x.invariant (omega arith)
    (λ i. differ_there c.has-here.result c.has-there.result c.if-here-there.true h (c.has-here.ensures.1 i))
    (subst P q (c.has-there.ensures.0 h))

pub returns-then-here-there-clause-not_before : goal.returns-then-here-there-clause-not_before
returns-then-here-there-clause-not_before c = λ h l C.
    let q : c.mul-in-loop-x.result ≡ product c.args.g.now
    (product c.args.g.now c.args.by c.loop-x.x) c.inv-inverse.result =
    c.mul-in-loop-x.ensures.value
    ∙ ap (λ w. product c.args.g.now w c.inv-inverse.result) c.mul.ensures.value in
    let P : ℕ → Type 0 = λ w. IsIn w c.args.m.now in
    let d = differ_here c.has-here.result c.has-there.result c.if-here-there.true h in
    inr (before_here (law_of c.args.g.now c.order-x-end.ensures.law) c.args.by c.inv-inverse.result
    c.args.m.now l c.requires.element c.inv-inverse.ensures.below c.inv-inverse.ensures.left
    c.requires.full C c.loop-x.x (omega arith) c.loop-x.invariant (omega arith)
    (c.has-here.ensures.0 d.0)
    (λ i. d.1 (c.has-there.ensures.1 (subst P (sym q) i))))

pub returns-clause-not_before : goal.returns-clause-not_before
returns-clause-not_before c = λ h l C. inl (
    agree_all (law_of c.args.g.now c.order-x-end.ensures.law) c.args.by c.inv-inverse.result c.args.m.now l
    c.requires.element c.inv-inverse.ensures.below c.inv-inverse.ensures.left
    c.requires.full C c.loop-x.x (omega arith) c.loop-x.invariant (omega arith))

pub loop-x-preserved : goal.loop-x-preserved
loop-x-preserved c = below_more _ _ c.loop-x.invariant (
    let q : c.mul-in-loop-x.result ≡ product c.args.g.now
    (product c.args.g.now c.args.by c.loop-x.x) c.inv-inverse.result =
    c.mul-in-loop-x.ensures.value
    ∙ ap (λ w. product c.args.g.now w c.inv-inverse.result) c.mul.ensures.value in
    let P : ℕ → Type 0 = λ w. IsIn w c.args.m.now in
    let e = agree c.has-here.result c.has-there.result c.if-here-there.false in (
      (λ i. subst P q (c.has-there.ensures.0 (sym e ∙ c.has-here.ensures.1 i))),
      λ i. c.has-here.ensures.0 (e ∙ c.has-there.ensures.1 (subst P (sym q) i)),
    ))

pub returns-then-keeps-clause-not_before : goal.returns-then-keeps-clause-not_before
returns-then-keeps-clause-not_before c = λ _ l C. inl (c.if-keeps.ensures refl l C)
