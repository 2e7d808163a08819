use Rattle.std.proofs.Common.{◌≡◌, ◌∙◌, ap, subst}
use Rattle.group_table.specs.Groups.{IsGroup}
use Rattle.group_table.specs.Tables.{IsGroupTable, order, product}
use Rattle.group_table.proofs.Laws.{conjugate-moved, inverse-unique}
use Rattle.group_table.proofs.group.Group.conj.Goals as goal

pub returns-clause-value : goal.returns-clause-value
returns-clause-value c h inverse =
    let G = c.args.self.now in
    let L : IsGroup (order G) (product G) = subst IsGroupTable c.self.view_is c.self.invariant in
    let same : c.inv.result ≡ h =
    inverse-unique L c.args.g c.inv.result h c.requires.by c.inv.ensures.below inverse.below
    c.inv.ensures.left inverse.right in
    c.mul-2.ensures.value
    ∙ ap (λ y. product G y c.args.g) (c.mul.ensures.value ∙ ap (λ y. product G y c.args.x) same)

pub returns-clause-moved : goal.returns-clause-moved
returns-clause-moved c =
    let G = c.args.self.now in
    let L : IsGroup (order G) (product G) = subst IsGroupTable c.self.view_is c.self.invariant in
    ap (λ y. product G c.args.g y) (c.mul-2.ensures.value
    ∙ ap (λ y. product G y c.args.g) c.mul.ensures.value)
    ∙ conjugate-moved L c.args.g c.inv.result c.args.x c.requires.by c.inv.ensures.below c.requires.element
    c.inv.ensures.right
