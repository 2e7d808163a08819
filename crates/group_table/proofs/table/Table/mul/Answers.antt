use Rattle.std.proofs.Common.{◌≡◌, ◌<◌, ◌+◌, ◌*◌, ◌∙◌, ap, sym, subst, length, arith}
use Rattle.std.proofs.lemmas.Grind.{get_or_default_zero}
use Rattle.group_table.specs.Tables.{IsTable, order, product_is}
use Rattle.group_table.proofs.Laws.{place-below}
use Rattle.group_table.proofs.table.Table.mul.Goals as goal

pub returns-clause-value : goal.returns-clause-value
returns-clause-value c =
    let e : c.self.inside.size ≡ order c.args.self.now = c.self.invariant.0 ∙ ap order c.self.view_is in
    let s : length c.self.inside.entries.items ≡ c.self.inside.size * c.self.inside.size =
    c.self.invariant.2.size ∙ ap (λ n. n * n) (sym c.self.invariant.0) in
    let p : c.args.a * c.self.inside.size + c.args.b < length c.self.inside.entries.items =
    rw s (place-below c.args.a c.args.b c.self.inside.size (omega (arith, e)) (omega (arith, e))) in
    rw (product_is, ← c.self.view_is, ← c.self.invariant.0) (c.index.ensures ∙ get_or_default_zero _ _ _ p)

pub returns-clause-below : goal.returns-clause-below
returns-clause-below c =
    let G : IsTable c.args.self.now = subst IsTable c.self.view_is c.self.invariant.2 in
    rw (returns-clause-value c) (G.closed c.args.a c.args.b c.requires.left c.requires.right)
