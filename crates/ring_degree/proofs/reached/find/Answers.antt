use Rattle.std.proofs.Common.{refl, ◌∙◌}
use Rattle.std.specs.Cmp.Lexicographic.{bytes_decides}
use Rattle.std.proofs.lemmas.Bool.{false≢true}
use Rattle.ring_degree.proofs.Inserting.{not-before}
use Rattle.ring_degree.proofs.reached.find.Goals as goal

pub returns-then-not-is_greater-clause-here : goal.returns-then-not-is_greater-clause-here
returns-then-not-is_greater-clause-here c l = not-before c.args.list.now c.loop-i.i c.index-list-i.result
    c.args.m.now l c.index-list-i.is c.len-length-in-loop-i.ensures.trimmed c.len-length.ensures.trimmed
    (λ e. false≢true (c.if-eq.ensures ∙ (bytes_decides c.index-list-i.result c.args.m.now).1 e))
    (c.if-not-is_greater.ensures.not_greater refl)
