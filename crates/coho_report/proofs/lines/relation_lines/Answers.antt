use Rattle.std.proofs.Common.{◌∙◌, map, take, ap, sym, subst}
use Rattle.graded_polynomials.specs.Polynomials.{Polynomial}
use Rattle.graded_polynomials.specs.Texts.{polynomial_text}
use Rattle.gc_poly.specs.Generators.{Generators}
use Rattle.gc_poly.specs.Polynomials.{IsOverGenerators}
use Rattle.coho_report.specs.Lines.{ended, relation_lines}
use Rattle.coho_report.proofs.LineLists.{members_next, pushed}
use Rattle.coho_report.proofs.lines.relation_lines.Goals as goal

pub polynomial_line-requires : goal.polynomial_line-requires
polynomial_line-requires c = subst (λ gens. IsOverGenerators gens c.relation.result.now)
    (sym c.gens.ensures) c.relation.ensures.over

pub loop-i-preserved : goal.loop-i-preserved
loop-i-preserved c =
    let ds = map (λ g. g.degree) c.args.ring.now.generators in
    let text = λ (r : Polynomial). ended (polynomial_text ds r.terms) in
    let f = c.relation.result.now in
    pushed (λ line. line.items) c.loop-i.lines.items c.push.new.self.items c.in_ok-polynomial_line.field-0
    (relation_lines ds (take c.loop-i.i c.args.ring.now.relations)) _
    (text f) c.in_ok-push.ensures.items c.loop-i.invariant
    (c.in_ok-polynomial_line.ensures ∙ ap (λ (g : Generators). ended
    (polynomial_text g.degrees f.terms)) c.gens.ensures)
    (members_next text c.args.ring.now.relations c.loop-i.i f c.relation.ensures.value)
