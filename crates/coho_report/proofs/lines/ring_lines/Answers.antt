use Rattle.std.proofs.Common.{◌≡◌, ◌∙◌, List, Vec, Global, ℕ, codes, map, length, ap, ap₂, sym, subst}
use Rattle.gc_poly.specs.Generators.{Generators}
use Rattle.coho_report.specs.Values.{ReportValue, SubgroupValue}
use Rattle.coho_report.specs.Lines.{numbered, head_lines, generator_lines, relation_lines, all_subgroup_lines}
use Rattle.coho_report.specs.Lines.{ring_lines}
use Rattle.coho_report.proofs.LineLists.{three_parts}
use Rattle.coho_report.proofs.lines.ring_lines.Goals as goal

abbrev bytes : Vec ℕ Global → List ℕ
bytes line = line.items

pub returns : goal.returns
returns c =
    let same = c.report.view_is in
    let ds = map (λ g. g.degree) c.report.inside.ring.generators in
    let rs = c.report.inside.ring.relations in
    let ss : List SubgroupValue = c.report.inside.subgroups.items in
    subst (λ (r : ReportValue). map bytes c.append-3.new.self.items ≡ ring_lines r) same
    (three_parts bytes c.in_ok-lines.lines.items c.push.new.self.items c.append.new.self.items
    c.push-2.new.self.items c.append-2.new.self.items c.push-3.new.self.items c.append-3.new.self.items
    c.in_ok-generator_lines.field-0.items c.in_ok-relation_lines.field-0.items
    c.in_ok-all_subgroup_lines.field-0.items c.into_bytes.result c.into_bytes-2.result c.into_bytes-3.result
    _ (generator_lines ds) (relation_lines ds rs) (all_subgroup_lines ds ss)
    (numbered (codes "generators ") (length ds))
    (numbered (codes "relations ") (length rs)) (numbered (codes "subgroups ") (length ss))
    c.in_ok-push.ensures.items c.in_ok-append.ensures.items c.in_ok-push-2.ensures.items
    c.in_ok-append-2.ensures.items c.in_ok-push-3.ensures.items c.in_ok-append-3.ensures.items
    (subst (λ (r : ReportValue). map bytes c.in_ok-lines.lines.items ≡ head_lines r)
    (sym same) c.in_ok-lines.ensures)
    (ap bytes c.into_bytes.ensures.value ∙ c.in_ok-format.ensures.ok
    ∙ ap (numbered (codes "generators ")) (c.generators-generators.ensures
    ∙ ap (λ (r : ReportValue). length r.generators) (sym same)))
    (c.in_ok-generator_lines.ensures ∙ ap (λ (g : Generators). generator_lines g.degrees) c.gens.ensures)
    (ap bytes c.into_bytes-2.ensures.value ∙ c.in_ok-format-2.ensures.ok
    ∙ ap (numbered (codes "relations ")) (c.relations-relations.ensures
    ∙ ap (λ (r : ReportValue). length r.relations) (sym same)))
    c.in_ok-relation_lines.ensures
    (ap bytes c.into_bytes-3.ensures.value ∙ c.in_ok-format-3.ensures.ok
    ∙ ap (numbered (codes "subgroups ")) (c.subgroups-subgroups.ensures
    ∙ ap (λ (r : ReportValue). length r.subgroups) (sym same)))
    (c.in_ok-all_subgroup_lines.ensures
    ∙ ap₂ (λ (g : Generators) (ss : List SubgroupValue). all_subgroup_lines g.degrees ss) c.gens-2.ensures
    c.deref.ensures.value))
