use Rattle.std.proofs.Common.{List, [], ◌∷◌, ◌++◌, length, ap, sym, subst, ◌∙◌}
use Rattle.ring_degree.specs.Tables.{AreTables}
use Rattle.ring_degree.specs.declared.table.Table.{Table}
use Rattle.ring_degree.proofs.LowDegrees.{first-tables, low-degrees, low-some, low-new}
use Rattle.polynomial_tests.proofs.degrees.low_degrees.Goals as goal

pub finish-requires-clause-tables : goal.finish-requires-clause-tables
finish-requires-clause-tables c = subst (AreTables c.args.gens.now)
    (sym (c.as_slice.ensures.value ∙ c.in_ok-push.ensures.items
    ∙ ap (λ (ts : List Table). ts ++ c.in_ok-one.field-0 ∷ []) c.new-tables.ensures.items))
    (first-tables c.args.gens.now c.in_ok-one.field-0 c.in_ok-one.ensures
    (low-degrees c.args.gens.now c.requires))

pub finish-requires-clause-left : goal.finish-requires-clause-left
finish-requires-clause-left c = low-some c.args.gens.now c.requires (length c.as_slice.result.now)
    (ap length (c.as_slice.ensures.value ∙ c.in_ok-push.ensures.items
    ∙ ap (λ (ts : List Table). ts ++ c.in_ok-one.field-0 ∷ []) c.new-tables.ensures.items))
    c.in_ok-left.left c.in_ok-left.ensures

pub finish-requires-clause-new : goal.finish-requires-clause-new
finish-requires-clause-new c = low-new c.args.gens.now c.requires (length c.as_slice.result.now)
    (ap length (c.as_slice.ensures.value ∙ c.in_ok-push.ensures.items
    ∙ ap (λ (ts : List Table). ts ++ c.in_ok-one.field-0 ∷ []) c.new-tables.ensures.items))
    c.in_ok-left.left c.in_ok-left.ensures
