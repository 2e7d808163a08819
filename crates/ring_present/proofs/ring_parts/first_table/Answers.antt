use Rattle.std.proofs.Common.{◌≡◌, true, inl, List, ◌++◌, [], ◌∷◌, length, ap, sym, ◌∙◌, refl}
use Rattle.std.proofs.lemmas.Bool.{eqb-true}
use Rattle.std.specs.Prelude.{◌==◌}
use Rattle.ring_degree.specs.declared.table.Table.{Table}
use Rattle.ring_present.proofs.ring_parts.first_table.Goals as goal

no-table : (tables : List Table) → true ≡ (length tables == 0) → tables ≡ []
no-table [] e = refl
no-table (t ∷ tables) e = absurd (let z : length (t ∷ tables) ≡ 0 =
    eqb-true (length (t ∷ tables)) 0 (sym e) in cc)

pub returns-then-is_empty : goal.returns-then-is_empty
returns-then-is_empty c = inl (
  no-table c.args.tables.now c.if-is_empty.ensures,
  record {
    table = c.in_ok-table.table;
    alone = c.in_ok-push.ensures.items
        ∙ ap (λ (ts : List Table). ts ++ c.in_ok-table.table ∷ []) c.new-first.ensures.items;
    one = c.in_ok-table.ensures.standard;
    none = c.in_ok-table.ensures.products;
  },
)
