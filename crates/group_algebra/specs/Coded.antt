-- How a p-group is stored.
use Rattle.std.specs.Prelude.{ℕ, List, refl}
use Rattle.std.specs.Coded.{Coded, code_by, coded×, coded_ℕ, coded_list}
use base.Stored.{coded_via}
use Rattle.group_table.specs.Tables.{GroupTable}
use Rattle.p_groups.specs.PGroups.{PGroup}
use Rattle.p_groups.proofs.SameTables.{same_table}

abbrev pub coded_table : Coded GroupTable
coded_table =
    code_by ((ℕ × ℕ) × List ℕ) (coded× (coded× coded_ℕ coded_ℕ) (coded_list coded_ℕ))
    (λ G. ((G.p, G.n), G.entries)) (λ t. record { p = t.0.0; n = t.0.1; entries = t.1 }) (λ _. refl)

-- a p-group is stored as its table
abbrev pub coded_p_group : Coded PGroup
coded_p_group = coded_via coded_table (λ G. G.table) same_table
