-- What contracts see of the map of an embedding.
use Rattle.std.specs.Prelude.{ℕ, List, refl}
use Rattle.std.specs.Coded.{Coded, code_by, coded×, coded_ℕ, coded_list}
use Rattle.p_groups.specs.PGroups.{PGroup}
use Rattle.group_algebra.specs.Coded.{coded_p_group}

-- a group, the basis of a subgroup, and the degree up to which the maps are known: they are those of the
-- embedding
pub record EmbedValue : Type 0 where
  pub group : PGroup
  pub basis : List ℕ
  pub height : ℕ

-- how it is stored
abbrev pub coded_embedding : Coded EmbedValue
coded_embedding = code_by (PGroup × (List ℕ × ℕ)) (coded× coded_p_group (coded× (coded_list coded_ℕ) coded_ℕ))
    (λ m. (m.group, (m.basis, m.height))) (λ t. record { group = t.0; basis = t.1.0; height = t.1.1 })
    (λ _. refl)
