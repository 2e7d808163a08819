-- What contracts see of a lift.
use Rattle.std.specs.Prelude.{ℕ, List, refl}
use Rattle.std.specs.Coded.{Coded, code_by, coded×, coded_ℕ, coded_list}
use Rattle.p_groups.specs.PGroups.{PGroup}
use Rattle.group_algebra.specs.Coded.{coded_p_group}

-- a group, the degree of a class and its entries, and the degree up to which its lift is known: the maps are
-- those of the defined lift
pub record LiftValue : Type 0 where
  pub group : PGroup
  pub degree : ℕ
  pub class : List ℕ
  pub height : ℕ

-- how it is stored
abbrev pub coded_lift : Coded LiftValue
coded_lift =
    code_by ((PGroup × ℕ) × (List ℕ × ℕ))
    (coded× (coded× coded_p_group coded_ℕ) (coded× (coded_list coded_ℕ) coded_ℕ))
    (λ l. ((l.group, l.degree), (l.class, l.height)))
    (λ t. record { group = t.0.0; degree = t.0.1; class = t.1.0; height = t.1.1 }) (λ _. refl)
