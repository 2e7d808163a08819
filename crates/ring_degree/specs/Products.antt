-- The monomials of a degree that are products of a generator with a standard monomial of the tables.
use Rattle.std.specs.Prelude.{◌≡◌, ℕ, ◌-◌, ◌<◌, ◌⊎◌, ◌↔◌, true, List, length}
use Rattle.graded_polynomials.specs.Monomials.{fits, joined}
use Rattle.graded_polynomials.specs.Texts.{power}
use Rattle.gc_poly.specs.Lists.{IsDescending}
use Rattle.ring_completion.specs.Candidates.{IsListed}
use Rattle.ring_degree.specs.declared.table.Table.{Table}
use Rattle.ring_degree.specs.Tables.{at_generator, standard_at}

-- the members of new are those of old, and those with P
abbrev pub Gains : (List ℕ → Type 0) → List (List ℕ) → List (List ℕ) → Type 0
Gains P old new = (v : List ℕ) → IsListed new v ↔ (IsListed old v ⊎ P v)

-- m is generator i times one of the monomials ss, and this product is not 0
pub record IsProductWith (q : ℕ) (ds : List ℕ) (i : ℕ) (ss : List (List ℕ)) (m : List ℕ) : Type 0 where
  pub factor : List ℕ
  pub listed : IsListed ss factor
  pub fitting : fits q ds (joined (power i 1) factor) ≡ true
  pub product : m ≡ joined (power i 1) factor

-- m is of degree d and has a quotient by a generator in the tables
abbrev pub IsProductIn : ℕ → List ℕ → List Table → ℕ → List ℕ → Type 0
IsProductIn q ds tables d m = (i : ℕ) × (i < length ds)
    × IsProductWith q ds i (standard_at tables (d - at_generator ds i)) m

-- ms are all of these, in descending order
pub record AreProductsIn (q : ℕ) (ds : List ℕ) (tables : List Table) (d : ℕ)
    (ms : List (List ℕ)) : Type 0 where
  pub descending : IsDescending ms
  pub members : (m : List ℕ) → IsListed ms m ↔ IsProductIn q ds tables d m
