-- The elements that a further basis member adds.
use Rattle.std.specs.Prelude.{ℕ, zero, suc, List, [], ◌++◌, map}
use Rattle.group_table.specs.Tables.{GroupTable, product, power}

-- for each exponent of x below k, the products of the elements with that power of x
abbrev pub spread : GroupTable → List ℕ → ℕ → ℕ → List ℕ
spread G ys x zero = []
spread G ys x (suc k) = spread G ys x k ++ map (λ y. product G y (power G x k)) ys
