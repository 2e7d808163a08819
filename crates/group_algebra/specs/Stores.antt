-- What an algebra keeps.
use Rattle.std.specs.Prelude.{◌≡◌, ℕ, List, ◌*◌, ◌≤◌}
use Rattle.fp_rows.specs.Values.{MatrixValue}
use Rattle.p_groups.specs.PGroups.{PGroup, order_of}
use Rattle.group_algebra.specs.Coordinates.{sizes}
use Rattle.group_algebra.specs.Tables.{HasShape, AreMembers, IsElementRow, IsTranslateRow, IsProductRow}
use Rattle.group_algebra.specs.Tables.{EachRow}

-- the table of a p-group of at most 256 elements, the sizes of its layers, and the rows of members, elements,
-- translates and products
pub record IsStore (G : PGroup) (layer_sizes : List ℕ)
    (members elements translates products : MatrixValue) : Type 0 where
  pub small : order_of G ≤ 256
  pub sizes_are : layer_sizes ≡ sizes G
  pub member_shape : HasShape G (order_of G) members
  pub members_are : AreMembers G members.rows
  pub element_shape : HasShape G (order_of G) elements
  pub elements_are : EachRow (IsElementRow G) elements.rows
  pub translate_shape : HasShape G (order_of G * order_of G) translates
  pub translates_are : EachRow (IsTranslateRow G) translates.rows
  pub product_shape : HasShape G (order_of G * order_of G) products
  pub products_are : EachRow (IsProductRow G) products.rows
