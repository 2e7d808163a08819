-- Rows that hold the images of members of the layer basis.
use Rattle.std.specs.Prelude.{◌≡◌, ℕ, ◌<◌, ◌≤◌, length}
use Rattle.linear_algebra.specs.Rows.{entry}
use Rattle.group_algebra.specs.declared.combinations.Images.{Images}

-- the rows are over p, they have this width, and there are at most 65536; the factors are below p
pub record AreOver (images : Images) (p n : ℕ) : Type 0 where
  pub prime : images.rows.now.p ≡ p
  pub width : images.rows.now.width ≡ n
  pub few : length images.rows.now.rows ≤ 65536
  pub factors : (i : ℕ) → i < length images.factors.now → entry images.factors.now i < p
