-- Negative standard bases of J K_d.
use Rattle.std.specs.Prelude.{◌≡◌, ◌↔◌, ◌*◌, ℕ}
use Rattle.linear_algebra.specs.Rows.{entry, IsInSpan}
use Rattle.augmentation_ideal.specs.Radical.{Moved}
use Rattle.neg_basis.specs.Results.{BasisValue}
use Rattle.p_groups.specs.PGroups.{PGroup, order_of, prime_of}
use Rattle.group_algebra.specs.Coordinates.{row_of}
use Rattle.min_res.specs.Stages.{rank_of}
use Rattle.min_res.specs.Defined.{free, K}

-- the span of B is J K_d: the span of all (g - 1) v with v in K_d
pub record IsRadicalBasis (G : PGroup) (d : ℕ) (B : BasisValue) : Type 0 where
  pub prime_is : B.p ≡ prime_of G
  pub width_is : B.width ≡ order_of G * rank_of G d
  pub span_is : (v : (free G d).of) → IsInSpan (prime_of G) B.vectors (entry (row_of G (rank_of G d) v))
      ↔ Moved (free G d) (K G d) v
