-- What holds of the normalised bar complex of a group.
use Rattle.std.specs.Prelude.{◌≡◌, ℕ, suc, [], ◌++◌}
use Rattle.group_modules.specs.Field.{Below, residue}
use Rattle.group_modules.specs.Tables.{Group, monoid}
use Rattle.bar_complex.specs.Tuples.{Tuple}
use Rattle.bar_complex.specs.Boundary.{boundary, coboundary}
use Rattle.bar_complex.specs.Cochains.{IsZeroAtIdentity}
use Rattle.bar_complex.specs.Contraction.{Chain, chain_boundary, contraction, collapsed, AreSame}
use Rattle.bar_complex.specs.Faces.{face_sum}

pub record BarComplexClaims {n : ℕ} (q : ℕ) (Γ : Group n) : Type 0 where
  -- the boundary is the alternating sum of the faces
  pub faces : (d : ℕ) (t : Tuple (Below n) (suc d)) → boundary q (monoid Γ) d t ≡ face_sum q (monoid Γ) d t
  -- the boundary of a boundary is 0
  pub boundary_twice : (d : ℕ) (x : Chain q (monoid Γ) (suc (suc d)))
      → AreSame q (monoid Γ) d (chain_boundary q (monoid Γ) d (chain_boundary q (monoid Γ) (suc d) x)) []
  -- the boundary of the contraction and the contraction of the boundary make the identity; in degree 0 it is
  -- the boundary of the contraction and the collapsed sum
  pub contracts : (d : ℕ) (x : Chain q (monoid Γ) (suc d))
      → AreSame q (monoid Γ) (suc d)
      (chain_boundary q (monoid Γ) (suc d) (contraction q (monoid Γ) (suc d) x)
      ++ contraction q (monoid Γ) d (chain_boundary q (monoid Γ) d x)) x
  pub contracts_start : (x : Chain q (monoid Γ) 0)
      → AreSame q (monoid Γ) 0
      (chain_boundary q (monoid Γ) 0 (contraction q (monoid Γ) 0 x) ++ collapsed q (monoid Γ) x) x
  -- the coboundary of a normalised cochain is normalised, and its coboundary is 0
  pub normalised : (d : ℕ) (w : Tuple (Below n) d → Below (suc q)) → IsZeroAtIdentity q (monoid Γ) d w
      → IsZeroAtIdentity q (monoid Γ) (suc d) (coboundary q (monoid Γ) d w)
  pub twice : (d : ℕ) (w : Tuple (Below n) d → Below (suc q)) → IsZeroAtIdentity q (monoid Γ) d w
      → (t : Tuple (Below n) (suc (suc d)))
      → coboundary q (monoid Γ) (suc d) (coboundary q (monoid Γ) d w) t ≡ residue q 0
