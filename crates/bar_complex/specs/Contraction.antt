-- The normalised bar complex by formal sums, its boundary on them and its contraction (Brown, "Cohomology of
-- Groups", I.5).
use Rattle.std.specs.Prelude.{◌≡◌, ℕ, zero, suc, List, [], ◌∷◌, ◌++◌, ◌*◌, map}
use Rattle.group_modules.specs.Module.{Monoid, Term}
use Rattle.group_modules.specs.Operations.{Ops}
use Rattle.group_modules.specs.Field.{Below, residue, plus}
use Rattle.bar_complex.specs.Tuples.{Tuple}
use Rattle.bar_complex.specs.Boundary.{boundary}
use Rattle.bar_complex.specs.Cochains.{IsZeroAtIdentity}

module _ (q : ℕ) (G : Monoid) where
  -- a formal sum of terms c g[t], with t of d elements
  abbrev pub Chain : ℕ → Type 0
  Chain d = List (Term G (Tuple G.elem d))

  -- c g times a formal sum
  abbrev pub multiple : (d : ℕ) → ℕ → G.elem → Chain d → Chain d
  multiple d c g x = map (λ a. record { coef = c * a.coef; elem = G.mul g a.elem; base = a.base }) x

  -- x - y, where -1 is p - 1
  abbrev pub chain_minus : (d : ℕ) → Chain d → Chain d → Chain d
  chain_minus d x y = x ++ multiple d q G.one y

  -- the formal sums of degree d, with their sums and the action of the group
  abbrev pub chains : ℕ → Ops G.elem
  chains d = record { of = Chain d; zero = []; add = λ x y. x ++ y; act = λ g x. multiple d 1 g x }

  -- the tuple t as a formal sum
  abbrev pub single : (d : ℕ) → Tuple G.elem d → Chain d
  single d t = record { coef = 1; elem = G.one; base = t } ∷ []

  -- the boundary of a formal sum, linear over the group algebra
  abbrev pub chain_boundary : (d : ℕ) → Chain (suc d) → Chain d
  chain_boundary d [] = []
  chain_boundary d (a ∷ x) = multiple d a.coef a.elem (boundary q G d a.base) ++ chain_boundary d x

  -- the contraction: g[t] goes to [g|t]
  abbrev pub contraction : (d : ℕ) → Chain d → Chain (suc d)
  contraction d x = map (λ a. record { coef = a.coef; elem = G.one; base = (a.elem, a.base) }) x

  -- a formal sum of degree 0, in which each group element becomes the identity
  abbrev pub collapsed : Chain zero → Chain zero
  collapsed x = map (λ a. record { coef = a.coef; elem = G.one; base = a.base }) x

  -- the value of f, a function of g and t, at a formal sum
  abbrev pub value : (d : ℕ) → (G.elem → Tuple G.elem d → Below (suc q)) → Chain d → Below (suc q)
  value d f [] = residue q 0
  value d f (a ∷ x) = plus q (residue q (a.coef * (f a.elem a.base).0)) (value d f x)

  -- x and y are the same in the normalised bar complex: each function that is 0 where an entry of the tuple
  -- is the identity has the same value at both
  abbrev pub AreSame : (d : ℕ) → (x y : Chain d) → Type 0
  AreSame d x y =
      (f : G.elem → Tuple G.elem d → Below (suc q)) → ((g : G.elem) → IsZeroAtIdentity q G d (f g))
      → value d f x ≡ value d f y
