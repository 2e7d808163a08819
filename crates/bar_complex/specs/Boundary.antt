-- The boundary of the normalised bar complex (Brown, "Cohomology of Groups", I.5), and the coboundary of
-- cochains modulo p = q + 1.
use Rattle.std.specs.Prelude.{ℕ, zero, suc, Bool, true, false, not, List, [], ◌∷◌, map}
use Rattle.group_modules.specs.Module.{Monoid, Term, lin}
use Rattle.group_modules.specs.Field.{Below, Fp}
use Rattle.bar_complex.specs.Tuples.{Tuple}

-- 1, or p - 1 for a minus sign
abbrev pub signed : ℕ → Bool → ℕ
signed q true = 1
signed q false = q

module _ (q : ℕ) (G : Monoid) where
  -- g put before the tuple of a term: c k [t] becomes c [g k|t]
  abbrev pub put : (d : ℕ) → G.elem → Term G (Tuple G.elem d) → Term G (Tuple G.elem (suc d))
  put d g a = record { coef = a.coef; elem = G.one; base = (G.mul g a.elem, a.base) }

  -- the faces of [g|t] after the first one, with signs in turn, which begin with that of s: for t = (h, t'),
  -- [g h|t'] and then the later faces of [h|t'] with g put before them; for one element g, the empty tuple
  abbrev pub faces : (d : ℕ) → Bool → G.elem → Tuple G.elem d → List (Term G (Tuple G.elem d))
  faces zero s g t = record { coef = signed q s; elem = G.one; base = t } ∷ []
  faces (suc d) s g t =
      record { coef = signed q s; elem = G.one; base = (G.mul g t.0, t.1) }
      ∷ map (put d g) (faces d (not s) t.0 t.1)

  -- the boundary of [g|t]: g[t], and the other faces
  abbrev pub boundary : (d : ℕ) → Tuple G.elem (suc d) → List (Term G (Tuple G.elem d))
  boundary d t = record { coef = 1; elem = t.0; base = t.1 } ∷ faces d false t.0 t.1

  -- the coboundary of a cochain of degree d: its value at the boundary of a tuple
  abbrev pub coboundary : (d : ℕ) → (Tuple G.elem d → Below (suc q)) → Tuple G.elem (suc d) → Below (suc q)
  coboundary d u t = lin (Fp q G) u (boundary d t)
