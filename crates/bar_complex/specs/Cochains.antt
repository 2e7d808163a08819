-- Cochains modulo p = q + 1 as functions on lists of group elements. In degree d only the values at the lists
-- of d entries count, so that cochains of one degree can be compared however the degree is written (Brown,
-- "Cohomology of Groups", III.1 and V.3).
use Rattle.std.specs.Prelude.{◌≡◌, ℕ, zero, suc, List, [], ◌*◌, take, drop}
use Rattle.group_modules.specs.Module.{Monoid}
use Rattle.group_modules.specs.Field.{Below, residue, plus, minus}
use Rattle.bar_complex.specs.Tuples.{Tuple, HasIdentity, entries}
use Rattle.bar_complex.specs.Boundary.{coboundary}

-- a with n changes of sign
abbrev pub turned : (q : ℕ) → ℕ → Below (suc q) → Below (suc q)
turned q zero a = a
turned q (suc n) a = minus q (turned q n a)

-- the cup product of two cochains, the first of degree j
abbrev pub cup : {E : Type 0} (q j : ℕ) → (u v : List E → Below (suc q)) → List E → Below (suc q)
cup q j u v xs = residue q ((u (take j xs)).0 * (v (drop j xs)).0)

module _ (q : ℕ) (G : Monoid) where
  abbrev pub Cochain : Type 0
  Cochain = List G.elem → Below (suc q)

  -- w, on the tuples of d elements, is 0 where an entry is the identity
  abbrev pub IsZeroAtIdentity : (d : ℕ) → (Tuple G.elem d → Below (suc q)) → Type 0
  IsZeroAtIdentity d w = (t : Tuple G.elem d) → HasIdentity G d t → w t ≡ residue q 0

  -- u, of degree d, is 0 where an entry is the identity
  abbrev pub IsNormalised : ℕ → Cochain → Type 0
  IsNormalised d u = IsZeroAtIdentity d (λ t. u (entries d t))

  -- u, of degree d, is 0 at each boundary
  abbrev pub IsCocycle : ℕ → Cochain → Type 0
  IsCocycle d u = (t : Tuple G.elem (suc d)) → coboundary q G d (λ s. u (entries d s)) t ≡ residue q 0

  -- u is a cocycle of degree d of the normalised complex
  abbrev pub IsNormalisedCocycle : ℕ → Cochain → Type 0
  IsNormalisedCocycle d u = IsNormalised d u × IsCocycle d u

  -- u is, in degree d, the coboundary of a normalised cochain w; in degree 0 it is 0
  abbrev pub IsCoboundary : ℕ → Cochain → Type 0
  IsCoboundary zero u = u [] ≡ residue q 0
  IsCoboundary (suc d) u =
      (w : Tuple G.elem d → Below (suc q)) × IsZeroAtIdentity d w
      × ((t : Tuple G.elem (suc d)) → u (entries (suc d) t) ≡ coboundary q G d w t)

  -- u - v is, in degree d, a coboundary; in degree 0 the two are equal
  abbrev pub AreCohomologous : ℕ → (u v : Cochain) → Type 0
  AreCohomologous zero u v = u [] ≡ v []
  AreCohomologous (suc d) u v = IsCoboundary (suc d) (λ xs. plus q (u xs) (minus q (v xs)))
