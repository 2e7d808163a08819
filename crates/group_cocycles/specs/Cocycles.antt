-- Classes of a p-group as cocycles of its normalised bar complex (Brown, "Cohomology of Groups", I.5 and
-- III.1). A class of degree d is a row: a number modulo p for each basis element of degree d.
use Rattle.std.specs.Prelude.{◌≡◌, ℕ, List}
use Rattle.group_modules.specs.Tables.{monoid}
use Rattle.linear_algebra.specs.Rows.{IsRow}
use Rattle.p_groups.specs.PGroups.{PGroup, largest_residue, group, prime_of}
use Rattle.group_algebra.specs.Coordinates.{layer_coordinates}
use Rattle.min_res.specs.Stages.{stage_rows, rank_of}
use Rattle.chain_maps.specs.Vectors.{vector}
use Rattle.bar_complex.specs.Cochains as cochains
use Rattle.bar_complex.specs.Cochains.{Cochain}
use Rattle.bar_comparison.specs.Comparison.{bar_cocycle}

module _ (G : PGroup) where
  -- the cochains of the group modulo p
  abbrev pub GroupCochain : Type 0
  GroupCochain = Cochain (largest_residue G) (monoid (group G))

  -- u is a cocycle of degree d of the normalised bar complex
  abbrev pub IsCocycle : ℕ → GroupCochain → Type 0
  IsCocycle d u = cochains.IsNormalisedCocycle (largest_residue G) (monoid (group G)) d u

  -- u is a coboundary of degree d of the normalised bar complex
  abbrev pub IsCoboundary : ℕ → GroupCochain → Type 0
  IsCoboundary d u = cochains.IsCoboundary (largest_residue G) (monoid (group G)) d u

  -- u and v, of degree d, differ by a coboundary
  abbrev pub AreCohomologous : ℕ → GroupCochain → GroupCochain → Type 0
  AreCohomologous d u v = cochains.AreCohomologous (largest_residue G) (monoid (group G)) d u v

  -- the cup product of u, of degree j, and v
  abbrev pub cup : ℕ → GroupCochain → GroupCochain → GroupCochain
  cup j u v = cochains.cup (largest_residue G) j u v

  -- x is a class of degree d
  abbrev pub IsClass : ℕ → List ℕ → Type 0
  IsClass d x = IsRow (prime_of G) (rank_of G d) x

  -- the cocycle of the class x of degree d, by the comparison of the bar complex with the resolution
  abbrev pub cocycle_of : ℕ → List ℕ → GroupCochain
  cocycle_of d x =
      bar_cocycle (largest_residue G) (group G) (layer_coordinates G) (stage_rows G) d
      (λ i. vector (largest_residue G) x i.0)

  -- x is the class of the cochain u of degree d: the one class whose cocycle differs by a coboundary from u
  pub record IsClassOf (d : ℕ) (u : GroupCochain) (x : List ℕ) : Type 0 where
    pub class : IsClass d x
    pub cohomologous : AreCohomologous d (cocycle_of d x) u
    pub only : (y : List ℕ) → IsClass d y → AreCohomologous d (cocycle_of d y) u → y ≡ x
