-- The product by a lift is the class of the cup product of cocycles.
use Rattle.std.specs.Prelude.{ℕ, ◌+◌, List}
use mathlib.Core.Path.{subst}
use Rattle.group_modules.specs.Field.{Below}
use Rattle.resolution_stages.proofs.FromDefinitions.{resolution-claims}
use Rattle.p_groups.specs.PGroups.{PGroup, largest_residue, group}
use Rattle.p_groups.proofs.Fields.{field}
use Rattle.group_algebra.specs.Coordinates.{layer_coordinates}
use Rattle.min_res.specs.Stages.{stage_rows, rank_of}
use Rattle.min_res.proofs.StageRows.{stage_rows_are}
use Rattle.chain_maps.specs.Lifts.{ahead, Class, product}
use Rattle.chain_maps.specs.Vectors.{vector, entries}
use Rattle.chain_maps.proofs.Vectors.{ahead-is}
use Rattle.cup_products.specs.Claims.{ProductClaims}
use Rattle.cup_products.proofs.Laws.{product-claims}
use Rattle.group_cocycles.specs.Cocycles.{GroupCochain, cup, cocycle_of, IsClassOf}
use Rattle.group_cocycles.proofs.Classes.{class-row}
use Rattle.chain_lift.specs.Products.{multiply, product_row}

module _ (G : PGroup) (j e : ℕ) (a c : List ℕ) where
  abbrev q : ℕ
  q = largest_residue G

  abbrev class_of : (d : ℕ) → List ℕ → Class q (group G) (layer_coordinates G) (stage_rows G) d
  class_of d x i = vector q x i.0

  claims : ProductClaims q (group G) (layer_coordinates G) (stage_rows G)
  claims = product-claims q (group G) (layer_coordinates G) (stage_rows G) (field G)
      (resolution-claims q (field G) (group G) (layer_coordinates G) (stage_rows G) (stage_rows_are G))

  abbrev cup_of : GroupCochain G
  cup_of = cup G j (cocycle_of G j a) (cocycle_of G e c)

  pub product-class : IsClassOf G (j + e) cup_of (product_row G j e a c)
  product-class =
      subst (λ m. IsClassOf G m cup_of (entries (rank_of G m) (multiply G j e (vector q a) (vector q c))))
      (ahead-is e j)
      (class-row G (ahead e j) cup_of
      (product q (group G) (layer_coordinates G) (stage_rows G) e (class_of e c) j (class_of j a))
      (claims.product (j, class_of j a) (e, class_of e c)))
