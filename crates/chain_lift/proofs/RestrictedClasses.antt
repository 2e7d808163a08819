-- The restriction of a class along a homomorphism is the class of the restricted cocycle.
use Rattle.std.specs.Prelude.{ℕ, List, map}
use Rattle.group_modules.specs.Field.{Below}
use Rattle.resolution_stages.proofs.FromDefinitions.{resolution-claims}
use Rattle.p_groups.specs.PGroups.{PGroup, largest_residue, group, order_of}
use Rattle.p_groups.proofs.Fields.{field}
use Rattle.group_algebra.specs.Coordinates.{layer_coordinates}
use Rattle.min_res.specs.Stages.{stage_rows}
use Rattle.min_res.proofs.StageRows.{stage_rows_are}
use Rattle.chain_maps.specs.Vectors.{vector}
use Rattle.chain_maps_along.specs.Along as along
use Rattle.class_restriction.specs.Claims.{RestrictionClaims}
use Rattle.class_restriction.proofs.Laws.{restriction-claims}
use Rattle.group_cocycles.specs.Cocycles.{cocycle_of, IsClassOf}
use Rattle.group_cocycles.proofs.Classes.{class-row}
use Rattle.chain_lift.specs.MapsAlong.{TableOverPrimeOf, with_table, restricted_row}

module _ (G : PGroup) (D : TableOverPrimeOf G) (f : Below (order_of (with_table G D)) → Below (order_of G))
    (h : along.IsHomomorphism (group (with_table G D)) (group G) f) where
  abbrev q : ℕ
  q = largest_residue G

  abbrev E : PGroup
  E = with_table G D

  claims : RestrictionClaims q (group E) (group G) f (layer_coordinates E) (stage_rows E)
      (layer_coordinates G) (stage_rows G)
  claims = restriction-claims q (group E) (group G) f h (layer_coordinates E) (stage_rows E)
      (layer_coordinates G) (stage_rows G)
      (resolution-claims q (field E) (group E) (layer_coordinates E) (stage_rows E) (stage_rows_are E))
      (resolution-claims q (field G) (group G) (layer_coordinates G) (stage_rows G) (stage_rows_are G))

  pub restricted-class : (d : ℕ) (x : List ℕ)
      → IsClassOf E d (λ xs. cocycle_of G d x (map f xs)) (restricted_row G D f d x)
  restricted-class d x =
      class-row E d (λ xs. cocycle_of G d x (map f xs))
      (along.restrict q (group E) (group G) f (layer_coordinates E) (stage_rows E) (layer_coordinates G)
      (stage_rows G) d (λ k. vector q x k.0))
      (claims.cocycle d (λ k. vector q x k.0))
