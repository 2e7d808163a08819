-- The restriction of a class to a subgroup, as a polynomial, is that of its cocycle.
use Rattle.std.specs.Prelude.{ℕ, List, [], ◌∷◌, length, map}
use mathlib.Core.Path.{subst, fun_ext}
use Rattle.group_modules.specs.Field.{Below}
use Rattle.group_modules.specs.Tables.{monoid}
use Rattle.resolution_stages.proofs.FromDefinitions.{resolution-claims}
use Rattle.p_groups.specs.PGroups.{PGroup, largest_residue, group, order_of}
use Rattle.p_groups.proofs.Fields.{field}
use Rattle.elementary_subgroups.specs.Bases.{NumberedSubgroup, IsSubgroupOf}
use Rattle.group_algebra.specs.Coordinates.{layer_coordinates}
use Rattle.min_res.specs.Stages.{stage_rows, rank_of}
use Rattle.min_res.proofs.StageRows.{stage_rows_are}
use Rattle.chain_maps.proofs.Vectors.{extended-at}
use Rattle.chain_maps_along.specs.Along as along
use Rattle.bar_complex.proofs.Cohomologous.{near-refl, near-trans}
use Rattle.class_restriction.specs.Claims.{RestrictionClaims}
use Rattle.class_restriction.proofs.Laws.{restriction-claims}
use Rattle.class_restriction.proofs.Pull.{pull-near}
use Rattle.class_restriction.proofs.Restrict.{Homomorphism}
use Rattle.graded_polynomials.specs.Polynomials.{Polynomial}
use Rattle.graded_algebra.specs.Algebras.{Generator}
use Rattle.graded_algebra.specs.Vectors.{Vector}
use Rattle.cohomology_algebra.specs.Claims.{vector_cocycle}
use Rattle.group_cocycles.specs.Cocycles.{GroupCochain, AreCohomologous}
use Rattle.group_cocycles.specs.Rings.{cochain_of, cocycles_of}
use Rattle.group_cocycles.proofs.Rings.{value-cocycle}
use Rattle.chain_lift.specs.Embeddings.{elementary, embedding}
use Rattle.chain_lift.proofs.EmbeddingElements.{homomorphism}
use Rattle.coho_report.specs.Related.{AreRelated}
use Rattle.coho_report.specs.Subgroups.{IsImage, IsToldOf, restricted}
use Rattle.coho_report.specs.Values.{SubgroupValue}
use Rattle.coho_report.specs.Cohomology.{IsRestriction, AreRestrictions}
use Rattle.coho_report.proofs.SubgroupRings.{ring_of}

module _ (G : PGroup) (s : NumberedSubgroup) (S : IsSubgroupOf G.table s) where
  abbrev q : ℕ
  q = largest_residue G

  abbrev E : PGroup
  E = elementary G (length s.basis)

  abbrev f : Below (order_of E) → Below (order_of G)
  f = embedding G s.basis

  abbrev along-embedding : Homomorphism (group E) (group G)
  along-embedding = record { to = f; to-mul = homomorphism G s S }

  claims : RestrictionClaims q (group E) (group G) f (layer_coordinates E) (stage_rows E)
      (layer_coordinates G) (stage_rows G)
  claims =
      restriction-claims q (group E) (group G) f (homomorphism G s S) (layer_coordinates E) (stage_rows E)
      (layer_coordinates G) (stage_rows G)
      (resolution-claims q (field E) (group E) (layer_coordinates E) (stage_rows E) (stage_rows_are E))
      (resolution-claims q (field G) (group G) (layer_coordinates G) (stage_rows G) (stage_rows_are G))

  abbrev own_cocycle : ℕ → Vector q → GroupCochain E
  own_cocycle d v = vector_cocycle q (group E) (layer_coordinates E) (stage_rows E) d v

  abbrev large_cocycle : ℕ → Vector q → GroupCochain G
  large_cocycle d v = vector_cocycle q (group G) (layer_coordinates G) (stage_rows G) d v

  -- the cocycle of the restriction of a class, and the restriction of its cocycle
  restricted-cocycle : (d : ℕ) (v : Vector q)
      → AreCohomologous E d (own_cocycle d (restricted G s.basis d v))
      (λ xs. large_cocycle d v (map f xs))
  restricted-cocycle d v =
      (claims.cocycle d (λ k. v k.0) (λ i. restricted G s.basis d v i.0)).1
      (fun_ext (λ i. extended-at (rank_of E d)
      (along.restrict q (group E) (group G) f (layer_coordinates E) (stage_rows E) (layer_coordinates G)
      (stage_rows G) d (λ k. v k.0)) i))

  pub image-is : (own : List (Generator (Vector q))) (g : Generator (Vector q)) (y : Polynomial)
      → IsImage G s.basis own g y
      → AreCohomologous E g.degree (cochain_of E (cocycles_of E own) y.terms)
      (λ xs. large_cocycle g.degree g.class (map f xs))
  image-is own g y I =
      near-trans q (monoid (group E)) g.degree (cochain_of E (cocycles_of E own) y.terms)
      (own_cocycle g.degree (restricted G s.basis g.degree g.class))
      (λ xs. large_cocycle g.degree g.class (map f xs))
      (subst (λ v. AreCohomologous E g.degree (cochain_of E (cocycles_of E own) y.terms)
      (own_cocycle g.degree v)) I.form.value_is
      (value-cocycle E own g.degree y.terms I.form.polynomial.over))
      (restricted-cocycle g.degree g.class)

  -- so the image of a class is the restriction of each cocycle that is cohomologous to its own
  pub restriction-is : (own : List (Generator (Vector q))) (rs : List Polynomial) (g : Generator (Vector q))
      (u : GroupCochain G) → AreCohomologous G g.degree (large_cocycle g.degree g.class) u
      → (y : Polynomial) → IsImage G s.basis own g y
      → IsRestriction G (record { subgroup = s; generators = own; relations = rs })
      (record { degree = g.degree; class = u }) y
  restriction-is own rs g u close y I = record {
    degree_is = I.degree_is;
    polynomial = I.form.polynomial;
    cohomologous = near-trans q (monoid (group E)) g.degree (cochain_of E (cocycles_of E own) y.terms)
        (λ xs. large_cocycle g.degree g.class (map f xs)) (λ xs. u (map f xs)) (image-is own g y I)
        (pull-near along-embedding q g.degree (large_cocycle g.degree g.class) u close);
  }

  images-are-restrictions : (own gs : List (Generator (Vector q))) (rs ys : List Polynomial)
      → AreRelated (IsImage G s.basis own) gs ys
      → AreRelated (IsRestriction G (record { subgroup = s; generators = own; relations = rs }))
      (cocycles_of G gs) ys
  images-are-restrictions own [] rs [] r = r
  images-are-restrictions own [] rs (y ∷ ys) r = absurd r
  images-are-restrictions own (g ∷ gs) rs [] r = absurd r
  images-are-restrictions own (g ∷ gs) rs (y ∷ ys) r = (
    restriction-is own rs g (large_cocycle g.degree g.class)
        (near-refl q (monoid (group G)) g.degree (large_cocycle g.degree g.class)) y r.0,
    images-are-restrictions own gs rs ys r.1,
  )

  pub told-restrictions : (n : ℕ) (gs : List (Generator (Vector q))) (v : SubgroupValue)
      (T : IsToldOf G n gs s v)
      → AreRestrictions G (cocycles_of G gs) (ring_of G n gs s v T) v
  told-restrictions n gs v T = record {
    basis_is = T.basis_is;
    degrees_are = T.generators_are;
    restrictions = images-are-restrictions T.own gs T.relations v.images T.images_are;
  }
