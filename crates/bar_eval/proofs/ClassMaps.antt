-- What the class map of a p-group does, in one degree.
use Rattle.std.specs.Prelude.{◌≡◌, ℕ, suc, ◌+◌, ◌*◌, ◌%◌, List}
use Rattle.std.proofs.Common.{sym, ◌∙◌, ap}
use mathlib.Core.Path.{fun_ext, subst}
use Rattle.group_modules.specs.Field.{Below, residue, plus}
use Rattle.group_modules.specs.Tables.{monoid}
use Rattle.linear_algebra.specs.Modular.{IsCongruent}
use Rattle.linear_algebra.specs.Rows.{add_multiple, entry}
use Rattle.linear_algebra.proofs.Congruences.{congruent_add, congruent_mod, congruent_mul_left, congruent_sym}
use Rattle.linear_algebra.proofs.Congruences.{congruent_trans}
use Rattle.linear_algebra.proofs.Reducing.{entry_congruent}
use Rattle.linear_algebra.proofs.Residues.{below-path}
use Rattle.resolution_stages.specs.Claims.{ResolutionClaims}
use Rattle.resolution_stages.proofs.FromDefinitions.{resolution-claims}
use Rattle.p_groups.specs.PGroups.{PGroup, largest_residue, group, order_of, prime_of}
use Rattle.p_groups.proofs.Fields.{field, residues}
use Rattle.group_algebra.specs.Coordinates.{layer_coordinates}
use Rattle.min_res.specs.Stages.{stage_rows, rank_of}
use Rattle.min_res.proofs.StageRows.{stage_rows_are}
use Rattle.chain_maps.specs.Vectors.{vector}
use Rattle.bar_complex.specs.Cochains.{AreCohomologous}
use Rattle.bar_complex.proofs.Cohomologous.{near-sym}
use Rattle.bar_comparison.specs.Claims.{ClassMapClaims}
use Rattle.bar_comparison.specs.Comparison.{bar_cocycle}
use Rattle.bar_comparison.proofs.ClassMap.{class-map-claims}
use Rattle.bar_comparison.proofs.Classes.{bar-normal, bar-cocycle, one-class}
use Rattle.bar_comparison.proofs.Comparison.{MinimalStages}
use Rattle.bar_comparison.proofs.Stages.{stages}
use Rattle.group_cocycles.specs.Cocycles.{IsClass}
use Rattle.group_cocycles.proofs.Classes.{class-row, coboundary-zero, row_of_class}
use Rattle.bar_eval.specs.ClassMap.{IsLinear, GivesCocycles, IsInjective, EachHasOneClass}

module _ (G : PGroup) where
  abbrev q : ℕ
  q = largest_residue G

  pub claims : ResolutionClaims q (group G) (layer_coordinates G) (stage_rows G)
  claims = resolution-claims q (field G) (group G) (layer_coordinates G) (stage_rows G) (stage_rows_are G)

  abbrev pub minimal : MinimalStages q (monoid (group G))
  minimal = stages q (group G) (layer_coordinates G) (stage_rows G) claims

  module _ (d : ℕ) where
    abbrev cocycle : (Below (rank_of G d) → Below (suc q)) → List (Below (order_of G)) → Below (suc q)
    cocycle = bar_cocycle q (group G) (layer_coordinates G) (stage_rows G) d

    -- the entries of x + k y modulo p
    entry-of-sum : (k : ℕ) (x y : List ℕ) → IsClass G d x → IsClass G d y → (i : ℕ)
        → vector q (add_multiple (prime_of G) k x y) i
        ≡ plus q (vector q x i) (residue q (k * (vector q y i).0))
    entry-of-sum k x y r s i = below-path _ _ (congruent_trans
        (subst (λ p. IsCongruent p (entry (add_multiple (prime_of G) k x y) i) (entry x i + k * entry y i))
        (sym (residues G)) (entry_congruent k x y r s i))
        (congruent_add (congruent_sym (congruent_mod (entry x i)))
        (congruent_trans (congruent_mul_left k (congruent_sym (congruent_mod (entry y i))))
        (congruent_sym (congruent_mod (k * (entry y i % suc q))))))).same_remainder

    pub is_linear : IsLinear G d
    is_linear k x y r s gs =
        let C : ClassMapClaims q (group G) (layer_coordinates G) (stage_rows G) =
        class-map-claims q (group G) (layer_coordinates G) (stage_rows G) in
        ap (λ c. cocycle c gs) (fun_ext (λ i. entry-of-sum k x y r s i.0))
        ∙ C.sum d (λ i. vector q x i.0) (λ i. residue q (k * (vector q y i.0).0)) gs
        ∙ ap (plus q (cocycle (λ i. vector q x i.0) gs)) (C.multiple d k (λ i. vector q y i.0) gs)

    pub are_cocycles : GivesCocycles G d
    are_cocycles x r = (
      bar-normal minimal d (λ i. vector q x i.0),
      bar-cocycle minimal d (λ i. vector q x i.0),
    )

    pub is_injective : IsInjective G d
    is_injective x r h i = coboundary-zero G d x r h i

    pub each_has_one : EachHasOneClass G d
    each_has_one u z = let found = one-class minimal d u z in (
      row_of_class G d found.0,
      class-row G d u found.0 (λ v. (
        (λ h. found.2 v (near-sym q (monoid (group G)) d (cocycle v) u h)),
        (λ e. near-sym q (monoid (group G)) d u (cocycle v)
            (subst (λ w. AreCohomologous q (monoid (group G)) d u (cocycle w)) (sym e) found.1)),
      )),
    )
