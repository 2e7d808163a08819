-- Negative standard bases of J K_d.
use Rattle.std.proofs.Common.{◌≡◌, ℕ, suc, ◌*◌, List, length, sym, ◌∙◌}
use mathlib.Core.Path.{subst}
use Rattle.linear_algebra.specs.Rows.{entry, IsInSpan, IsEchelonOf}
use Rattle.linear_algebra.specs.Choices.{IsGreedy}
use Rattle.linear_algebra.proofs.GreedyLemmas.{greedy_is_one}
use Rattle.augmentation_ideal.proofs.Nakayama.{moved-more}
use Rattle.resolution_stages.specs.Definitions.{StageRows}
use Rattle.neg_basis.specs.Results.{BasisValue, IsNegBasisOf}
use Rattle.neg_basis.specs.declared.origin.Origin.{Origin}
use Rattle.neg_basis.specs.Images.{AreImages}
use Rattle.radical_generators.specs.Claims.{RadicalGeneratorClaims, WholeClaims}
use Rattle.radical_generators.proofs.Radical.{radical-claims}
use Rattle.radical_generators.proofs.Whole.{whole-claims}
use Rattle.p_groups.specs.PGroups.{PGroup, largest_residue, group, order_of, prime_of}
use Rattle.p_groups.proofs.Fields.{residues, field, prime_power}
use Rattle.group_algebra.specs.Coordinates.{sum_coordinates, layers, layer_coordinates, row_of}
use Rattle.group_algebra.proofs.LayerLaws.{layers_are}
use Rattle.min_res.specs.LayerProducts.{layer_count, layer_products}
use Rattle.min_res.specs.Radicals.{IsRadicalBasis}
use Rattle.min_res.specs.Stages.{stage_rows, rank_of}
use Rattle.min_res.specs.Defined.{free, K}
use Rattle.min_res.proofs.StageRows.{stage_rows_are}
use Rattle.min_res.proofs.StageLaws.{submodule-list}
use Rattle.min_res.proofs.SpanMembers.{combined}

module _ (G : PGroup) where
  abbrev q : ℕ
  q = largest_residue G

  abbrev S : StageRows
  S = stage_rows G

  -- a basis of the submodule that the products of the rows by layer 1 generate
  abbrev pub IsBasisOfImages : (b p w : ℕ) (rows vectors : List (List ℕ)) → List Origin → Type 0
  IsBasisOfImages b p w rows vectors origins = (images : List (List ℕ))
      → AreImages p (layer_count G) (layer_products G b) rows images
      → IsNegBasisOf p w (layer_count G) (layer_products G b) images vectors origins

  normal : (b p w : ℕ) (rows vectors : List (List ℕ)) (origins : List Origin) → p ≡ prime_of G
      → w ≡ order_of G * b → IsBasisOfImages b p w rows vectors origins
      → IsBasisOfImages b (suc q) (order_of G * b) rows vectors origins
  normal b p w rows vectors origins e f N =
      subst (λ p. IsBasisOfImages b p (order_of G * b) rows vectors origins) (sym (residues G))
      (subst (λ p. IsBasisOfImages b p (order_of G * b) rows vectors origins) e
      (subst (λ w. IsBasisOfImages b p w rows vectors origins) f N))

  module _ (d : ℕ) where
    abbrev b : ℕ
    b = rank_of G d

    abbrev E : List (List ℕ)
    E = S.kernel d

    whole : WholeClaims q (group G) (sum_coordinates G) (layers G) b (layer_coordinates G b) E
    whole = whole-claims q (group G) (sum_coordinates G) (layers G) b (layer_coordinates G b) E
        (submodule-list G d).matrix (submodule-list G d).submodule

    claims : RadicalGeneratorClaims q (group G) (sum_coordinates G) (layers G) b (layer_coordinates G b) E E
        (whole.products.0)
    claims = radical-claims q (field G) (group G) (prime_power G) (sum_coordinates G) (layers G)
        (layers_are G) b (layer_coordinates G b) E E (whole.products.0) whole.generators whole.products.2

    -- the members of K_d are those with rows in the span of its list
    in-span : (v : (free G d).of) → K G d v → IsInSpan (suc q) E (entry (row_of G b v))
    in-span v k = ((stage_rows_are G).kernel_is d).spans (row_of G b v) (
      (layer_coordinates G b).row-is v,
      subst (K G d) (sym ((layer_coordinates G b).table-row v)) k,
    )

    module _ (B : BasisValue) (N : IsBasisOfImages b (suc q) (order_of G * b) E B.vectors B.origins) where
      abbrev basis : IsNegBasisOf (suc q) (order_of G * b) (layer_count G) (layer_products G b)
          (whole.products.0) B.vectors B.origins
      basis = N (whole.products.0) whole.products.2

      radical-at : B.p ≡ prime_of G → B.width ≡ order_of G * b → IsRadicalBasis G d B
      radical-at e f = record {
        prime_is = e;
        width_is = f;
        span_is = λ v. (
          (λ s. moved-more (free G d) _ (K G d) (combined G d) v ((claims.spans B.vectors B.origins basis v).0
              (subst (λ p. IsInSpan p B.vectors (entry (row_of G b v))) (sym (residues G)) s))),
          (λ h. subst (λ p. IsInSpan p B.vectors (entry (row_of G b v))) (residues G)
              ((claims.spans B.vectors B.origins basis v).1
              (moved-more (free G d) (K G d) _ in-span v h))),
        );
      }

      positions-at : (t : List (List ℕ)) (xs : List ℕ) → IsEchelonOf (suc q) (order_of G * b) B.vectors t
          → IsGreedy (suc q) E t xs → xs ≡ S.positions d
      positions-at t xs e g = greedy_is_one (suc q) E _ (length E) xs (S.positions d)
          (claims.greedy B.vectors B.origins t xs basis e g) ((stage_rows_are G).rows_are d)

  -- for a rank and a list that are those of the stage
  module _ (d b : ℕ) (E : List (List ℕ)) (eb : b ≡ rank_of G d) (eE : E ≡ S.kernel d) (p w : ℕ)
      (B : BasisValue) (ep : p ≡ prime_of G) (ew : w ≡ order_of G * b) (e : B.p ≡ p) (f : B.width ≡ w)
      (N : IsBasisOfImages b p w E B.vectors B.origins) where
    abbrev basis-normal : IsBasisOfImages b (suc q) (order_of G * b) E B.vectors B.origins
    basis-normal = normal b p w E B.vectors B.origins ep ew N

    pub radical-found : IsRadicalBasis G d B
    radical-found = at basis-normal (e ∙ ep) (f ∙ ew)
      where
        P : ℕ → List (List ℕ) → Type 0
        P b E = IsBasisOfImages b (suc q) (order_of G * b) E B.vectors B.origins → B.p ≡ prime_of G
            → B.width ≡ order_of G * b → IsRadicalBasis G d B

        at : P b E
        at = subst (λ b. P b E) (sym eb) (subst (λ E. P (rank_of G d) E) (sym eE) (radical-at d B))

    pub positions-by-basis : (t : List (List ℕ)) (xs : List ℕ) → IsEchelonOf B.p B.width B.vectors t
        → IsGreedy B.p E t xs → xs ≡ S.positions d
    positions-by-basis t xs h g = at basis-normal (subst (λ w. IsEchelonOf (suc q) w B.vectors t) (f ∙ ew)
        (subst (λ p. IsEchelonOf p B.width B.vectors t) prime h)) (subst (λ p. IsGreedy p E t xs) prime g)
      where
        prime : B.p ≡ suc q
        prime = e ∙ ep ∙ sym (residues G)

        P : ℕ → List (List ℕ) → Type 0
        P b E = IsBasisOfImages b (suc q) (order_of G * b) E B.vectors B.origins
            → IsEchelonOf (suc q) (order_of G * b) B.vectors t → IsGreedy (suc q) E t xs → xs ≡ S.positions d

        at : P b E
        at = subst (λ b. P b E) (sym eb) (subst (λ E. P (rank_of G d) E) (sym eE)
            (λ g. positions-at d B g t xs))
