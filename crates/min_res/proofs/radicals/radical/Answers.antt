use Rattle.std.proofs.Common.{◌≡◌, ℕ, List, ◌*◌, ◌^◌, ◌≤◌, length, arith, ap, ap₂, sym, ◌∙◌}
use Rattle.std.proofs.lemmas.Nat.{mul-le}
use mathlib.Core.Path.{subst}
use Rattle.linear_algebra.specs.Rows.{IsEchelonOf}
use Rattle.linear_algebra.specs.Choices.{IsGreedy}
use Rattle.neg_basis.specs.Results.{BasisValue}
use Rattle.fp_rows.specs.Values.{MatrixValue}
use Rattle.p_groups.specs.PGroups.{PGroup, order_of, prime_of}
use Rattle.neg_basis.proofs.ImageLemmas.{echelon-count}
use Rattle.min_res.specs.LayerProducts.{layer_count}
use Rattle.min_res.specs.Radicals.{IsRadicalBasis}
use Rattle.min_res.specs.Stages.{stage_rows, rank_of}
use Rattle.min_res.proofs.ProductMaps.{eight-members, few-members}
use Rattle.min_res.proofs.RadicalBases.{IsBasisOfImages, radical-found, positions-by-basis}
use Rattle.min_res.proofs.radicals.radical.Goals as goal

-- what the calls promise, of the group and the rank that the products keep
module _ (G H : PGroup) (rank b : ℕ) (list : MatrixValue) (B : BasisValue) (e : H ≡ G) (f : b ≡ rank)
    (list_prime : list.p ≡ prime_of G) (list_width : list.width ≡ order_of G * rank)
    (basis_prime : B.p ≡ list.p) (basis_width : B.width ≡ list.width)
    (basis : IsBasisOfImages H b list.p list.width list.rows B.vectors B.origins) (d : ℕ)
    (rank_is : rank ≡ rank_of G d) (list_is : list.rows ≡ (stage_rows G).kernel d) where
  rank_at : b ≡ rank_of H d
  rank_at = f ∙ rank_is ∙ ap (λ G. rank_of G d) (sym e)

  list_at : list.rows ≡ (stage_rows H).kernel d
  list_at = list_is ∙ ap (λ G. (stage_rows G).kernel d) (sym e)

  prime_at : list.p ≡ prime_of H
  prime_at = list_prime ∙ ap prime_of (sym e)

  width_at : list.width ≡ order_of H * b
  width_at = list_width ∙ ap₂ (λ G b. order_of G * b) (sym e) (sym f)

  is-radical : IsRadicalBasis G d B
  is-radical = subst (λ G. IsRadicalBasis G d B) e (radical-found H d b list.rows rank_at list_at list.p
      list.width B prime_at width_at basis_prime basis_width basis)

  chosen : (rows : List (List ℕ)) (positions : List ℕ) → IsEchelonOf B.p B.width B.vectors rows
      → IsGreedy B.p list.rows rows positions → positions ≡ (stage_rows G).positions d
  chosen rows positions h g = positions-by-basis H d b list.rows rank_at list_at list.p list.width B prime_at
      width_at basis_prime basis_width basis rows positions h g ∙ ap (λ G. (stage_rows G).positions d) e

pub prove-unreachable-requires : goal.prove-unreachable-requires
prove-unreachable-requires c = omega (
  arith,
  c.rows.ensures.count,
  c.width.ensures,
  echelon-count c.args.list.now.rows c.rows.ensures.matrix c.rows.ensures.echelon,
)

pub of_images-requires-clause-same_field : goal.of_images-requires-clause-same_field
of_images-requires-clause-same_field c = c.requires.list_prime
    ∙ ap prime_of (sym c.new-products.ensures.algebra)

pub of_images-requires-clause-same_width : goal.of_images-requires-clause-same_width
of_images-requires-clause-same_width c = c.requires.list_width
    ∙ ap₂ (λ (G : PGroup) (b : ℕ). order_of G * b) (sym c.new-products.ensures.algebra)
    (sym c.new-products.ensures.rank)

pub of_images-requires-clause-maps_fit : goal.of_images-requires-clause-maps_fit
of_images-requires-clause-maps_fit c = omega (
  arith,
  few-members c.new-products.result.algebra.now,
  c.new-products.result.small,
)

pub of_images-requires-clause-images_fit : goal.of_images-requires-clause-images_fit
of_images-requires-clause-images_fit c =
    let few_rows : length c.args.list.now.rows ≤ 2 ^ 28 = omega (
      arith,
      echelon-count c.args.list.now.rows c.rows.ensures.matrix c.rows.ensures.echelon,
      c.requires.small,
    ) in
    let few_maps : layer_count c.new-products.result.algebra.now ≤ 2 ^ 3 =
    eight-members c.new-products.result.algebra.now c.new-products.result.small in
    omega (
      arith,
      mul-le (length c.args.list.now.rows) (layer_count c.new-products.result.algebra.now) (2 ^ 28) (2 ^ 3)
          few_rows few_maps,
    )

pub returns-clause-radical : goal.returns-clause-radical
returns-clause-radical c = is-radical c.args.algebra.now c.new-products.result.algebra.now c.args.rank
    c.new-products.result.rank c.args.list.now c.in_ok-basis.basis c.new-products.ensures.algebra
    c.new-products.ensures.rank c.requires.list_prime c.requires.list_width
    c.in_ok-basis.ensures.same_field c.in_ok-basis.ensures.same_width c.in_ok-basis.ensures.basis

pub returns-clause-positions : goal.returns-clause-positions
returns-clause-positions c = chosen c.args.algebra.now c.new-products.result.algebra.now c.args.rank
    c.new-products.result.rank c.args.list.now c.in_ok-basis.basis c.new-products.ensures.algebra
    c.new-products.ensures.rank c.requires.list_prime c.requires.list_width
    c.in_ok-basis.ensures.same_field c.in_ok-basis.ensures.same_width c.in_ok-basis.ensures.basis
