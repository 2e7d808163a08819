-- What was computed from the stage of degree d is the stage of degree d + 1.
use Rattle.std.proofs.Common.{◌≡◌, ℕ, zero, suc, ◌+◌, ◌*◌, ◌^◌, ◌<◌, ◌≤◌, List, length, map, inl, inr, arith}
use Rattle.std.proofs.Common.{ap, sym, ◌∙◌, refl}
use Rattle.std.specs.Prelude.{Some, slice_index}
use Rattle.std.proofs.lemmas.List.{length_push, length-map}
use Rattle.std.proofs.lemmas.Nat.{mul-le}
use mathlib.Core.Path.{subst}
use Rattle.group_table.specs.Tables.{order}
use Rattle.linear_algebra.specs.Rows.{row, AreInSpan}
use Rattle.linear_algebra.specs.Choices.{rows_at, IsGreedyBelow, ArePreimages}
use Rattle.linear_algebra.specs.Kernels.{unit_row, IsKernelOf}
use Rattle.linear_algebra.proofs.GreedyChoice.{greedy-below}
use Rattle.resolution_stages.specs.Definitions.{StageRows, images}
use Rattle.resolution_stages.specs.Checks.{StageParts}
use Rattle.resolution_stages.specs.Computed.{IsMatrixOf}
use Rattle.fp_rows.specs.Values.{MatrixValue}
use Rattle.neg_basis.proofs.ImageLemmas.{echelon-count}
use Rattle.p_groups.specs.PGroups.{PGroup, largest_residue, order_of}
use Rattle.group_algebra.specs.Coordinates.{layer_coordinates, table_of}
use Rattle.min_res.proofs.MapRows.{map-by, HoldsValues}
use Rattle.min_res.specs.Stages.{stage_rows, rank_of}
use Rattle.min_res.proofs.StageRows.{stage_rows_are}
use Rattle.min_res.specs.Values.{BoundaryValue, StageValue}
use Rattle.min_res.specs.Defined.{∂, σ, boundary_row, kernel_value, IsBoundaryAt, IsStageAt}
use Rattle.min_res.proofs.NextStage.{targets, parts-found}
use Rattle.min_res.proofs.FirstKernel.{matrix-value}

-- a greedy choice takes no more rows than there are
pub greedy-count : (p : ℕ) (s t : List (List ℕ)) (n : ℕ) (xs : List ℕ) → IsGreedyBelow p s t n xs
    → length xs ≤ n
greedy-count p s t zero xs g = let e : length xs ≡ 0 = ap (λ (x : List ℕ). length x) g in omega (arith, e)
greedy-count p s t (suc n) xs g = go g (λ ys k. greedy-count p s t n ys k)
  where
    go : IsGreedyBelow p s t (suc n) xs → ((ys : List ℕ) → IsGreedyBelow p s t n ys → length ys ≤ n)
        → length xs ≤ suc n
    go (inl k) ih = let l : length xs ≤ n = ih xs k.0 in omega (arith, l)
    go (inr k) ih = let l : length k.0 ≤ n = ih k.0 k.1 in let e : length xs ≡ length k.0 + 1 =
        ap (λ (x : List ℕ). length x) k.3 ∙ length_push k.0 n in omega (arith, l, e)

module _ (G : PGroup) where
  abbrev S : StageRows
  S = stage_rows G

  pub positions-inside : (d : ℕ) (i : ℕ) → i < length (S.positions d)
      → slice_index (S.positions d) i < length (S.kernel d)
  positions-inside d i l = (greedy-below (suc (largest_residue G)) (S.kernel d) _ (length (S.kernel d))
      (S.positions d) ((stage_rows_are G).rows_are d) i l).1

  pub positions-count : (d : ℕ) → length (S.positions d) ≤ length (S.kernel d)
  positions-count d = greedy-count (suc (largest_residue G)) (S.kernel d) _ (length (S.kernel d))
      (S.positions d) ((stage_rows_are G).rows_are d)

  -- of any lists that are the stage's
  pub inside-of : (d : ℕ) (xs : List ℕ) (E : List (List ℕ)) → xs ≡ S.positions d → E ≡ S.kernel d → (i : ℕ)
      → i < length xs → slice_index xs i < length E
  inside-of d xs E ex eE = subst (λ xs. (i : ℕ) → i < length xs → slice_index xs i < length E) (sym ex)
      (subst (λ E. (i : ℕ) → i < length (S.positions d)
      → slice_index (S.positions d) i < length E) (sym eE) (positions-inside d))

  -- the dimension of the next free module is small where the list of K_d is
  pub small-dimension : (d w n b : ℕ) → w ≡ order G.table * rank_of G d → w ≤ 2 ^ 28 → n ≤ 256
      → b ≡ length (S.positions d) → n * b < 2 ^ 64
  small-dimension d w n b e s m f =
      let a : length (S.positions d) ≤ length (S.kernel d) = positions-count d in
      let k : length (S.kernel d) ≤ order G.table * rank_of G d =
      echelon-count (S.kernel d) ((stage_rows_are G).kernel_is d).matrix
      ((stage_rows_are G).kernel_is d).echelon in
      let l : b ≤ 268435456 = omega (arith, a, k, e, s, f) in
      let p : n * b ≤ 256 * 268435456 = mul-le n b 256 268435456 m l in omega (arith, p)

  -- the values at the unit rows of the map by the chosen rows are the matrix of the boundary
  matrix-at : (d : ℕ) (M : List (List ℕ)) → HoldsValues G (rank_of G d) (images S d) M
      → IsMatrixOf (layer_coordinates G (rank_of G (suc d))) (layer_coordinates G (rank_of G d)) (∂ G d) M
  matrix-at d M h = record {
    count = h.count ∙ ap (λ m. order_of G * m) count;
    each = λ j l. h.each j (subst (λ m. j < order_of G * m) (sym count) l)
        ∙ map-by G (rank_of G d) (length (S.positions d)) (images S d) count
        (λ i. table_of G (rank_of G d) (row (images S d) i.0)) (λ i. refl)
        (unit_row (order_of G * length (images S d)) j)
        ∙ ap (λ m. boundary_row G d (unit_row (order_of G * m) j)) count;
  }
    where
      count : length (images S d) ≡ length (S.positions d)
      count = length-map (S.positions d) (row (S.kernel d))

  module _ (d b : ℕ) (E : List (List ℕ)) (xs : List ℕ) (M : List (List ℕ)) (eb : b ≡ rank_of G d)
      (eE : E ≡ S.kernel d) (ex : xs ≡ S.positions d)
      (values : HoldsValues G b (rows_at E xs) M) where
    pub defined-matrix : IsMatrixOf (layer_coordinates G (rank_of G (suc d)))
        (layer_coordinates G (rank_of G d)) (∂ G d) M
    defined-matrix = matrix-at d M (subst (λ xs. HoldsValues G (rank_of G d) (rows_at (S.kernel d) xs) M) ex
        (subst (λ E. HoldsValues G (rank_of G d) (rows_at E xs) M) eE
        (subst (λ b. HoldsValues G b (rows_at E xs) M) eb values)))

    pub targets-in : AreInSpan G.table.p M E
    targets-in = subst (λ E. AreInSpan G.table.p M E) (sym eE) (targets G d M defined-matrix)

  pub stage-above : (d : ℕ) (last s : StageValue) (B : BoundaryValue) → IsStageAt G d last → s.degree ≡ d + 1
      → s.boundary ≡ Some B → s.rank ≡ length B.positions
      → B.source ≡ last.kernel → B.positions ≡ S.positions d → B.matrix.p ≡ last.kernel.p
      → B.matrix.width ≡ last.kernel.width
      → HoldsValues G last.rank (rows_at last.kernel.rows B.positions) B.matrix.rows
      → s.kernel.p ≡ B.matrix.p → s.kernel.width ≡ length B.matrix.rows
      → IsKernelOf B.matrix.p B.matrix.rows s.kernel.rows
      → B.sections.p ≡ B.matrix.p → B.sections.width ≡ length B.matrix.rows
      → ArePreimages B.matrix.p B.matrix.rows s.kernel.rows last.kernel.rows B.sections.rows
      → IsStageAt G (suc d) s
  stage-above d last s B L degree boundary rank source positions mp mw values kp kw kernel sp sw sections =
      record {
        degree_is = degree ∙ (let z : d + 1 ≡ suc d = omega arith in z);
        rank_is = rank ∙ ap (λ (x : List ℕ). length x) positions;
        kernel_is = matrix-value s.kernel (kernel_value G (suc d)) (kp ∙ prime) (kw
            ∙ count) (ap (λ (x : StageParts). x.kernel) found);
        none_at_zero = λ e. absurd (omega (arith, e));
        boundary_is = λ c e. (
          B,
          boundary,
          subst (λ k. IsBoundaryAt G k B)
              (let z : d ≡ c = omega (arith, e) in z) boundary-at,
        );
      }
    where
      rows-are : last.kernel.rows ≡ S.kernel d
      rows-are = ap (λ (x : MatrixValue). x.rows) L.kernel_is

      prime : B.matrix.p ≡ G.table.p
      prime = mp ∙ ap (λ (x : MatrixValue). x.p) L.kernel_is

      matrix' : IsMatrixOf (layer_coordinates G (rank_of G (suc d))) (layer_coordinates G (rank_of G d))
          (∂ G d) B.matrix.rows
      matrix' = defined-matrix d last.rank last.kernel.rows B.positions B.matrix.rows L.rank_is rows-are
          positions values

      count : length B.matrix.rows ≡ order G.table * rank_of G (suc d)
      count = matrix'.count

      preimages : ArePreimages G.table.p B.matrix.rows s.kernel.rows (S.kernel d) B.sections.rows
      preimages = subst (λ E. ArePreimages G.table.p B.matrix.rows s.kernel.rows E B.sections.rows) rows-are
          (subst (λ p. ArePreimages p B.matrix.rows s.kernel.rows last.kernel.rows B.sections.rows) prime
          sections)

      found : record {
        positions = S.positions d;
        kernel = s.kernel.rows;
        sections = B.sections.rows;
      } ≡ Rattle.resolution_stages.specs.Chain.parts_of S d
      found = parts-found G d B.matrix.rows matrix' s.kernel.rows B.sections.rows
          (subst (λ p. IsKernelOf p B.matrix.rows s.kernel.rows) prime kernel) preimages.count preimages.each

      boundary-at : IsBoundaryAt G d B
      boundary-at = record {
        source_is = source ∙ L.kernel_is;
        positions_are = positions;
        matrix_prime = prime;
        matrix_width = mw ∙ ap (λ (x : MatrixValue). x.width) L.kernel_is;
        matrix_is = matrix';
        sections_are = matrix-value B.sections
            (record {
              p = G.table.p;
              width = order G.table * rank_of G (suc d);
              rows = map (σ G d) (S.kernel d);
            }) (sp ∙ prime) (sw
            ∙ count) (ap (λ (x : StageParts). x.sections) found);
      }
