-- A degree has a stage and only one, and the boundary on rows is that on tables.
use Rattle.std.proofs.Common.{◌≡◌, ℕ, zero, suc, ◌*◌, ◌<◌, List, [], ◌∷◌, length, map}
use Rattle.std.proofs.Common.{arith, ap, ap₂, sym, ◌∙◌, refl}
use Rattle.std.specs.Prelude.{Option, None, Some}
use Rattle.std.proofs.lemmas.List.{ext_get_or}
use mathlib.Core.Path.{subst}
use Rattle.group_modules.proofs.MapLaws.{terms-linear}
use Rattle.linear_algebra.specs.Rows.{entry, row, combination_row, IsRow, IsMatrix}
use Rattle.linear_algebra.specs.Kernels.{unit_row}
use Rattle.linear_algebra.proofs.CombinationRows.{combination_row-is}
use Rattle.radical_layers.specs.Coordinates.{RowForm}
use Rattle.resolution_stages.specs.Definitions.{images}
use Rattle.resolution_stages.specs.Computed.{IsMatrixOf}
use Rattle.resolution_stages.proofs.Computed.{value-row}
use Rattle.fp_rows.specs.Values.{MatrixValue}
use Rattle.p_groups.specs.PGroups.{PGroup, largest_residue, group, order_of, prime_of}
use Rattle.p_groups.proofs.Fields.{residues, field}
use Rattle.group_algebra.specs.Coordinates.{layer_coordinates}
use Rattle.min_res.specs.Stages.{stage_rows, rank_of}
use Rattle.min_res.specs.Values.{BoundaryValue, StageValue, boundary_of}
use Rattle.min_res.specs.Defined.{free, ∂, σ, boundary_row, kernel_value, IsBoundaryAt, IsStageAt}
use Rattle.min_res.proofs.FirstKernel.{matrix-value}
use Rattle.min_res.proofs.StageReadings.{boundary-at, source-width, prime}

-- the rows of a function on the numbers below n
rows_of : ℕ → (ℕ → List ℕ) → List (List ℕ)
rows_of zero f = []
rows_of (suc n) f = f 0 ∷ rows_of n (λ i. f (suc i))

length-rows_of : (n : ℕ) (f : ℕ → List ℕ) → length (rows_of n f) ≡ n
unfolding rows_of
length-rows_of zero f = refl
length-rows_of (suc n) f = ap suc (length-rows_of n (λ i. f (suc i)))

row-rows_of : (n : ℕ) (f : ℕ → List ℕ) (i : ℕ) → i < n → row (rows_of n f) i ≡ f i
unfolding rows_of
row-rows_of zero f i l = absurd (omega (arith, l))
row-rows_of (suc n) f zero l = refl
row-rows_of (suc n) f (suc i) l = row-rows_of n (λ i. f (suc i)) i (let k : i < n = omega (arith, l) in k)

module _ (G : PGroup) where
  -- the free module of degree d on rows
  abbrev width : ℕ → ℕ
  width d = order_of G * rank_of G d

  abbrev C : (d : ℕ) → RowForm (width d) (free G d)
  C d = layer_coordinates G (rank_of G d)

  -- the matrix of the boundary of degree d + 1
  abbrev IsMatrixAt : ℕ → List (List ℕ) → Type 0
  IsMatrixAt d rows = IsMatrixOf (C (suc d)) (C d) (∂ G d) rows

  matrix-exists : (d : ℕ) → (rows : List (List ℕ)) × IsMatrixAt d rows
  matrix-exists d = (
    rows_of (width (suc d)) f,
    record { count = length-rows_of (width (suc d)) f; each = row-rows_of (width (suc d)) f },
  )
    where
      f : ℕ → List ℕ
      f j = boundary_row G d (unit_row (width (suc d)) j)

  matrix-one : (d : ℕ) (M N : List (List ℕ)) → IsMatrixAt d M → IsMatrixAt d N → M ≡ N
  matrix-one d M N m n = ext_get_or [] M N (m.count ∙ sym n.count) same
    where
      same : (j : ℕ) → j < length M → row M j ≡ row N j
      same j l =
          let e : length M ≡ width (suc d) = m.count in
          let k : j < width (suc d) = omega (arith, e, l) in
          m.each j k ∙ sym (n.each j k)

  boundary-one : (d : ℕ) (B C : BoundaryValue) → IsBoundaryAt G d B → IsBoundaryAt G d C → B ≡ C
  boundary-one d B C b c =
      ap (λ (x : MatrixValue). made x B.positions B.matrix B.sections) (b.source_is ∙ sym c.source_is)
      ∙ ap (λ (x : List ℕ). made C.source x B.matrix B.sections) (b.positions_are ∙ sym c.positions_are)
      ∙ ap (λ (x : MatrixValue). made C.source C.positions x B.sections) matrices
      ∙ ap (λ (x : MatrixValue). made C.source C.positions C.matrix x) (b.sections_are ∙ sym c.sections_are)
    where
      made : MatrixValue → List ℕ → MatrixValue → MatrixValue → BoundaryValue
      made source positions matrix sections =
          record { source = source; positions = positions; matrix = matrix; sections = sections }

      matrices : B.matrix ≡ C.matrix
      matrices = matrix-value B.matrix C.matrix (b.matrix_prime ∙ sym c.matrix_prime)
          (b.matrix_width ∙ sym c.matrix_width)
          (matrix-one d B.matrix.rows C.matrix.rows b.matrix_is c.matrix_is)

  -- a stage is determined by its degree
  pub one-stage : (d : ℕ) (s t : StageValue) → IsStageAt G d s → IsStageAt G d t → s ≡ t
  one-stage d s t L M =
      ap (λ (x : ℕ). made x s.rank s.kernel s.boundary) (L.degree_is ∙ sym M.degree_is)
      ∙ ap (λ (x : ℕ). made t.degree x s.kernel s.boundary) (L.rank_is ∙ sym M.rank_is)
      ∙ ap (λ (x : MatrixValue). made t.degree t.rank x s.boundary) (L.kernel_is ∙ sym M.kernel_is)
      ∙ ap (λ (x : Option BoundaryValue). made t.degree t.rank t.kernel x) (boundaries d L M)
    where
      made : ℕ → ℕ → MatrixValue → Option BoundaryValue → StageValue
      made degree rank kernel boundary =
          record { degree = degree; rank = rank; kernel = kernel; boundary = boundary }

      boundaries : (d : ℕ) → IsStageAt G d s → IsStageAt G d t → s.boundary ≡ t.boundary
      boundaries zero L M = L.none_at_zero refl ∙ sym (M.none_at_zero refl)
      boundaries (suc d) L M = go (L.boundary_is d refl) (M.boundary_is d refl)
        where
          go : (B : BoundaryValue) × (s.boundary ≡ Some B) × IsBoundaryAt G d B
              → (C : BoundaryValue) × (t.boundary ≡ Some C) × IsBoundaryAt G d C → s.boundary ≡ t.boundary
          go (B, e, b) (C, f, c) = e ∙ ap (λ (x : BoundaryValue). Some x) (boundary-one d B C b c) ∙ sym f

  -- and there is one
  pub stage-exists : (d : ℕ) → (s : StageValue) × IsStageAt G d s
  stage-exists zero = (
    record { degree = 0; rank = rank_of G 0; kernel = kernel_value G 0; boundary = None },
    record {
      degree_is = refl;
      rank_is = refl;
      kernel_is = refl;
      none_at_zero = λ e. refl;
      boundary_is = λ c e. absurd (omega (arith, e));
    },
  )
  stage-exists (suc d) = go (matrix-exists d)
    where
      go : (rows : List (List ℕ)) × IsMatrixAt d rows → (s : StageValue) × IsStageAt G (suc d) s
      go (rows, m) = (
        record {
          degree = suc d;
          rank = rank_of G (suc d);
          kernel = kernel_value G (suc d);
          boundary = Some B;
        },
        record {
          degree_is = refl;
          rank_is = refl;
          kernel_is = refl;
          none_at_zero = λ e. absurd (omega (arith, e));
          boundary_is = λ c e.
              (B, refl, subst (λ k. IsBoundaryAt G k B) (let z : d ≡ c = omega (arith, e) in z) at);
        },
      )
        where
          B : BoundaryValue
          B = record {
            source = kernel_value G d;
            positions = (stage_rows G).positions d;
            matrix = record { p = prime_of G; width = width d; rows = rows };
            sections = record {
              p = prime_of G;
              width = width (suc d);
              rows = map (σ G d) ((stage_rows G).kernel d);
            };
          }

          at : IsBoundaryAt G d B
          at = record {
            source_is = refl;
            positions_are = refl;
            matrix_prime = refl;
            matrix_width = refl;
            matrix_is = m;
            sections_are = refl;
          }

  abbrev q : ℕ
  q = largest_residue G

  -- the combination of the rows of the matrix is the boundary
  combined : (d : ℕ) (rows : List (List ℕ)) (u : List ℕ) → IsMatrixAt d rows
      → IsRow (suc q) (width (suc d)) u → combination_row (suc q) (width d)
      (entry u) rows ≡ boundary_row G d u
  combined d rows u m r =
      sym (combination_row-is (let z : 0 < suc q = omega arith in z) (entry u) rows matrix
      (boundary_row G d u)
      ((C d).row-is _)
      (λ j l. value-row q (group G) (field G).above_one (width (suc d)) (width d)
      (free G (suc d)) (free G d) (C (suc d)) (C d) (∂ G d)
      (terms-linear q (group G) (rank_of G (suc d)) (free G d)
      (λ i. (C d).table (row (images (stage_rows G) d) i.0)))
      rows m u r j))
    where
      matrix : IsMatrix (suc q) (width d) rows
      matrix j l =
          let e : length rows ≡ width (suc d) = m.count in
          subst (λ x. IsRow (suc q) (width d) x) (sym (m.each j (omega (arith, e, l)))) ((C d).row-is _)

  pub boundary-value : (d : ℕ) (s : StageValue) (u : List ℕ) → IsStageAt G (suc d) s
      → IsRow (prime_of G) (width (suc d)) u
      → combination_row s.kernel.p (boundary_of s).source.width (entry u) (boundary_of s).matrix.rows
      ≡ boundary_row G d u
  boundary-value d s u L r =
      ap₂ (λ (p w : ℕ). combination_row p w (entry u) (boundary_of s).matrix.rows)
      (prime G d s L ∙ sym (residues G)) (source-width G d s L)
      ∙ combined d (boundary_of s).matrix.rows u (boundary-at G d s L).matrix_is
      (subst (λ p. IsRow p (width (suc d)) u) (sym (residues G)) r)
