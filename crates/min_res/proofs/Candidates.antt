-- The values of the boundary of a candidate, as rows and as tables.
use Rattle.std.proofs.Common.{◌≡◌, ◌↔◌, ℕ, suc, ◌*◌, ◌<◌, List, length, ap, ap₂, sym, ◌∙◌, arith}
use mathlib.Core.Path.{subst}
use Rattle.std.proofs.lemmas.List.{get_or_past}
use Rattle.std.proofs.lemmas.Bool.{cases_lt}
use Rattle.std.proofs.Common.{inl, inr, ◌≢◌, Bool, IsTrue, slice_index}
use Rattle.group_modules.specs.Field.{Below, residue}
use Rattle.group_modules.proofs.MapLaws.{terms-linear}
use Rattle.linear_algebra.specs.Rows.{entry, row, combination_row, IsRow, IsMatrix, IsEchelon}
use Rattle.linear_algebra.proofs.CombinationRows.{combination_row-is}
use Rattle.linear_algebra.proofs.Congruences.{congruent_trans, congruent_eq, congruent_sym, same_below}
use Rattle.radical_layers.specs.Coordinates.{RowForm}
use Rattle.radical_layers.proofs.Bridge.{at-zero, same-table}
use Rattle.resolution_stages.specs.Checks.{StageParts, chosen_row}
use Rattle.resolution_stages.proofs.Computed.{value-row}
use Rattle.fp_rows.specs.Parts.{IsZero}
use Rattle.fp_rows.specs.ReducedRows.{IsReducedRow}
use Rattle.fp_rows.specs.Values.{MatrixValue, RowValue}
use Rattle.p_groups.specs.PGroups.{PGroup, largest_residue, group, order_of, prime_of}
use Rattle.p_groups.proofs.Fields.{residues, field}
use Rattle.group_algebra.specs.Coordinates.{free_module, layer_coordinates, table_of, row_of}
use Rattle.min_res.specs.Stages.{rank_of}
use Rattle.min_res.specs.Values.{BoundaryValue}
use Rattle.min_res.specs.Stages.{stage_rows}
use Rattle.min_res.proofs.StageRows.{stage_rows_are}
use Rattle.min_res.specs.RecordChecks.{boundary_at, new_boundary, list_before, HasSumZero}
use Rattle.min_res.specs.Candidates.{kept_parts, IsBoundaryBy, IsCandidate, IsValueRow}

module _ (G : PGroup) (b : ℕ) where
  abbrev q : ℕ
  q = largest_residue G

  own : (x : List ℕ) → IsRow (prime_of G) (order_of G * b) x → IsRow (suc q) (order_of G * b) x
  own x r = subst (λ p. IsRow p (order_of G * b) x) (sym (residues G)) r

  -- a table is 0 exactly where its row is
  pub row-zero : (v : (free_module G b).of) → IsZero (row_of G b v) ↔
      (v ≡ (λ i g. residue (largest_residue G) 0))
  row-zero v = (to, from)
    where
      C : RowForm (order_of G * b) (free_module G b)
      C = layer_coordinates G b

      zeros : IsZero (row_of G b v) → (j : ℕ) → entry (row_of G b v) j ≡ 0
      zeros z j = elim (cases_lt j (length (row_of G b v))) [
        | inl l ↦ z j l
        | inr l ↦ get_or_past (row_of G b v) j 0 l
      ]

      to : IsZero (row_of G b v) → v ≡ (λ i g. residue (largest_residue G) 0)
      to z = same-table q (group G) (order_of G * b) (free_module G b) C v (free_module G b).zero
          (λ j. congruent_trans (congruent_eq (zeros z j))
          (congruent_sym (at-zero q (group G) (order_of G * b) (free_module G b) C j)))

      from : v ≡ (λ i g. residue (largest_residue G) 0) → IsZero (row_of G b v)
      from e j l =
          let m : j < order_of G * b = (let k : length
          (row_of G b v) ≡ order_of G * b = (C.row-is v).length_is in
          omega (arith, k, l)) in
          same_below (congruent_trans (congruent_eq (ap (λ (w : (free_module G b).of). entry (C.row w) j) e))
          (at-zero q (group G) (order_of G * b) (free_module G b) C j)) ((C.row-is v).below j m)
          (let z : 0 < suc q = omega arith in z)

  -- a table is that of a row exactly where its row is that row
  pub row-same : (v : (free_module G b).of) (x : List ℕ) → IsRow (prime_of G) (order_of G * b) x
      → (row_of G b v ≡ x) ↔ (v ≡ table_of G b x)
  row-same v x r = (
    λ e. sym ((layer_coordinates G b).table-row v) ∙ ap (λ (y : List ℕ). table_of G b y) e,
    λ e. ap (λ (w : (free_module G b).of). row_of G b w) e ∙ (layer_coordinates G b).row-table x (own x r),
  )

module _ (G : PGroup) (d : ℕ) (Q : StageParts) (B : BoundaryValue) (I : IsBoundaryBy G d Q B) where
  -- what is written of a row is the value of the boundary at its table
  pub value-is : (x : List ℕ) → IsRow (prime_of G) (order_of G * length Q.positions) x
      → combination_row B.source.p B.source.width (entry x) B.matrix.rows
      ≡ row_of G (rank_of G d) (boundary_at G d Q x)
  value-is x r =
      ap₂ (λ (p w : ℕ). combination_row p w (entry x) B.matrix.rows)
      (ap (λ (m : MatrixValue). m.p) I.source_is ∙ sym (residues G))
      (ap (λ (m : MatrixValue). m.width) I.source_is)
      ∙ sym (combination_row-is (let z : 0 < suc (largest_residue G) = omega arith in z)
      (entry x) B.matrix.rows matrix
      (row_of G (rank_of G d) (boundary_at G d Q x))
      ((layer_coordinates G (rank_of G d)).row-is _)
      (λ j l. value-row (largest_residue G) (group G) (field G).above_one (order_of G * length Q.positions)
      (order_of G * rank_of G d)
      (free_module G (length Q.positions)) (free_module G (rank_of G d))
      (layer_coordinates G (length Q.positions))
      (layer_coordinates G (rank_of G d)) (new_boundary G d Q)
      (terms-linear (largest_residue G) (group G) (length Q.positions) (free_module G (rank_of G d))
      (chosen_row (largest_residue G) (group G) (layer_coordinates G) (rank_of G d) (list_before G d Q) Q))
      B.matrix.rows I.matrix_is x (own G (length Q.positions) x r) j))
    where
      matrix : IsMatrix (suc (largest_residue G)) (order_of G * rank_of G d) B.matrix.rows
      matrix j l =
          let e : length B.matrix.rows ≡ order_of G * length Q.positions = I.matrix_is.count in
          subst (λ y. IsRow (suc (largest_residue G)) (order_of G * rank_of G d) y)
          (sym (I.matrix_is.each j (omega (arith, e, l)))) ((layer_coordinates G (rank_of G d)).row-is _)

module _ (G : PGroup) (d : ℕ) (B : BoundaryValue) (kernel : MatrixValue) (I : IsCandidate G d B kernel) where
  abbrev parts : StageParts
  parts = kept_parts B kernel

  by-prime : (w : ℕ) (x : List ℕ) → IsRow (suc (largest_residue G)) w x → IsRow (prime_of G) w x
  by-prime w x r = subst (λ p. IsRow p w x) (residues G) r

  pub kernel-row : (k : ℕ) → k < length kernel.rows
      → IsRow (prime_of G) (order_of G * length B.positions) (row kernel.rows k)
  kernel-row k l = by-prime (order_of G * length B.positions) (row kernel.rows k)
      (I.may_follow.0.kernel_rows k l)

  pub section-row : (k : ℕ) → k < length ((stage_rows G).kernel d)
      → IsRow (prime_of G) (order_of G * length B.positions) (row B.sections.rows k)
  section-row k l = by-prime (order_of G * length B.positions) (row B.sections.rows k)
      (I.may_follow.0.section_rows k (let e : length B.sections.rows ≡ length ((stage_rows G).kernel d) =
      I.may_follow.0.section_count in omega (arith, e, l)))

  pub list-row : (k : ℕ) → k < length ((stage_rows G).kernel d)
      → IsRow (prime_of G) (order_of G * rank_of G d) (row ((stage_rows G).kernel d) k)
  list-row k l = by-prime (order_of G * rank_of G d) (row ((stage_rows G).kernel d) k)
      (((stage_rows_are G).kernel_is d).matrix k l)

  -- what is written of a row
  pub written : (x y out : List ℕ) → x ≡ y → IsRow (prime_of G) (order_of G * length B.positions) y
      → out ≡ combination_row B.source.p B.source.width (entry x) B.matrix.rows
      → out ≡ row_of G (rank_of G d) (boundary_at G d parts y)
  written x y out e r w = w ∙ ap (λ (z : List ℕ). combination_row B.source.p B.source.width
      (entry z) B.matrix.rows) e
      ∙ value-is G d parts B I.boundary_is y r

  -- a row with that value
  pub value-row-of : (x y : List ℕ) (old new : RowValue) → x ≡ y
      → IsRow (prime_of G) (order_of G * length B.positions) y → IsValueRow G d old → new.p ≡ old.p
      → new.entries ≡ combination_row B.source.p B.source.width (entry x) B.matrix.rows → IsValueRow G d new
  value-row-of x y old new e r V p w = record {
    prime = p ∙ V.prime;
    count = ap (λ (z : List ℕ). length z) (written x y new.entries e r w)
        ∙ ((layer_coordinates G (rank_of G d)).row-is (boundary_at G d parts y)).length_is;
  }

-- a test of positions and of the row at them, by equal ones
pub later-same : (G : PGroup) (xs ys x y : List ℕ) (k : ℕ) (t : Bool) → xs ≡ ys → x ≡ y
    → (IsTrue t ↔ ((i : Below (length xs)) → k < slice_index xs i.0 → HasSumZero G (length xs) x i))
    → IsTrue t ↔ ((i : Below (length ys)) → k < slice_index ys i.0 → HasSumZero G (length ys) y i)
later-same G xs ys x y k t e f h =
    subst (λ (z : List ℕ). IsTrue t ↔ ((i : Below (length ys)) → k < slice_index ys i.0
    → HasSumZero G (length ys) z i)) f
    (subst (λ (z : List ℕ). IsTrue t ↔ ((i : Below (length z)) → k < slice_index z i.0
    → HasSumZero G (length z) x i)) e h)

pub lacks-same : (xs ys : List ℕ) (k : ℕ) (t : Bool) → xs ≡ ys
    → (IsTrue t ↔ ((i : Below (length xs)) → slice_index xs i.0 ≢ k))
    → IsTrue t ↔ ((i : Below (length ys)) → slice_index ys i.0 ≢ k)
lacks-same xs ys k t e h = subst (λ (z : List ℕ). IsTrue t ↔ ((i : Below (length z))
    → slice_index z i.0 ≢ k)) e h

-- each row of a reduced echelon list is reduced
pub reduced : (rows : List (List ℕ)) (k : ℕ) → IsEchelon rows → k < length rows → IsReducedRow rows k
reduced rows k E l = record {
  not_zero = E.not_zero k l;
  monic = E.monic k l;
  after_earlier = λ i m. E.ascending i k m l;
  zero_at_others = λ i m d. E.cleared i k m l d;
}
