-- The parts that elimination finds from the matrix of the boundary are the next stage.
use Rattle.std.proofs.Common.{◌≡◌, ◌≢◌, ℕ, suc, ◌*◌, ◌<◌, ◌≤◌, ◌⊎◌, List, length, inl, inr, arith, ap, sym}
use Rattle.std.proofs.Common.{◌∙◌}
use Rattle.std.proofs.lemmas.Bool.{cases_lt}
use Rattle.std.proofs.lemmas.List.{get_or_past}
use mathlib.Core.Path.{subst, fun_ext}
use Rattle.group_modules.specs.Module.{Module, IsLinear, times}
use Rattle.group_modules.proofs.Laws.{map-times}
use Rattle.group_modules.specs.Field.{Below}
use Rattle.group_modules.specs.Sums.{below, total}
use Rattle.group_modules.proofs.SumLaws.{map-total}
use Rattle.group_modules.specs.Tables.{Group, monoid, Table}
use Rattle.group_modules.proofs.MapLaws.{terms-linear}
use Rattle.linear_algebra.specs.Modular.{IsCongruent, IsFieldModulo, sum_below}
use Rattle.linear_algebra.specs.Rows.{entry, row, combination, IsRow, IsMatrix, IsInSpan, AreInSpan}
use Rattle.linear_algebra.specs.Choices.{IsGreedy, IsPreimage}
use Rattle.linear_algebra.specs.Kernels.{unit_row, IsKernelOf}
use Rattle.linear_algebra.proofs.Sums.{sum_below-one, sum_below-vanishes}
use Rattle.linear_algebra.proofs.Congruences.{congruent_trans, congruent_eq, congruent_sym}
use Rattle.radical_layers.specs.Coordinates.{RowForm, Coordinates}
use Rattle.radical_layers.specs.Moves.{moves, IsEchelonFor}
use Rattle.radical_layers.specs.Layers.{RowIn}
use Rattle.resolution_stages.specs.Checks.{StageParts, IsSubmoduleList, IsNextStage, del, chosen_row}
use Rattle.resolution_stages.specs.Computed.{IsMatrixOf, IsComputed, ComputedClaims}
use Rattle.augmentation_ideal.specs.Claims.{IsPrimePower}
use Rattle.resolution_stages.proofs.NextExists.{onto}
use Rattle.resolution_stages.proofs.NextExists.{members}
use Rattle.linear_algebra.proofs.AugmentLemmas.{entry_unit_same, entry_unit_other}
use Rattle.radical_layers.proofs.UnitRow.{unit-is-row}
use Rattle.radical_layers.proofs.Bridge.{at, at-zero, at-times, at-total, same-table}

module _ {n : ℕ} (q : ℕ) (Γ : Group n) (above : 1 < suc q) (w' w : ℕ) (M' M : Module (suc q) (monoid Γ))
    (K' : RowForm w' M') (K : RowForm w M)
    (f : M'.of → M.of) (linear : IsLinear M' M f) (rows : List (List ℕ)) (R : IsMatrixOf K' K f rows) where
  unit-is : (i : ℕ) → i < w' → IsRow (suc q) w' (unit_row w' i)
  unit-is i l = unit-is-row (suc q) w' i above l

  module _ (u : List ℕ) (r : IsRow (suc q) w' u) where
    abbrev part : Below w' → M'.of
    part i = times M'.add M'.zero (entry u i.0) (K'.table (unit_row w' i.0))

    sum-of-units : (j : ℕ) → IsCongruent (suc q) (sum_below w' (λ i. entry u i * entry (unit_row w' i) j))
        (entry u j)
    sum-of-units j = go (cases_lt j w')
      where
        other : (i : ℕ) → j ≢ i → IsCongruent (suc q) (entry u i * entry (unit_row w' i) j) 0
        other i d = congruent_eq (ap (λ y. entry u i * y) (entry_unit_other w' i j d)
            ∙ (let z : entry u i * 0 ≡ 0 = omega arith in z))

        go : (j < w') ⊎ (w' ≤ j) → IsCongruent (suc q)
            (sum_below w' (λ i. entry u i * entry (unit_row w' i) j)) (entry u j)
        go (inl l) = congruent_trans (sum_below-one (suc q) w' j (λ i. entry u i * entry (unit_row w' i) j) l
            (λ i m d. other i (λ e. d (sym e))))
            (congruent_eq (ap (λ y. entry u j * y) (entry_unit_same w' j l)
            ∙ (let z : entry u j * 1 ≡ entry u j = omega arith in z)))
        go (inr l) = congruent_trans (sum_below-vanishes (suc q) w' (λ i. entry u i * entry (unit_row w' i) j)
            (λ i m. other i (λ e. omega (arith, e, m, l))))
            (congruent_eq (sym (get_or_past u j 0
            (let z : length u ≡ w' = r.length_is in omega (arith, z, l)))))

    table-of : K'.table u ≡ total M' (below w') part
    table-of = same-table q Γ w' M' K' (K'.table u) (total M' (below w') part)
        (λ j. congruent_trans (congruent_eq (ap (λ y. entry y j) (K'.row-table u r)))
        (congruent_sym (congruent_trans (at-total q Γ w' M' K' w' part
        (λ i. entry u i * entry (unit_row w' i) j) j
        (λ i. congruent_trans (at-times q Γ w' M' K' (entry u i.0) (K'.table (unit_row w' i.0)) j)
        (congruent_eq (ap (λ y. entry u i.0 * entry y j)
        (K'.row-table (unit_row w' i.0) (unit-is i.0 i.1))))))
        (sum-of-units j))))

    value-of : f (K'.table u) ≡ total M (below w')
        (λ i. times M.add M.zero (entry u i.0) (f (K'.table (unit_row w' i.0))))
    value-of = ap f table-of ∙ map-total M' M f linear.on-add (below w') part
        ∙ ap (total M (below w')) (fun_ext
        (λ (i : Below w'). map-times M' M f linear.on-add (entry u i.0) (K'.table (unit_row w' i.0))))

    -- the row of a value is the combination of the rows of the matrix
    pub value-row : (j : ℕ) → IsCongruent (suc q) (at q Γ w M K (f (K'.table u)) j)
        (combination (entry u) rows j)
    value-row j = congruent_trans (congruent_eq (ap (λ v. at q Γ w M K v j) value-of))
        (congruent_trans (at-total q Γ w M K w'
        (λ i. times M.add M.zero (entry u i.0) (f (K'.table (unit_row w' i.0))))
        (λ i. entry u i * entry (row rows i) j) j
        (λ i. congruent_trans (at-times q Γ w M K (entry u i.0) (f (K'.table (unit_row w' i.0))) j)
        (congruent_eq (ap (λ y. entry u i.0 * entry y j) (sym (R.each i.0 i.1))))))
        (congruent_eq (ap (λ k. sum_below k (λ i. entry u i * entry (row rows i) j)) (sym R.count))))

  -- what is a value is in the span of the matrix: the condition of a preimage
  pub value-in-span : (u : M'.of) → IsInSpan (suc q) rows (at q Γ w M K (f u))
  value-in-span u = (
    entry (K'.row u),
    record {
      each = λ j. congruent_trans
          (congruent_sym (value-row (K'.row u) (K'.row-is u) j))
          (congruent_eq (ap (λ v. at q Γ w M K (f v) j) (K'.table-row u)));
    },
  )

  wide : (u : List ℕ) → IsRow (suc q) (length rows) u → IsRow (suc q) w' u
  wide u r = subst (λ k. IsRow (suc q) k u) R.count r

  -- the kernel of the matrix is the list of what f takes to 0
  pub kernel-list : (E : List (List ℕ)) → IsKernelOf (suc q) rows E
      → IsEchelonFor (suc q) w' (RowIn K' (λ v. f v ≡ M.zero)) E
  kernel-list E k = record {
    matrix = λ i l. wide (row E i) (k.matrix i l);
    echelon = k.echelon;
    members = λ i l. (
      wide (row E i) (k.matrix i l),
      same-table q Γ w M K (f (K'.table (row E i))) M.zero
          (λ j. congruent_trans (value-row (row E i) (wide (row E i) (k.matrix i l)) j)
          (congruent_trans (k.in_kernel i l j) (congruent_sym (at-zero q Γ w M K j)))),
    );
    spans = λ x h. k.spans x (subst (λ m. IsRow (suc q) m x) (sym R.count) h.0)
        (λ j. congruent_trans (congruent_sym (value-row x h.0 j))
        (congruent_trans (congruent_eq (ap (λ v. at q Γ w M K v j) h.1)) (at-zero q Γ w M K j)));
  }

  -- f takes the table of a preimage to the table of its target
  pub preimage-value : (kernel : List (List ℕ)) (x u : List ℕ) → IsRow (suc q) w x
      → IsPreimage (suc q) rows kernel x u → f (K'.table u) ≡ K.table x
  preimage-value kernel x u r p = same-table q Γ w M K (f (K'.table u)) (K.table x)
      (λ j. congruent_trans (value-row u (wide u p.is_row) j)
      (congruent_trans (p.maps.each j) (congruent_eq (ap (λ y. entry y j) (sym (K.row-table x r))))))

-- the parts that elimination finds are the next stage
pub computed-is-next : {n : ℕ} (q : ℕ) (above : 1 < suc q) (Γ : Group n) (K : Coordinates q Γ) (b : ℕ)
    (E : List (List ℕ)) (Q : StageParts) (matrix : List (List ℕ))
    → IsMatrix (suc q) (n * b) E → IsComputed q Γ K b E Q matrix → IsNextStage q Γ K b E Q
computed-is-next {n} q above Γ K b E Q matrix M C = record {
  rows_are = C.positions_are;
  kernel_is = kernel-list q Γ above (n * length Q.positions) (n * b) (Table q Γ (length Q.positions))
      (Table q Γ b) (K (length Q.positions)) (K b)
      (λ u. del q Γ K b E Q u) linear matrix C.matrix_is Q.kernel C.kernel_is;
  section_count = C.section_count;
  section_rows = λ k l. subst (λ c. IsRow (suc q) c (row Q.sections k)) C.matrix_is.count
      (C.sections_are k (subst (λ c. k < c) C.section_count l)).is_row;
  sections_to_rows = λ k l. preimage-value q Γ above (n * length Q.positions) (n * b)
      (Table q Γ (length Q.positions)) (Table q Γ b) (K (length Q.positions)) (K b)
      (λ u. del q Γ K b E Q u) linear matrix C.matrix_is
      Q.kernel (row E k) (row Q.sections k) (M k l) (C.sections_are k l);
  zero_at_pivots = λ k i l m. (C.sections_are k l).zero_at_pivots i m;
}
  where
    linear : IsLinear (Table q Γ (length Q.positions)) (Table q Γ b) (λ u. del q Γ K b E Q u)
    linear = terms-linear q Γ (length Q.positions) (Table q Γ b) (chosen_row q Γ K b E Q)

pub computed-claims : {n : ℕ} (q : ℕ) (F : IsFieldModulo (suc q)) (P : IsPrimePower q n) (Γ : Group n)
    (K : Coordinates q Γ) (b : ℕ) (E : List (List ℕ)) (Q : StageParts) (matrix : List (List ℕ))
    → IsSubmoduleList q Γ K b E → ComputedClaims q Γ K b E Q matrix
computed-claims {n} q F P Γ K b E Q matrix U =
    record { targets = targets; next = λ C. computed-is-next q F.above_one Γ K b E Q matrix U.matrix C }
  where
    targets : IsGreedy (suc q) E (moves Γ (Table q Γ b) (K b) E) Q.positions
        → IsMatrixOf (K (length Q.positions)) (K b) (λ u. del q Γ K b E Q u) matrix
        → AreInSpan (suc q) matrix E
    targets g R k l = go (onto q F P Γ K b E U Q.positions g ((K b).table (row E k))
        (members q F P Γ K b E U k l))
      where
        go : (u : (Table q Γ (length Q.positions)).of) × (del q Γ K b E Q u ≡ (K b).table (row E k))
            → IsInSpan (suc q) matrix (entry (row E k))
        go (u, e) = subst (λ x. IsInSpan (suc q) matrix (entry x)) (ap (K b).row e
            ∙ (K b).row-table (row E k) (U.matrix k l))
            (value-in-span q Γ F.above_one (n * length Q.positions) (n * b) (Table q Γ (length Q.positions))
            (Table q Γ b) (K (length Q.positions)) (K b) (λ u. del q Γ K b E Q u)
            (terms-linear q Γ (length Q.positions) (Table q Γ b) (chosen_row q Γ K b E Q)) matrix R u)
