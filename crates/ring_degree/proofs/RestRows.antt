-- Rows that are reduced, one after another.
use Rattle.std.proofs.Common.{◌≡◌, ℕ, ◌+◌, ◌*◌, ◌%◌, ◌<◌, List, [], ◌∷◌, ◌++◌, ◌⊎◌, inl, inr, length, take}
use Rattle.std.proofs.Common.{get_or, replicate, arith, ap, sym, subst, ◌∙◌, refl}
use Rattle.std.specs.Prelude.{All}
use Rattle.std.proofs.Math.Nat.{mod-eq_of_lt}
use Rattle.std.proofs.lemmas.Bool.{cases_eq}
use Rattle.std.proofs.lemmas.List.{ext_get_or, get_or-take, length-take, get_or_push, get_or_append_left}
use Rattle.std.proofs.lemmas.List.{length_push, length-replicate, get_or-replicate}
use Rattle.std.proofs.lemmas.List.Elements.{All-from_get_or, All-get_or}
use Rattle.fp_rows.specs.Values.{MatrixValue, RowValue}
use Rattle.linear_algebra.specs.Rows.{entry, row, add_multiple, IsRow, IsMatrix, IsReduced}
use Rattle.linear_algebra.proofs.RowLemmas.{length-add_multiple, entry-add_multiple}
use Rattle.ring_completion.specs.Left.{without_pivots}
use Rattle.ring_degree.specs.Rests.{IsRest, AreRests}
use Rattle.ring_degree.specs.Tables.{rows_at}
use Rattle.ring_degree.proofs.Lookups.{rows-are}

-- a row added to 0
pub added-once : (p w : ℕ) (r : List ℕ) → IsRow p w r → add_multiple p 1 (replicate w 0) r ≡ r
added-once p w r R = ext_get_or 0 (add_multiple p 1 (replicate w 0) r) r
    (length-add_multiple p 1 (replicate w 0) r ∙ length-replicate {A = ℕ} w 0 ∙ sym R.length_is)
    (λ j l. let b : j < w = omega (
      arith,
      l,
      length-add_multiple p 1 (replicate w 0) r,
      length-replicate {A = ℕ} w 0,
    ) in
    entry-add_multiple p 1 (replicate w 0) r j (R.length_is ∙ sym (length-replicate {A = ℕ} w 0))
    (omega (arith, b, length-replicate {A = ℕ} w 0))
    ∙ ap (λ x. x % p) (let z = get_or-replicate {A = ℕ} w j 0 0 b in
    let y : entry (replicate w 0) j + 1 * entry r j ≡ entry r j = omega (arith, z) in y)
    ∙ mod-eq_of_lt (R.below j b))

-- one more row
pub rest-more : (p : ℕ) (E rows old new : List (List ℕ)) (k : ℕ) (x : List ℕ) → k < length rows
    → AreRests p E (take k rows) old → IsRest p E (row rows k) x → new ≡ old ++ x ∷ []
    → AreRests p E (take (k + 1) rows) new
rest-more p E rows old new k x l A R z = rw z record { count = counted; each = each }
  where
    size : length old ≡ k
    size = A.count ∙ (let h = length-take k rows in omega (arith, h, l))

    counted : length (old ++ x ∷ []) ≡ length (take (k + 1) rows)
    counted = omega (arith, length_push old x, size, length-take (k + 1) rows, l)

    each : (j : ℕ) → j < length (take (k + 1) rows)
        → IsRest p E (row (take (k + 1) rows) j) (row (old ++ x ∷ []) j)
    each j b = go (cases_eq j k)
      where
        within : j < k + 1
        within = omega (arith, b, length-take (k + 1) rows)

        go : (j ≡ k) ⊎ (j ≡ k → ⊥) → IsRest p E (row (take (k + 1) rows) j) (row (old ++ x ∷ []) j)
        go (inl e) = rw (get_or-take (k + 1) rows j [] within, get_or_push old x [] j (size ∙ sym e), e) R
        go (inr n) = let c : j < k = omega (arith, within, n) in
            rw (
              get_or-take (k + 1) rows j [] within,
              get_or_append_left old (x ∷ []) [] j
                  (omega (arith, c, size)),
            )
            (let y = A.each j (omega (arith, c, l, length-take k rows)) in
            rw (get_or-take k rows j [] c) at y)

-- a row that was reduced
pub is-rest : (p w : ℕ) (E : List (List ℕ)) (r v u x : List ℕ) → IsRow p w r
    → v ≡ add_multiple p 1 (replicate w 0) r → IsReduced p E v u → IsRow p w u → x ≡ without_pivots E 0 u
    → IsRest p E r x
is-rest p w E r v u x R e D U z = record {
  reduced = u;
  is_reduced = subst (λ y. IsReduced p E y u) (e ∙ added-once p w r R) D;
  is_row = subst (λ n. IsRow p n u) (sym R.length_is) U;
  entries = z;
}

-- the row that is written of a row, which is copied and reduced
pub rest-written : (p w : ℕ) (E : List (List ℕ)) (r s x : List ℕ) (none sum reduced : RowValue) (P n : ℕ)
    → IsRow p w r → none ≡ record { p = P; entries = replicate n 0 } → P ≡ p → n ≡ w → s ≡ r
    → sum ≡ record { p = none.p; entries = add_multiple none.p 1 none.entries s }
    → IsReduced p E sum.entries reduced.entries → IsRow p w reduced.entries
    → x ≡ without_pivots E 0 reduced.entries → IsRest p E r x
rest-written p w E r s x none sum reduced P n R z a b c t D U y =
    is-rest p w E r sum.entries reduced.entries x R
    (ap (λ (v : RowValue). v.entries) t ∙ rw (z, a, b, c) refl) D U y

-- n is what is left of a matrix with these rows
pub record IsRestMatrix (e : MatrixValue) (left : ℕ) (rows : List (List ℕ)) (n : MatrixValue) : Type 0 where
  pub prime : n.p ≡ e.p
  pub width : n.width ≡ left
  pub matrix : IsMatrix n.p n.width n.rows
  pub rows_are : AreRests e.p e.rows rows n.rows

-- a matrix that was read and reduced
pub rest-matrix : (e : MatrixValue) (left : ℕ) (ms : List MatrixValue) (i : ℕ) (m n : MatrixValue)
    → i < length ms → m ≡ get_or ms i m → All (λ m. m.p ≡ e.p) ms → n.p ≡ m.p → n.width ≡ left
    → IsMatrix n.p n.width n.rows → AreRests e.p e.rows m.rows n.rows
    → IsRestMatrix e left (rows_at ms i) n
rest-matrix e left ms i m n l s A a b M R = record {
  prime = a ∙ ap (λ (x : MatrixValue). x.p) s ∙ All-get_or (λ (m : MatrixValue). m.p ≡ e.p) ms i m l A;
  width = b;
  matrix = M;
  rows_are = subst (λ rows. AreRests e.p e.rows rows n.rows)
      (ap (λ (x : MatrixValue). x.rows) s ∙ sym (rows-are ms i m l)) R;
}

module _ (e : MatrixValue) (left : ℕ) (ms F : List MatrixValue) (c : length F ≡ length ms)
    (h : (i : ℕ) (n : MatrixValue) → i < length ms → IsRestMatrix e left (rows_at ms i) (get_or F i n)) where
  none : MatrixValue
  none = record { p = 0; width = 0; rows = [] }

  pub rest-primes : All (λ m. m.p ≡ e.p) F
  rest-primes = All-from_get_or (λ (m : MatrixValue). m.p ≡ e.p) F none
      (λ i l. (h i none (omega (arith, l, c))).prime)

  pub rest-widths : All (λ m. m.width ≡ left) F
  rest-widths = All-from_get_or (λ (m : MatrixValue). m.width ≡ left) F none
      (λ i l. (h i none (omega (arith, l, c))).width)

  pub rest-matrices : All (λ m. IsMatrix m.p m.width m.rows) F
  rest-matrices = All-from_get_or (λ (m : MatrixValue). IsMatrix m.p m.width m.rows) F none
      (λ i l. (h i none (omega (arith, l, c))).matrix)

  pub rest-rows : (i : ℕ) → i < length ms → AreRests e.p e.rows (rows_at ms i) (rows_at F i)
  rest-rows i l = subst (AreRests e.p e.rows (rows_at ms i)) (sym (rows-are F i none (omega (arith, l, c))))
      (h i none l).rows_are
