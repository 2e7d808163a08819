-- The rows that an algebra keeps, one at a time.
use Rattle.std.proofs.Common.{◌≡◌, ℕ, ◌+◌, ◌*◌, ◌/◌, ◌%◌, ◌<◌, ◌≤◌, ◌⊎◌, List, [], ◌∷◌, ◌++◌, length}
use Rattle.std.proofs.Common.{inl, inr, suc, arith, ap, ap₂, ◌-◌, sym, ◌∙◌, refl}
use Rattle.std.proofs.lemmas.Bool.{cases_lt}
use Rattle.std.proofs.lemmas.List.{get_or_push, length_push, length-append, get_or-append-add}
use Rattle.std.proofs.Math.ListN.{get_or-append}
use Rattle.std.proofs.Math.Nat.{mul-le-mul_left, mul-le-mul_right, div-add-mod, mod-lt}
use mathlib.Core.Path.{subst}
use Rattle.group_table.specs.Tables.{order}
use Rattle.linear_algebra.specs.Rows.{row, entry, combination_row, IsRow, IsMatrix, IsInSpan, AreInSpan}
use Rattle.linear_algebra.specs.Choices.{IsPreimage, ArePreimages}
use Rattle.linear_algebra.specs.Kernels.{unit_row}
use Rattle.linear_algebra.proofs.Spans.{row_before_push}
use Rattle.group_modules.specs.Field.{Below}
use Rattle.fp_rows.specs.Values.{MatrixValue}
use Rattle.radical_layers.specs.LayerBasis.{layer_basis}
use Rattle.radical_layers.proofs.LayerForm.{basis-spans}
use Rattle.radical_layers.proofs.UnitRow.{unit-is-row}
use Rattle.p_groups.specs.PGroups.{PGroup, largest_residue, group}
use Rattle.p_groups.proofs.Fields.{residues, field}
use Rattle.group_algebra.specs.Coordinates.{sum_coordinates, layers, free_module, row_of, member}
use Rattle.group_algebra.specs.Coordinates.{AreCoefficients, layer_coordinates}
use Rattle.group_algebra.proofs.LayerLaws.{layers_are}
use Rattle.group_algebra.specs.Coefficients.{AreSumCoordinates, IsTranslate}
use Rattle.group_algebra.proofs.Combined.{IsCombined, combined}
use Rattle.group_algebra.proofs.LayerRows.{basis-count}
use Rattle.group_algebra.specs.Tables.{HasShape, AreMembers, TakesSumsToLayers, IsElementRow, IsTranslateRow}
use Rattle.group_algebra.specs.Tables.{IsProductRow, EachRow, element}
use Rattle.group_algebra.proofs.Members.{translate-is}
use Rattle.group_algebra.proofs.ElementRows.{one, layers-of-sums, element-coefficients, product-row}
use Rattle.group_algebra.proofs.ElementRows.{times-one-is}

pub each-pushed : (P : ℕ → List ℕ → Type 0) (rows : List (List ℕ)) (x : List ℕ) → EachRow P rows
    → P (length rows) x → EachRow P (rows ++ x ∷ [])
each-pushed P rows x h p i l = go (cases_lt i (length rows))
  where
    go : (i < length rows) ⊎ (length rows ≤ i) → P i (row (rows ++ x ∷ []) i)
    go (inl m) = subst (P i) (sym (row_before_push rows x i m)) (h i m)
    go (inr m) = let e : length rows ≡ i =
        (let c : length (rows ++ x ∷ []) ≡ length rows + 1 = length_push rows x in omega (arith, c, l, m)) in
        subst (P i) (sym (get_or_push rows x [] i e)) (subst (λ k. P k x) e p)

pub shape-pushed : (G : PGroup) (k : ℕ) (m m' : MatrixValue) (x : List ℕ) → HasShape G k m
    → m' ≡ record m { rows = m.rows ++ x ∷ [] } → HasShape G (k + 1) m'
shape-pushed G k m m' x H e = record {
  prime = ap (λ y. y.p) e ∙ H.prime;
  width = ap (λ y. y.width) e ∙ H.width;
  rows = ap (λ y. length y.rows) e ∙ length_push m.rows x ∙ ap (λ y. y + 1) H.rows;
}

-- several more rows
pub each-appended : (P : ℕ → List ℕ → Type 0) (rows ys : List (List ℕ)) → EachRow P rows
    → ((k : ℕ) → k < length ys → P (length rows + k) (row ys k)) → EachRow P (rows ++ ys)
each-appended P rows ys h g i l = go (cases_lt i (length rows))
  where
    go : (i < length rows) ⊎ (length rows ≤ i) → P i (row (rows ++ ys) i)
    go (inl m) = subst (P i) (sym (get_or-append rows ys [] i m)) (h i m)
    go (inr m) = let e : length rows + (i - length rows) ≡ i = omega (arith, m) in
        subst (λ k. P k (row (rows ++ ys) k)) e
        (subst (P (length rows + (i - length rows))) (sym (get_or-append-add rows ys (i - length rows) []))
        (g (i - length rows) (let c : length
        (rows ++ ys) ≡ length rows + length ys = length-append rows ys in omega (arith, c, l, m))))

pub shape-appended : (G : PGroup) (k n : ℕ) (m m' : MatrixValue) (ys : List (List ℕ)) → HasShape G k m
    → length ys ≡ n
    → m' ≡ record m { rows = m.rows ++ ys } → HasShape G (k + n) m'
shape-appended G k n m m' ys H len e = record {
  prime = ap (λ y. y.p) e ∙ H.prime;
  width = ap (λ y. y.width) e ∙ H.width;
  rows = ap (λ y. length y.rows) e ∙ length-append m.rows ys ∙ ap₂ ◌+◌ H.rows len;
}

-- a position determines its two parts
pub parts : (n k g k' g' : ℕ) → g < n → g' < n → k * n + g ≡ k' * n + g' → (k ≡ k') × (g ≡ g')
parts n k g k' g' l l' e = go (cases_lt k k') (cases_lt k' k)
  where
    less : (a b c d : ℕ) → c < n → a < b → a * n + c < b * n + d
    less a b c d m o = let z : (a + 1) * n ≤ b * n =
        mul-le-mul_right n (let y : a + 1 ≤ b = omega (arith, o) in y) in omega (arith, z, m)

    go : (k < k') ⊎ (k' ≤ k) → (k' < k) ⊎ (k ≤ k') → (k ≡ k') × (g ≡ g')
    go (inl m) h = absurd (let z : k * n + g < k' * n + g' = less k k' g g' l m in omega (arith, z, e))
    go (inr m) (inl o) = absurd (let z : k' * n + g' < k * n + g = less k' k g' g l' o in omega (arith, z, e))
    go (inr m) (inr o) = let z : k ≡ k' = omega (arith, m, o) in let y : k * n ≡ k' * n = ap (λ x. x * n) z in
        (z, omega (arith, y, e))

-- the row and the column of a position
pub split : (n i : ℕ) → 0 < n → i < n * n → (i ≡ i / n * n + i % n) × (i / n < n) × (i % n < n)
split n i some l =
    let e : n * (i / n) + i % n ≡ i = div-add-mod i n in
    let m : i % n < n = mod-lt i some in
    (omega (arith, e), below (cases_lt (i / n) n) e, m)
  where
    below : (i / n < n) ⊎ (n ≤ i / n) → n * (i / n) + i % n ≡ i → i / n < n
    below (inl b) e = b
    below (inr b) e = absurd (let z : n * n ≤ n * (i / n) = mul-le-mul_left n b in omega (arith, z, e, l))

module _ (G : PGroup) where
  abbrev n : ℕ
  n = order G.table

  -- the members of the layer basis span the unit rows
  pub units-in-span : (B W : List (List ℕ)) → B ≡ layer_basis (layers G) → length W ≡ n
      → ((k : ℕ) → k < n → row W k ≡ unit_row n k) → AreInSpan G.table.p B W
  units-in-span B W e len units i l =
      let m : i < n = omega (arith, l, len) in
      subst (λ E. IsInSpan G.table.p E (entry (row W i))) (sym e)
      (subst (λ p. IsInSpan p (layer_basis (layers G)) (entry (row W i))) (residues G)
      (subst (λ x. IsInSpan (suc (largest_residue G)) (layer_basis (layers G)) (entry x)) (sym (units i m))
      (basis-spans (largest_residue G) (field G) (group G) (sum_coordinates G) (layers G) (layers_are G)
      (unit_row n i)
      (unit-is-row (suc (largest_residue G)) n i (field G).above_one m))))

  pub sums-to-layers : (B W U none : List (List ℕ)) → B ≡ layer_basis (layers G) → length W ≡ n
      → ((k : ℕ) → k < n → row W k ≡ unit_row n k) → ArePreimages G.table.p B none W U → TakesSumsToLayers G U
  sums-to-layers B W U none e len units P v a s A S =
      layers-of-sums G U W none a s (combination_row G.table.p n (entry s) U) v len units at-basis A S
      (combined s U (combination_row G.table.p n (entry s) U)
      (let z : suc (largest_residue G) ≡ G.table.p = residues G in omega (arith, z))
      (λ i l. subst (λ w. IsRow G.table.p w (row U i)) count
      (P.each i (let z : i < length W = omega (arith, l, P.count) in z)).is_row)
      (P.count ∙ len) refl)
    where
      count : length B ≡ n
      count = ap length e ∙ basis-count G

      at-basis : (i : ℕ) → i < n → IsPreimage G.table.p (layer_basis (layers G)) none (row W i) (row U i)
      at-basis i l = subst (λ E. IsPreimage G.table.p E none (row W i) (row U i)) e
          (P.each i (let z : i < length W = omega (arith, l, len) in z))

  pub element-row : (U : List (List ℕ)) (g : ℕ) (s r : List ℕ) → TakesSumsToLayers G U
      → AreSumCoordinates G.table.p n (unit_row n g) s → r ≡ combination_row G.table.p n (entry s) U
      → IsElementRow G g r
  element-row U g s r T S c b e = c ∙ T (element G b) (unit_row n g) s
      (subst (λ k. AreCoefficients G (unit_row n k) (element G b)) (sym e) (element-coefficients G b)) S

  pub elements-at : (E : List (List ℕ)) → length E ≡ n → EachRow (IsElementRow G) E → (g : Below n)
      → row E g.0 ≡ row_of G 1 ((free_module G 1).act g (one G))
  elements-at E len H g = H g.0 (let l : g.0 < n = g.1 in omega (arith, l, len)) g refl

  -- the layer coordinates of a member are a row, and lists of them are matrices
  layer-row : (v : (free_module G 1).of) → IsRow G.table.p n (row_of G 1 v)
  layer-row v = subst (λ p. IsRow p n (row_of G 1 v)) (residues G)
      (subst (λ w. IsRow (suc (largest_residue G)) w (row_of G 1 v))
      (let z : n * 1 ≡ n = omega arith in z) ((layer_coordinates G 1).row-is v))

  pub members-matrix : (members : List (List ℕ)) → length members ≡ n → AreMembers G members
      → IsMatrix G.table.p n members
  members-matrix members len A i l = (A i (let m : i < n = omega (arith, l, len) in m)).is_row

  pub elements-matrix : (E : List (List ℕ)) → length E ≡ n → EachRow (IsElementRow G) E
      → IsMatrix G.table.p n E
  elements-matrix E len H i l =
      let g : Below n = (i, let m : i < n = omega (arith, l, len) in m) in
      subst (IsRow G.table.p n) (sym (H i l g refl)) (layer-row (element G g))

  pub translates-matrix : (T W : List (List ℕ)) (l : ℕ) → length T ≡ n * n → length W ≡ n
      → EachRow (IsTranslateRow G) T → ((g : ℕ) → g < n → row W g ≡ row T (l * n + g)) → l < n
      → IsMatrix G.table.p n W
  translates-matrix T W l len count H W-is c i b =
      let m : i < n = omega (arith, b, count) in
      let z : (l + 1) * n ≤ n * n = mul-le-mul_right n (let y : l + 1 ≤ n = omega (arith, c) in y) in
      subst (IsRow G.table.p n)
      (sym (W-is i m ∙ H (l * n + i) (omega (arith, z, m, len)) l (i, m) c refl))
      (layer-row ((free_module G 1).act (i, m) (member G l)))

  pub translate-row : (members E : List (List ℕ)) (i k g : ℕ) (t r : List ℕ) → AreMembers G members
      → length E ≡ n
      → EachRow (IsElementRow G) E → i ≡ k * n + g → g < n → IsTranslate G.table g (row members k) t
      → IsCombined G.table.p n t (row E) r → IsTranslateRow G i r
  translate-row members E i k g t r A len H e l T C k' g' m d =
      let b : g'.0 < n = g'.1 in
      let s : (k ≡ k') × (g ≡ g'.0) = parts n k g k' g'.0 l b (sym e ∙ d) in
      product-row G t ((free_module G 1).act g' (member G k')) (one G) (row E) r
      (translate-is G g' (row members k') t (member G k')
      (subst (λ x. IsTranslate G.table g'.0 (row members x) t) s.0
      (subst (λ x. IsTranslate G.table x (row members k) t) s.1 T)) (A k' m))
      (elements-at E len H) C
      ∙ ap (row_of G 1) (times-one-is G ((free_module G 1).act g' (member G k')))

  -- W holds the translates of member l
  pub product-of-members : (members T W : List (List ℕ)) (i k l : ℕ) (r : List ℕ) → AreMembers G members
      → length T ≡ n * n
      → EachRow (IsTranslateRow G) T → ((g : ℕ) → g < n → row W g ≡ row T (l * n + g)) → i ≡ l * n + k → k < n
      → l < n
      → IsCombined G.table.p n (row members k) (row W) r → IsProductRow G i r
  product-of-members members T W i k l r A len H W-is e b c C k' l' m o d =
      product-row G (row members k') (member G k') (member G l') (row W) r (A k' m) at
      (subst (λ x. IsCombined G.table.p n (row members x) (row W) r) s.1 C)
    where
      s : (l ≡ l') × (k ≡ k')
      s = parts n l k l' k' b m (sym e ∙ d)

      at : (g : Below n) → row W g.0 ≡ row_of G 1 ((free_module G 1).act g (member G l'))
      at g = W-is g.0 g.1
          ∙ H (l * n + g.0)
          (let z : (l + 1) * n ≤ n * n = mul-le-mul_right n (let y : l + 1 ≤ n = omega (arith, c) in y) in
          let f : g.0 < n = g.1 in omega (arith, z, f, len))
          l g c refl
          ∙ ap (λ y. row_of G 1 ((free_module G 1).act g (member G y))) s.0
