-- The action of the group and the products, block by block.
use Rattle.std.proofs.Common.{◌≡◌, ℕ, zero, suc, ◌+◌, ◌*◌, ◌<◌, ◌≤◌, List, [], length, replicate}
use Rattle.std.proofs.Common.{arith, ap, sym}
use Rattle.std.proofs.Common.{◌∙◌, refl}
use Rattle.std.proofs.lemmas.Grind.{same_number_lists}
use Rattle.std.proofs.lemmas.List.{length-replicate, get_or-replicate}
use Rattle.std.proofs.lemmas.Nat.{mul-le}
use Rattle.std.proofs.Math.Nat.{mul-le-mul_right}
use mathlib.Core.Path.{subst, fun_ext}
use Rattle.group_table.specs.Tables.{order}
use Rattle.linear_algebra.specs.Modular.{IsCongruent, sum_below}
use Rattle.linear_algebra.specs.Rows.{entry, row, IsRow}
use Rattle.linear_algebra.proofs.Congruences.{same_below, congruent_trans, congruent_eq, congruent_sym}
use Rattle.linear_algebra.proofs.Congruences.{congruent_add, congruent_mul_left}
use Rattle.linear_algebra.proofs.Sums.{sum_below-same, sum_below-congruent}
use Rattle.group_modules.specs.Module.{Module, times, IsAdditive}
use Rattle.group_modules.specs.Field.{Below, residue}
use Rattle.group_modules.proofs.Laws.{zero-add, lin-add, map-times}
use Rattle.group_modules.specs.Sums.{below, up, total}
use Rattle.group_modules.proofs.SumLaws.{total-map, map-total}
use Rattle.group_modules.specs.Tables.{monoid, terms}
use Rattle.group_modules.proofs.TermLaws.{terms-add}
use Rattle.radical_layers.specs.Placing.{place_of, size_of}
use Rattle.radical_layers.proofs.Bridge.{at-zero}
use Rattle.p_groups.specs.PGroups.{PGroup, largest_residue, group}
use Rattle.p_groups.proofs.Fields.{residues}
use Rattle.group_algebra.specs.Coordinates.{layer_coordinates, free_module, row_of, table_of, member}
use Rattle.group_algebra.specs.Coordinates.{product_with, sizes}
use Rattle.group_algebra.specs.Gains.{image_at, stepped, GainsImage}
use Rattle.group_algebra.specs.Tables.{IsTranslateRow, IsProductRow, EachRow}
use Rattle.group_algebra.proofs.Members.{residue-row}
use Rattle.group_algebra.proofs.LayerRows.{block, each_block, image-added, size-is, expand-one}
use Rattle.group_algebra.proofs.LayerRows.{entry-of-total}
use Rattle.group_algebra.proofs.ElementRows.{product-expand}
use Rattle.group_algebra.proofs.Factors.{image-sum}

pub zeros-are-row : (p w : ℕ) → 0 < p → IsRow p w (replicate w 0)
zeros-are-row p w l = record {
  length_is = length-replicate w 0;
  below = λ j m. subst (λ x. x < p) (sym (get_or-replicate w j 0 0 m)) l;
}

-- the numbers of a borrowed row
pub row-of-ref : {p w m : ℕ} (x : List ℕ) → length x ≡ w → m ≡ p → ((j : ℕ) → j < length x → entry x j < m)
    → IsRow p w x
row-of-ref {p} {w} {m} x e f h = record {
  length_is = e;
  below = λ j l. subst (λ k. entry x j < k) f (h j (subst (λ k. j < k) (sym e) l));
}

-- positions by steps
pub inside-steps : (n k g s L : ℕ) → k < n → g < n → s ≡ n → L ≡ n * n → g + k * s + 1 ≤ L
inside-steps n k g s L l m e f = let z : (k + 1) * n ≤ n * n =
    mul-le-mul_right n (let y : k + 1 ≤ n = omega (arith, l) in y) in
    let d : k * s ≡ k * n = ap (λ x. k * x) e in omega (arith, z, m, f, d)

-- a table of products of at most 256 elements is small
pub few-rows : (n L : ℕ) → n ≤ 256 → L ≡ n * n → L ≤ 65536
few-rows n L small e = let z : n * n ≤ 256 * 256 = mul-le n n 256 256 small small in omega (arith, z, e)

-- images with the same entries modulo p
pub gains-near : (p : ℕ) (ss : List ℕ) (b : ℕ) (R R' : ℕ → ℕ → ℕ) (c : ℕ) (v old new : List ℕ)
    → ((k j : ℕ) → k < size_of ss → IsCongruent p (R k j) (R' k j)) → GainsImage p ss b R c v old new
    → GainsImage p ss b R' c v old new
gains-near p ss b R R' c v old new h C = record {
  is_row = C.is_row;
  each = λ i j l m. congruent_trans (C.each i j l m) (congruent_add (congruent_eq refl) (congruent_mul_left c
      (sum_below-congruent p (size_of ss) _ _
      (λ k o. congruent_mul_left (entry v (place_of ss b i k)) (h k j o)))));
}

module _ (G : PGroup) where
  abbrev q : ℕ
  q = largest_residue G

  abbrev n : ℕ
  n = order G.table

  abbrev M : (b : ℕ) → Module (suc q) (monoid (group G))
  M b = free_module G b

  -- a row is the row of its table
  pub row-back : (b : ℕ) (x : List ℕ) (v : (M b).of) → IsRow G.table.p (n * b) x → table_of G b x ≡ v
      → x ≡ row_of G b v
  row-back b x v r e = sym ((layer_coordinates G b).row-table x (residue-row G r)) ∙ ap (row_of G b) e

  -- the row of 0
  pub zero-row : (b : ℕ) → row_of G b (M b).zero ≡ replicate (n * b) 0
  zero-row b = same_number_lists (row_of G b (M b).zero) (replicate (n * b) 0)
      (r.length_is ∙ sym (length-replicate (n * b) 0))
      (λ j l. let m : j < n * b = (let e : length (row_of G b (M b).zero) ≡ n * b = r.length_is in omega
      (arith, e, l)) in
      same_below (at-zero q (group G) (n * b) (M b) (layer_coordinates G b) j) (r.below j m)
      (let z : 0 < suc q = omega arith in z)
      ∙ sym (get_or-replicate (n * b) j 0 0 m))
    where
      r : IsRow (suc q) (n * b) (row_of G b (M b).zero)
      r = (layer_coordinates G b).row-is (M b).zero

  pub zero-table : (b : ℕ) → table_of G b (replicate (n * b) 0) ≡ (M b).zero
  zero-table b = ap (table_of G b) (sym (zero-row b)) ∙ (layer_coordinates G b).table-row (M b).zero

  -- a row that gained the images of the blocks
  pub image-gained : (f : (M 1).of → (M 1).of) → IsAdditive (M 1) (M 1) f → (R : ℕ → List ℕ)
      → ((k : ℕ) → k < n → R k ≡ row_of G 1 (f (member G k)))
      → (b c : ℕ) (ss v old new : List ℕ) → ss ≡ sizes G → IsRow G.table.p (n * b) v
      → IsRow G.table.p (n * b) old → GainsImage G.table.p ss b (λ k j. entry (R k) j) c v old new
      → table_of G b new ≡ (M b).add (table_of G b old)
      (times (M b).add (M b).zero c (each_block G b f (table_of G b v)))
  image-gained f a R e b c ss v old new s rv ro C =
      image-added G f a R e b c v old new (residue-row G rv) (residue-row G ro)
      (residue-row G (subst (λ m. IsRow G.table.p (m * b) new) (ap size_of s ∙ size-is G) C.is_row))
      (λ i j l m. subst (λ p. At p (sizes G) n i j) (sym (residues G))
      (subst (λ k. At G.table.p (sizes G) k i j) (ap size_of s ∙ size-is G)
      (subst (λ ss'. At G.table.p ss' (size_of ss) i j) s
      (C.each i j l (subst (λ k. j < k) (sym (ap size_of s ∙ size-is G)) m)))))
    where
      At : ℕ → List ℕ → ℕ → ℕ → ℕ → Type 0
      At p ss m i j = IsCongruent p (entry new (place_of ss b i j))
          (entry old (place_of ss b i j) + c * sum_below m (λ k. entry v (place_of ss b i k) * entry (R k) j))

  -- the translates by g, and g times a table
  pub acted : (T : List (List ℕ)) → length T ≡ n * n → EachRow (IsTranslateRow G) T
      → (b : ℕ) (g : Below n) (ss v new : List ℕ) → ss ≡ sizes G
      → IsRow G.table.p (n * b) v
      → GainsImage G.table.p ss b (image_at T g.0 n []) 1 v (replicate (n * b) 0) new
      → new ≡ row_of G b ((M b).act g (table_of G b v))
  acted T len H b g ss v new s rv C = row-back b new ((M b).act g (table_of G b v))
      (subst (λ m. IsRow G.table.p (m * b) new) (ap size_of s ∙ size-is G) C.is_row)
      (image-gained ((M 1).act g) ((M 1).act-add g) (stepped T g.0 n)
      (λ k l. H (g.0 + k * n) (inside k l) k g l (let z : g.0 + k * n ≡ k * n + g.0 = omega arith in z))
      b 1 ss v (replicate (n * b) 0) new s rv
      (zeros-are-row G.table.p (n * b) (let z : suc q ≡ G.table.p = residues G in omega (arith, z))) C
      ∙ ap (λ z. (M b).add z (times (M b).add (M b).zero 1 ((M b).act g (table_of G b v)))) (zero-table b)
      ∙ zero-add (M b) (times (M b).add (M b).zero 1 ((M b).act g (table_of G b v)))
      ∙ (M b).add-zero ((M b).act g (table_of G b v)))
    where
      inside : (k : ℕ) → k < n → g.0 + k * n < length T
      inside k l = let z : (k + 1) * n ≤ n * n =
          mul-le-mul_right n (let y : k + 1 ≤ n = omega (arith, l) in y) in let c : g.0 < n = g.1 in
          omega (arith, z, c, len)

  -- a block of a product
  pub block-product : (b : ℕ) (a : (M 1).of) (w : (M b).of)
      → each_block G b (product_with G 1 a) w ≡ product_with G b a w
  block-product b a w = fun_ext (λ i. fun_ext (λ g. ap (λ (y : (M 1).of). y (residue 0 0) g)
      (product-expand G 1 a (block G b w i)
      ∙ sym (map-total (M b) (M 1) (λ u. block G b u i) (λ u u'. refl) (below n)
      (λ g. times (M b).add (M b).zero (a (residue 0 0) g).0 ((M b).act g w))
      ∙ ap (total (M 1) (below n)) (fun_ext
      (λ g. map-times (M b) (M 1) (λ u. block G b u i) (λ u u'. refl) (a (residue 0 0) g).0
      ((M b).act g w))))
      ∙ ap (λ u. block G b u i) (sym (product-expand G b a w)))))

  pub product-additive : (b : ℕ) (a : (M 1).of) → IsAdditive (M b) (M b) (product_with G b a)
  product-additive b a x y = lin-add (M b) (λ i. x) (λ i. y) (terms q (group G) 1 a)

  -- the sum of the first products
  abbrev pub first_products : (b : ℕ) → List ℕ → (M b).of → ℕ → (M b).of
  first_products b a w k = total (M b) (below k)
      (λ l. times (M b).add (M b).zero (entry a l.0) (product_with G b (member G l.0) w))

  pub products-next : (b : ℕ) (a : List ℕ) (w : (M b).of) (k : ℕ)
      → first_products b a w (k + 1) ≡ (M b).add
      (times (M b).add (M b).zero (entry a k) (product_with G b (member G k) w)) (first_products b a w k)
  products-next b a w k = ap (first_products b a w) (let z : k + 1 ≡ suc k = omega arith in z)
      ∙ ap ((M b).add (times (M b).add (M b).zero (entry a k) (product_with G b (member G k) w)))
      (total-map (M b) (λ i. up i) (below k)
      (λ l. times (M b).add (M b).zero (entry a l.0) (product_with G b (member G l.0) w)))

  -- all of them are the product
  pub products-all : (b : ℕ) (a : List ℕ) (w : (M b).of) → IsRow G.table.p n a
      → first_products b a w n ≡ product_with G b (table_of G 1 a) w
  products-all b a w r = ap (total (M b) (below n))
      (fun_ext (λ l. sym (map-times (M 1) (M b) (λ y. product_with G b y w)
      (terms-add q (group G) (M b) 1 (λ i. w)) (entry a l.0) (member G l.0))))
      ∙ sym (map-total (M 1) (M b) (λ y. product_with G b y w) (terms-add q (group G) (M b) 1 (λ i. w))
      (below n) (λ l. times (M 1).add (M 1).zero (entry a l.0) (member G l.0)))
      ∙ ap (λ y. product_with G b y w) (sym (expand-one G (table_of G 1 a)
      ∙ ap (λ y. total (M 1) (below n) (λ k. times (M 1).add (M 1).zero (entry y k.0) (member G k.0)))
      ((layer_coordinates G 1).row-table a
      (subst (λ m. IsRow (suc q) m a) (let z : n ≡ n * 1 = omega arith in z) (residue-row G r)))))

  -- the image of a member under the product with a
  image-of-product : (T : List (List ℕ)) → length T ≡ n * n → EachRow (IsProductRow G) T → (a : List ℕ)
      → IsRow G.table.p n a → (l j : ℕ) → l < n
      → IsCongruent (suc q) (sum_below n (λ i. entry a i * entry (row T (0 + l * n + i)) j))
      (entry (row_of G 1 (product_with G 1 (table_of G 1 a) (member G l))) j)
  image-of-product T len H a ra l j m = congruent_sym (congruent_trans
      (congruent_eq (ap (λ y. entry (row_of G 1 y) j) (sym (products-all 1 a (member G l) ra))))
      (congruent_trans (entry-of-total G n (entry a) (λ k. product_with G 1 (member G k) (member G l)) j)
      (congruent_eq (sum_below-same n _ (λ i. entry a i * entry (row T (0 + l * n + i)) j)
      (λ i o. ap (λ y. entry a i * entry y j) (sym (H (0 + l * n + i) (inside i o) i l o m
      (let z : 0 + l * n + i ≡ l * n + i = omega arith in z))))))))
    where
      inside : (i : ℕ) → i < n → 0 + l * n + i < length T
      inside i o = let z : (l + 1) * n ≤ n * n =
          mul-le-mul_right n (let y : l + 1 ≤ n = omega (arith, m) in y) in omega (arith, z, o, len)

  -- a row that gained the products by a
  pub product-gained : (T : List (List ℕ)) → length T ≡ n * n → EachRow (IsProductRow G) T
      → (b : ℕ) (ss a v old new : List ℕ) → ss ≡ sizes G → 0 < n → IsRow G.table.p n a
      → IsRow G.table.p (n * b) v → IsRow G.table.p (n * b) old
      → GainsImage G.table.p ss b (image_at T 0 n a) 1 v old new
      → new ≡ row_of G b ((M b).add (table_of G b old) (product_with G b (table_of G 1 a) (table_of G b v)))
  product-gained T len H b ss a v old new s some ra rv ro C = row-back b new _
      (subst (λ m. IsRow G.table.p (m * b) new) (ap size_of s ∙ size-is G) C.is_row)
      (image-gained (product_with G 1 (table_of G 1 a)) (product-additive 1 (table_of G 1 a))
      (λ k. row_of G 1 (product_with G 1 (table_of G 1 a) (member G k))) (λ k l. refl)
      b 1 ss v old new s rv ro
      (gains-near G.table.p ss b (image_at T 0 n a)
      (λ k j. entry (row_of G 1 (product_with G 1 (table_of G 1 a) (member G k))) j) 1 v old new
      (λ k j l. subst (λ p. IsCongruent p (image_at T 0 n a k j)
      (entry (row_of G 1 (product_with G 1 (table_of G 1 a) (member G k))) j)) (residues G)
      (congruent_trans (congruent_eq (image-sum T 0 n a k j (omega (arith, some, ra.length_is))
      ∙ ap (λ m. sum_below m (λ i. entry a i * entry (row T (0 + k * n + i)) j)) ra.length_is))
      (image-of-product T len H a ra k j (subst (λ m. k < m) (ap size_of s ∙ size-is G) l)))) C)
      ∙ ap (λ z. (M b).add (table_of G b old) (times (M b).add (M b).zero 1 z))
      (block-product b (table_of G 1 a) (table_of G b v))
      ∙ ap ((M b).add (table_of G b old))
      ((M b).add-zero (product_with G b (table_of G 1 a) (table_of G b v))))

  -- products with zeros
  pub no-products : (b : ℕ) (a : List ℕ) (w : (M b).of) (k : ℕ) → ((i : ℕ) → i < k → entry a i ≡ 0)
      → first_products b a w k ≡ (M b).zero
  no-products b a w zero h = refl
  no-products b a w (suc k) h = ap (first_products b a w) (let z : suc k ≡ k + 1 = omega arith in z)
      ∙ products-next b a w k
      ∙ ap (λ c. (M b).add (times (M b).add (M b).zero c (product_with G b (member G k) w))
      (first_products b a w k))
      (h k (omega arith))
      ∙ ap ((M b).add (M b).zero) (no-products b a w k (λ i l. h i (omega arith)))
      ∙ (M b).add-zero (M b).zero

  pub nothing-gained : (b : ℕ) (a out : List ℕ) (w : (M b).of) → IsRow G.table.p n a
      → IsRow G.table.p (n * b) out
      → ((i : ℕ) → i < n → entry a i ≡ 0)
      → out ≡ row_of G b ((M b).add (table_of G b out) (product_with G b (table_of G 1 a) w))
  nothing-gained b a out w ra ro h = row-back b out
      ((M b).add (table_of G b out) (product_with G b (table_of G 1 a) w)) ro
      (sym (ap ((M b).add (table_of G b out)) (sym (products-all b a w ra) ∙ no-products b a w n h)
      ∙ (M b).add-zero (table_of G b out)))
