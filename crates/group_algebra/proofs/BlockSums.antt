-- The value of a linear map given by rows is the sum of the products of the blocks with the rows.
use Rattle.std.proofs.Common.{◌≡◌, ℕ, suc, ◌+◌, ◌*◌, ◌<◌, ◌≤◌, ◌⊎◌, List, length, replicate, inl, inr, arith}
use Rattle.std.proofs.Common.{ap, ap₂, sym, ◌∙◌}
use Rattle.std.proofs.lemmas.Bool.{cases_lt}
use Rattle.std.proofs.lemmas.List.{get_or_past, ext_get_or}
use native.Mathlib.Nat.{lt-suc_self}
use mathlib.Core.Path.{subst, fun_ext}
use Rattle.group_table.specs.Tables.{order}
use Rattle.group_modules.specs.Module.{Monoid, Module, times, lin}
use Rattle.group_modules.specs.Field.{Below, residue}
use Rattle.linear_algebra.proofs.Residues.{below-path}
use Rattle.group_modules.specs.Sums.{below, up, total}
use Rattle.group_modules.proofs.SumLaws.{total-map}
use Rattle.group_modules.specs.Tables.{Group, monoid, terms, part}
use Rattle.group_modules.proofs.TermLaws.{lin-terms}
use Rattle.linear_algebra.specs.Rows.{entry, row, IsRow}
use Rattle.radical_layers.specs.Placing.{place_of}
use Rattle.radical_layers.specs.LayerBasis.{layer_basis}
use Rattle.radical_layers.proofs.BasisForm.{list_of, length-list_of, entry-list_of}
use Rattle.p_groups.specs.PGroups.{PGroup, largest_residue, group}
use Rattle.p_groups.proofs.Fields.{residues}
use Rattle.group_algebra.specs.Coordinates.{free_module, layer_coordinates, layers, sizes, table_of, row_of}
use Rattle.group_algebra.specs.Coordinates.{member, product_with}
use Rattle.group_algebra.specs.RowMaps.{map_row, IsBlock}
use Rattle.group_algebra.proofs.ImageLemmas.{zero-row}
use Rattle.group_algebra.proofs.LayerLaws.{layer_claims}
use Rattle.group_algebra.proofs.LayerRows.{place-one, basis-count, size-is}

-- sums over the numbers below n, by the last one
total-last : {p : ℕ} {G : Monoid} (M : Module p G) (n : ℕ) (f : ℕ → M.of)
    → total M (below (suc n)) (λ i. f i.0) ≡ M.add (total M (below n) (λ i. f i.0)) (f n)
total-last M n f = ap (M.add (f n)) (total-map M (λ i. up i) (below n) (λ i. f i.0))
    ∙ M.add-comm (f n) (total M (below n) (λ i. f i.0))

-- a row of kG is its only block
pub only-block-of-row : (G : PGroup) (a : List ℕ) → length a ≡ order G.table → IsBlock G 1 0 a a
only-block-of-row G a e = record {
  count = e;
  each = λ k l. ap (entry a) (sym (place-one (sizes G) k (subst (λ n. k < n) (sym (size-is G)) l)));
}

module _ (G : PGroup) where
  abbrev q : ℕ
  q = largest_residue G

  abbrev Γ : Group (order G.table)
  Γ = group G

  abbrev T : ℕ → Module (suc q) (monoid Γ)
  T b = free_module G b

  module _ (m : ℕ) (x : List ℕ) where
    -- block i of x, as a row of kG
    abbrev pub block : ℕ → List ℕ
    block i = list_of (order G.table) (λ k. entry x (place_of (sizes G) m i k))

    pub entry-block : (i k : ℕ) → k < order G.table → entry (block i) k ≡ entry x (place_of (sizes G) m i k)
    entry-block i k l = entry-list_of (order G.table) (λ k. entry x (place_of (sizes G) m i k)) k l

    pub block-of-row : (i : ℕ) → IsBlock G m i x (block i)
    block-of-row i = record {
      count = length-list_of (order G.table) (λ k. entry x (place_of (sizes G) m i k));
      each = entry-block i;
    }

    pub block-is : (i : ℕ) (a : List ℕ) → IsBlock G m i x a → a ≡ block i
    block-is i a B = ext_get_or 0 a (block i) (B.count ∙ sym (block-of-row i).count)
        (λ k l. let d : k < order G.table =
        (let e : length a ≡ order G.table = B.count in omega (arith, e, l)) in
        B.each k d ∙ sym (entry-block i k d))

  module _ (m : ℕ) (x : List ℕ) (x-is : IsRow (suc q) (order G.table * m) x) where
    entry-below : (j : ℕ) → entry x j < suc q
    entry-below j = go (cases_lt j (order G.table * m))
      where
        go : (j < order G.table * m) ⊎ (order G.table * m ≤ j) → entry x j < suc q
        go (inl l) = x-is.below j l
        go (inr l) = subst (λ y. y < suc q)
            (sym (get_or_past x j 0 (let e : length x ≡ order G.table * m = x-is.length_is in omega (
              arith,
              e,
              l,
            ))))
            (let z : 0 < suc q = omega arith in z)

    pub block-is-row : (i : ℕ) → IsRow (suc q) (order G.table) (block m x i)
    block-is-row i = record {
      length_is = (block-of-row m x i).count;
      below = λ j l. subst (λ y. y < suc q) (sym (entry-block m x i j l))
          (entry-below (place_of (sizes G) m i j));
    }

    wide-row : (i : ℕ) → IsRow (suc q) (order G.table * 1) (block m x i)
    wide-row i = subst (λ w. IsRow (suc q) w (block m x i))
        (let z : order G.table ≡ order G.table * 1 = omega arith in z) (block-is-row i)

    -- the table of block i is block i of the table
    abbrev part_of : Below m → (T 1).of
    part_of i z g = table_of G m x i g

    pub block-table : (i : Below m) → table_of G 1 (block m x i.0) ≡ part_of i
    block-table i = fun_ext (λ z. fun_ext (λ g. ap (λ (y : Below 1). table_of G 1 (block m x i.0) y g)
        (below-path z (residue 0 0) (let l : z.0 < 1 = z.1 in omega (arith, l))))) ∙ whole
      where
        whole : ◌≡◌ {A = (T 1).of} (λ z g. table_of G 1 (block m x i.0) (residue 0 0) g) (part_of i)
        whole = (layer_claims G).expand 1 (table_of G 1 (block m x i.0)) (residue 0 0)
            ∙ ap (total (T 1) (below (length (layer_basis (layers G)))))
            (fun_ext (λ (k : Below (length (layer_basis (layers G)))). ap
            (λ c. times (T 1).add (T 1).zero c (member G k.0)) (same k)))
            ∙ sym ((layer_claims G).expand m (table_of G m x) i)
          where
            same : (k : Below (length (layer_basis (layers G))))
                → entry (row_of G 1 (table_of G 1 (block m x i.0))) (place_of (sizes G) 1 (residue 0 0).0 k.0)
                ≡ entry (row_of G m (table_of G m x)) (place_of (sizes G) m i.0 k.0)
            same k = ap₂ entry ((layer_coordinates G 1).row-table (block m x i.0) (wide-row i.0))
                (place-one (sizes G) k.0 (subst (λ n. k.0 < n) (sym (size-is G)) inside))
                ∙ entry-block m x i.0 k.0 inside
                ∙ ap (λ y. entry y (place_of (sizes G) m i.0 k.0))
                (sym ((layer_coordinates G m).row-table x x-is))
              where
                inside : k.0 < order G.table
                inside = subst (λ n. k.0 < n) (basis-count G) k.1

    module _ (b : ℕ) (target : ℕ → (T b).of) where
      -- the product of block i and a table
      abbrev product : ℕ → (T b).of
      product i = product_with G b (table_of G 1 (block m x i)) (target i)

      product-is : (i : Below m)
          → product i.0 ≡ total (T b) (below (order G.table))
          (part q Γ (T b) m (λ (j : Below m). target j.0) (table_of G m x) i)
      product-is i = lin-terms q Γ (T b) 1 (λ j. target i.0) (table_of G 1 (block m x i.0)) (below 1)
          ∙ (T b).add-zero (total (T b) (below (order G.table))
          (part q Γ (T b) 1 (λ j. target i.0) (table_of G 1 (block m x i.0)) (0, lt-suc_self 0)))
          ∙ ap (λ (a : (T 1).of). total (T b) (below (order G.table))
          (part q Γ (T b) 1 (λ j. target i.0) a (0, lt-suc_self 0)))
          (block-table i)

      -- the linear map that takes basis element i to target i
      pub map-is : lin (T b) (λ (j : Below m). target j.0) (terms q Γ m (table_of G m x)) ≡ total (T b)
          (below m) (λ i. product i.0)
      map-is = lin-terms q Γ (T b) m (λ (j : Below m). target j.0) (table_of G m x) (below m)
          ∙ ap (total (T b) (below m)) (sym (fun_ext product-is))

  module _ (b : ℕ) (rows : List (List ℕ)) (x : List ℕ) where
    -- block k of x times row k
    abbrev pub term : ℕ → (T b).of
    term k = product_with G b (table_of G 1 (block (length rows) x k)) (table_of G b (row rows k))

    -- the sum of the first k products
    pub record IsRowSum (k : ℕ) (out : List ℕ) : Type 0 where
      pub sum : out ≡ row_of G b (total (T b) (below k) (λ i. term i.0))

    pub sum-start : (out : List ℕ) → out ≡ replicate (order G.table * b) 0 → IsRowSum 0 out
    sum-start out e = record { sum = e ∙ sym (zero-row G b) }

    -- a turn of the loop, by what its calls say
    pub sum-step : (k : ℕ) (out v new : List ℕ) → IsRowSum k out → v ≡ row rows k
        → new ≡ row_of G b ((T b).add (table_of G b out)
        (product_with G b (table_of G 1 (block (length rows) x k)) (table_of G b v)))
        → IsRowSum (k + 1) new
    sum-step k out v new S g n = record {
      sum = n
          ∙ ap₂ (λ (s t : (T b).of). row_of G b ((T b).add s t))
          (ap (table_of G b) S.sum ∙ (layer_coordinates G b).table-row
          (total (T b) (below k) (λ i. term i.0)))
          (ap (λ z. product_with G b (table_of G 1 (block (length rows) x k)) (table_of G b z)) g)
          ∙ ap (row_of G b) (sym (total-last (T b) k term)
          ∙ ap (λ n. total (T b) (below n) (λ i. term i.0)) (let z : suc k ≡ k + 1 = omega arith in z));
    }

    pub sum-end : (out : List ℕ) (k : ℕ) → IsRow G.table.p (order G.table * length rows) x → k ≡ length rows
        → IsRowSum k out
        → out ≡ map_row G b rows x
    sum-end out k r e S = (subst (λ n. IsRowSum n out) e S).sum
        ∙ ap (row_of G b) (sym (map-is (length rows) x
        (subst (λ p. IsRow p (order G.table * length rows) x) (sym (residues G)) r)
        b (λ i. table_of G b (row rows i))))
