-- Layer coordinates: block by block, and under maps of the blocks.
use Rattle.std.proofs.Common.{◌≡◌, ℕ, zero, suc, ◌+◌, ◌-◌, ◌*◌, ◌<◌, ◌≤◌, ◌⊎◌, List, [], ◌∷◌, length, inl}
use Rattle.std.proofs.Common.{inr, arith, ap, ap₂, sym, ◌∙◌, refl}
use Rattle.group_algebra.proofs.PlaceLemmas.{yes, otherwise}
use Rattle.std.proofs.lemmas.Bool.{cases_lt}
use mathlib.Core.Path.{subst, fun_ext}
use Rattle.group_table.specs.Tables.{order}
use Rattle.linear_algebra.specs.Modular.{IsCongruent, sum_below}
use Rattle.linear_algebra.specs.Rows.{entry, IsRow, IsCombination}
use Rattle.linear_algebra.proofs.Congruences.{congruent_trans, congruent_eq, congruent_sym, congruent_add}
use Rattle.linear_algebra.proofs.Congruences.{congruent_mul_left, same_below}
use Rattle.group_modules.specs.Module.{Module, times, IsAdditive}
use Rattle.group_modules.proofs.Laws.{map-times}
use Rattle.group_modules.specs.Field.{Below, residue}
use Rattle.linear_algebra.proofs.Residues.{below-path}
use Rattle.group_modules.specs.Sums.{below, total}
use Rattle.group_modules.proofs.SumLaws.{map-total}
use Rattle.group_modules.specs.Tables.{monoid}
use Rattle.radical_layers.specs.Placing.{place_of, size_of}
use Rattle.radical_layers.specs.LayerBasis.{layer_basis}
use Rattle.radical_layers.proofs.Places.{placing, placing-place}
use Rattle.radical_layers.proofs.BlockForm.{tab, length-tab, entry-tab}
use Rattle.radical_layers.proofs.Bridge.{at-total, at-times, from-span}
use Rattle.radical_layers.proofs.LayerForm.{basis-size, size, joined-matrix}
use Rattle.p_groups.specs.PGroups.{PGroup, largest_residue, group}
use Rattle.p_groups.proofs.Fields.{field}
use Rattle.group_algebra.specs.Coordinates.{sum_coordinates, layers, layer_coordinates, free_module, row_of}
use Rattle.group_algebra.specs.Coordinates.{table_of, sizes, member}
use Rattle.group_algebra.proofs.LayerLaws.{layers_are, layer_claims}

-- the places of one block
pub place-one : (ss : List ℕ) (k : ℕ) → k < size_of ss → place_of ss 1 0 k ≡ k
place-one [] k l = absurd (omega (arith, l))
place-one (s ∷ ss) k l = at (cases_lt k s) (λ m. place-one ss (k - s) m)
  where
    at : (k < s) ⊎ (s ≤ k) → (k - s < size_of ss → place_of ss 1 0 (k - s) ≡ k - s)
        → place_of (s ∷ ss) 1 0 k ≡ k
    at (inl m) ih = yes k s (0 * s + k) (1 * s + place_of ss 1 0 (k - s)) m
        ∙ (let z : 0 * s + k ≡ k = omega arith in z)
    at (inr m) ih = otherwise k s (0 * s + k) (1 * s + place_of ss 1 0 (k - s)) m
        ∙ ap (λ y. 1 * s + y) (ih (let z : k - s < size_of ss = omega (arith, l, m) in z))
        ∙ (let z : 1 * s + (k - s) ≡ k = omega (arith, m) in z)

module _ (G : PGroup) where
  abbrev q : ℕ
  q = largest_residue G

  abbrev n : ℕ
  n = order G.table

  abbrev M : (b : ℕ) → Module (suc q) (monoid (group G))
  M b = free_module G b

  abbrev only : Below 1
  only = residue 0 0

  -- block i of v, as a member of kG
  abbrev pub block : (b : ℕ) → (M b).of → Below b → (M 1).of
  block b v i z g = v i g

  -- v with f done to each block
  abbrev pub each_block : (b : ℕ) → ((M 1).of → (M 1).of) → (M b).of → (M b).of
  each_block b f v i g = f (block b v i) only g

  pub only-block : (v : (M 1).of) (i : Below 1) → block 1 v i ≡ v
  only-block v i = fun_ext (λ z. ap v (below-path i z
      (let a : i.0 < 1 = i.1 in let c : z.0 < 1 = z.1 in omega (arith, a, c))))

  pub basis-count : length (layer_basis (layers G)) ≡ n
  basis-count = basis-size q (field G) (group G) (sum_coordinates G) (layers G) (layers_are G)

  pub size-is : size_of (sizes G) ≡ n
  size-is = size q (field G) (group G) (sum_coordinates G) (layers G) (layers_are G)

  pub place-inside : (b i k : ℕ) → i < b → k < n → place_of (sizes G) b i k < n * b
  place-inside b i k l m = subst (λ x. x < n * b) (placing-place b (sizes G) n size-is (i, l) (k, m))
      ((placing b (sizes G) n size-is).place (i, l) (k, m)).1

  pub place-differs : (b i k i' k' : ℕ) → i < b → k < n → i' < b → k' < n
      → place_of (sizes G) b i k ≡ place_of (sizes G) b i' k' → (i ≡ i') × (k ≡ k')
  place-differs b i k i' k' l m l' m' e = (
    ap (λ (x : Below b). x.0) (sym ((placing b (sizes G) n size-is).block-place (i, l) (k, m))
        ∙ ap (placing b (sizes G) n size-is).block same
        ∙ (placing b (sizes G) n size-is).block-place (i', l') (k', m')),
    ap (λ (x : Below n). x.0) (sym ((placing b (sizes G) n size-is).member-place (i, l) (k, m))
        ∙ ap (placing b (sizes G) n size-is).member same
        ∙ (placing b (sizes G) n size-is).member-place (i', l') (k', m')),
  )
    where
      same : (placing b (sizes G) n size-is).place (i, l) (k, m) ≡ (placing b (sizes G) n size-is).place (
        i',
        l',
      ) (k', m')
      same = below-path _ _ (placing-place b (sizes G) n size-is (i, l) (k, m) ∙ e
          ∙ sym (placing-place b (sizes G) n size-is (i', l') (k', m')))

  -- a block as a sum of the members of the layer basis
  pub block-expand : (b : ℕ) (v : (M b).of) (i : Below b)
      → block b v i ≡ total (M 1) (below n)
      (λ k. times (M 1).add (M 1).zero (entry (row_of G b v) (place_of (sizes G) b i.0 k.0))
      (member G k.0))
  block-expand b v i = (layer_claims G).expand b v i
      ∙ ap (λ m. total (M 1) (below m) (λ k. times (M 1).add (M 1).zero
      (entry (row_of G b v) (place_of (sizes G) b i.0 k.0)) (member G k.0))) basis-count

  -- a table is known by its blocks
  pub row-by-blocks : (b : ℕ) (x : List ℕ) → IsRow (suc q) (n * b) x → (v : (M b).of)
      → ((i : Below b) → block b v i ≡ total (M 1) (below n)
      (λ k. times (M 1).add (M 1).zero (entry x (place_of (sizes G) b i.0 k.0)) (member G k.0)))
      → row_of G b v ≡ x
  row-by-blocks b x r v e = ap (row_of G b) (sym w-is) ∙ (layer_coordinates G b).row-table x r
    where
      w-is : table_of G b x ≡ v
      w-is = fun_ext (λ i. fun_ext (λ g. ap (λ (y : (M 1).of). y only g)
          (block-expand b (table_of G b x) i
          ∙ ap (λ y. total (M 1) (below n)
          (λ k. times (M 1).add (M 1).zero (entry y (place_of (sizes G) b i.0 k.0)) (member G k.0)))
          ((layer_coordinates G b).row-table x r)
          ∙ sym (e i))))

  one-place : (k : Below n) → place_of (sizes G) 1 0 k.0 ≡ k.0
  one-place k = place-one (sizes G) k.0 (subst (λ m. k.0 < m) (sym size-is) k.1)

  width-one : {x : List ℕ} → IsRow (suc q) n x → IsRow (suc q) (n * 1) x
  width-one {x} r = subst (λ w. IsRow (suc q) w x) (let z : n ≡ n * 1 = omega arith in z) r

  pub row-one : (x : List ℕ) → IsRow (suc q) n x → (v : (M 1).of)
      → v ≡ total (M 1) (below n) (λ k. times (M 1).add (M 1).zero (entry x k.0) (member G k.0))
      → row_of G 1 v ≡ x
  row-one x r v e = row-by-blocks 1 x (width-one r) v (λ i. only-block v i ∙ e
      ∙ ap (total (M 1) (below n)) (fun_ext
      (λ k. ap (λ j. times (M 1).add (M 1).zero (entry x j) (member G k.0))
      (sym (one-place k) ∙ ap (λ j. place_of (sizes G) 1 j k.0)
      (let a : i.0 < 1 = i.1 in let z : 0 ≡ i.0 = omega (arith, a) in z)))))

  pub expand-one : (v : (M 1).of) → v ≡ total (M 1) (below n)
      (λ k. times (M 1).add (M 1).zero (entry (row_of G 1 v) k.0) (member G k.0))
  expand-one v = sym (only-block v only) ∙ block-expand 1 v only
      ∙ ap (total (M 1) (below n)) (fun_ext
      (λ k. ap (λ j. times (M 1).add (M 1).zero (entry (row_of G 1 v) j) (member G k.0)) (one-place k)))

  -- the coordinates of a member from a combination of the layer basis
  pub combination-row : (x : List ℕ) → IsRow (suc q) n x → (v : (M 1).of)
      → IsCombination (suc q) (entry x) (layer_basis (layers G)) (entry ((sum_coordinates G).row v))
      → row_of G 1 v ≡ x
  combination-row x r v c = row-one x r v
      (from-span q (group G) n (M 1) (sum_coordinates G) (layer_basis (layers G))
      (joined-matrix q (field G) (group G) (sum_coordinates G) (layers G) (layers_are G)
      ((layers G).count) 0) (entry x) v c
      ∙ ap (λ m. total (M 1) (below m) (λ k. times (M 1).add (M 1).zero (entry x k.0)
      (member G k.0))) basis-count)

  -- the coordinates of a block are those of the table at the block's places
  pub block-row : (b : ℕ) (v : (M b).of) (i : Below b) (j : ℕ) → j < n
      → entry (row_of G 1 (block b v i)) j ≡ entry (row_of G b v) (place_of (sizes G) b i.0 j)
  block-row b v i j l = ap (λ x. entry x j)
      (row-one (tab n (λ k. entry (row_of G b v) (place_of (sizes G) b i.0 k.0))) part-is (block b v i)
      (block-expand b v i
      ∙ ap (total (M 1) (below n)) (fun_ext
      (λ k. ap (λ c. times (M 1).add (M 1).zero c (member G k.0))
      (sym (entry-tab n (λ k. entry (row_of G b v) (place_of (sizes G) b i.0 k.0)) k.0 k.1))))))
      ∙ entry-tab n (λ k. entry (row_of G b v) (place_of (sizes G) b i.0 k.0)) j l
    where
      part-is : IsRow (suc q) n (tab n (λ k. entry (row_of G b v) (place_of (sizes G) b i.0 k.0)))
      part-is = record {
        length_is = length-tab n (λ k. entry (row_of G b v) (place_of (sizes G) b i.0 k.0));
        below = λ k m. subst (λ y. y < suc q)
            (sym (entry-tab n (λ k. entry (row_of G b v) (place_of (sizes G) b i.0 k.0)) k m))
            (((layer_coordinates G b).row-is v).below (place_of (sizes G) b i.0 k)
            (place-inside b i.0 k i.1 m));
      }

  -- the coordinates of a combination of members with known coordinates
  pub entry-of-total : (m : ℕ) (c : ℕ → ℕ) (x : ℕ → (M 1).of) (j : ℕ)
      → IsCongruent (suc q) (entry (row_of G 1
      (total (M 1) (below m) (λ k. times (M 1).add (M 1).zero (c k.0) (x k.0)))) j)
      (sum_below m (λ k. c k * entry (row_of G 1 (x k)) j))
  entry-of-total m c x j = at-total q (group G) (n * 1) (M 1) (layer_coordinates G 1) m
      (λ k. times (M 1).add (M 1).zero (c k.0) (x k.0)) (λ k. c k * entry (row_of G 1 (x k)) j) j
      (λ k. at-times q (group G) (n * 1) (M 1) (layer_coordinates G 1) (c k.0) (x k.0) j)

  module _ (f : (M 1).of → (M 1).of) (additive : IsAdditive (M 1) (M 1) f) (R : ℕ → List ℕ) (images : (k : ℕ)
      → k < n → R k ≡ row_of G 1 (f (member G k))) where
    -- the coordinates of f at block i of v
    pub image-entry : (b : ℕ) (v : (M b).of) (i : Below b) (j : ℕ)
        → IsCongruent (suc q) (entry (row_of G 1 (f (block b v i))) j)
        (sum_below n (λ k. entry (row_of G b v) (place_of (sizes G) b i.0 k) * entry (R k) j))
    image-entry b v i j = congruent_trans
        (congruent_eq (ap (λ y. entry (row_of G 1 y) j)
        (ap f (block-expand b v i)
        ∙ map-total (M 1) (M 1) f additive (below n)
        (λ k. times (M 1).add (M 1).zero (entry (row_of G b v) (place_of (sizes G) b i.0 k.0))
        (member G k.0))
        ∙ ap (total (M 1) (below n)) (fun_ext
        (λ k. map-times (M 1) (M 1) f additive (entry (row_of G b v) (place_of (sizes G) b i.0 k.0))
        (member G k.0))))))
        (congruent_trans
        (entry-of-total n (λ k. entry (row_of G b v) (place_of (sizes G) b i.0 k)) (λ k. f (member G k)) j)
        (congruent_eq (same n (λ k l. ap (λ y. entry (row_of G b v) (place_of (sizes G) b i.0 k) * entry y j)
        (sym (images k l))))))
      where
        same : (m : ℕ) {u w : ℕ → ℕ} → ((k : ℕ) → k < m → u k ≡ w k) → sum_below m u ≡ sum_below m w
        same zero e = refl
        same (suc m) e = ap₂ ◌+◌ (same m (λ k l. e k (omega (arith, l)))) (e m (omega arith))

    -- the table that gains c times the images of the blocks
    abbrev gained : (b c : ℕ) → List ℕ → List ℕ → (M b).of
    gained b c v old = (M b).add (table_of G b old)
        (times (M b).add (M b).zero c (each_block b f (table_of G b v)))

    -- rows that gain c times the images of the blocks
    pub image-added : (b c : ℕ) (v old new : List ℕ) → IsRow (suc q) (n * b) v → IsRow (suc q) (n * b) old
        → IsRow (suc q) (n * b) new
        → ((i j : ℕ) → i < b → j < n → IsCongruent (suc q) (entry new (place_of (sizes G) b i j))
        (entry old (place_of (sizes G) b i j) + c * sum_below n
        (λ k. entry v (place_of (sizes G) b i k) * entry (R k) j)))
        → table_of G b new ≡ (M b).add (table_of G b old)
        (times (M b).add (M b).zero c (each_block b f (table_of G b v)))
    image-added b c v old new rv ro rn e =
        ap (table_of G b) (sym (row-by-blocks b new rn (gained b c v old) blocks))
        ∙ (layer_coordinates G b).table-row (gained b c v old)
      where
        block-is : (i : Below b) → block b (gained b c v old) i ≡ (M 1).add (block b (table_of G b old) i)
            (times (M 1).add (M 1).zero c (f (block b (table_of G b v) i)))
        block-is i = ap ((M 1).add (block b (table_of G b old) i))
            (map-times (M b) (M 1) (λ u. block b u i) (λ u u'. refl) c (each_block b f (table_of G b v))
            ∙ ap (times (M 1).add (M 1).zero c) (only-block (f (block b (table_of G b v) i)) only))

        at-block : (i : Below b) (j : ℕ) → j < n
            → IsCongruent (suc q) (entry (row_of G 1 (block b (gained b c v old) i)) j)
            (entry new (place_of (sizes G) b i.0 j))
        at-block i j l = congruent_trans (congruent_eq (ap (λ y. entry (row_of G 1 y) j) (block-is i)))
            (congruent_trans ((layer_coordinates G 1).row-add (block b (table_of G b old) i)
            (times (M 1).add (M 1).zero c (f (block b (table_of G b v) i))) j)
            (congruent_trans (congruent_add
            (congruent_eq (block-row b (table_of G b old) i j l
            ∙ ap (λ y. entry y (place_of (sizes G) b i.0 j)) ((layer_coordinates G b).row-table old ro)))
            (congruent_trans (at-times q (group G) (n * 1) (M 1) (layer_coordinates G 1) c
            (f (block b (table_of G b v) i)) j)
            (congruent_mul_left c (congruent_trans (image-entry b (table_of G b v) i j)
            (congruent_eq (ap (λ y. sum_below n (λ k. entry y (place_of (sizes G) b i.0 k) * entry (R k) j))
            ((layer_coordinates G b).row-table v rv)))))))
            (congruent_sym (e i.0 j i.1 l))))

        blocks : (i : Below b) → block b (gained b c v old) i ≡ total (M 1) (below n)
            (λ k. times (M 1).add (M 1).zero (entry new (place_of (sizes G) b i.0 k.0)) (member G k.0))
        blocks i = expand-one (block b (gained b c v old) i)
            ∙ ap (total (M 1) (below n)) (fun_ext (λ k. ap (λ x. times (M 1).add (M 1).zero x (member G k.0))
            (same_below (at-block i k.0 k.1)
            (((layer_coordinates G 1).row-is (block b (gained b c v old) i)).below k.0
            (let l : k.0 < n = k.1 in omega (arith, l)))
            (rn.below (place_of (sizes G) b i.0 k.0) (place-inside b i.0 k.0 i.1 k.1)))))
