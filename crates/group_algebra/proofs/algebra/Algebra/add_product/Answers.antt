use Rattle.std.proofs.Common.{◌≡◌, ◌<◌, ◌≤◌, ℕ, List, ◌*◌, ◌^◌, length, take, arith, ap, sym, ◌∙◌, refl}
use Rattle.std.proofs.lemmas.List.{length-take-le, get_or-take}
use mathlib.Core.Path.{subst}
use Rattle.group_table.specs.Tables.{order}
use Rattle.linear_algebra.specs.Rows.{entry, IsRow}
use Rattle.p_groups.proofs.Fields.{residues}
use Rattle.radical_layers.specs.Placing.{size_of, place_of}
use Rattle.fp_rows.specs.Refs.{entries_of}
use Rattle.p_groups.specs.PGroups.{PGroup}
use Rattle.group_algebra.specs.Coordinates.{free_module, row_of, table_of, sizes, product_with}
use Rattle.group_algebra.specs.RowMaps.{IsBlock}
use Rattle.group_algebra.specs.Gains.{image_at, GainsImage, IsZeroBlock}
use Rattle.group_algebra.proofs.BlockSums.{block, entry-block, block-is, block-is-row}
use Rattle.group_algebra.proofs.Factors.{reach-within}
use Rattle.group_algebra.proofs.LayerRows.{size-is}
use Rattle.group_algebra.proofs.Members.{residue-row}
use Rattle.group_algebra.proofs.ImageLemmas.{few-rows, row-of-ref, product-gained, nothing-gained}
use Rattle.group_algebra.proofs.algebra.Algebra.add_product.Goals as goal

pub add_image-requires-clause-lengths : goal.add_image-requires-clause-lengths
add_image-requires-clause-lengths c =
    let size : size_of c.self.inside.places ≡ order c.self.inside.group.table =
    ap size_of c.self.invariant.sizes_are ∙ size-is c.self.inside.group in (
      (rw (← c.self.view_is) at c.requires.length) ∙ ap (λ k. k * c.args.rank) (sym size),
      (rw (← c.self.view_is) at c.requires.out_length) ∙ ap (λ k. k * c.args.rank) (sym size),
    )

pub add_image-requires-clause-images : goal.add_image-requires-clause-images
add_image-requires-clause-images c =
    let size : size_of c.self.inside.places ≡ order c.self.inside.group.table =
    ap size_of c.self.invariant.sizes_are ∙ size-is c.self.inside.group in
    let fs : List ℕ = c.factors_of-factors.result in
    let n : ℕ = c.order-n.result in
    let count : length (take n fs) ≡ n = length-take-le n fs
    (omega (arith, c.order-n.ensures.small, c.factors_of-factors.ensures.count)) in
    let below : (k : ℕ) → k < order c.self.inside.group.table → entry fs k < c.self.inside.group.table.p =
    subst (λ (X : PGroup). (k : ℕ) → k < order X.table → entry fs k < X.table.p) (sym c.self.view_is)
    c.factors_of-factors.ensures.below in
    let p : c.args.out.now.p ≡ c.self.inside.group.table.p = rw (← c.self.view_is) at c.requires.prime in
    record {
      prime = c.self.invariant.product_shape.prime ∙ sym p;
      width = c.self.invariant.product_shape.width ∙ sym size;
      few = few-rows _ _ c.self.invariant.small c.self.invariant.product_shape.rows;
      factors = λ i l.
          let m : i < n = omega (arith, l, count) in
          subst (λ q. entry (take n fs) i < q) (sym p) (subst (λ y. y < c.self.inside.group.table.p)
          (sym (get_or-take n fs i 0 m)) (below i (omega (arith, m, c.order-n.ensures.value))));
    }

pub add_image-requires-clause-short : goal.add_image-requires-clause-short
add_image-requires-clause-short c =
    let size : size_of c.self.inside.places ≡ order c.self.inside.group.table =
    ap size_of c.self.invariant.sizes_are ∙ size-is c.self.inside.group in
    rw size c.self.invariant.small

-- the factors are the block
block-factors : (G : PGroup) (m i : ℕ) (x fs : List ℕ) → order G.table ≤ length fs
    → ((k : ℕ) → k < order G.table → entry fs k ≡ entry x (place_of (sizes G) m i k))
    → take (order G.table) fs ≡ block G m x i
block-factors G m i x fs l h = block-is G m x i (take (order G.table) fs) (record {
  count = length-take-le (order G.table) fs l;
  each = λ k o. get_or-take (order G.table) fs k 0 o ∙ h k o;
})

pub add_image-requires-clause-inside : goal.add_image-requires-clause-inside
add_image-requires-clause-inside c k l =
    let G : PGroup = c.self.inside.group in
    let size : size_of c.self.inside.places ≡ order G.table = ap size_of c.self.invariant.sizes_are
    ∙ size-is G in
    let count : length (take c.order-n.result c.factors_of-factors.result) ≡ c.order-n.result =
    length-take-le c.order-n.result c.factors_of-factors.result
    (omega (arith, c.order-n.ensures.small, c.factors_of-factors.ensures.count)) in
    reach-within (take c.order-n.result c.factors_of-factors.result) k c.order-n.result
    (length c.self.inside.products.rows) count
    (subst (λ n. 0 < n) (sym c.order-n.ensures.value) G.law.law.some)
    (omega (arith, l, size, c.order-n.ensures.value))
    (c.self.invariant.product_shape.rows ∙ ap (λ n. n * n) (sym c.order-n.ensures.value))

pub returns-clause-gained : goal.returns-clause-gained
returns-clause-gained c a' B' =
    let G : PGroup = c.self.inside.group in
    let b : ℕ = c.args.rank in
    let x : List ℕ = entries_of c.args.a.row in
    let A : List ℕ = block G c.args.a.count x c.args.a.index in
    let v : List ℕ = entries_of c.args.v in
    let new : List ℕ = c.add_image.new.out.entries in
    let n : c.order-n.result ≡ order G.table = c.order-n.ensures.value in
    let fs : List ℕ = c.factors_of-factors.result in
    let each : (k : ℕ) → k < order G.table
    → entry fs k ≡ entry x (place_of (sizes G) c.args.a.count c.args.a.index k) =
    subst (λ (X : PGroup). (k : ℕ) → k < order X.table
    → entry fs k ≡ entry x (place_of (sizes X) c.args.a.count c.args.a.index k)) (sym c.self.view_is)
    c.factors_of-factors.ensures.entries in
    let factors : take c.order-n.result fs ≡ A = ap (λ m. take m fs) n
    ∙ block-factors G c.args.a.count c.args.a.index x fs
    (omega (arith, n, c.order-n.ensures.small, c.factors_of-factors.ensures.count)) each in
    let p : c.args.out.now.p ≡ G.table.p = rw (← c.self.view_is) at c.requires.prime in
    let C : GainsImage G.table.p c.self.inside.places b
    (image_at c.self.inside.products.rows 0 (order G.table) A) 1 v c.args.out.now.entries new =
    rw (p, factors, n) at c.add_image.ensures.gains in
    let wide : IsRow G.table.p (order G.table * c.args.a.count) x =
    row-of-ref x (rw (← c.self.view_is) at c.requires.factor_length)
    (rw (← c.self.view_is) at c.requires.moduli.0) c.args.a.row.below in
    let a : IsRow G.table.p (order G.table) A = subst (λ p. IsRow p (order G.table) A) (residues G)
    (block-is-row G c.args.a.count x (residue-row G wide) c.args.a.index) in
    let same : a' ≡ A = block-is G c.args.a.count x c.args.a.index a'
    (subst (λ (X : PGroup). IsBlock X c.args.a.count c.args.a.index x a') (sym c.self.view_is) B') in
    let r : IsRow G.table.p (order G.table * b) v =
    row-of-ref v (rw (← c.self.view_is) at c.requires.length)
    (rw (← c.self.view_is) at c.requires.moduli.1) c.args.v.below in
    let out : IsRow G.table.p (order G.table * b) c.args.out.now.entries =
    rw (← c.self.view_is) at (rw (c.requires.prime, c.requires.out_length) at c.len.ensures.row) in
    subst (λ (X : PGroup). new ≡ row_of X b ((free_module X b).add (table_of X b c.args.out.now.entries)
    (product_with X b (table_of X 1 a') (table_of X b v)))) c.self.view_is
    (subst (λ y. new ≡ row_of G b ((free_module G b).add (table_of G b c.args.out.now.entries)
    (product_with G b (table_of G 1 y) (table_of G b v)))) (sym same)
    (product-gained G c.self.inside.products.rows c.self.invariant.product_shape.rows
    c.self.invariant.products_are b c.self.inside.places A v c.args.out.now.entries new
    c.self.invariant.sizes_are G.law.law.some a r out C))

pub is_zero_block-requires-clause-length : goal.is_zero_block-requires-clause-length
is_zero_block-requires-clause-length c =
    let size : size_of c.self.inside.places ≡ order c.self.inside.group.table =
    ap size_of c.self.invariant.sizes_are ∙ size-is c.self.inside.group in
    (rw (← c.self.view_is) at c.requires.factor_length) ∙ ap (λ k. k * c.args.a.count) (sym size)

-- a block's row has as many entries as a length can tell
pub factors_of-factors-requires-clause-fits : goal.factors_of-factors-requires-clause-fits
factors_of-factors-requires-clause-fits c = subst (λ k. k < 2 ^ 64) c.requires.factor_length
    (rw c.len-3.ensures.count at c.len-3.type_inv)

pub is_zero_block-requires-clause-small : goal.is_zero_block-requires-clause-small
is_zero_block-requires-clause-small c =
    let size : size_of c.self.inside.places ≡ order c.self.inside.group.table =
    ap size_of c.self.invariant.sizes_are ∙ size-is c.self.inside.group in
    rw size (rw (← c.self.view_is) at (subst (λ k. k < 2 ^ 64) c.requires.factor_length
    (rw c.len-3.ensures.count at c.len-3.type_inv)))

pub returns-then-is_zero_block-clause-gained : goal.returns-then-is_zero_block-clause-gained
returns-then-is_zero_block-clause-gained c a' B' =
    let G : PGroup = c.self.inside.group in
    let b : ℕ = c.args.rank in
    let x : List ℕ = entries_of c.args.a.row in
    let A : List ℕ = block G c.args.a.count x c.args.a.index in
    let size : size_of c.self.inside.places ≡ order G.table = ap size_of c.self.invariant.sizes_are
    ∙ size-is G in
    let wide : IsRow G.table.p (order G.table * c.args.a.count) x =
    row-of-ref x (rw (← c.self.view_is) at c.requires.factor_length)
    (rw (← c.self.view_is) at c.requires.moduli.0) c.args.a.row.below in
    let a : IsRow G.table.p (order G.table) A = subst (λ p. IsRow p (order G.table) A) (residues G)
    (block-is-row G c.args.a.count x (residue-row G wide) c.args.a.index) in
    let same : a' ≡ A = block-is G c.args.a.count x c.args.a.index a'
    (subst (λ (X : PGroup). IsBlock X c.args.a.count c.args.a.index x a') (sym c.self.view_is) B') in
    let out : IsRow G.table.p (order G.table * b) c.args.out.now.entries =
    rw (← c.self.view_is) at (rw (c.requires.prime, c.requires.out_length) at c.len.ensures.row) in
    let zero : IsZeroBlock (sizes G) c.args.a.count c.args.a.index x =
    subst (λ ss. IsZeroBlock ss c.args.a.count c.args.a.index x) c.self.invariant.sizes_are
    (c.if-is_zero_block.ensures.0 refl) in
    subst (λ (X : PGroup). c.args.out.now.entries
    ≡ row_of X b ((free_module X b).add (table_of X b c.args.out.now.entries)
    (product_with X b (table_of X 1 a') (table_of X b (entries_of c.args.v))))) c.self.view_is
    (subst (λ y. c.args.out.now.entries
    ≡ row_of G b ((free_module G b).add (table_of G b c.args.out.now.entries)
    (product_with G b (table_of G 1 y) (table_of G b (entries_of c.args.v))))) (sym same)
    (nothing-gained G b A c.args.out.now.entries (table_of G b (entries_of c.args.v)) a out
    (λ k l. entry-block G c.args.a.count x c.args.a.index k l
    ∙ zero k (subst (λ m. k < m) (sym (size-is G)) l))))
