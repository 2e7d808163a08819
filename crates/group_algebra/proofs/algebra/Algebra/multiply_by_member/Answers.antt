use Rattle.std.proofs.Common.{◌≡◌, ℕ, List, [], ◌<◌, ◌*◌, length, replicate, arith, ap, sym, ◌∙◌}
use Rattle.std.proofs.lemmas.List.{length-replicate}
use mathlib.Core.Path.{subst}
use Rattle.group_table.specs.Tables.{order}
use Rattle.linear_algebra.specs.Rows.{IsRow}
use Rattle.radical_layers.specs.Placing.{size_of}
use Rattle.fp_rows.specs.Refs.{entries_of}
use Rattle.p_groups.specs.PGroups.{PGroup}
use Rattle.group_algebra.specs.Coordinates.{member, product_with, row_of, table_of}
use Rattle.group_algebra.specs.Gains.{image_at, GainsImage}
use Rattle.group_algebra.proofs.LayerRows.{size-is}
use Rattle.group_algebra.proofs.ImageLemmas.{few-rows, row-of-ref, inside-steps}
use Rattle.group_algebra.proofs.UnitImages.{multiplied}
use Rattle.group_algebra.proofs.algebra.Algebra.multiply_by_member.Goals as goal

pub add_image-requires-clause-lengths : goal.add_image-requires-clause-lengths
add_image-requires-clause-lengths c =
    let size : size_of c.self.inside.places ≡ order c.self.inside.group.table =
    ap size_of c.self.invariant.sizes_are ∙ size-is c.self.inside.group in
    let v : length (entries_of c.args.v) ≡ order c.self.inside.group.table * c.args.rank =
    rw (← c.self.view_is) at c.requires.length in (
      v ∙ ap (λ k. k * c.args.rank) (sym size),
      (ap (λ r. length r.entries) c.clear.ensures ∙ length-replicate (length c.args.out.now.entries) 0
          ∙ (rw (← c.self.view_is) at c.requires.out_length)) ∙ ap (λ k. k * c.args.rank) (sym size),
    )

pub add_image-requires-clause-images : goal.add_image-requires-clause-images
add_image-requires-clause-images c =
    let size : size_of c.self.inside.places ≡ order c.self.inside.group.table =
    ap size_of c.self.invariant.sizes_are ∙ size-is c.self.inside.group in
    let p : c.clear.new.self.p ≡ c.self.inside.group.table.p = ap (λ r. r.p) c.clear.ensures
    ∙ (rw (← c.self.view_is) at c.requires.prime) in
    record {
      prime = c.self.invariant.product_shape.prime ∙ sym p;
      width = c.self.invariant.product_shape.width ∙ sym size;
      few = few-rows _ _ c.self.invariant.small c.self.invariant.product_shape.rows;
      factors = λ i l. absurd (omega (arith, l));
    }

pub add_image-requires-clause-inside : goal.add_image-requires-clause-inside
add_image-requires-clause-inside c k l =
    let size : size_of c.self.inside.places ≡ order c.self.inside.group.table =
    ap size_of c.self.invariant.sizes_are ∙ size-is c.self.inside.group in
    inside-steps (order c.self.inside.group.table) k c.args.k c.order.result
    (length c.self.inside.products.rows) (subst (λ m. k < m) size l)
    (rw (← c.self.view_is) at c.requires.member) c.order.ensures.value
    c.self.invariant.product_shape.rows

pub returns-clause-product : goal.returns-clause-product
returns-clause-product c =
    let G : PGroup = c.self.inside.group in
    let b : ℕ = c.args.rank in
    let v : List ℕ = entries_of c.args.v in
    let new : List ℕ = c.add_image.new.out.entries in
    let p : c.clear.new.self.p ≡ G.table.p = ap (λ r. r.p) c.clear.ensures
    ∙ (rw (← c.self.view_is) at c.requires.prime) in
    let zeros : c.clear.new.self.entries ≡ replicate (order G.table * b) 0 =
    ap (λ r. r.entries) c.clear.ensures
    ∙ ap (λ k. replicate k 0) (rw (← c.self.view_is) at c.requires.out_length) in
    let C : GainsImage G.table.p c.self.inside.places b
    (image_at c.self.inside.products.rows c.args.k (order G.table) []) 1 v
    (replicate (order G.table * b) 0) new
    = rw (p, zeros, c.order.ensures.value) at c.add_image.ensures.gains in
    let r : IsRow G.table.p (order G.table * b) v =
    row-of-ref v (rw (← c.self.view_is) at c.requires.length)
    (rw (← c.self.view_is) at c.requires.modulus) c.args.v.below in
    let l : c.args.k < order G.table = rw (← c.self.view_is) at c.requires.member in
    subst (λ (X : PGroup). new ≡ row_of X b (product_with X b (member X c.args.k) (table_of X b v)))
    c.self.view_is
    (multiplied G c.self.inside.products.rows c.self.invariant.product_shape.rows
    c.self.invariant.products_are b c.args.k c.self.inside.places v new c.self.invariant.sizes_are l r C)

pub add_image-requires-clause-short : goal.add_image-requires-clause-short
add_image-requires-clause-short c =
    let size : size_of c.self.inside.places ≡ order c.self.inside.group.table =
    ap size_of c.self.invariant.sizes_are ∙ size-is c.self.inside.group in
    rw size c.self.invariant.small
