use Rattle.std.proofs.Common.{◌≡◌, [], ◌<◌, ◌*◌, length, replicate, arith, ap, sym, ◌∙◌}
use Rattle.std.proofs.lemmas.List.{length-replicate}
use mathlib.Core.Path.{subst}
use Rattle.group_table.specs.Tables.{order}
use Rattle.linear_algebra.specs.Rows.{IsRow}
use Rattle.radical_layers.specs.Placing.{size_of}
use Rattle.fp_rows.specs.Refs.{entries_of}
use Rattle.group_algebra.specs.Gains.{image_at, GainsImage}
use Rattle.group_algebra.proofs.LayerRows.{size-is}
use Rattle.group_algebra.proofs.ImageLemmas.{few-rows, row-of-ref, inside-steps, acted}
use Rattle.group_algebra.proofs.algebra.Algebra.act.Goals as goal

pub add_image-requires-clause-lengths : goal.add_image-requires-clause-lengths
add_image-requires-clause-lengths c =
    let size : size_of c.self.inside.places ≡ order c.self.inside.group.table =
    ap size_of c.self.invariant.sizes_are ∙ size-is c.self.inside.group in
    let v : length (entries_of c.args.v) ≡ order c.self.inside.group.table * c.args.rank =
    rw (← c.self.view_is) at c.requires.length in (
      v ∙ ap (λ k. k * c.args.rank) (sym size),
      (ap (λ r. length r.entries) c.clear.ensures ∙ length-replicate (length c.args.out.now.entries) 0
          ∙ (rw (← c.self.view_is) at c.requires.out_length)) ∙ ap (λ k. k * c.args.rank) (sym size),
    )

pub add_image-requires-clause-images : goal.add_image-requires-clause-images
add_image-requires-clause-images c =
    let size : size_of c.self.inside.places ≡ order c.self.inside.group.table =
    ap size_of c.self.invariant.sizes_are ∙ size-is c.self.inside.group in
    let p : c.clear.new.self.p ≡ c.self.inside.group.table.p = ap (λ r. r.p) c.clear.ensures
    ∙ (rw (← c.self.view_is) at c.requires.prime) in
    record {
      prime = c.self.invariant.translate_shape.prime ∙ sym p;
      width = c.self.invariant.translate_shape.width ∙ sym size;
      few = few-rows _ _ c.self.invariant.small c.self.invariant.translate_shape.rows;
      factors = λ i l. absurd (omega (arith, l));
    }

pub add_image-requires-clause-inside : goal.add_image-requires-clause-inside
add_image-requires-clause-inside c k l =
    let size : size_of c.self.inside.places ≡ order c.self.inside.group.table =
    ap size_of c.self.invariant.sizes_are ∙ size-is c.self.inside.group in
    inside-steps (order c.self.inside.group.table) k c.args.g c.order.result
    (length c.self.inside.translates.rows) (subst (λ m. k < m) size l)
    (rw (← c.self.view_is) at c.requires.element) c.order.ensures.value
    c.self.invariant.translate_shape.rows

pub returns-clause-moved : goal.returns-clause-moved
returns-clause-moved c =
    let p : c.clear.new.self.p ≡ c.self.inside.group.table.p = ap (λ r. r.p) c.clear.ensures
    ∙ (rw (← c.self.view_is) at c.requires.prime) in
    let zeros : c.clear.new.self.entries ≡ replicate (order c.self.inside.group.table * c.args.rank) 0 =
    ap (λ r. r.entries) c.clear.ensures
    ∙ ap (λ k. replicate k 0) (rw (← c.self.view_is) at c.requires.out_length) in
    let C : GainsImage c.self.inside.group.table.p c.self.inside.places c.args.rank
    (image_at c.self.inside.translates.rows c.args.g (order c.self.inside.group.table) []) 1
    (entries_of c.args.v) (replicate
    (order c.self.inside.group.table * c.args.rank) 0) c.add_image.new.out.entries
    = rw (p, zeros, c.order.ensures.value) at c.add_image.ensures.gains in
    let r : IsRow c.self.inside.group.table.p (order c.self.inside.group.table * c.args.rank)
    (entries_of c.args.v) = row-of-ref (entries_of c.args.v) (rw (← c.self.view_is) at c.requires.length)
    (rw (← c.self.view_is) at c.requires.modulus) c.args.v.below in
    rw (← c.self.view_is) (λ b. acted c.self.inside.group c.self.inside.translates.rows
    c.self.invariant.translate_shape.rows c.self.invariant.translates_are c.args.rank (
      c.args.g,
      b,
    ) c.self.inside.places
    (entries_of c.args.v) c.add_image.new.out.entries c.self.invariant.sizes_are r C)

pub add_image-requires-clause-short : goal.add_image-requires-clause-short
add_image-requires-clause-short c =
    let size : size_of c.self.inside.places ≡ order c.self.inside.group.table =
    ap size_of c.self.invariant.sizes_are ∙ size-is c.self.inside.group in
    rw size c.self.invariant.small
