use Rattle.std.proofs.Common.{◌≡◌, ℕ, ◌+◌, ◌*◌, ◌%◌, ◌<◌, length, arith, ap, sym, ◌∙◌}
use mathlib.Core.Path.{subst}
use Rattle.linear_algebra.specs.Modular.{sum_below}
use Rattle.linear_algebra.specs.Rows.{entry, row}
use Rattle.linear_algebra.proofs.Congruences.{congruent_trans, congruent_eq}
use Rattle.linear_algebra.proofs.RowLemmas.{length-add_multiple}
use Rattle.linear_algebra.proofs.Sums.{sum_below-mul}
use Rattle.fp_rows.specs.Refs.{entries_of}
use Rattle.group_algebra.proofs.ImageSums.{images-none, images-skip, images-near, product-near}
use Rattle.group_algebra.proofs.combinations.Images.add_combination.Goals as goal
use Rattle.group_algebra.proofs.combinations.Images.add_combination.Goals.{then-c-ne0, else-c-ne0}

pub loop-i-init : goal.loop-i-init
loop-i-init c = record { added = images-none c.args.sum.now _ }

pub add-requires-clause-factor : goal.add-requires-clause-factor
add-requires-clause-factor c = subst (λ p. c.add_product-y.result < p)
    (c.prime.ensures ∙ c.requires.images.prime ∙ sym c.loop-i.invariant.added.prime) c.add_product-y.ensures.below

pub add-requires-clause-same_prime : goal.add-requires-clause-same_prime
add-requires-clause-same_prime c = c.row.ensures.modulus ∙ c.requires.images.prime
    ∙ sym c.loop-i.invariant.added.prime

pub add-requires-clause-same_length : goal.add-requires-clause-same_length
add-requires-clause-same_length c = ap length c.row.ensures.entries ∙ c.row.ensures.is_row.length_is
    ∙ c.requires.images.width ∙ sym c.loop-i.invariant.added.count

pub loop-i-preserved : goal.loop-i-preserved
loop-i-preserved c =
    let g : ℕ → ℕ → ℕ = λ i j. c.args.x * (entry c.args.self.now.factors.now i
    * entry (row c.args.self.now.rows.now.rows
    (c.args.self.now.first + c.args.k * c.args.self.now.step + i)) j) in
    elim c.if-c-ne0.branch [
      | then-c-ne0 w ↦
          let p : c.loop-i.sum.p ≡ c.args.sum.now.p = c.loop-i.invariant.added.prime in
          let len : length (entries_of w.row.result) ≡ length c.loop-i.sum.entries =
          ap length w.row.ensures.entries ∙ w.row.ensures.is_row.length_is ∙ c.requires.images.width
          ∙ sym c.loop-i.invariant.added.count in
          record {
            added = rw w.sum-is (images-near c.args.sum.now.p c.args.sum.now.entries g c.loop-i.i
                c.loop-i.sum w.add.new.self c.loop-i.invariant.added
                (ap (λ v. v.p) w.add.ensures)
                (ap (λ v. length v.entries) w.add.ensures
                ∙ length-add_multiple _ _ _ _)
                (λ j l. rw (p, w.row.ensures.entries) at (product-near c.args.x
                (entry c.args.self.now.factors.now c.loop-i.i) w.add_product-y.result
                (entries_of w.row.result) c.loop-i.sum w.add.new.self len
                (w.add_product-y.ensures.value ∙ ap (λ q. (0 + c.args.x * entry c.args.self.now.factors.now
                c.loop-i.i) % q) (w.prime.ensures ∙ c.requires.images.prime ∙ sym p))
                w.add.ensures j (omega (arith, l, c.loop-i.invariant.added.count)))));
          }
      | else-c-ne0 w ↦
          let zero : entry c.args.self.now.factors.now c.loop-i.i ≡ 0 = omega (arith, w.if-c-ne0.false) in
          record {
            added = rw w.sum-is (images-skip c.args.sum.now.p c.args.sum.now.entries g c.loop-i.i
                c.loop-i.sum c.loop-i.invariant.added (λ j. rw zero (omega arith)));
          }
    ]

pub returns-clause-prime : goal.returns-clause-prime
returns-clause-prime c = c.loop-i.invariant.added.prime

pub returns-clause-same_length : goal.returns-clause-same_length
returns-clause-same_length c = c.loop-i.invariant.added.count

pub returns-clause-sums : goal.returns-clause-sums
returns-clause-sums c j l =
    let n : ℕ = length c.args.self.now.factors.now in
    let f : ℕ → ℕ = λ i. entry c.args.self.now.factors.now i
    * entry (row c.args.self.now.rows.now.rows
    (c.args.self.now.first + c.args.k * c.args.self.now.step + i)) j in
    let end : c.loop-i.i ≡ n = omega (arith, c.loop-i-test.false, c.loop-i.auto.i-end) in
    congruent_trans (c.loop-i.invariant.added.sums j l)
    (congruent_eq (ap (λ k. entry c.args.sum.now.entries j + sum_below k (λ i. c.args.x * f i)) end
    ∙ ap (λ s. entry c.args.sum.now.entries j + s) (sum_below-mul n c.args.x f)))
