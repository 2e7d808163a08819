use Rattle.std.proofs.Common.{◌+◌, ◌*◌, length, ap, sym, ◌∙◌}
use Rattle.linear_algebra.specs.Rows.{entry}
use Rattle.linear_algebra.proofs.Congruences.{congruent_trans, congruent_eq}
use Rattle.linear_algebra.proofs.RowLemmas.{length-add_multiple}
use Rattle.fp_rows.specs.Refs.{entries_of}
use Rattle.group_algebra.proofs.Factors.{image-plain, image-factors}
use Rattle.group_algebra.proofs.ImageSums.{times-near}
use Rattle.group_algebra.proofs.combinations.Images.add.Goals as goal

pub returns-then-is_empty-clause-same_length : goal.returns-then-is_empty-clause-same_length
returns-then-is_empty-clause-same_length c = ap (λ v. length v.entries) c.add.ensures
    ∙ length-add_multiple _ _ _ _

pub returns-then-is_empty-clause-sums : goal.returns-then-is_empty-clause-sums
returns-then-is_empty-clause-sums c j l = congruent_trans
    (times-near c.args.x (entries_of c.image.result) c.args.sum.now c.add.new.self
    (c.image.ensures.is_row.length_is ∙ c.requires.images.width) c.add.ensures j l)
    (congruent_eq (ap (λ z. entry c.args.sum.now.entries j + c.args.x * z)
    (ap (λ r. entry r j) c.image.ensures.entries
    ∙ sym (image-plain c.args.self.now.rows.now.rows c.args.self.now.first c.args.self.now.step
    c.args.self.now.factors.now c.args.k j c.is_empty.result c.is_empty.ensures c.if-is_empty.true))))

pub returns-else-is_empty-clause-sums : goal.returns-else-is_empty-clause-sums
returns-else-is_empty-clause-sums c j l = congruent_trans (c.add_combination.ensures.sums j l)
    (congruent_eq (ap (λ z. entry c.args.sum.now.entries j + c.args.x * z)
    (sym (image-factors c.args.self.now.rows.now.rows c.args.self.now.first c.args.self.now.step
    c.args.self.now.factors.now c.args.k j c.is_empty.result c.is_empty.ensures c.if-is_empty.false))))
