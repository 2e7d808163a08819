use Rattle.fp_rows.specs.Refs.{entries_of}
use Rattle.group_algebra.proofs.BlockSums.{only-block-of-row}
use Rattle.group_algebra.proofs.algebra.Algebra.scale_add.Goals as goal

pub returns-clause-gained : goal.returns-clause-gained
returns-clause-gained c =
    c.add_product.ensures.gained (entries_of c.args.a)
    (only-block-of-row c.args.self.now (entries_of c.args.a) c.requires.factor_length)
