use Rattle.std.proofs.Common.{refl, arith}
use Rattle.std.proofs.lemmas.List.{ext_get_or}
use Rattle.fp_rows.specs.Refs.{entries_of}
use Rattle.min_res.proofs.row_tests.are_equal.Goals as goal

pub returns : goal.returns
returns c = (
  λ t. ext_get_or 0 (entries_of c.args.a) (entries_of c.args.b) c.requires
      (λ i l. c.loop-j.invariant i (omega arith)),
  λ e. refl,
)
