use Rattle.std.proofs.Common.{arith}
use Rattle.graded_algebra.specs.Vectors.{Vector, vectors}
use Rattle.graded_algebra.proofs.Stability.{relations-up}
use Rattle.graded_algebra.proofs.relations_stay.Goals as goal

pub returns : goal.returns
returns c q n mul gs new rs above h = relations-up q (Vector q) (vectors q mul) gs new n above n
    (omega arith) rs h
