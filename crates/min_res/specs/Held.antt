-- The checks at the rows of a candidate.
use Rattle.std.specs.Prelude.{ℕ, ◌<◌}
use Rattle.resolution_stages.specs.Checks.{StageParts}
use Rattle.min_res.specs.Candidates.{kept_parts, IsCandidate, IsValueRow}
use Rattle.min_res.specs.Defined.{IsStageAt}
use Rattle.min_res.specs.RecordChecks.{HoldsAt, IsFirstFailure, number_of, row_count}
use Rattle.min_res.specs.declared.check.Check.{Check}
use Rattle.min_res.specs.declared.check.Failure.{Failure}
use Rattle.min_res.specs.declared.candidate.Candidate.{Candidate}
use Rattle.fp_rows.specs.Values.{RowValue}

-- its parts
abbrev pub parts_of_candidate : Candidate → StageParts
parts_of_candidate c = kept_parts c.boundary.now c.kernel.now

-- they may follow the stage `last`, and the boundary is theirs
pub record IsFit (c : Candidate) : Type 0 where
  pub last_is : IsStageAt c.algebra.now c.last.now.degree c.last.now
  pub candidate : IsCandidate c.algebra.now c.last.now.degree c.boundary.now c.kernel.now

-- how many rows a check is made at
abbrev pub rows_of : Candidate → Check → ℕ
rows_of c check = row_count c.algebra.now c.last.now.degree (parts_of_candidate c) check

-- a check holds at a row
abbrev pub Holds : Candidate → Check → ℕ → Type 0
Holds c check k = HoldsAt c.algebra.now c.last.now.degree (parts_of_candidate c) check k

-- a check holds at each row
abbrev pub HoldsThroughout : Candidate → Check → Type 0
HoldsThroughout c check = (k : ℕ) → k < rows_of c check → Holds c check k

-- the checks with numbers below n hold
abbrev pub HoldBelow : Candidate → ℕ → Type 0
HoldBelow c n = (check : Check) → number_of check < n → HoldsThroughout c check

-- the first row at which a check fails
pub record IsFirstRow (c : Candidate) (check : Check) (k : ℕ) : Type 0 where
  pub inside : k < rows_of c check
  pub before : (i : ℕ) → i < k → Holds c check i
  pub fails : ¬ (Holds c check k)

-- the first check that fails, and its first row
abbrev pub IsFirstFault : Candidate → Failure → Type 0
IsFirstFault c f = IsFirstFailure c.algebra.now c.last.now.degree (parts_of_candidate c) f.check f.row

-- a row in which values of its boundary are written
abbrev pub IsValueRowOf : Candidate → RowValue → Type 0
IsValueRowOf c v = IsValueRow c.algebra.now c.last.now.degree v

-- a check may be made at row k of a candidate, with v for the values of its boundary
pub record MayTest (c : Candidate) (check : Check) (k : ℕ) (v : RowValue) : Type 0 where
  pub fits : IsFit c
  pub inside : k < rows_of c check
  pub value : IsValueRowOf c v
