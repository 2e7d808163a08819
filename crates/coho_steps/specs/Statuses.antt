-- The numbers of the statuses.
use Rattle.std.specs.Prelude.{ℕ}
use Rattle.coho_steps.specs.declared.status.Status.{Status}
use Rattle.coho_steps.specs.declared.status.Status.TheVariants as status

-- the number that the program ends with
abbrev pub status_code : Status → ℕ
status_code status.Answered = 0
status_code status.Text = 1
status_code status.Usage = 2
status_code status.Inconsistent = 3
status_code status.Limit = 4
status_code status.Read = 5
status_code status.Write = 6
status_code status.Stage = 7
status_code status.Memory = 8
