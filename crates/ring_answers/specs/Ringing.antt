-- The report on the ring of a group, or why there is none.
use Rattle.std.specs.Prelude.{◌≡◌, ℕ}
use Rattle.limits.specs.declared.TheConstants.{GREATEST_DIMENSION}
use Rattle.p_groups.specs.PGroups.{PGroup}
use Rattle.coho_report.specs.Values.{ReportValue}
use Rattle.coho_report.specs.Limits.{AreSmall, IsFirstLargeSubgroup}
use Rattle.coho_report.specs.Reports.{IsReport}
use Rattle.coho_report.specs.declared.fault.ReportFault.{ReportFault}
use Rattle.coho_steps.specs.declared.stop.Stop.{Stop}
use Rattle.coho_steps.specs.Refusals.{subgroup_refused}
use Rattle.coho_steps.specs.Steps.{Refusal}
use Rattle.coho_report.specs.declared.fault.ReportFault.TheVariants as fault
use Rattle.coho_steps.specs.declared.cause.Cause.TheVariants as cause
use Rattle.coho_steps.specs.declared.stop.Stop.TheVariants as stop

-- the report through degree n, where no stage of a subgroup is too large
pub record IsReportTo (G : PGroup) (n : ℕ) (report : ReportValue) : Type 0 where
  pub small : AreSmall G n GREATEST_DIMENSION
  pub is : IsReport G n report

-- the refusal names the first subgroup and degree to n whose stage is too large
abbrev pub IsReportRefusal : PGroup → ℕ → Refusal → Type 0
IsReportRefusal G n refusal =
    (i : ℕ) × (d : ℕ) × (X : ℕ) × IsFirstLargeSubgroup G n GREATEST_DIMENSION i d X
    × (refusal ≡ subgroup_refused i d X)

-- the program's stop at a fault
abbrev pub stop_of : ReportFault → Stop
stop_of (fault.TooLarge i d X) = stop.Refused (cause.SubgroupStage i d X)
stop_of fault.Memory = stop.Memory
