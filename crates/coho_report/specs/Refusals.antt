-- When a report is not composed.
use Rattle.std.specs.Prelude.{ℕ, ⊤}
use Rattle.p_groups.specs.PGroups.{PGroup}
use Rattle.min_res.specs.declared.fault.ResFault.{ResFault}
use Rattle.min_res.specs.declared.fault.ResFault.TheVariants as stages
use Rattle.coho_report.specs.declared.fault.ReportFault.{ReportFault}
use Rattle.coho_report.specs.declared.fault.ReportFault.TheVariants as report
use Rattle.coho_report.specs.Limits.{IsFirstLarge, IsFirstLargeSubgroup}

-- the fault of the stages of subgroup number i, as it is passed up
abbrev pub of_subgroup : ℕ → ResFault → ReportFault
of_subgroup i (stages.TooLarge degree dimension) = report.TooLarge i degree dimension
of_subgroup i stages.Memory = report.Memory

-- the fault names the first degree from 1 to n with a dimension above the limit, and that dimension; or
-- memory was wanting
abbrev pub IsStageRefusal : PGroup → ℕ → ℕ → ResFault → Type 0
IsStageRefusal E n limit (stages.TooLarge degree dimension) = IsFirstLarge E n limit degree dimension
IsStageRefusal E n limit stages.Memory = ⊤

-- the fault names the first listed subgroup over which a degree from 1 to n has a dimension above the limit,
-- the first such degree and the dimension; or memory was wanting
abbrev pub IsRefusal : PGroup → ℕ → ℕ → ReportFault → Type 0
IsRefusal G n limit (report.TooLarge subgroup degree dimension) =
    IsFirstLargeSubgroup G n limit subgroup degree dimension
IsRefusal G n limit report.Memory = ⊤
