use Rattle.coho_report.proofs.ReportExists.{report_exists}
use Rattle.coho_report.proofs.ReportSubgroups.{small_or_first_subgroup}
use Rattle.coho_report.proofs.laws.report_exists.Goals as goal

pub returns-clause-report : goal.returns-clause-report
returns-clause-report c = report_exists

pub returns-clause-subgroups : goal.returns-clause-subgroups
returns-clause-subgroups c = small_or_first_subgroup
