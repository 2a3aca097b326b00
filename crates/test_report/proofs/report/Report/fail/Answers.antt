use Rattle.std.proofs.Common.{rules}
use Rattle.test_report.proofs.report.Report.fail.Goals as goal

pub returns-clause-well : goal.returns-clause-well
returns-clause-well c = search rules
