use Rattle.std.proofs.Common.{rules}
use Rattle.test_report.proofs.report.Report.begin.Goals as goal

pub returns-clause-cases : goal.returns-clause-cases
returns-clause-cases c = search rules
