use Rattle.std.proofs.Common.{◌≡◌, ◌++◌, take}
use Rattle.verdict_report.specs.Report.{finding_lines}
use Rattle.verdict_report.proofs.reporting.put_findings.Given as goal

abbrev pub invariant-loop-finding : goal.invariant-loop-finding
invariant-loop-finding l = l.text.items ≡ l.initial.text.items ++ finding_lines (take l.finding-index l.findings)
