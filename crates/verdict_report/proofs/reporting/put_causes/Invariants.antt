use Rattle.std.proofs.Common.{◌≡◌, ◌++◌, take}
use Rattle.verdict_report.specs.Report.{cause_lines}
use Rattle.verdict_report.proofs.reporting.put_causes.Given as goal

abbrev pub invariant-loop-cause : goal.invariant-loop-cause
invariant-loop-cause l = l.text.items ≡ l.initial.text.items ++ cause_lines (take l.cause-index l.causes)
