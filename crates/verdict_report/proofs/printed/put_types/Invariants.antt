use Rattle.std.proofs.Common.{◌≡◌, ◌++◌, take}
use Rattle.app_machine.specs.Names.{joined}
use Rattle.printed_text.specs.Printed.{escaped}
use Rattle.verdict_report.proofs.printed.put_types.Given as goal

abbrev pub invariant-loop-kind : goal.invariant-loop-kind
invariant-loop-kind l = l.text.items ≡ l.initial.text.items ++ escaped (joined (take l.kind-index l.types))
