use Rattle.std.proofs.Common.{◌≡◌, ◌+◌, drop}
use Rattle.app_machine.specs.Names.{widths}
use Rattle.link_code.proofs.coded.take_registers.Given as goal

abbrev pub invariant-loop-kind : goal.invariant-loop-kind
invariant-loop-kind l = l.count + widths (drop l.kind-index l.params) ≡ l.left + widths l.params
