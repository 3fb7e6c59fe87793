use Rattle.vet_base.specs.Script.{run}
use Rattle.dex_code.specs.Flow.{flows_at}
use Rattle.dex_code.proofs.Flows.{FlowsFrom}
use Rattle.dex_code.proofs.flow.check_flows.Given as goal

abbrev pub invariant-loop-i : goal.invariant-loop-i
invariant-loop-i l = FlowsFrom l.lines l.i (run (flows_at l.lines l.lines))
