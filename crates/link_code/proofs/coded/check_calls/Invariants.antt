use Rattle.vet_base.specs.Script.{run, each}
use Rattle.vet_base.proofs.Eaches.{Eaches}
use Rattle.link_code.specs.Code.{call_row}
use Rattle.link_code.proofs.coded.check_calls.Given as goal

abbrev pub invariant-loop-line : goal.invariant-loop-line
invariant-loop-line l = Eaches l.lines l.line-index (call_row l.dex l.at) tt (run (each (call_row l.dex l.at) l.lines tt))
