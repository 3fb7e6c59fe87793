use Rattle.std.proofs.Common.{[]}
use Rattle.vet_base.specs.Script.{run, each}
use Rattle.vet_base.proofs.Eaches.{Eaches}
use Rattle.link_code.specs.Code.{code_row}
use Rattle.link_code.proofs.coded.add_rows.Given as goal

abbrev pub invariant-loop-entry : goal.invariant-loop-entry
invariant-loop-entry l = Eaches l.entries l.entry-index (code_row l.dexes) l.coded.items (run (each (code_row l.dexes) l.entries []))
