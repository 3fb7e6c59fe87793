use Rattle.vet_base.specs.Script.{run}
use Rattle.form_fields.specs.Once.{once, names_once}
use Rattle.form_fields.proofs.distinct.names_once.Given as goal
use Rattle.vet_base.proofs.Eaches.{Eaches}

abbrev pub invariant-loop-name : goal.invariant-loop-name
invariant-loop-name l = Eaches l.names l.name-index once l.seen (run (names_once l.names))
