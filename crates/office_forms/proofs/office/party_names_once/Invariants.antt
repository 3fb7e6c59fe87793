use Rattle.vet_base.specs.Script.{run}
use Rattle.office_forms.specs.Office.{name_once, party_names_once}
use Rattle.office_forms.proofs.office.party_names_once.Given as goal
use Rattle.vet_base.proofs.Eaches.{Eaches}

abbrev pub invariant-loop-party : goal.invariant-loop-party
invariant-loop-party l = Eaches l.parties l.party-index name_once l.seen (run (party_names_once l.parties))
