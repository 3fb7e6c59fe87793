use Rattle.vet_base.specs.Script.{run}
use Rattle.office_forms.specs.Manifest.{component_once, components_once}
use Rattle.office_forms.proofs.manifest.components_once.Given as goal
use Rattle.vet_base.proofs.Eaches.{Eaches}

abbrev pub invariant-loop-component : goal.invariant-loop-component
invariant-loop-component l = Eaches l.components l.component-index component_once l.seen (run (components_once l.components l.fn.before))
