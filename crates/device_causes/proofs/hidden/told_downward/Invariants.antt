use Rattle.std.specs.BTreeMap.{get}
use Rattle.app_machine.specs.Sound.{name_order}
use Rattle.device_causes.specs.Path.{AreTold, IsPath}
use Rattle.device_causes.proofs.hidden.told_downward.Given as goal

abbrev pub invariant-loop-i : goal.invariant-loop-i
invariant-loop-i l = record { path : IsPath l.app l.access.entries l.path; told : AreTold l.app l.access.entries (get name_order l.told) }
