use Rattle.std.proofs.Common.{◌≡◌, take}
use Rattle.std.specs.Prelude.{flat_map}
use Rattle.device_causes.specs.Clicks.{activity_names}
use Rattle.device_causes.proofs.clicks.all_activity_names.Given as goal

abbrev pub invariant-loop-component : goal.invariant-loop-component
invariant-loop-component l = l.names.items ≡ flat_map (activity_names l.app) (take l.component-index l.app.components)
