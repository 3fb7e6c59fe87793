use Rattle.std.proofs.Common.{◌≡◌, take}
use Rattle.std.specs.Prelude.{flat_map}
use Rattle.device_causes.specs.Libraries.{unlisted_above}
use Rattle.device_causes.proofs.libraries.unlisted_classes.Given as goal

abbrev pub invariant-loop-class : goal.invariant-loop-class
invariant-loop-class l = l.found.items ≡ flat_map (unlisted_above l.app l.lists) (take l.class-index l.app.classes)
