use Rattle.std.proofs.Common.{◌≡◌, take, filter}
use Rattle.outcomes.specs.Causes.{is_app_class}
use Rattle.device_causes.proofs.causes.classes_named.Given as goal

abbrev pub invariant-loop-name : goal.invariant-loop-name
invariant-loop-name l = l.found.items ≡ filter (is_app_class l.app) (take l.name-index l.named)
