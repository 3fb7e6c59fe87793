use Rattle.std.proofs.Common.{◌≡◌, take, map, filter}
use Rattle.device_causes.specs.Platform.{is_platform_class}
use Rattle.device_causes.proofs.platform.platform_classes.Given as goal

abbrev pub invariant-loop-class : goal.invariant-loop-class
invariant-loop-class l = l.found.items ≡ filter (is_platform_class l.lists l.device) (map (λ c. c.name) (take l.class-index l.app.classes))
