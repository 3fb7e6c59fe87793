use Rattle.std.proofs.Common.{◌≡◌, take, map, filter}
use Rattle.device_causes.specs.Hidden.{method_named, is_hidden, methods_of}
use Rattle.device_causes.proofs.hidden.hidden_on.Given as goal

abbrev pub invariant-loop-method : goal.invariant-loop-method
invariant-loop-method l = l.found.items ≡ map (method_named l.class.name) (filter (is_hidden l.app l.access.entries l.class) (take l.method-index (methods_of l.access.entries l.class.name)))
