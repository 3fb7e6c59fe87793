use Rattle.std.proofs.Common.{◌≡◌, ◌++◌, take, map, filter}
use Rattle.device_causes.specs.Hidden.{method_named}
use Rattle.device_causes.specs.Interfaces.{is_of_objects}
use Rattle.device_causes.proofs.interfaces.add_code.Given as goal

abbrev pub invariant-loop-method : goal.invariant-loop-method
invariant-loop-method l = l.found.items ≡ l.initial.found.items ++ map (method_named l.name) (filter is_of_objects (take l.method-index l.class.methods))
