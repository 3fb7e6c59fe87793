use Rattle.std.proofs.Common.{◌≡◌, ◌++◌, take, filter}
use Rattle.device_causes.specs.Libraries.{is_unlisted}
use Rattle.device_causes.proofs.libraries.add_unlisted.Given as goal

abbrev pub invariant-loop-name : goal.invariant-loop-name
invariant-loop-name l = l.found.items ≡ l.initial.found.items ++ filter (is_unlisted l.app l.lists) (take l.name-index l.names)
