use Rattle.std.proofs.Common.{◌≡◌, map}
use Rattle.std.specs.Prelude.{flat_map}
use Rattle.std.specs.Map.Iter.{deref_pair}
use Rattle.device_causes.specs.Libraries.{statics_in}
use Rattle.device_causes.proofs.libraries.defined_statics.Given as goal

abbrev pub invariant-loop-name : goal.invariant-loop-name
invariant-loop-name l = l.statics.items ≡ flat_map statics_in (map deref_pair l.yielded)
