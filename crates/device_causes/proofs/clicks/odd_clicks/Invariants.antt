use Rattle.std.proofs.Common.{◌≡◌, map}
use Rattle.std.specs.Prelude.{flat_map}
use Rattle.std.specs.Map.Iter.{deref_pair}
use Rattle.device_causes.specs.Clicks.{clicks_in}
use Rattle.device_causes.proofs.clicks.odd_clicks.Given as goal

abbrev pub invariant-loop-name : goal.invariant-loop-name
invariant-loop-name l = l.found.items ≡ flat_map (clicks_in l.app l.lists) (map deref_pair l.yielded)
