use Rattle.std.proofs.Common.{◌≡◌, ◌++◌, take, map, filter}
use Rattle.device_causes.specs.Libraries.{is_touching, spot_of}
use Rattle.device_causes.proofs.libraries.add_spots.Given as goal

abbrev pub invariant-loop-step : goal.invariant-loop-step
invariant-loop-step l = l.spots.items ≡ l.initial.spots.items ++ map (spot_of l.i) (filter (is_touching l.app l.access.entries l.lists) (take l.step-index l.method.steps))
