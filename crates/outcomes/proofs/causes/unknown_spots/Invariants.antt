use Rattle.std.proofs.Common.{◌≡◌, take}
use Rattle.std.specs.Prelude.{filter_map}
use Rattle.outcomes.specs.Spots.{unknown_spot}
use Rattle.outcomes.proofs.causes.unknown_spots.Given as goal

abbrev pub invariant-loop-row : goal.invariant-loop-row
invariant-loop-row l = l.spots.items ≡ filter_map (unknown_spot l.cause) (take l.row-index l.rows)
