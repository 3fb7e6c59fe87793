use Rattle.std.proofs.Common.{◌≡◌, ◌+◌, ◌≤◌, fold, length}
use Rattle.library_ground.specs.CallRow.{shown_call}
use Rattle.library_ground.specs.Places.{at_places, places_left}
use Rattle.library_ground.proofs.places.for_each_place.Given as goal

-- what is left to come gives what is still wanted
abbrev pub invariant-loop-position : goal.invariant-loop-position
invariant-loop-position g l = record {
  wanted : fold g.S.Sink.then l.out (at_places (g.J.AtPlace.gives l.with) l.position (places_left l.places)) ≡ fold g.S.Sink.then l.fn.out (at_places (g.J.AtPlace.gives l.with) 0 (shown_call l.call).places);
  few : l.position + length (places_left l.places) ≤ length l.call.args.now;
}
