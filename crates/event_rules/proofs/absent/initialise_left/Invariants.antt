use Rattle.std.proofs.Common.{◌≡◌, fold, flat_map, length}
use Rattle.app_model.specs.Initialisers.{initialisers_left}
use Rattle.event_rules.specs.EventGiven.{initialiser_begins}
use Rattle.event_rules.proofs.absent.initialise_left.Given as goal

abbrev pub invariant-loop-body : goal.invariant-loop-body
invariant-loop-body g l =
    fold g.S.Sink.then l.out (flat_map (initialiser_begins l.app l.component) (initialisers_left l.app l.left))
    ≡ fold g.S.Sink.then l.fn.out (flat_map (initialiser_begins l.app l.component) (initialisers_left l.app l.walk))

abbrev pub decreases-loop-body : goal.decreases-loop-body
decreases-loop-body g l = length (initialisers_left l.app l.left)
