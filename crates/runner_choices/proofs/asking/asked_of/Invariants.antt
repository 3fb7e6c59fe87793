use Rattle.std.proofs.Common.{◌≡◌}
use Rattle.event_index.specs.Comings.{first_comings}
use Rattle.runner_choices.proofs.asking.asked_of.Given as goal

abbrev pub invariant-loop-row : goal.invariant-loop-row
invariant-loop-row l = l.own.items ≡ first_comings l.index.0 l.index.1 l.class l.row
