use Rattle.runner_handed.proofs.Events.{are_events}
use Rattle.runner_handed.proofs.reached_are_events.Goals as goal

pub returns : goal.returns
returns c = are_events
