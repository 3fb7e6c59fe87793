use Rattle.app_model.proofs.Events.{events_exact}
use Rattle.app_model.proofs.lookups.events.events_are_exact.Goals as goal

pub returns : goal.returns
returns c = events_exact
