use Rattle.played_machine.proofs.Standing.{stands_exact}
use Rattle.played_machine.proofs.stands_are_exact.Goals as goal

pub returns : goal.returns
returns c app lists sound = stands_exact app lists (c.events_are_exact.ensures app lists sound)
