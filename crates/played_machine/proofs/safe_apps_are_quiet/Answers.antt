use Rattle.played_machine.proofs.Quiet.{quiet}
use Rattle.played_machine.proofs.safe_apps_are_quiet.Goals as goal

pub returns : goal.returns
returns c app lists declaration sound sound_lists safe = quiet app lists (c.events_are_exact.ensures app lists sound) sound_lists declaration safe
