use Rattle.played_machine.proofs.Stepping.{steps_so}
use Rattle.played_machine.proofs.drawn_steps_are_steps.Goals as goal

pub returns : goal.returns
returns c app lists sound sound_lists = steps_so app lists (c.events_are_exact.ensures app lists sound) sound_lists
