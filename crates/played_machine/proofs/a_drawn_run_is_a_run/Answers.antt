use Rattle.played_machine.proofs.Stepping.{runs_so}
use Rattle.played_machine.proofs.a_drawn_run_is_a_run.Goals as goal

pub returns : goal.returns
returns c app lists sound sound_lists = runs_so app lists (c.events_are_exact.ensures app lists sound) sound_lists
