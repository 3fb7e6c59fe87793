use Rattle.app_runner.proofs.Laws.{is_run}
use Rattle.app_runner.proofs.what_is_played_is_a_run.Goals as goal

pub returns : goal.returns
returns c app lists sound sound_lists script played tells = is_run app lists sound sound_lists script played tells c.a_drawn_run_is_a_run.ensures c.stands_are_exact.ensures
