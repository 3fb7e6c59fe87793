use Rattle.app_runner.proofs.Laws.{is_quiet}
use Rattle.app_runner.proofs.safe_apps_play_quietly.Goals as goal

pub returns : goal.returns
returns c app lists declaration sound sound_lists safe script played tells = is_quiet app lists sound sound_lists script played tells c.safe_apps_are_quiet.ensures declaration safe
