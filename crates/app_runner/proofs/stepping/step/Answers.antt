use Rattle.app_runner.proofs.Steps.{still_serves}
use Rattle.app_runner.proofs.stepping.step.Goals as goal
use Rattle.runner_steps.specs.State.{playing_in}

pub returns-clause-known : goal.returns-clause-known
returns-clause-known c =
    still_serves c.steps_only_add.ensures c.menus_stay.ensures c.belows_stay.ensures c.args.ground.now (playing_in c.args.playing.now) (playing_in c.step_from.new.playing) c.step_from.new.known c.args.script.left.now c.in_ok-left.left
    c.in_ok-left.ensures.made c.in_ok-left.ensures.known
