use Rattle.app_runner.proofs.Runs.{Turns}
use Rattle.app_runner.proofs.running.run.Given as goal

abbrev pub invariant-loop-turn : goal.invariant-loop-turn
invariant-loop-turn l = Turns l.ground l.initial.playing l.script l.playing l.known l.left.left.now l.turn
