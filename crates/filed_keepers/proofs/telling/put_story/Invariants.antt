use Rattle.desk_serving.specs.Obeying.{TellsDocket}
use Rattle.filed_keepers.proofs.telling.put_story.Given as goal

abbrev pub invariant-loop-command : goal.invariant-loop-command
invariant-loop-command g l = TellsDocket (g.K.Keeper.told l.keeper)
