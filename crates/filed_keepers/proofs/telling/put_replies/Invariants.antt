use Rattle.desk_serving.specs.Obeying.{TellsDocket}
use Rattle.filed_keepers.proofs.telling.put_replies.Given as goal

abbrev pub invariant-loop-line : goal.invariant-loop-line
invariant-loop-line g l = TellsDocket (g.K.Keeper.told l.keeper)
