use Rattle.desk_serving.specs.Obeying.{TellsDocket}
use Rattle.case_lines.proofs.putting.due_of.Given as goal

abbrev pub invariant-loop-turn : goal.invariant-loop-turn
invariant-loop-turn g l = TellsDocket (g.K.Keeper.told l.keeper)
