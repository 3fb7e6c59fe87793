use denote.Text.{Utf8}
use denote.Shadow.{shadow}
use Rattle.desk_serving.specs.Obeying.{TellsDocket}
use Rattle.database_cases.proofs.lines.due_with.Given as goal

abbrev pub invariant-loop-line : goal.invariant-loop-line
invariant-loop-line g l = shadow (Utf8 l.come) × TellsDocket (g.K.Keeper.told l.keeper)
