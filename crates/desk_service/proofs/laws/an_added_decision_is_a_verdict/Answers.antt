use Rattle.desk_service.proofs.Grows.{commands as commands_add, runs as runs_add}
use Rattle.desk_service.proofs.laws.an_added_decision_is_a_verdict.Goals as goal

pub returns : goal.returns
returns c = record { commands = commands_add; runs = runs_add }
