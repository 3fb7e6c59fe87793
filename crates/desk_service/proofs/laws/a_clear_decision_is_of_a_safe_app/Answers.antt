use Rattle.desk_service.proofs.Safe.{commands as commands_stay, runs as runs_stay}
use Rattle.desk_service.proofs.laws.a_clear_decision_is_of_a_safe_app.Goals as goal

pub returns : goal.returns
returns c = record { commands = commands_stay; runs = runs_stay }
