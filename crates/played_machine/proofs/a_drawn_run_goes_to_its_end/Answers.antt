use Rattle.played_machine.proofs.Taking.{to_its_end}
use Rattle.played_machine.proofs.a_drawn_run_goes_to_its_end.Goals as goal

pub returns : goal.returns
returns c = to_its_end
