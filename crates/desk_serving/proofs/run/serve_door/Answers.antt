use Rattle.desk_serving.proofs.Runs.{machine_run, holds_talks, counts_all}
use Rattle.desk_serving.proofs.run.serve_door.Goals as goal

pub returns-clause-machine : goal.returns-clause-machine
returns-clause-machine g c = machine_run _ _ _ _ _ _ _ _ c.served_door.ensures.runs

pub returns-clause-talks : goal.returns-clause-talks
returns-clause-talks g c = holds_talks _ _ _ _ _ _ _ _ c.served_door.ensures.runs

pub returns-clause-count : goal.returns-clause-count
returns-clause-count g c = counts_all _ _ _ _ _ _ _ _ c.served_door.ensures.runs
