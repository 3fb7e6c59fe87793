use Rattle.runner_state.proofs.Marks.{joined_in}
use Rattle.runner_state.proofs.labels.Labels.joined.Goals as goal

pub returns : goal.returns
returns c = joined_in c.args.self c.args.other
