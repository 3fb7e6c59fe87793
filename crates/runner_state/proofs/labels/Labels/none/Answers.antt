use Rattle.runner_state.proofs.Marks.{no_labels}
use Rattle.runner_state.proofs.labels.Labels.none.Goals as goal

pub returns : goal.returns
returns c = no_labels
