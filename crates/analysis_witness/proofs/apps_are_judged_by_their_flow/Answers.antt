-- By the law of flows.
use Rattle.analysis_witness.proofs.Flowing.{apps_are_judged_by_their_flow}
use Rattle.analysis_witness.proofs.apps_are_judged_by_their_flow.Goals as goal

pub returns : goal.returns
returns c = apps_are_judged_by_their_flow c.one_flow.ensures
