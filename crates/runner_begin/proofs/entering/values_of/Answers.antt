use Rattle.runner_begin.proofs.Laid.{with_receiver}
use Rattle.runner_begin.proofs.entering.values_of.Goals as goal

pub returns : goal.returns
returns c =
    with_receiver c.args.received.place c.args.received.sources.now c.labels_at.result c.new-values.result.items c.push.new.self.items c.extend_from_slice.new.self.items c.args.parameters.now
    c.new-values.ensures.items c.in_ok-push.ensures.items c.in_ok-extend_from_slice.ensures.items c.labels_at.ensures
