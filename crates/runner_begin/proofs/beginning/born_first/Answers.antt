use Rattle.runner_begin.proofs.Planned.{one_planned}
use Rattle.runner_begin.proofs.beginning.born_first.Goals as goal

pub returns : goal.returns
returns c = λ heap. one_planned heap (record { class = c.args.class; labels = c.none.result }) c.new-first.result.items c.push.new.self.items c.new-first.ensures.items c.in_ok-push.ensures.items c.none.ensures
