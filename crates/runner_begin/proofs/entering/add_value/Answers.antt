use Rattle.std.proofs.Common.{map}
use Rattle.runner_begin.proofs.Laid.{with_both}
use Rattle.runner_begin.proofs.entering.add_value.Goals as goal
use Rattle.runner_state.specs.Shown.{value_of}

pub returns : goal.returns
returns c = with_both c.args.value c.args.wide c.args.arguments.now.items c.push.new.self.items (map value_of c.add_second.new.arguments.items) c.in_ok-push.ensures.items c.in_ok-add_second.ensures
