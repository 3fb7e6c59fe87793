use Rattle.std.proofs.Common.{◌++◌, List, map, ap, ◌∙◌}
use Rattle.app_machine.specs.Names.{Name}
use Rattle.runner_begin.proofs.Laid.{all_with, first_register, laid}
use Rattle.runner_begin.proofs.entering.arguments_of.Goals as goal
use Rattle.runner_state.specs.Shown.{value_of}

pub returns : goal.returns
returns c =
    all_with (map value_of c.args.values.now) c.args.method.now.at.proto.params (map value_of c.push.new.self.items) (map value_of c.add_parameters.new.arguments.items)
    (first_register c.new-arguments.result.items c.push.new.self.items c.value_at.result _ c.new-arguments.ensures.items c.in_ok-push.ensures.items c.value_at.ensures)
    (c.in_ok-add_parameters.ensures ∙ ap (λ (ts : List Name). map value_of c.push.new.self.items ++ laid (map value_of c.args.values.now) 1 ts) c.as_slice.ensures)
