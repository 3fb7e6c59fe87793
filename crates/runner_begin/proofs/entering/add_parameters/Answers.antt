use Rattle.std.proofs.Common.{map, arith}
use Rattle.runner_begin.proofs.Laid.{all_laid, none_laid, one_laid}
use Rattle.runner_begin.proofs.entering.add_parameters.Goals as goal
use Rattle.runner_state.specs.Shown.{value_of}

pub loop-i-init : goal.loop-i-init
loop-i-init c = none_laid (map value_of c.args.values.now) (map value_of c.args.arguments.now.items) c.args.kinds.now

pub loop-i-preserved : goal.loop-i-preserved
loop-i-preserved c =
    one_laid (map value_of c.args.values.now) (map value_of c.args.arguments.now.items) c.args.kinds.now (map value_of c.loop-i.arguments.items) (map value_of c.add_value.new.arguments.items) c.loop-i.i c.index-kinds-i.result
    (value_of c.value_at-value.result) c.is_wide.result (omega arith) c.index-kinds-i.is c.value_at-value.ensures c.is_wide.ensures c.in_ok-add_value.ensures c.loop-i.invariant

pub returns : goal.returns
returns c = all_laid (map value_of c.args.values.now) (map value_of c.args.arguments.now.items) c.args.kinds.now (map value_of c.loop-i.arguments.items) c.loop-i.i (omega arith) c.loop-i.invariant
