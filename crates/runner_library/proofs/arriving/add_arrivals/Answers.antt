use Rattle.std.proofs.Common.{arith}
use Rattle.runner_library.proofs.Labelled.{all_arrived, none_arrived, one_arrived}
use Rattle.runner_library.proofs.arriving.add_arrivals.Goals as goal

pub loop-label-init : goal.loop-label-init
loop-label-init c = none_arrived c.args.sink c.args.labels c.args.arrivals.now.items

pub loop-label-preserved : goal.loop-label-preserved
loop-label-preserved c = one_arrived c.args.sink c.args.labels c.args.arrivals.now.items c.loop-label.arrivals.items c.add_if.new.arrivals.items c.loop-label.label c.in_ok-add_if.ensures c.loop-label.invariant

pub returns : goal.returns
returns c = all_arrived c.args.sink c.args.labels c.args.arrivals.now.items c.loop-label.arrivals.items c.loop-label.label (omega arith) c.loop-label.invariant
