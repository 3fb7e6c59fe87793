use Rattle.std.proofs.Common.{map, ap, arith}
use Rattle.app_model.specs.EventBodies.{shown_callback}
use Rattle.runner_choices.specs.Choices.{called_by}
use Rattle.runner_choices.proofs.Lists.{all_given, some_more}
use Rattle.runner_choices.proofs.calling.called_by.Goals as goal

pub loop-coming-init : goal.loop-coming-init
loop-coming-init c = ap (map shown_callback) c.new-all.ensures.items

pub loop-coming-preserved : goal.loop-coming-preserved
loop-coming-preserved c =
    some_more (called_by c.args.lists.now) c.args.comings.now (map shown_callback c.loop-coming.all.items) (map shown_callback c.add_coming.new.all.items) c.loop-coming.coming-index _ c.loop-coming-test.true c.in_ok-add_coming.ensures c.loop-coming.invariant

pub returns : goal.returns
returns c = all_given (called_by c.args.lists.now) c.args.comings.now (map shown_callback c.loop-coming.all.items) c.loop-coming.coming-index (omega arith) c.loop-coming.invariant
