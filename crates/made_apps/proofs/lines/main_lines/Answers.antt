use Rattle.made_apps.specs.Code.{main_lines}
use Rattle.made_apps.proofs.Steps.{calls_begin, calls_step, calls_end}
use Rattle.made_apps.proofs.lines.main_lines.Goals as goal

pub loop-i-init : goal.loop-i-init
loop-i-init c = calls_begin c.args.size c.in_ok-lines.lines.items _ _ c.in_ok-source.source c.in_ok-lines.ensures.items c.in_ok-invoke_static.ensures c.in_ok-move_result_object.ensures c.in_ok-source.ensures

pub loop-i-preserved : goal.loop-i-preserved
loop-i-preserved c = calls_step c.args.size c.loop-i.i c.loop-i.lines.items c.push_call.new.lines.items (main_lines c.args.size) c.loop-i-test.true c.loop-i.invariant c.in_ok-push_call.ensures

pub returns : goal.returns
returns c = calls_end c.args.size c.loop-i.i c.loop-i.lines.items c.push.new.self.items (main_lines c.args.size) _ c.loop-i-test.false c.loop-i.invariant c.in_ok-push.ensures.items c.in_ok-return_void.ensures
