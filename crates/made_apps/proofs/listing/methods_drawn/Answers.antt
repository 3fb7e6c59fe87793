use Rattle.made_apps.proofs.Steps.{methods_step, methods_end}
use Rattle.made_apps.proofs.listing.methods_drawn.Goals as goal

pub loop-i-preserved : goal.loop-i-preserved
loop-i-preserved c =
    methods_step c.args.size c.loop-i.i c.loop-i.draws.state _ c.draw_body-body.result c.in_ok-method_listed.field-0 c.loop-i.methods.items _ _ c.loop-i-test.true
    c.draw_body-body.ensures.body c.draw_body-body.ensures.state c.in_ok-method_listed.ensures c.loop-i.invariant c.in_ok-push.ensures.items

pub returns : goal.returns
returns c = methods_end c.args.size c.loop-i.i c.loop-i.draws.state _ _ c.loop-i-test.false c.loop-i.invariant
