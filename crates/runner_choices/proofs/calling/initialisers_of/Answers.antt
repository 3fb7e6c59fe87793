use Rattle.app_model.specs.Initialisers.{component_initialisers, initialisers_left}
use Rattle.runner_choices.proofs.Made.{all_found, nothing_found, one_further}
use Rattle.runner_choices.proofs.calling.initialisers_of.Goals as goal

pub loop-body-init : goal.loop-body-init
loop-body-init c = nothing_found c.new-bodies.result.items (initialisers_left c.args.app.now c.component_initialisers-walk.result) (component_initialisers c.args.app.now c.args.component) c.new-bodies.ensures.items c.component_initialisers-walk.ensures

pub loop-body-preserved : goal.loop-body-preserved
loop-body-preserved c =
    one_further c.loop-body.bodies.items c.push.new.self.items (initialisers_left c.args.app.now c.loop-body.walk) (initialisers_left c.args.app.now c.in-Some.rest) (component_initialisers c.args.app.now c.args.component) c.in-Some.body
    c.in-Some.ensures c.in_ok-push.ensures.items c.loop-body.invariant

pub returns : goal.returns
returns c = all_found c.loop-body.bodies.items (initialisers_left c.args.app.now c.loop-body.walk) (component_initialisers c.args.app.now c.args.component) c.in_default.ensures c.loop-body.invariant
