use Rattle.app_machine.specs.Lookups.{initialisers}
use Rattle.app_model.specs.Initialisers.{initialisers_left}
use Rattle.runner_calls.proofs.Found.{all_found, nothing_found, numbers, one_further}
use Rattle.runner_calls.proofs.bodies.initialisers.Goals as goal

pub loop-body-init : goal.loop-body-init
loop-body-init c = nothing_found c.args.app.now c.new-found.result.items (initialisers_left c.args.app.now c.act_initialisers-walk.result) (initialisers c.args.app.now c.args.act.now) c.new-found.ensures.items c.act_initialisers-walk.ensures

pub loop-body-preserved : goal.loop-body-preserved
loop-body-preserved c =
    one_further c.args.app.now c.loop-body.found.items c.add.new.found.items (initialisers_left c.args.app.now c.loop-body.walk) (initialisers_left c.args.app.now c.in-Some.rest) c.in-Some.body (numbers c.args.app.now (initialisers c.args.app.now c.args.act.now))
    c.in-Some.ensures c.in_ok-add.ensures c.loop-body.invariant

pub returns : goal.returns
returns c = all_found c.args.app.now c.loop-body.found.items (initialisers_left c.args.app.now c.loop-body.walk) (numbers c.args.app.now (initialisers c.args.app.now c.args.act.now)) c.in_default.ensures c.loop-body.invariant
