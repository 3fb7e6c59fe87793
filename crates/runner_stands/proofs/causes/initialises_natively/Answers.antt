use Rattle.std.proofs.Common.{List, ℕ, ap}
use Rattle.std.specs.List.{list_any}
use Rattle.app_machine.specs.Lookups.{initialisers}
use Rattle.app_model.specs.Initialisers.{initialisers_left}
use Rattle.played_machine.specs.Calling.{is_native_body}
use Rattle.runner_stands.proofs.Reasons.{none_native, one_native, others_native}
use Rattle.runner_stands.proofs.causes.initialises_natively.Goals as goal

pub loop-body-init : goal.loop-body-init
loop-body-init c = ap (λ (bodies : List ℕ). list_any (is_native_body c.args.app.now) bodies) c.act_initialisers-walk.ensures

pub returns-then-is_native : goal.returns-then-is_native
returns-then-is_native c =
    one_native (is_native_body c.args.app.now) (list_any (is_native_body c.args.app.now) (initialisers c.args.app.now c.args.act.now)) (initialisers_left c.args.app.now c.loop-body.walk) (initialisers_left c.args.app.now c.in-Some.rest) c.in-Some.body c.is_native.result c.in-Some.ensures c.is_native.ensures c.if-is_native.true c.loop-body.invariant

pub loop-body-preserved : goal.loop-body-preserved
loop-body-preserved c =
    others_native (is_native_body c.args.app.now) (list_any (is_native_body c.args.app.now) (initialisers c.args.app.now c.args.act.now)) (initialisers_left c.args.app.now c.loop-body.walk) (initialisers_left c.args.app.now c.in-Some.rest) c.in-Some.body c.is_native.result c.in-Some.ensures c.is_native.ensures c.if-is_native.false c.loop-body.invariant

pub returns : goal.returns
returns c = none_native (is_native_body c.args.app.now) (list_any (is_native_body c.args.app.now) (initialisers c.args.app.now c.args.act.now)) (initialisers_left c.args.app.now c.loop-body.walk) c.in_default.ensures c.loop-body.invariant
