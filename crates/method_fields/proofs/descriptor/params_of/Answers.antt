use Rattle.std.proofs.Common.{◌≡◌, true, false, rules, arith, length, ◌≤◌, sym, ◌∙◌}
use Rattle.vet_base.specs.Script.{run, Fails}
use Rattle.vet_base.proofs.Scripts.{sweep_begins, sweep_goes_on, sweep_fails, sweep_is_done}
use Rattle.method_fields.specs.Descriptor.{has_param, params_of}
use Rattle.method_fields.proofs.Params.{no_param}
use Rattle.method_fields.proofs.descriptor.params_of.Goals as goal

pub loop-init : goal.loop-init
unfolding params_of
loop-init c = record { passed = omega arith; params = rw c.new-params.ensures.items (sweep_begins _ _ _ _) }

pub returns-then-not-has_param : goal.returns-then-not-has_param
returns-then-not-has_param c =
    let none : has_param c.args.text.now c.loop.at ≡ false = sym c.has_param.ensures.value ∙ c.if-not-has_param.true in
    sweep_is_done _ _ _ _ _ _ _ none c.loop.invariant.params

pub returns-in_err-param : goal.returns-in_err-param
returns-in_err-param c =
    let has : has_param c.args.text.now c.loop.at ≡ true = sym c.has_param.ensures.value ∙ c.if-not-has_param.false in
    let stopped : Fails c.in_err-param.field-0.0 (run (params_of c.args.section c.args.key c.args.text.now)) =
    sweep_fails _ _ _ _ _ _ _ _ c.loop-test.true has c.in_err-param.ensures.value c.loop.invariant.params in
    search rules

pub loop-preserved : goal.loop-preserved
loop-preserved c =
    let has : has_param c.args.text.now c.loop.at ≡ true = sym c.has_param.ensures.value ∙ c.if-not-has_param.false in
    record {
      passed = omega (arith, c.in_ok-param.ensures.further.0);
      params = rw c.in_ok-push.ensures.items (sweep_goes_on _ _ _ _ _ _ _ _ _ c.loop-test.true has c.in_ok-param.ensures.value c.loop.invariant.params);
    }

pub returns : goal.returns
returns c =
    let past : length c.args.text.now ≤ c.loop.at = omega arith in
    sweep_is_done _ _ _ _ _ _ _ (no_param c.args.text.now c.loop.at past) c.loop.invariant.params
