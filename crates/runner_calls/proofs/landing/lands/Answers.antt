use Rattle.std.proofs.Common.{◌≡◌, ◌+◌, ◌-◌, ◌<◌, ℕ, List, take, length, Option, Some, sym, ap, ◌∙◌, arith}
use Rattle.app_machine.specs.declared.app.App.{App}
use Rattle.runner_calls.specs.Landing.{lands}
use Rattle.runner_calls.proofs.Raising.{goes_up, none_passed}
use Rattle.runner_calls.proofs.Stacking.{stack}
use Rattle.runner_calls.proofs.landing.lands.Goals as goal
use Rattle.runner_state.specs.declared.frame.Called.{Called}

pub loop-below-init : goal.loop-below-init
loop-below-init c =
    let many : c.len-below.result ≡ length c.args.frames.now.called.items = omega (arith, c.len-below.ensures) in
    record {
      within = omega (arith, many);
      so_far = none_passed c.args.app.now c.args.frames.now.called.items c.args.script.left.now ∙ ap (λ n. lands c.args.app.now (stack (take n c.args.frames.now.called.items)) c.args.script.left.now) (sym many);
    }

-- of one frame more
earlier : (app : App) (called : List Called) (n k : ℕ) (all bytes : List ℕ) → n ≡ k + 1 → lands app (stack called) all ≡ lands app (stack (take n called)) bytes → lands app (stack called) all ≡ lands app (stack (take (k + 1) called)) bytes
earlier app called n k all bytes one so_far = so_far ∙ ap (λ m. lands app (stack (take m called)) bytes) one

pub loop-below-preserved : goal.loop-below-preserved
loop-below-preserved c =
    let one : c.loop-below.below ≡ c.loop-below.below - 1 + 1 = omega (arith, c.loop-below-test.true) in
    let within : c.loop-below.below - 1 < length c.args.frames.now.called.items = omega (arith, c.loop-below-test.true, c.loop-below.invariant.within) in
    record {
      within = omega (arith, within);
      so_far = goes_up c.args.app.now c.args.frames.now.called.items (c.loop-below.below - 1) c.index.result.now c.args.script.left.now c.loop-below.left.left.now within c.index.ensures
          (earlier c.args.app.now c.args.frames.now.called.items c.loop-below.below (c.loop-below.below - 1) c.args.script.left.now c.loop-below.left.left.now one c.loop-below.invariant.so_far) c.in_ok-handler.rest.left.now
          (ap (λ (o : Option ℕ). Some (o, c.in_ok-handler.rest.left.now)) (sym c.in_default.is) ∙ c.in_ok-handler.ensures);
    }
