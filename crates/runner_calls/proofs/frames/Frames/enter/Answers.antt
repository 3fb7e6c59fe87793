use Rattle.std.proofs.Common.{ℕ, map, ap, ◌∷◌, ◌∙◌}
use Rattle.app_machine.specs.Heap.{Value}
use Rattle.app_machine.specs.State.{Frame}
use Rattle.runner_calls.proofs.Found.{sound_code}
use Rattle.runner_calls.proofs.Stacking.{stack, stack_push}
use Rattle.runner_calls.proofs.frames.Frames.enter.Goals as goal
use Rattle.runner_calls.specs.Frames.{entered_with, frames_of}
use Rattle.runner_state.specs.Shown.{frame_in, value_of}

pub returns-in-None : goal.returns-in-None
returns-in-None c = ap (λ o. entered_with o c.args.body (map value_of c.args.arguments.now) c.args.initialises (frames_of c.args.self.now)) c.in-None.ensures

pub registers_of-requires : goal.registers_of-requires
registers_of-requires c = record {
  within = (sound_code c.args.app.now c.args.body c.in-Some.method.now c.requires c.in-Some.ensures).within;
  few = (sound_code c.args.app.now c.args.body c.in-Some.method.now c.requires c.in-Some.ensures).registers;
}

pub returns-in_ok-push-in-Some : goal.returns-in_ok-push-in-Some
returns-in_ok-push-in-Some c =
    ap stack c.in_ok-push-in-Some.ensures.items
    ∙ (stack_push c.count.new.self.called.items (record { method = c.args.body; pc = 0; registers = c.in_ok-registers-in-Some.registers; initialises = c.args.initialises })
    ∙ (ap (λ fs. frame_in (record { method = c.args.body; pc = 0; registers = c.in_ok-registers-in-Some.registers; initialises = c.args.initialises }) ∷ fs) c.count.ensures
    ∙ (ap (λ (rs : ℕ → Value). (let f : Frame = record { method = c.args.body; pc = 0; registers = rs; initialises = c.args.initialises } in f) ∷ frames_of c.args.self.now) c.in_ok-registers-in-Some.ensures
    ∙ ap (λ o. entered_with o c.args.body (map value_of c.args.arguments.now) c.args.initialises (frames_of c.args.self.now)) c.in-Some.ensures)))
