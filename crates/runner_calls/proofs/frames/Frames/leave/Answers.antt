use Rattle.std.proofs.Common.{◌≡◌, ◌-◌, length, take, vec_len, ap, ◌∙◌, arith}
use Rattle.runner_calls.proofs.Stacking.{stack, without_last}
use Rattle.runner_calls.proofs.frames.Frames.leave.Goals as goal

pub returns : goal.returns
returns c =
    let same : vec_len c.args.self.now.called ≡ length c.args.self.now.called.items = omega arith in
    ap stack c.pop-running.ensures.rest ∙ (ap (λ n. stack (take (n - 1) c.args.self.now.called.items)) same ∙ without_last c.args.self.now.called.items)
