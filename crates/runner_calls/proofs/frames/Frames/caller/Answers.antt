use Rattle.std.proofs.Common.{◌≡◌, ◌-◌, length, slice_get, ap, ◌∙◌, arith}
use Rattle.std.specs.Option.{option_copied}
use Rattle.runner_calls.proofs.Stacking.{frame_back, no_frame}
use Rattle.runner_calls.proofs.frames.Frames.caller.Goals as goal

pub returns-then-count-lt2 : goal.returns-then-count-lt2
returns-then-count-lt2 c = no_frame c.args.self.now.called.items 1 (omega arith)

pub returns : goal.returns
returns c =
    let same : c.len-count.result - 2 ≡ length c.args.self.now.called.items - 1 - 1 = omega (arith, c.len-count.ensures) in
    frame_back c.args.self.now.called.items 1 (option_copied c.frame_at.result) (omega (arith, c.len-count.ensures, c.if-count-lt2.false)) (c.frame_at.ensures ∙ ap (slice_get c.args.self.now.called.items) same)
