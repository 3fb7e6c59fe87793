use Rattle.std.proofs.Common.{List, sym, subst}
use Rattle.std.specs.Prelude.{IfOk}
use Rattle.app_machine.specs.State.{Frame}
use Rattle.runner_calls.specs.Frames.{frames_of}
use Rattle.runner_steps.specs.declared.doing.Doing.{Doing}
use Rattle.runner_steps.specs.Doing.{NamesFew, drawing_in}
use Rattle.runner_steps.specs.State.{Makes, on_running, playing_in}
use Rattle.runner_turns.proofs.owning.carry_out.Goals as goal
use Rattle.runner_world.specs.World.{world_in}

pub call_library-requires-clause-few : goal.call_library-requires-clause-few
call_library-requires-clause-few c = subst NamesFew c.in-CallsLibrary.is c.requires.few

pub returns-in-Acts-clause-made : goal.returns-in-Acts-clause-made
returns-in-Acts-clause-made c =
    subst (λ (d : Doing). IfOk c.act.result (Makes (on_running (λ (f : Frame) (fs : List Frame). drawing_in c.args.ground.now.app.now c.args.ground.now.lists.now (world_in c.args.playing.now.world) f fs d) (frames_of c.args.playing.now.frames) c.args.script.left.now) (playing_in c.args.playing.now) (playing_in c.act.new.playing)))
    (sym c.in-Acts.is) c.act.ensures

pub returns-in-CallsBody-clause-made : goal.returns-in-CallsBody-clause-made
returns-in-CallsBody-clause-made c =
    subst (λ (d : Doing). IfOk c.call_body.result (Makes (on_running (λ (f : Frame) (fs : List Frame). drawing_in c.args.ground.now.app.now c.args.ground.now.lists.now (world_in c.args.playing.now.world) f fs d) (frames_of c.args.playing.now.frames) c.args.script.left.now) (playing_in c.args.playing.now) (playing_in c.call_body.new.playing)))
    (sym c.in-CallsBody.is) c.call_body.ensures

pub returns-in-CallsLibrary-clause-made : goal.returns-in-CallsLibrary-clause-made
returns-in-CallsLibrary-clause-made c =
    subst (λ (d : Doing). IfOk c.call_library.result (Makes (on_running (λ (f : Frame) (fs : List Frame). drawing_in c.args.ground.now.app.now c.args.ground.now.lists.now (world_in c.args.playing.now.world) f fs d) (frames_of c.args.playing.now.frames) c.args.script.left.now) (playing_in c.args.playing.now) (playing_in c.call_library.new.playing)))
    (sym c.in-CallsLibrary.is) c.call_library.ensures.made

pub returns-in-Returns-clause-made : goal.returns-in-Returns-clause-made
returns-in-Returns-clause-made c =
    subst (λ (d : Doing). IfOk c.return_from.result (Makes (on_running (λ (f : Frame) (fs : List Frame). drawing_in c.args.ground.now.app.now c.args.ground.now.lists.now (world_in c.args.playing.now.world) f fs d) (frames_of c.args.playing.now.frames) c.args.script.left.now) (playing_in c.args.playing.now) (playing_in c.return_from.new.playing)))
    (sym c.in-Returns.is) c.return_from.ensures

pub returns-in-Throws-clause-made : goal.returns-in-Throws-clause-made
returns-in-Throws-clause-made c =
    subst (λ (d : Doing). IfOk c.throw.result (Makes (on_running (λ (f : Frame) (fs : List Frame). drawing_in c.args.ground.now.app.now c.args.ground.now.lists.now (world_in c.args.playing.now.world) f fs d) (frames_of c.args.playing.now.frames) c.args.script.left.now) (playing_in c.args.playing.now) (playing_in c.throw.new.playing)))
    (sym c.in-Throws.is) c.throw.ensures
