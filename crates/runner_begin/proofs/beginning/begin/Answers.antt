use Rattle.std.proofs.Common.{◌∙◌, sym, ap, subst}
use Rattle.std.specs.Prelude.{IfOk}
use Rattle.played_machine.specs.Coming.{Event, begun}
use Rattle.runner_choices.specs.Choices.{event_of}
use Rattle.runner_begin.proofs.beginning.begin.Goals as goal
use Rattle.runner_steps.specs.State.{Makes, playing_in}
use Rattle.runner_world.specs.World.{world_in}

pub returns-in-Born-clause-made : goal.returns-in-Born-clause-made
returns-in-Born-clause-made c =
    subst (λ (e : Event). IfOk c.receive.result (Makes (begun c.args.ground.now.app.now c.args.ground.now.lists.now (world_in c.args.playing.now.world) e c.args.script.left.now) (playing_in c.args.playing.now) (playing_in c.receive.new.playing)))
    (c.born-received.ensures ∙ ap (event_of (world_in c.args.playing.now.world)) (sym c.in-Born.is)) c.receive.ensures.made

pub returns-in-Lives-clause-made : goal.returns-in-Lives-clause-made
returns-in-Lives-clause-made c =
    subst (λ (e : Event). IfOk c.receive-in-Lives.result (Makes (begun c.args.ground.now.app.now c.args.ground.now.lists.now (world_in c.args.playing.now.world) e c.args.script.left.now) (playing_in c.args.playing.now) (playing_in c.receive-in-Lives.new.playing)))
    (c.lived-received.ensures ∙ ap (event_of (world_in c.args.playing.now.world)) (sym c.in-Lives.is)) c.receive-in-Lives.ensures.made

pub returns-in-Called-clause-made : goal.returns-in-Called-clause-made
returns-in-Called-clause-made c =
    subst (λ (e : Event). IfOk c.receive-in-Called.result (Makes (begun c.args.ground.now.app.now c.args.ground.now.lists.now (world_in c.args.playing.now.world) e c.args.script.left.now) (playing_in c.args.playing.now) (playing_in c.receive-in-Called.new.playing)))
    (c.called-received.ensures (world_in c.args.playing.now.world) ∙ ap (event_of (world_in c.args.playing.now.world)) (sym c.in-Called.is)) c.receive-in-Called.ensures.made

pub returns-in-Initialises-clause-made : goal.returns-in-Initialises-clause-made
returns-in-Initialises-clause-made c =
    subst (λ (e : Event). IfOk c.initialise.result (Makes (begun c.args.ground.now.app.now c.args.ground.now.lists.now (world_in c.args.playing.now.world) e c.args.script.left.now) (playing_in c.args.playing.now) (playing_in c.initialise.new.playing)))
    (ap (event_of (world_in c.args.playing.now.world)) (sym c.in-Initialises.is)) c.initialise.ensures
