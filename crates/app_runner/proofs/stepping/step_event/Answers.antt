use Rattle.std.proofs.Common.{ℕ, List, Option, refl, sym, ap, subst, ◌∙◌}
use Rattle.std.specs.Prelude.{option_map}
use Rattle.app_machine.specs.declared.app.App.{App}
use Rattle.app_machine.specs.declared.lists.Lists.{Lists}
use Rattle.app_machine.specs.Sound.{SoundApp}
use Rattle.app_runner.proofs.Steps.{made_by, no_event, one_event}
use Rattle.app_runner.proofs.stepping.step_event.Goals as goal
use Rattle.played_growth.specs.Growth.{classes_of}
use Rattle.played_machine.specs.Coming.{begun}
use Rattle.played_machine.specs.Drawn.{drawn_step}
use Rattle.runner_below.specs.Kept.{AreBelow}
use Rattle.runner_calls.specs.Frames.{frames_of}
use Rattle.runner_choices.specs.declared.choice.Choice.{Choice}
use Rattle.runner_choices.specs.Choices.{event_of}
use Rattle.runner_heap.specs.Objects.{heap_of}
use Rattle.runner_menu.specs.Menus.{Fits, IsReady, choice_behind}
use Rattle.runner_state.specs.declared.script.Script.{Script}
use Rattle.runner_steps.specs.State.{playing_in}
use Rattle.runner_world.specs.World.{world_in}

pub catch_up-requires-clause-sound : goal.catch_up-requires-clause-sound
catch_up-requires-clause-sound c = subst (λ (e : App × Lists). SoundApp e.0) (sym c.requires.ground.events) c.requires.ground.app

pub catch_up-requires-clause-fits : goal.catch_up-requires-clause-fits
catch_up-requires-clause-fits c =
    subst (λ (e : App × Lists). Fits e.0 e.1 (classes_of (heap_of c.args.playing.now.world.heap)) c.args.playing.now.world.handed c.args.known.now.menu) (sym c.requires.ground.events)
    (subst (λ (places : List ℕ). Fits c.args.ground.now.app.now c.args.ground.now.lists.now (classes_of (heap_of c.args.playing.now.world.heap)) places c.args.known.now.menu) c.requires.once c.requires.known.menu)

pub drawn-requires-clause-ready : goal.drawn-requires-clause-ready
drawn-requires-clause-ready c = subst (λ (e : App × Lists). IsReady e.0 e.1 (world_in c.args.playing.now.world) c.catch_up.new.self) c.requires.ground.events c.in_ok-catch_up.ensures.ready

pub begin-requires-clause-fits : goal.begin-requires-clause-fits
begin-requires-clause-fits c =
    subst (λ (places : List ℕ). AreBelow c.args.ground.now.app.now c.args.ground.now.lists.now (classes_of (heap_of c.args.playing.now.world.heap)) places c.args.known.now.belows) c.requires.once c.requires.known.belows

pub returns-in-None-clause-made : goal.returns-in-None-clause-made
returns-in-None-clause-made c = (
  no_event c.args.ground.now.app.now c.args.ground.now.lists.now (world_in c.args.playing.now.world) c.args.script.left.now (frames_of c.args.playing.now.frames) c.requires.idle
      (sym (ap (λ (o : Option (Choice × Script)). option_map (choice_behind (world_in c.args.playing.now.world)) o) c.in-None.is) ∙ c.in_ok-drawn.ensures),
  refl,
)

pub returns-in-None-clause-known : goal.returns-in-None-clause-known
returns-in-None-clause-known c = record {
  menu = subst (λ (places : List ℕ). Fits c.args.ground.now.app.now c.args.ground.now.lists.now (classes_of (heap_of c.args.playing.now.world.heap)) places c.catch_up.new.self) (sym c.requires.once)
      (subst (λ (e : App × Lists). Fits e.0 e.1 (classes_of (heap_of c.args.playing.now.world.heap)) c.args.playing.now.world.handed c.catch_up.new.self) c.requires.ground.events c.in_ok-catch_up.ensures.fits);
  belows = c.requires.known.belows;
}

pub returns-in_ok-left-in-Some-clause-made : goal.returns-in_ok-left-in-Some-clause-made
returns-in_ok-left-in-Some-clause-made c =
    let world = world_in c.args.playing.now.world in
    made_by (begun c.args.ground.now.app.now c.args.ground.now.lists.now world (event_of world c.in-Some.choice) c.in-Some.rest.left.now)
    (drawn_step c.args.ground.now.app.now c.args.ground.now.lists.now (playing_in c.args.playing.now) c.args.script.left.now) (playing_in c.args.playing.now) (playing_in c.begin.new.playing) c.in_ok-left-in-Some.left
    (one_event c.args.ground.now.app.now c.args.ground.now.lists.now world c.args.script.left.now (frames_of c.args.playing.now.frames) (event_of world c.in-Some.choice) c.in-Some.rest.left.now c.requires.idle
    (ap (λ (o : Option (Choice × Script)). option_map (choice_behind world) o) (sym c.in-Some.is) ∙ c.in_ok-drawn.ensures))
    c.in_ok-left-in-Some.ensures.made

pub returns-in_ok-left-in-Some-clause-known : goal.returns-in_ok-left-in-Some-clause-known
returns-in_ok-left-in-Some-clause-known c = record {
  menu = subst (λ (places : List ℕ). Fits c.args.ground.now.app.now c.args.ground.now.lists.now (classes_of (heap_of c.args.playing.now.world.heap)) places c.catch_up.new.self) (sym c.requires.once)
      (subst (λ (e : App × Lists). Fits e.0 e.1 (classes_of (heap_of c.args.playing.now.world.heap)) c.args.playing.now.world.handed c.catch_up.new.self) c.requires.ground.events c.in_ok-catch_up.ensures.fits);
  belows = subst (λ (places : List ℕ). AreBelow c.args.ground.now.app.now c.args.ground.now.lists.now (classes_of (heap_of c.args.playing.now.world.heap)) places c.begin.new.belows) (sym c.requires.once) c.in_ok-left-in-Some.ensures.fits;
}
