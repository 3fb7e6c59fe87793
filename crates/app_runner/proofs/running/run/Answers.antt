use Rattle.std.proofs.Common.{Option, subst, arith}
use Rattle.app_runner.proofs.Runs.{at_start, no_turn, one_turn, past_end}
use Rattle.app_runner.proofs.running.run.Goals as goal
use Rattle.played_machine.specs.Drawn.{drawn_step}
use Rattle.runner_state.specs.declared.script.Script.{Script}
use Rattle.runner_steps.specs.State.{Makes, playing_in}

pub loop-turn-init : goal.loop-turn-init
loop-turn-init c = record {
  so_far = at_start c.args.ground.now.app.now c.args.ground.now.lists.now (playing_in c.args.playing.now) c.args.script.now;
  serves = c.requires.known;
}

pub step-requires-clause-known : goal.step-requires-clause-known
step-requires-clause-known c = c.loop-turn.invariant.serves

pub returns-in-None : goal.returns-in-None
returns-in-None c =
    no_turn c.args.ground.now.app.now c.args.ground.now.lists.now (playing_in c.args.playing.now) c.args.script.now (playing_in c.loop-turn.playing) c.loop-turn.left.left.now c.loop-turn.turn c.loop-turn.invariant.so_far c.alike_states_draw_alike.ensures (playing_in c.step.new.playing)
    (subst (λ (o : Option Script). Makes (drawn_step c.args.ground.now.app.now c.args.ground.now.lists.now (playing_in c.loop-turn.playing) c.loop-turn.left.left.now) (playing_in c.loop-turn.playing) (playing_in c.step.new.playing) o) c.in-None.is c.in_ok-made.ensures.made)

pub loop-turn-preserved : goal.loop-turn-preserved
loop-turn-preserved c = record {
  so_far = one_turn c.args.ground.now.app.now c.args.ground.now.lists.now (playing_in c.args.playing.now) c.args.script.now (playing_in c.loop-turn.playing) c.loop-turn.left.left.now c.loop-turn.turn c.loop-turn.invariant.so_far c.alike_states_draw_alike.ensures (playing_in c.step.new.playing) c.in-Some.rest
      (omega arith)
      (subst (λ (o : Option Script). Makes (drawn_step c.args.ground.now.app.now c.args.ground.now.lists.now (playing_in c.loop-turn.playing) c.loop-turn.left.left.now) (playing_in c.loop-turn.playing) (playing_in c.step.new.playing) o) c.in-Some.is c.in_ok-made.ensures.made);
  serves = c.in_ok-made.ensures.known;
}

pub returns : goal.returns
returns c =
    past_end c.args.ground.now.app.now c.args.ground.now.lists.now (playing_in c.args.playing.now) c.args.script.now (playing_in c.loop-turn.playing) c.loop-turn.left.left.now c.loop-turn.turn c.loop-turn.invariant.so_far c.alike_states_draw_alike.ensures (omega arith) (omega arith)
