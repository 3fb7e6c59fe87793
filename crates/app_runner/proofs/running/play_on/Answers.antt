use Rattle.std.proofs.Common.{map, sym, ap, subst, ◌∙◌}
use Rattle.std.specs.declared.alloc.Global.{Global}
use Rattle.std.specs.declared.vec.Vec.{Vec}
use Rattle.app_runner.specs.Known.{Serves}
use Rattle.app_runner.specs.Told.{RunsTo}
use Rattle.app_runner.proofs.running.play_on.Goals as goal
use Rattle.played_machine.specs.Local as local
use Rattle.runner_steps.specs.State.{playing_in}
use Rattle.runner_world.specs.declared.arrival.Arrival.{Arrival}
use Rattle.runner_world.specs.Shown.{arrival_of}

pub run-requires-clause-known : goal.run-requires-clause-known
run-requires-clause-known c = subst (λ (s : local.Playing). Serves c.args.ground.now s.world c.in_ok-known.known) (sym c.new-playing.ensures) c.in_ok-known.ensures

pub returns : goal.returns
returns c =
    let told = subst (λ (s : local.Playing). RunsTo c.args.ground.now.app.now c.args.ground.now.lists.now s c.args.script.now c.in_ok-steps.steps (playing_in c.run.new.playing)) c.new-playing.ensures c.in_ok-steps.ensures in
    record {
      steps = sym told.steps_made;
      arrivals = ap (λ (v : Vec Arrival Global). map arrival_of v.items) c.arrivals_of.ensures ∙ sym told.arrived;
      stands = c.in_ok-stands.ensures ∙ sym told.stands_here;
    }
