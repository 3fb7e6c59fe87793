use Rattle.std.proofs.Common.{◌≡◌, ◌∙◌, List, map, sym, ap, subst}
use Rattle.std.specs.Prelude.{option_map}
use Rattle.app_machine.specs.declared.app.App.{App}
use Rattle.app_machine.specs.declared.lists.Lists.{Lists}
use Rattle.app_machine.specs.Heap.{Value}
use Rattle.app_machine.specs.Sound.{SoundApp}
use Rattle.played_growth.specs.Growth.{classes_of}
use Rattle.runner_below.specs.Kept.{AreBelow}
use Rattle.runner_heap.specs.Objects.{heap_of}
use Rattle.runner_heap.specs.Shown.{value_behind}
use Rattle.runner_library.specs.Call.{row_in}
use Rattle.runner_library.specs.Whole.{read_for}
use Rattle.runner_state.specs.Shown.{value_of}
use Rattle.runner_turns.proofs.calling.given_in.Goals as goal
use Rattle.runner_world.specs.World.{world_in}

pub given-requires-clause-app : goal.given-requires-clause-app
given-requires-clause-app c = subst (λ (e : App × Lists). SoundApp e.0) (sym c.requires.ground.events) c.requires.ground.app

pub given-requires-clause-fits : goal.given-requires-clause-fits
given-requires-clause-fits c = subst (λ (e : App × Lists). AreBelow e.0 e.1 (classes_of (heap_of c.args.world.now.heap)) c.args.world.now.handed c.args.belows.now) (sym c.requires.ground.events) c.requires.fits

pub returns-clause-given : goal.returns-clause-given
returns-clause-given c =
    subst (λ (e : App × Lists). option_map value_behind c.in_ok-drawn.drawn ≡ read_for e.0 e.1 (world_in c.args.world.now) (map value_of c.as_slice-slice.result.now) c.args.of.at.now.proto.ret (row_in c.args.of).gives c.args.script.left.now) c.requires.ground.events c.in_ok-drawn.ensures.given
    ∙ ap (λ (vs : List Value). read_for c.args.ground.now.app.now c.args.ground.now.lists.now (world_in c.args.world.now) vs c.args.of.at.now.proto.ret (row_in c.args.of).gives c.args.script.left.now) (ap (map value_of) c.as_slice-slice.ensures.value ∙ c.in_ok-values.ensures)

pub returns-clause-fits : goal.returns-clause-fits
returns-clause-fits c = subst (λ (e : App × Lists). AreBelow e.0 e.1 (classes_of (heap_of c.args.world.now.heap)) c.args.world.now.handed c.given.new.belows) c.requires.ground.events c.in_ok-drawn.ensures.fits
