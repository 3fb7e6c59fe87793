use Rattle.std.proofs.Common.{ℕ, List, Option, slice_get, take, sym, subst, ◌∙◌, arith}
use Rattle.std.specs.Prelude.{option_to_list}
use Rattle.app_machine.specs.declared.app.App.{App}
use Rattle.app_machine.specs.declared.lists.Lists.{Lists}
use Rattle.app_machine.specs.Sound.{SoundApp}
use Rattle.played_growth.specs.Growth.{classes_of}
use Rattle.played_machine.specs.Coming.{Event}
use Rattle.runner_handed.proofs.Events.{are_events}
use Rattle.runner_handed.specs.Menu.{HasAll, menu_in}
use Rattle.runner_heap.specs.Objects.{heap_of}
use Rattle.runner_stands.specs.Stands.{MarksMore}
use Rattle.runner_stands.proofs.Marked.{marks_all, marks_next, nothing_yet, take_next}
use Rattle.runner_stands.proofs.bodies.mark_handed.Goals as goal
use Rattle.runner_world.specs.World.{world_in}

pub catch_up-requires-clause-sound : goal.catch_up-requires-clause-sound
catch_up-requires-clause-sound c = subst (λ (e : App × Lists). SoundApp e.0) (sym c.requires.ground.events) c.requires.ground.app

pub catch_up-requires-clause-fits : goal.catch_up-requires-clause-fits
catch_up-requires-clause-fits c = c.in_ok-menu.ensures.fits c.args.ground.now.events.0 c.args.ground.now.events.1 (classes_of (heap_of c.args.world.now.heap)) c.places.result.now c.callback_count.ensures

pub loop-index-init : goal.loop-index-init
loop-index-init c = nothing_yet c.args.ground.now.app.now c.args.marks.now.items

pub mark_found-requires : goal.mark_found-requires
mark_found-requires c = c.loop-index.invariant.long ∙ c.requires.long

pub loop-index-preserved : goal.loop-index-preserved
loop-index-preserved c =
    let menu = menu_in (world_in c.args.world.now) c.args.ground.now.lists.now c.catch_up.new.self in
    marks_next c.args.ground.now.app.now (take c.loop-index.index menu) (option_to_list (slice_get menu c.loop-index.index)) _ c.args.marks.now.items c.loop-index.marks.items c.mark_found.new.marks.items (take_next menu c.loop-index.index)
    (subst (λ (found : Option Event). MarksMore c.args.ground.now.app.now (option_to_list found) c.loop-index.marks.items c.mark_found.new.marks.items) (c.at.ensures (world_in c.args.world.now)) (c.mark_found.ensures (world_in c.args.world.now)))
    c.loop-index.invariant

pub returns : goal.returns
returns c =
    let world = world_in c.args.world.now in
    let all : HasAll c.args.ground.now.events.0 c.args.ground.now.events.1 (classes_of (heap_of c.args.world.now.heap)) c.places.result.now c.catch_up.new.self = c.in_ok-catch_up.ensures.all in
    let ready = subst (λ (e : App × Lists). HasAll e.0 e.1 (classes_of (heap_of c.args.world.now.heap)) c.places.result.now c.catch_up.new.self) c.requires.ground.events all in
    subst (λ (events : List Event). MarksMore c.args.ground.now.app.now events c.args.marks.now.items c.loop-index.marks.items)
    (are_events c.args.ground.now.app.now c.args.ground.now.lists.now world c.catch_up.new.self
    (subst (λ (places : List ℕ). HasAll c.args.ground.now.app.now c.args.ground.now.lists.now (classes_of (heap_of c.args.world.now.heap)) places c.catch_up.new.self) c.places.ensures.places ready))
    (marks_all c.args.ground.now.app.now (menu_in world c.args.ground.now.lists.now c.catch_up.new.self) c.loop-index.index c.args.marks.now.items c.loop-index.marks.items (omega (arith, c.in_ok-count.ensures world c.args.ground.now.lists.now)) c.loop-index.invariant)
