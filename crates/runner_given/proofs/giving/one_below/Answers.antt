use Rattle.std.proofs.Common.{◌++◌, ◌∷◌, ◌∙◌, [], map, reverse, sym, ap, subst}
use Rattle.app_machine.specs.declared.app.App.{App}
use Rattle.app_machine.specs.Heap.{blank}
use Rattle.app_machine.specs.Sound.{SoundApp}
use Rattle.played_growth.specs.Growth.{classes_of}
use Rattle.played_machine.specs.Drawing.{one_of}
use Rattle.played_machine.specs.Librarian.{live_places}
use Rattle.played_machine.specs.Reading.{handed_places}
use Rattle.runner_below.specs.Below.{below_among}
use Rattle.runner_below.specs.Kept.{AreBelow}
use Rattle.runner_given.specs.Given.{object_there}
use Rattle.runner_given.proofs.Had.{had_is, with_none}
use Rattle.runner_given.proofs.giving.one_below.Goals as goal
use Rattle.runner_heap.specs.Objects.{heap_of}
use Rattle.runner_library.specs.Over.{hand_each}
use Rattle.runner_state.specs.Shown.{value_of}
use Rattle.runner_world.specs.World.{world_in}

pub others_there-requires : goal.others_there-requires
others_there-requires c = subst SoundApp (sym c.app.ensures) c.requires.app

pub catch_up-requires-clause-fits : goal.catch_up-requires-clause-fits
catch_up-requires-clause-fits c =
    subst (λ hs. AreBelow c.args.index.now.0 c.args.index.now.1 (classes_of (heap_of c.args.world.now.heap)) hs c.args.belows.now) (sym c.places-handed.ensures.same) c.requires.fits

pub returns-clause-fits : goal.returns-clause-fits
returns-clause-fits c =
    subst (λ hs. AreBelow c.args.index.now.0 c.args.index.now.1 (classes_of (heap_of c.args.world.now.heap)) hs c.catch_up.new.self) c.places-handed.ensures.same c.in_ok-number.ensures.fits

pub returns-clause-given : goal.returns-clause-given
returns-clause-given c =
    c.one_of_places.ensures
    ∙ ap (λ ps. one_of (blank ∷ map object_there ps) c.args.script.left.now)
    (had_is c.args.index.now.0 c.args.index.now.1 (world_in c.args.world.now) (hand_each (map value_of c.args.values.now) (reverse c.args.world.now.handed)) c.args.kind.now c.args.world.now.handed c.places-first.result.now c.in_ok-others.others.items c.as_slice.result.now
    (c.in_ok-others.ensures ∙ ap (λ (a : App). handed_places (hand_each (map value_of c.args.values.now) (reverse c.args.world.now.handed)) ++ live_places a (world_in c.args.world.now)) c.app.ensures)
    (c.places-first.ensures
    ∙ (c.in_ok-number.ensures.places
    ∙ (ap (λ hs. below_among c.args.index.now.0 c.args.index.now.1 (classes_of (heap_of c.args.world.now.heap) ++ []) hs c.args.kind.now) c.places-handed.ensures.same
    ∙ with_none c.args.index.now.0 c.args.index.now.1 c.args.kind.now (classes_of (heap_of c.args.world.now.heap)) c.args.world.now.handed)))
    (c.as_slice.ensures.value ∙ (c.in_ok-behind.ensures ∙ ap (λ ps. below_among c.args.index.now.0 c.args.index.now.1 (classes_of (heap_of c.args.world.now.heap)) ps c.args.kind.now) c.as_slice-there.ensures.value)))
