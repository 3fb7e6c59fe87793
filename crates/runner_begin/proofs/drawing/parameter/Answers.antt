use Rattle.std.proofs.Common.{ℕ, ◌++◌, ◌∙◌, List, map, reverse, sym, ap, subst}
use Rattle.std.specs.Borrow.{Bor}
use Rattle.app_machine.specs.Names.{Name}
use Rattle.played_growth.specs.Growth.{classes_of}
use Rattle.runner_begin.specs.Parameters.{classes_in}
use Rattle.runner_begin.proofs.Picked.{number_given, reference_drawn}
use Rattle.runner_begin.proofs.drawing.parameter.Goals as goal
use Rattle.runner_below.specs.Below.{below_among}
use Rattle.runner_below.specs.Kept.{AreBelow}
use Rattle.runner_heap.specs.Objects.{heap_of}
use Rattle.runner_state.specs.Shown.{labels_of, value_of}

pub returns-then-not-is_reference-clause-drawn : goal.returns-then-not-is_reference-clause-drawn
returns-then-not-is_reference-clause-drawn c =
    number_given c.args.index.now.0 c.args.index.now.1 (labels_of c.args.labels) c.args.kind.now (heap_of c.args.world.now.heap) c.args.fresh.now.items (reverse c.args.world.now.handed) c.args.script.left.now (value_of c.labelled.result)
    (sym c.is_reference.ensures ∙ c.if-not-is_reference.true) c.labelled.ensures

pub catch_up-requires-clause-fits : goal.catch_up-requires-clause-fits
catch_up-requires-clause-fits c =
    subst (λ hs. AreBelow c.args.index.now.0 c.args.index.now.1 (classes_of (heap_of c.args.world.now.heap)) hs c.args.belows.now) (sym c.places-handed.ensures.same) c.requires.fits

pub returns-clause-fits : goal.returns-clause-fits
returns-clause-fits c =
    subst (λ hs. AreBelow c.args.index.now.0 c.args.index.now.1 (classes_of (heap_of c.args.world.now.heap)) hs c.catch_up.new.self) c.places-handed.ensures.same c.in_ok-number.ensures.fits

pub returns-clause-drawn : goal.returns-clause-drawn
returns-clause-drawn c =
    c.in_ok-given.ensures (heap_of c.args.world.now.heap) (sym c.next_place.ensures)
    ∙ reference_drawn c.args.index.now.0 c.args.index.now.1 (labels_of c.args.labels) c.args.kind.now (heap_of c.args.world.now.heap) c.args.fresh.now.items (reverse c.args.world.now.handed) c.args.world.now.handed c.places-places.result.now c.args.script.left.now
    (sym c.is_reference.ensures ∙ c.if-not-is_reference.false) (sym c.places-handed.ensures.places ∙ c.places-handed.ensures.same)
    (c.places-places.ensures
    ∙ (c.in_ok-number.ensures.places
    ∙ (ap (λ (cs : List Name). below_among c.args.index.now.0 c.args.index.now.1 (classes_of (heap_of c.args.world.now.heap) ++ cs) c.places-handed.result.now c.args.kind.now) (ap (map (λ (k : Bor Name). k.now)) c.as_slice-classes.ensures.value ∙ (c.in_ok-planned.ensures ∙ ap classes_in c.as_slice.ensures.value))
    ∙ ap (λ (hs : List ℕ). below_among c.args.index.now.0 c.args.index.now.1 (classes_of (heap_of c.args.world.now.heap) ++ classes_in c.args.fresh.now.items) hs c.args.kind.now) c.places-handed.ensures.same)))
