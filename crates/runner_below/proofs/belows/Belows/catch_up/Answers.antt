use Rattle.std.proofs.Common.{◌≡◌, ◌++◌, ◌∙◌, Some, length, map, slice_get, refl, ap}
use Rattle.std.proofs.lemmas.Option.{slice_get_read}
use Rattle.played_growth.specs.Growth.{classes_of}
use Rattle.runner_below.specs.Below.{below_among}
use Rattle.runner_below.proofs.Numbered.{kept_at, kind_at, number_within, places_set, set_kept}
use Rattle.runner_below.proofs.belows.Belows.catch_up.Goals as goal
use Rattle.runner_heap.specs.Objects.{heap_of}

pub catch_up-requires-clause-fits : goal.catch_up-requires-clause-fits
catch_up-requires-clause-fits c =
    kept_at c.args.index.now.0 c.args.index.now.1 (classes_of (heap_of c.args.heap.now)) c.args.handed.now c.number.new.self.all.items c.in_ok-number.number c.index_mut-below.result.now
    (c.number.ensures.fits c.args.index.now.0 c.args.index.now.1 (classes_of (heap_of c.args.heap.now)) c.args.handed.now c.requires.fits)
    (slice_get_read c.number.new.self.all.items (length c.number.new.self.all.items) c.in_ok-number.number c.index_mut-below.result.now refl (number_within c.number.new.self c.args.kind.now c.in_ok-number.number c.in_ok-number.ensures.kind) c.index_mut-below.ensures.value)

pub returns-clause-fits : goal.returns-clause-fits
returns-clause-fits c =
    set_kept c.args.index.now.0 c.args.index.now.1 (classes_of (heap_of c.args.heap.now)) c.args.handed.now c.number.new.self.all.items c.in_ok-number.number c.catch_up.new.self c.in_ok-catch_up.ensures.fits
    (c.number.ensures.fits c.args.index.now.0 c.args.index.now.1 (classes_of (heap_of c.args.heap.now)) c.args.handed.now c.requires.fits)

pub returns-clause-places : goal.returns-clause-places
returns-clause-places c =
    let within = number_within c.number.new.self c.args.kind.now c.in_ok-number.number c.in_ok-number.ensures.kind in
    let there : slice_get c.number.new.self.all.items c.in_ok-number.number ≡ Some c.index_mut-below.result.now =
    slice_get_read c.number.new.self.all.items (length c.number.new.self.all.items) c.in_ok-number.number c.index_mut-below.result.now refl within c.index_mut-below.ensures.value in
    places_set c.number.new.self.all.items c.in_ok-number.number c.catch_up.new.self within
    ∙ (c.in_ok-catch_up.ensures.places
    ∙ ap (below_among c.args.index.now.0 c.args.index.now.1 (classes_of (heap_of c.args.heap.now) ++ map (λ k. k.now) c.args.fresh.now) c.args.handed.now)
    (kind_at c.number.new.self c.args.kind.now c.in_ok-number.number c.index_mut-below.result.now c.in_ok-number.ensures.kind there))
