use Rattle.std.proofs.Common.{slice_get, sym, ◌∙◌}
use Rattle.played_growth.specs.Growth.{classes_of}
use Rattle.runner_below.proofs.Looked.{is_below, not_below}
use Rattle.runner_given.proofs.others.add_if.Goals as goal
use Rattle.runner_heap.specs.Objects.{heap_of}

pub returns-then-not-is_below : goal.returns-then-not-is_below
returns-then-not-is_below c =
    not_below c.args.index.now.0 c.args.index.now.1 c.args.kind.now (slice_get (classes_of (heap_of c.args.heap.now)) c.args.place) c.args.place c.args.found.now.items (sym c.is_below.ensures ∙ c.if-not-is_below.true)

pub returns : goal.returns
returns c =
    c.in_ok-push.ensures.items
    ∙ is_below c.args.index.now.0 c.args.index.now.1 c.args.kind.now (slice_get (classes_of (heap_of c.args.heap.now)) c.args.place) c.args.place c.args.found.now.items (sym c.is_below.ensures ∙ c.if-not-is_below.false)
