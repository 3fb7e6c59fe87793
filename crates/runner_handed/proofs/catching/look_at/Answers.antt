use Rattle.std.proofs.Common.{sym, ◌∙◌}
use Rattle.played_growth.specs.Growth.{classes_of}
use Rattle.played_growth.proofs.Growing.{class_is}
use Rattle.runner_handed.proofs.Events.{class_within}
use Rattle.runner_handed.proofs.Rows.{looked_at, none_looked_at}
use Rattle.runner_handed.proofs.catching.look_at.Goals as goal
use Rattle.runner_heap.specs.Objects.{heap_of}

pub returns-in-None : goal.returns-in-None
returns-in-None c =
    none_looked_at c.args.index.now.0 c.args.index.now.1 (classes_of (heap_of c.args.heap.now)) c.args.place c.args.rows.now.items (sym (class_is (heap_of c.args.heap.now) c.args.place) ∙ sym c.in-None.ensures)

pub returns-in_ok-add_each-in-Some : goal.returns-in_ok-add_each-in-Some
returns-in_ok-add_each-in-Some c =
    looked_at c.args.index.now.0 c.args.index.now.1 (classes_of (heap_of c.args.heap.now)) c.args.place c.args.rows.now.items c.add_each.new.rows.items c.in-Some.class.now c.as_slice.result.now c.requires.long
    (sym (class_is (heap_of c.args.heap.now) c.args.place) ∙ sym c.in-Some.ensures) (class_within (heap_of c.args.heap.now) c.args.place c.in-Some.class.now (sym c.in-Some.ensures))
    (c.as_slice.ensures.value ∙ c.in_ok-comings-in-Some.ensures) c.in_ok-add_each-in-Some.ensures
