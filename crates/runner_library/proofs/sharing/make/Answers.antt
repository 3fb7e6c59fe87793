use Rattle.std.proofs.Common.{sym, ap, ◌∙◌}
use Rattle.std.specs.Option.{option_copied}
use Rattle.played_machine.specs.Librarian.{made_shared}
use Rattle.runner_heap.specs.Objects.{heap_of}
use Rattle.runner_heap.specs.Shown.{object_of}
use Rattle.runner_library.proofs.Given.{fresh_is}
use Rattle.runner_library.proofs.Made.{made_one}
use Rattle.runner_library.proofs.sharing.make.Goals as goal
use Rattle.runner_state.specs.Shown.{held_at, value_of}

pub returns-in_ok-set-in-Some : goal.returns-in_ok-set-in-Some
returns-in_ok-set-in-Some c =
    made_one c.in-Some.class.now c.args.place (heap_of c.args.heap.now) (heap_of c.add.new.self) (held_at c.args.statics.now) (held_at c.set.new.self) (value_of c.object_at.result) c.in_ok-made-in-Some.made (object_of c.new-in-Some.result)
    c.in_ok-made-in-Some.ensures.place c.in_ok-made-in-Some.ensures.ok (fresh_is (object_of c.new-in-Some.result) c.in-Some.class.now c.new.result.items c.new-in-Some.ensures.class c.new-in-Some.ensures.entries c.new.ensures.items) c.object_at.ensures c.in_ok-set-in-Some.ensures.ok
    ∙ ap (λ o. made_shared (option_copied o) c.args.place (heap_of c.args.heap.now) (held_at c.args.statics.now)) (sym c.in-Some.is)
