use Rattle.std.proofs.Common.{ap, sym, ◌∙◌}
use Rattle.std.specs.Option.{option_copied}
use Rattle.app_machine.specs.Heap.{Value}
use Rattle.played_machine.specs.Librarian.{made_shared}
use Rattle.runner_heap.specs.Objects.{heap_of}
use Rattle.runner_library.proofs.Made.{is_made, is_there}
use Rattle.runner_library.proofs.sharing.make_shared.Goals as goal
use Rattle.runner_state.specs.Shown.{held_at}

pub returns-in-Some : goal.returns-in-Some
returns-in-Some c =
    is_there c.args.app.now c.args.lists.now c.args.number (heap_of c.args.heap.now) (held_at c.args.statics.now) c.in-Some._there
    (ap (λ n. (held_at c.args.statics.now n).place) (sym c.shared_static-place.ensures) ∙ (ap (λ (v : Value). v.place) (sym c.get.ensures) ∙ c.in-Some.is))

pub returns-in_ok-make-in-None : goal.returns-in_ok-make-in-None
returns-in_ok-make-in-None c =
    is_made c.args.app.now c.args.lists.now c.args.number (heap_of c.args.heap.now) (held_at c.args.statics.now) (heap_of c.make.new.heap, held_at c.make.new.statics) (option_copied c.class_of.result)
    (ap (λ n. (held_at c.args.statics.now n).place) (sym c.shared_static-place.ensures) ∙ (ap (λ (v : Value). v.place) (sym c.get.ensures) ∙ c.in-None.is)) c.class_of.ensures
    (c.in_ok-make-in-None.ensures ∙ ap (λ g. made_shared (option_copied c.class_of.result) g (heap_of c.args.heap.now) (held_at c.args.statics.now)) c.shared_static-place.ensures)
