use Rattle.std.proofs.Common.{◌≡◌, ◌++◌, ℕ, Option, map, inl, sym, subst}
use Rattle.std.specs.Prelude.{OnOk}
use Rattle.played_machine.specs.Librarian.{copied}
use Rattle.runner_heap.specs.Objects.{heap_of}
use Rattle.runner_library.proofs.Added.{copied_none}
use Rattle.runner_library.proofs.adding.copy_elements.Goals as goal
use Rattle.runner_library.specs.Over.{added_of}

pub returns-in-None : goal.returns-in-None
returns-in-None c = copied_none (heap_of c.args.heap.now) c.args.from c.args.to c.args.all.now.items (inl c.in-None.is)

pub returns-in-Some : goal.returns-in-Some
returns-in-Some c =
    subst (λ (o : Option ℕ). OnOk c.copy_from.result (map added_of c.copy_from.new.all.items ≡ map added_of c.args.all.now.items ++ copied (heap_of c.args.heap.now) o c.args.to)) (sym c.in-Some.is) c.copy_from.ensures
