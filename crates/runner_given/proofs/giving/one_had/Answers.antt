use Rattle.std.proofs.Common.{◌≡◌, ◌∙◌, ℕ, List, Option, map, reverse, sym, subst}
use Rattle.std.specs.Prelude.{IfOk, option_map}
use Rattle.app_machine.specs.Heap.{Value}
use Rattle.runner_given.proofs.Had.{of_number, of_reference}
use Rattle.runner_given.proofs.giving.one_had.Goals as goal
use Rattle.runner_heap.specs.Shown.{value_behind}
use Rattle.runner_library.specs.Over.{hand_each}
use Rattle.runner_state.specs.Shown.{value_of}
use Rattle.runner_world.specs.World.{world_in}

pub returns-then-is_reference-clause-given : goal.returns-then-is_reference-clause-given
returns-then-is_reference-clause-given c =
    subst (λ (drawn : Option (Value × List ℕ)). IfOk c.one_below.result (λ given. option_map value_behind given ≡ drawn))
    (of_reference c.args.index.now.0 c.args.index.now.1 (world_in c.args.world.now) (hand_each (map value_of c.args.values.now) (reverse c.args.world.now.handed)) c.args.kind.now c.args.script.left.now (sym c.is_reference.ensures ∙ c.if-is_reference.true))
    c.one_below.ensures.given

pub returns-else-is_reference-clause-given : goal.returns-else-is_reference-clause-given
returns-else-is_reference-clause-given c =
    c.one_of_places.ensures
    ∙ of_number c.args.index.now.0 c.args.index.now.1 (world_in c.args.world.now) (hand_each (map value_of c.args.values.now) (reverse c.args.world.now.handed)) c.args.kind.now c.args.script.left.now (sym c.is_reference.ensures ∙ c.if-is_reference.false)
