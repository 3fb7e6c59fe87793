use Rattle.std.proofs.Common.{◌≡◌, ℕ, List, Option, map, refl, sym, subst, ◌∙◌}
use Rattle.std.specs.Prelude.{IfOk, option_map}
use Rattle.app_machine.specs.Heap.{Value}
use Rattle.app_machine.specs.Lookups.{is_static_call}
use Rattle.app_parts.specs.declared.summary_view.CallResult.TheVariants as kind
use Rattle.runner_given.proofs.Read.{of_kind, of_other, of_void}
use Rattle.runner_given.proofs.giving.given.Goals as goal
use Rattle.runner_heap.specs.Shown.{value_behind}
use Rattle.runner_library.specs.Call.{row_in}
use Rattle.runner_state.specs.Shown.{value_of}
use Rattle.runner_world.specs.World.{world_in}

pub returns-then-is_void-clause-given : goal.returns-then-is_void-clause-given
returns-then-is_void-clause-given c =
    of_void c.args.index.now.0 c.args.index.now.1 (world_in c.args.world.now) (map value_of c.args.values.now) c.args.call.at.now.proto.ret c.args.script.left.now (row_in c.args.call).gives (value_of c.blank.result) (sym c.is_void.ensures ∙ c.if-is_void.true) c.blank.ensures

pub returns-in-Taken-clause-given : goal.returns-in-Taken-clause-given
returns-in-Taken-clause-given c =
    of_kind c.args.index.now.0 c.args.index.now.1 (world_in c.args.world.now) (map value_of c.args.values.now) c.args.call.at.now.proto.ret c.args.script.left.now (row_in c.args.call).gives c.result_of.result (kind.Taken c.in-Taken.position)
    (option_map value_behind c.taken.result) (sym c.is_void.ensures ∙ c.if-is_void.false) (c.result_of.ensures c.args.call.at.now (is_static_call c.args.call.kind)) c.in-Taken.is c.taken.ensures

pub returns-in-Handed-clause-given : goal.returns-in-Handed-clause-given
returns-in-Handed-clause-given c =
    subst (λ (drawn : Option (Value × List ℕ)). IfOk c.one_had.result (λ given. option_map value_behind given ≡ drawn))
    (of_kind c.args.index.now.0 c.args.index.now.1 (world_in c.args.world.now) (map value_of c.args.values.now) c.args.call.at.now.proto.ret c.args.script.left.now (row_in c.args.call).gives c.result_of.result kind.Handed _
    (sym c.is_void.ensures ∙ c.if-is_void.false) (c.result_of.ensures c.args.call.at.now (is_static_call c.args.call.kind)) c.in-Handed.is refl)
    c.one_had.ensures.given

pub returns-in_default-clause-given : goal.returns-in_default-clause-given
returns-in_default-clause-given c =
    of_kind c.args.index.now.0 c.args.index.now.1 (world_in c.args.world.now) (map value_of c.args.values.now) c.args.call.at.now.proto.ret c.args.script.left.now (row_in c.args.call).gives c.result_of.result c.result_of.result _
    (sym c.is_void.ensures ∙ c.if-is_void.false) (c.result_of.ensures c.args.call.at.now (is_static_call c.args.call.kind)) refl
    (of_other c.args.index.now.0 c.args.index.now.1 (world_in c.args.world.now) (map value_of c.args.values.now) c.args.call.at.now.proto.ret c.args.script.left.now c.result_of.result (value_of c.blank-in_default.result) c.in_default.not-Taken c.in_default.not-Handed c.blank-in_default.ensures)
