use Rattle.std.proofs.Common.{map, refl, sym, ap, ◌∙◌}
use Rattle.app_parts.specs.declared.summary_view.CallResult.TheVariants as kind
use Rattle.runner_heap.specs.Objects.{heap_of}
use Rattle.runner_library.proofs.Given.{of_kind, of_void, same_value}
use Rattle.runner_library.proofs.giving.result.Goals as goal
use Rattle.runner_state.specs.Shown.{held_at, value_of}

pub returns-then-is_void : goal.returns-then-is_void
returns-then-is_void c = of_void c.args.app.now (map value_of c.args.values.now) c.args.ret.now (held_at c.args.statics.now) (heap_of c.args.heap.now) c.args.known (value_of c.blank.result) c.args.gives (sym c.is_void.ensures ∙ c.if-is_void.true) c.blank.ensures

pub returns-in-Blank : goal.returns-in-Blank
returns-in-Blank c =
    of_kind c.args.app.now (map value_of c.args.values.now) c.args.ret.now (held_at c.args.statics.now) (heap_of c.args.heap.now) c.args.known (heap_of c.args.heap.now, value_of c.blank-in-Blank.result) c.args.gives kind.Blank (sym c.is_void.ensures ∙ c.if-is_void.false) c.in-Blank.is
    (same_value (heap_of c.args.heap.now) c.blank-in-Blank.ensures)

pub returns-in-Same : goal.returns-in-Same
returns-in-Same c =
    of_kind c.args.app.now (map value_of c.args.values.now) c.args.ret.now (held_at c.args.statics.now) (heap_of c.args.heap.now) c.args.known (heap_of c.args.heap.now, value_of c.value_at.result) c.args.gives (kind.Same c.in-Same.position) (sym c.is_void.ensures ∙ c.if-is_void.false) c.in-Same.is
    (same_value (heap_of c.args.heap.now) c.value_at.ensures)

pub returns-in_ok-held-in-Joined : goal.returns-in_ok-held-in-Joined
returns-in_ok-held-in-Joined c =
    of_kind c.args.app.now (map value_of c.args.values.now) c.args.ret.now (held_at c.args.statics.now) (heap_of c.args.heap.now) c.args.known (heap_of c.join.new.heap, value_of c.in_ok-held-in-Joined.held) c.args.gives kind.Joined (sym c.is_void.ensures ∙ c.if-is_void.false) c.in-Joined.is
    c.in_ok-held-in-Joined.ensures

pub returns-in-Shared : goal.returns-in-Shared
returns-in-Shared c =
    of_kind c.args.app.now (map value_of c.args.values.now) c.args.ret.now (held_at c.args.statics.now) (heap_of c.args.heap.now) c.args.known (heap_of c.args.heap.now, value_of c.get.result) c.args.gives (kind.Shared c.in-Shared.number) (sym c.is_void.ensures ∙ c.if-is_void.false) c.in-Shared.is
    (same_value (heap_of c.args.heap.now) (c.get.ensures ∙ ap (held_at c.args.statics.now) c.shared_static.ensures))

pub returns-in-Taken : goal.returns-in-Taken
returns-in-Taken c =
    of_kind c.args.app.now (map value_of c.args.values.now) c.args.ret.now (held_at c.args.statics.now) (heap_of c.args.heap.now) c.args.known (heap_of c.args.heap.now, value_of c.args.known.read) c.args.gives (kind.Taken c.in-Taken.field-0) (sym c.is_void.ensures ∙ c.if-is_void.false) c.in-Taken.is refl

pub returns-in-Handed : goal.returns-in-Handed
returns-in-Handed c =
    of_kind c.args.app.now (map value_of c.args.values.now) c.args.ret.now (held_at c.args.statics.now) (heap_of c.args.heap.now) c.args.known (heap_of c.args.heap.now, value_of c.args.known.read) c.args.gives kind.Handed (sym c.is_void.ensures ∙ c.if-is_void.false) c.in-Handed.is refl
