use Rattle.std.proofs.Common.{sym, ◌∙◌}
use Rattle.app_machine.specs.Library.{joined_object}
use Rattle.runner_heap.specs.Objects.{heap_of}
use Rattle.runner_heap.specs.Shown.{object_of}
use Rattle.runner_library.proofs.Given.{joined_is, object_is, one_element, plain_is}
use Rattle.runner_library.proofs.giving.join.Goals as goal
use Rattle.runner_state.specs.Shown.{labels_of, value_of}

pub returns-then-not-is_reference : goal.returns-then-not-is_reference
returns-then-not-is_reference c = plain_is c.args.ret.now (heap_of c.args.heap.now) (labels_of c.args.labels) (value_of c.labelled.result) (sym c.is_reference.ensures ∙ c.if-not-is_reference.true) c.labelled.ensures

pub returns : goal.returns
returns c =
    joined_is c.args.ret.now (heap_of c.args.heap.now) (labels_of c.args.labels) (heap_of c.add.new.self) (object_of c.new.result) c.in_ok-place.place (sym c.is_reference.ensures ∙ c.if-not-is_reference.false) c.in_ok-place.ensures.place c.in_ok-place.ensures.ok
    (object_is (object_of c.new.result) c.args.ret.now c.push.new.self.items (joined_object c.args.ret.now (labels_of c.args.labels)).entries c.new.ensures.class c.new.ensures.entries
    (one_element c.push.new.self.items c.new-elements.result.items c.labelled-2.result (labels_of c.args.labels) c.in_ok-push.ensures.items c.new-elements.ensures.items c.labelled-2.ensures))
