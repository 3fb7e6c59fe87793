use Rattle.std.proofs.Common.{◌++◌, map, sym, ap, ◌∙◌}
use Rattle.std.proofs.lemmas.List.{append-nil}
use Rattle.app_machine.specs.Lookups.{is_static_call}
use Rattle.runner_heap.specs.Objects.{heap_of}
use Rattle.runner_library.proofs.calling.arrive_for.Goals as goal
use Rattle.runner_library.specs.Over.{arrivals_by}
use Rattle.runner_library.specs.Whole.{arrivals_for}
use Rattle.runner_state.specs.Shown.{value_of}
use Rattle.runner_world.specs.Shown.{arrival_of}

pub returns-in-None : goal.returns-in-None
returns-in-None c =
    sym (append-nil (map arrival_of c.args.arrivals.now.items))
    ∙ ap (λ o. map arrival_of c.args.arrivals.now.items ++ arrivals_for (heap_of c.args.heap.now) (map value_of c.args.values.now) c.args.frame.now.method c.args.frame.now.pc o) (c.in-None.ensures c.args.call.at.now (is_static_call c.args.call.kind))

pub returns-in_ok-arrive-in-Some : goal.returns-in_ok-arrive-in-Some
returns-in_ok-arrive-in-Some c =
    c.in_ok-arrive-in-Some.ensures
    ∙ (ap (λ ps. map arrival_of c.args.arrivals.now.items ++ arrivals_by (heap_of c.args.heap.now) (map value_of c.args.values.now) (record { category = c.in-Some.to.now.0; method = c.args.frame.now.method; pc = c.args.frame.now.pc }) ps) c.as_slice.ensures
    ∙ ap (λ o. map arrival_of c.args.arrivals.now.items ++ arrivals_for (heap_of c.args.heap.now) (map value_of c.args.values.now) c.args.frame.now.method c.args.frame.now.pc o) (c.in-Some.ensures c.args.call.at.now (is_static_call c.args.call.kind)))
