use Rattle.std.proofs.Common.{◌≡◌, ◌++◌, List, map, reverse, refl, ap, ◌∙◌}
use Rattle.app_machine.specs.Heap.{Value, add_all}
use Rattle.app_machine.specs.Lookups.{is_static_call}
use Rattle.played_machine.specs.Reading.{handed_places}
use Rattle.runner_heap.specs.Objects.{heap_of}
use Rattle.runner_library.proofs.Finished.{few_result, finished, same_result}
use Rattle.runner_library.proofs.calling.call.Goals as goal
use Rattle.runner_library.specs.declared.giving.Known.{Known}
use Rattle.runner_library.specs.Call.{row_in, values_in}
use Rattle.runner_library.specs.Over.{added_of, hand_each, puts_by, result_by, stores_by}
use Rattle.runner_library.specs.Whole.{arrivals_for}
use Rattle.runner_state.specs.Shown.{held_at, register_in, value_of}
use Rattle.runner_world.specs.Shown.{arrival_of}
use Rattle.runner_world.specs.World.{world_in}

pub result-requires : goal.result-requires
result-requires c = record {
  sound = c.requires.sound;
  few = few_result (row_in c.args.call) c.requires.few c.result_of-gives.result (c.result_of-gives.ensures c.args.call.at.now (is_static_call c.args.call.kind));
}

pub returns : goal.returns
returns c =
    let vs : List Value = values_in c.args.call (register_in c.args.frame.now.registers) in
    let known : Known = record { read = c.args.read; labels = c.in_ok-before.before.labels } in
    let same : map value_of c.as_slice-values.result.now ≡ vs = ap (map value_of) c.as_slice-values.ensures.value ∙ c.in_ok-before.ensures.values in
    finished c.args.app.now c.args.lists.now (world_in c.args.world.now) vs c.args.frame.now.method c.args.frame.now.pc c.args.call.at.now.proto.ret (row_in c.args.call) (value_of c.args.read)
    (record (world_in c.args.world.now) { heap = heap_of c.add_all.new.heap; statics = held_at c.make_for.new.statics; handed = reverse c.hand_all.new.handed; arrivals = map arrival_of c.arrive_for.new.arrivals.items })
    (value_of c.in_ok-held.held) (heap_of c.result.new.heap) (heap_of c.make_for.new.heap, held_at c.make_for.new.statics) c.in_ok-make_for.ensures refl
    (c.in_ok-held.ensures
    ∙ (ap (λ (xs : List Value). result_by c.args.app.now xs c.args.call.at.now.proto.ret (held_at c.make_for.new.statics) (heap_of c.make_for.new.heap) known c.result_of-gives.result) same
    ∙ same_result c.args.app.now (heap_of c.args.world.now.heap) vs (row_in c.args.call).source c.args.call.at.now.proto.ret (held_at c.make_for.new.statics) (heap_of c.make_for.new.heap) known (row_in c.args.call).gives c.result_of-gives.result
    (c.result_of-gives.ensures c.args.call.at.now (is_static_call c.args.call.kind)) c.in_ok-before.ensures.labels))
    (c.in_ok-add_all.ensures
    ∙ (ap (λ (xs : List Value). add_all (heap_of c.result.new.heap) (puts_by xs (row_in c.args.call).puts ++ stores_by c.args.app.now xs (held_at c.make_for.new.statics) (row_in c.args.call).stores ++ map added_of c.in_ok-before.before.copies.items)) c.in_ok-before.ensures.values
    ∙ ap (λ xs. add_all (heap_of c.result.new.heap) (puts_by vs (row_in c.args.call).puts ++ stores_by c.args.app.now vs (held_at c.make_for.new.statics) (row_in c.args.call).stores ++ xs)) c.in_ok-before.ensures.copies))
    (c.in_ok-hand_all.ensures ∙ ap (λ (xs : List Value). handed_places (hand_each xs (reverse c.args.world.now.handed))) same)
    (c.in_ok-arrive_for.ensures ∙ ap (λ (xs : List Value). map arrival_of c.args.world.now.arrivals.items ++ arrivals_for (heap_of c.args.world.now.heap) xs c.args.frame.now.method c.args.frame.now.pc (row_in c.args.call).sink) same)
    refl
