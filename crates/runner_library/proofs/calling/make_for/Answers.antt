use Rattle.std.proofs.Common.{ℕ, ◌<◌, List, map, refl, sym, ap, inl, subst, ◌∙◌}
use Rattle.std.specs.List.{All}
use Rattle.vet_base.specs.Members.{In}
use Rattle.vet_base.proofs.Members.{all_in}
use Rattle.app_machine.specs.Lookups.{is_static_call}
use Rattle.played_machine.specs.Librarian.{with_shared}
use Rattle.runner_heap.specs.Objects.{heap_of}
use Rattle.runner_library.proofs.Finished.{few_result, few_stores, not_shared, of_other, of_shared, of_void}
use Rattle.runner_library.proofs.calling.make_for.Goals as goal
use Rattle.runner_library.specs.Call.{row_in}
use Rattle.runner_library.specs.Over.{shared_number, shared_of}
use Rattle.runner_state.specs.Shown.{held_at}

pub make_named-requires : goal.make_named-requires
make_named-requires c = record {
  sound = c.requires.sound;
  few = subst (All (λ (s : ℕ × ℕ). s.1 < 65536)) (sym (c.stores.ensures c.args.call.at.now (is_static_call c.args.call.kind))) (few_stores (row_in c.args.call) c.requires.few);
}

pub make_shared-requires : goal.make_shared-requires
make_shared-requires c = record {
  sound = c.requires.sound;
  few = all_in (λ i. i < 65536) (shared_of c.result_of-gives.result) c.in-Shared.number (few_result (row_in c.args.call) c.requires.few c.result_of-gives.result (c.result_of-gives.ensures c.args.call.at.now (is_static_call c.args.call.kind)))
      (subst (λ k. In c.in-Shared.number (shared_of k)) (sym c.in-Shared.is) (inl refl));
}

pub returns-then-is_void : goal.returns-then-is_void
returns-then-is_void c =
    of_void (row_in c.args.call) c.args.call.at.now.proto.ret c.args.app.now c.args.lists.now (heap_of c.args.heap.now) (held_at c.args.statics.now) (heap_of c.make_named.new.heap, held_at c.make_named.new.statics)
    (c.in_ok-make_named.ensures ∙ ap (λ (ss : List (ℕ × ℕ)). with_shared c.args.app.now c.args.lists.now (map shared_number ss) (heap_of c.args.heap.now) (held_at c.args.statics.now)) (c.stores.ensures c.args.call.at.now (is_static_call c.args.call.kind)))
    (sym c.is_void.ensures ∙ c.if-is_void.true)

pub returns-in_ok-make_shared-in-Shared : goal.returns-in_ok-make_shared-in-Shared
returns-in_ok-make_shared-in-Shared c =
    of_shared (row_in c.args.call) c.args.call.at.now.proto.ret c.args.app.now c.args.lists.now (heap_of c.args.heap.now) (held_at c.args.statics.now) (heap_of c.make_named.new.heap, held_at c.make_named.new.statics)
    (c.in_ok-make_named.ensures ∙ ap (λ (ss : List (ℕ × ℕ)). with_shared c.args.app.now c.args.lists.now (map shared_number ss) (heap_of c.args.heap.now) (held_at c.args.statics.now)) (c.stores.ensures c.args.call.at.now (is_static_call c.args.call.kind)))
    c.result_of-gives.result c.in-Shared.number (heap_of c.make_shared.new.heap, held_at c.make_shared.new.statics) (c.result_of-gives.ensures c.args.call.at.now (is_static_call c.args.call.kind)) (sym c.is_void.ensures ∙ c.if-is_void.false) c.in-Shared.is c.in_ok-make_shared-in-Shared.ensures

pub returns-in_default : goal.returns-in_default
returns-in_default c =
    of_other (row_in c.args.call) c.args.call.at.now.proto.ret c.args.app.now c.args.lists.now (heap_of c.args.heap.now) (held_at c.args.statics.now) (heap_of c.make_named.new.heap, held_at c.make_named.new.statics)
    (c.in_ok-make_named.ensures ∙ ap (λ (ss : List (ℕ × ℕ)). with_shared c.args.app.now c.args.lists.now (map shared_number ss) (heap_of c.args.heap.now) (held_at c.args.statics.now)) (c.stores.ensures c.args.call.at.now (is_static_call c.args.call.kind)))
    c.result_of-gives.result (c.result_of-gives.ensures c.args.call.at.now (is_static_call c.args.call.kind)) (sym c.is_void.ensures ∙ c.if-is_void.false) (not_shared c.result_of-gives.result c.in_default.not-Shared)
