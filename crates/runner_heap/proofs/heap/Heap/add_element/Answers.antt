use Rattle.std.proofs.Common.{length, refl, arith}
use Rattle.std.proofs.lemmas.Option.{slice_get_read}
use Rattle.app_machine.specs.Lookups.{elem_key}
use Rattle.runner_heap.proofs.Places.{put_there, put_past, kept_there}
use Rattle.runner_heap.proofs.heap.Heap.add_element.Goals as goal
use Rattle.runner_state.proofs.Writing.{on_err}
use Rattle.runner_state.specs.Shown.{value_of}

pub returns-clause-ok : goal.returns-clause-ok
returns-clause-ok c =
    put_there c.args.self.now.objects.items c.args.place c.index_mut-entity.result.now c.add_element.new.self elem_key (value_of c.args.value)
    (slice_get_read c.args.self.now.objects.items (length c.args.self.now.objects.items) c.args.place c.index_mut-entity.result.now refl (omega arith) c.index_mut-entity.ensures.value) c.in_ok-add_element.ensures.ok

pub returns-in_err-add_element-clause-err : goal.returns-in_err-add_element-clause-err
returns-in_err-add_element-clause-err c = on_err c.from_residual.result (
    kept_there c.args.self.now.objects.items c.args.place c.index_mut-entity.result.now c.add_element.new.self
    (slice_get_read c.args.self.now.objects.items (length c.args.self.now.objects.items) c.args.place c.index_mut-entity.result.now refl (omega arith) c.index_mut-entity.ensures.value) c.in_err-add_element.ensures.err)

pub returns-then-place-len-clause-ok : goal.returns-then-place-len-clause-ok
returns-then-place-len-clause-ok c = put_past c.args.self.now.objects.items c.args.place elem_key (value_of c.args.value) (omega arith)
