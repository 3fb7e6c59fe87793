use Rattle.std.proofs.Common.{length, refl, arith}
use Rattle.std.proofs.lemmas.Option.{slice_get_read}
use Rattle.runner_heap.specs.Shown.{field_key}
use Rattle.runner_heap.proofs.Places.{alike_there, alike_past, kept_there}
use Rattle.runner_heap.proofs.heap.Heap.put_field.Goals as goal
use Rattle.runner_state.proofs.Writing.{on_err}
use Rattle.runner_state.specs.Shown.{value_of}

pub returns-clause-ok : goal.returns-clause-ok
returns-clause-ok c =
    alike_there c.args.self.now.objects.items c.args.place c.index_mut-entity.result.now c.put_field.new.self (field_key c.args.number) (value_of c.args.value)
    (slice_get_read c.args.self.now.objects.items (length c.args.self.now.objects.items) c.args.place c.index_mut-entity.result.now refl (omega arith) c.index_mut-entity.ensures.value) c.in_ok-is_new.ensures.ok

pub returns-in_err-is_new-clause-err : goal.returns-in_err-is_new-clause-err
returns-in_err-is_new-clause-err c = on_err c.from_residual.result (
    kept_there c.args.self.now.objects.items c.args.place c.index_mut-entity.result.now c.put_field.new.self
    (slice_get_read c.args.self.now.objects.items (length c.args.self.now.objects.items) c.args.place c.index_mut-entity.result.now refl (omega arith) c.index_mut-entity.ensures.value) c.in_err-is_new.ensures.err)

pub returns-then-place-len-clause-ok : goal.returns-then-place-len-clause-ok
returns-then-place-len-clause-ok c = alike_past c.args.self.now.objects.items c.args.place (field_key c.args.number) (value_of c.args.value) (omega arith)
