use Rattle.std.proofs.Common.{ℕ, Some, length, refl, ap, sym, ◌∙◌}
use Rattle.std.specs.Prelude.{option_to_list}
use Rattle.app_machine.specs.declared.method.Act.TheVariants as act
use Rattle.app_machine.specs.Heap.{Value}
use Rattle.app_machine.specs.State as state
use Rattle.app_machine.specs.State.{new_object, object_at, result_register, write}
use Rattle.played_machine.specs.Local.{with_object}
use Rattle.runner_heap.specs.Objects.{heap_of}
use Rattle.runner_local.specs.Changed.{array_of, changed, labels_in}
use Rattle.runner_local.proofs.Acting.{alike_same, as_slice_is, changed_so, only_written, put_alike, same_world, write_alike}
use Rattle.runner_local.proofs.changing.change.Goals as goal
use Rattle.runner_state.specs.Shown.{held_at, register_in, value_of}
use Rattle.runner_world.specs.World.{world_in}

pub returns-in_ok-make-in-New : goal.returns-in_ok-make-in-New
unfolding changed
returns-in_ok-make-in-New c =
    changed_so c.args.app.now c.args.library.now (world_in c.args.world.now) (register_in c.args.registers.now) c.args.act.now (act.New c.in-New.to c.in-New.class c.in-New.size) (value_of c.args.read) c.in-New.is (world_in c.make.new.world) (register_in c.make.new.registers) (
      same_world (with_object (world_in c.args.world.now) (new_object c.in-New.class)) (world_in c.make.new.world) (sym c.in_ok-make-in-New.ensures.world),
      alike_same (write (register_in c.args.registers.now) c.in-New.to (record { place = Some (length (heap_of c.args.world.now.heap)); labels = labels_in (register_in c.args.registers.now) (option_to_list c.in-New.size) })) (register_in c.make.new.registers)
          (sym (c.in_ok-make-in-New.ensures.registers ∙ ap (λ xs. write (register_in c.args.registers.now) c.in-New.to (record { place = Some (length (heap_of c.args.world.now.heap)); labels = labels_in (register_in c.args.registers.now) xs })) (as_slice_is c.in-New.size c.as_slice.result.now c.as_slice.ensures))),
    )

pub returns-in_ok-fill-in-Fill : goal.returns-in_ok-fill-in-Fill
unfolding changed
returns-in_ok-fill-in-Fill c =
    changed_so c.args.app.now c.args.library.now (world_in c.args.world.now) (register_in c.args.registers.now) c.args.act.now (act.Fill c.in-Fill.from c.in-Fill.class) (value_of c.args.read) c.in-Fill.is (world_in c.fill.new.world) (register_in c.fill.new.registers) (
      same_world (with_object (world_in c.args.world.now) (array_of (register_in c.args.registers.now) c.in-Fill.class c.in-Fill.from)) (world_in c.fill.new.world)
          (sym (c.in_ok-fill-in-Fill.ensures.world ∙ ap (λ xs. with_object (world_in c.args.world.now) (array_of (register_in c.args.registers.now) c.in-Fill.class xs)) c.as_slice-in-Fill.ensures)),
      alike_same (write (register_in c.args.registers.now) result_register (object_at (Some (length (heap_of c.args.world.now.heap))))) (register_in c.fill.new.registers) (sym c.in_ok-fill-in-Fill.ensures.registers),
    )

pub returns-in_ok-put-in-Put : goal.returns-in_ok-put-in-Put
unfolding changed
returns-in_ok-put-in-Put c =
    changed_so c.args.app.now c.args.library.now (world_in c.args.world.now) (register_in c.args.registers.now) c.args.act.now (act.Put c.in-Put.object c.in-Put.key c.in-Put.from) (value_of c.args.read) c.in-Put.is (record (world_in c.args.world.now) { heap = heap_of c.put.new.self }) (register_in c.args.registers.now) (
      put_alike (world_in c.args.world.now) (heap_of c.put.new.self) (register_in c.args.registers.now) c.in-Put.object c.in-Put.from c.in-Put.key c.get-holder.result c.get-value.result c.get-holder.ensures c.get-value.ensures c.in_ok-put-in-Put.ensures.ok,
      alike_same (register_in c.args.registers.now) (register_in c.args.registers.now) refl,
    )

pub returns-in_ok-set-in-PutStatic : goal.returns-in_ok-set-in-PutStatic
unfolding changed
returns-in_ok-set-in-PutStatic c =
    changed_so c.args.app.now c.args.library.now (world_in c.args.world.now) (register_in c.args.registers.now) c.args.act.now (act.PutStatic c.in-PutStatic.number c.in-PutStatic.from) (value_of c.args.read) c.in-PutStatic.is (record (world_in c.args.world.now) { statics = held_at c.set.new.self }) (register_in c.args.registers.now) (
      same_world (record (world_in c.args.world.now) { statics = write (held_at c.args.world.now.statics) c.in-PutStatic.number (register_in c.args.registers.now c.in-PutStatic.from) }) (record (world_in c.args.world.now) { statics = held_at c.set.new.self })
          (ap {B = state.World} (λ (s : ℕ → Value). record (world_in c.args.world.now) { statics = s }) (ap (λ v. write (held_at c.args.world.now.statics) c.in-PutStatic.number v) (sym c.get-held.ensures) ∙ sym c.in_ok-set-in-PutStatic.ensures.ok)),
      alike_same (register_in c.args.registers.now) (register_in c.args.registers.now) refl,
    )

pub returns-in_ok-write-in_default : goal.returns-in_ok-write-in_default
returns-in_ok-write-in_default c =
    write_alike c.args.app.now c.args.library.now (world_in c.args.world.now) (register_in c.args.registers.now) (value_of c.args.read) c.args.act.now (register_in c.write.new.registers)
    (only_written c.args.app.now c.args.library.now (world_in c.args.world.now) (register_in c.args.registers.now) (value_of c.args.read) c.args.act.now c.in_default.not-New c.in_default.not-Fill c.in_default.not-Put c.in_default.not-PutStatic)
    c.in_ok-write-in_default.ensures
