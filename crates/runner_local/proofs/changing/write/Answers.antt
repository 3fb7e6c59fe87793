use Rattle.std.proofs.Common.{ap, sym, ◌∙◌}
use Rattle.app_machine.specs.declared.method.Act.TheVariants as act
use Rattle.app_machine.specs.Heap.{labelled}
use Rattle.app_machine.specs.State as state
use Rattle.app_machine.specs.State.{write_all}
use Rattle.runner_local.specs.Changed.{labels_in, written}
use Rattle.runner_local.proofs.Acting.{alike_same, set_to, set_alike, unwritten, wrote}
use Rattle.runner_local.proofs.changing.write.Goals as goal
use Rattle.runner_state.specs.Shown.{register_in, value_of}
use Rattle.runner_world.specs.World.{world_in}

pub returns-in_ok-set_all-in-Join : goal.returns-in_ok-set_all-in-Join
unfolding written
returns-in_ok-set_all-in-Join c =
    wrote c.args.app.now c.args.library.now (world_in c.args.world.now) (register_in c.args.registers.now) c.args.act.now (act.Join c.in-Join.to c.in-Join.from) (value_of c.args.read) c.in-Join.is (register_in c.set_all.new.self)
    (alike_same _ (register_in c.set_all.new.self) (sym (c.in_ok-set_all-in-Join.ensures ∙ set_to (register_in c.args.registers.now) c.as_slice-in-Join.result.now c.in-Join.to (value_of c.labelled.result) _ c.as_slice-in-Join.ensures (c.labelled.ensures ∙ ap labelled (c.own_labels-labels.ensures ∙ ap (labels_in (register_in c.args.registers.now)) c.as_slice.ensures)))))

pub returns-in_ok-set_all-in-Move : goal.returns-in_ok-set_all-in-Move
unfolding written
returns-in_ok-set_all-in-Move c =
    wrote c.args.app.now c.args.library.now (world_in c.args.world.now) (register_in c.args.registers.now) c.args.act.now (act.Move c.in-Move.to c.in-Move.from) (value_of c.args.read) c.in-Move.is (register_in c.set_all-in-Move.new.self)
    (alike_same _ (register_in c.set_all-in-Move.new.self) (sym (c.in_ok-set_all-in-Move.ensures ∙ set_to (register_in c.args.registers.now) c.as_slice-in-Move.result.now c.in-Move.to (value_of c.get.result) _ c.as_slice-in-Move.ensures (c.get.ensures))))

pub returns-in_ok-set_all-in-Blank : goal.returns-in_ok-set_all-in-Blank
unfolding written
returns-in_ok-set_all-in-Blank c =
    wrote c.args.app.now c.args.library.now (world_in c.args.world.now) (register_in c.args.registers.now) c.args.act.now (act.Blank c.in-Blank.to) (value_of c.args.read) c.in-Blank.is (register_in c.set_all-in-Blank.new.self)
    (alike_same _ (register_in c.set_all-in-Blank.new.self) (sym (c.in_ok-set_all-in-Blank.ensures ∙ set_to (register_in c.args.registers.now) c.as_slice-in-Blank.result.now c.in-Blank.to (value_of c.blank.result) _ c.as_slice-in-Blank.ensures (c.blank.ensures))))

pub returns-in_ok-set_all-in-Get : goal.returns-in_ok-set_all-in-Get
unfolding written
returns-in_ok-set_all-in-Get c =
    wrote c.args.app.now c.args.library.now (world_in c.args.world.now) (register_in c.args.registers.now) c.args.act.now (act.Get c.in-Get.to c.in-Get.field-1 c.in-Get.field-2) (value_of c.args.read) c.in-Get.is (register_in c.set_all-in-Get.new.self)
    (alike_same _ (register_in c.set_all-in-Get.new.self) (sym (c.in_ok-set_all-in-Get.ensures ∙ ap (λ xs. write_all (register_in c.args.registers.now) xs (value_of c.args.read)) c.as_slice-in-Get.ensures)))

pub returns-in_ok-set_all-in-GetStatic : goal.returns-in_ok-set_all-in-GetStatic
unfolding written
returns-in_ok-set_all-in-GetStatic c =
    wrote c.args.app.now c.args.library.now (world_in c.args.world.now) (register_in c.args.registers.now) c.args.act.now (act.GetStatic c.in-GetStatic.to c.in-GetStatic.number) (value_of c.args.read) c.in-GetStatic.is (register_in c.set_all-in-GetStatic.new.self)
    (set_alike (register_in c.args.registers.now) (register_in c.set_all-in-GetStatic.new.self) c.as_slice-in-GetStatic.result.now c.in-GetStatic.to _ (value_of c.read_static.result) c.in_ok-set_all-in-GetStatic.ensures c.as_slice-in-GetStatic.ensures c.read_static.ensures)

pub returns-in_ok-set_all-in-TakeResult : goal.returns-in_ok-set_all-in-TakeResult
unfolding written
returns-in_ok-set_all-in-TakeResult c =
    wrote c.args.app.now c.args.library.now (world_in c.args.world.now) (register_in c.args.registers.now) c.args.act.now (act.TakeResult c.in-TakeResult.to) (value_of c.args.read) c.in-TakeResult.is (register_in c.set_all-in-TakeResult.new.self)
    (alike_same _ (register_in c.set_all-in-TakeResult.new.self) (sym (c.in_ok-set_all-in-TakeResult.ensures ∙ set_to (register_in c.args.registers.now) c.as_slice-in-TakeResult.result.now c.in-TakeResult.to (value_of c.get-in-TakeResult.result) _ c.as_slice-in-TakeResult.ensures (c.get-in-TakeResult.ensures))))

pub returns-in_ok-set-in-TakeException : goal.returns-in_ok-set-in-TakeException
unfolding written
returns-in_ok-set-in-TakeException c =
    wrote c.args.app.now c.args.library.now (world_in c.args.world.now) (register_in c.args.registers.now) c.args.act.now (act.TakeException c.in-TakeException.to) (value_of c.args.read) c.in-TakeException.is (register_in c.set.new.self)
    (alike_same _ (register_in c.set.new.self) (sym (c.in_ok-set-in-TakeException.ensures.ok ∙ ap (λ v. state.write (register_in c.args.registers.now) c.in-TakeException.to v) c.get-in-TakeException.ensures)))

pub returns-in_default : goal.returns-in_default
returns-in_default c =
    alike_same (written c.args.app.now c.args.library.now (world_in c.args.world.now) (register_in c.args.registers.now) c.args.act.now (value_of c.args.read)) (register_in c.args.registers.now)
    (sym (unwritten c.args.app.now c.args.library.now (world_in c.args.world.now) (register_in c.args.registers.now) (value_of c.args.read) c.args.act.now
    c.in_default.not-Join c.in_default.not-Move c.in_default.not-Blank c.in_default.not-Get c.in_default.not-GetStatic c.in_default.not-TakeResult c.in_default.not-TakeException))
