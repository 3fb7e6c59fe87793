use Rattle.std.proofs.Common.{slice_get, take, ◌∙◌, arith}
use Rattle.std.specs.Prelude.{option_to_list}
use Rattle.runner_choices.specs.Table.{menu_of}
use Rattle.runner_stands.proofs.Marked.{marks_all, marks_next, met_marks, nothing_yet, take_next}
use Rattle.runner_stands.proofs.bodies.mark_listed.Goals as goal
use Rattle.runner_world.specs.World.{world_in}

pub loop-index-init : goal.loop-index-init
loop-index-init c = nothing_yet c.args.app.now c.args.marks.now.items

pub mark_met-requires : goal.mark_met-requires
mark_met-requires c = c.loop-index.invariant.long ∙ c.requires

pub loop-index-preserved : goal.loop-index-preserved
loop-index-preserved c =
    let menu = menu_of (world_in c.args.world.now) c.args.number c.args.begins c.args.table.now in
    marks_next c.args.app.now (take c.loop-index.index menu) (option_to_list (slice_get menu c.loop-index.index)) _ c.args.marks.now.items c.loop-index.marks.items c.mark_met.new.marks.items (take_next menu c.loop-index.index)
    (met_marks c.args.app.now (world_in c.args.world.now) menu c.loop-index.index c.loop-index.marks.items c.mark_met.new.marks.items c.at.result (omega (arith, c.in_ok-count.ensures)) c.at.ensures (c.mark_met.ensures (world_in c.args.world.now)))
    c.loop-index.invariant

pub returns : goal.returns
returns c = marks_all c.args.app.now (menu_of (world_in c.args.world.now) c.args.number c.args.begins c.args.table.now) c.loop-index.index c.args.marks.now.items c.loop-index.marks.items (omega (arith, c.in_ok-count.ensures)) c.loop-index.invariant
