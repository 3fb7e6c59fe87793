use Rattle.std.proofs.Common.{◌<◌, length, sym, arith}
use Rattle.runner_choices.specs.Choices.{event_of}
use Rattle.runner_stands.proofs.Marked.{other_body, this_body, within_marks, without_body}
use Rattle.runner_stands.proofs.bodies.mark.Goals as goal

pub index_mut-requires : goal.index_mut-requires
index_mut-requires c =
    let within : c.in-Some.body < length c.args.marks.now.items = within_marks c.args.app.now c.args.marks.now.items c.in-Some.body c.is_native.result c.is_native.ensures c.if-is_native.true c.requires in
    omega (arith, within, c.args.marks.now.ok.0)

pub returns-in-None : goal.returns-in-None
returns-in-None c w = without_body c.args.app.now (event_of w c.args.choice) c.args.marks.now.items c.body_of.result (sym c.in-None.is) (c.body_of.ensures w)

pub returns-then-is_native : goal.returns-then-is_native
returns-then-is_native c w =
    this_body c.args.app.now (event_of w c.args.choice) c.args.marks.now.items c.in-Some.body c.body_of.result c.is_native.result (sym c.in-Some.is) (c.body_of.ensures w) c.is_native.ensures c.if-is_native.true c.requires

pub returns-else-is_native : goal.returns-else-is_native
returns-else-is_native c w = other_body c.args.app.now (event_of w c.args.choice) c.args.marks.now.items c.in-Some.body c.body_of.result c.is_native.result (sym c.in-Some.is) (c.body_of.ensures w) c.is_native.ensures c.if-is_native.false
