use Rattle.std.proofs.Common.{◌≡◌, length, refl, arith}
use Rattle.std.proofs.lemmas.Option.{slice_get_read}
use Rattle.runner_menu.proofs.Tabled.{all_tables, no_tables, one_more_table}
use Rattle.runner_menu.proofs.tables.tables_of.Goals as goal

pub loop-number-init : goal.loop-number-init
loop-number-init c = rw c.new-tables.ensures.items (no_tables c.args.app.now c.args.lists.now)

pub of-requires-clause-there : goal.of-requires-clause-there
of-requires-clause-there c = slice_get_read c.args.app.now.components (length c.args.app.now.components) c.loop-number.number c.at-component.result.now refl (omega (arith, c.component_count-number-end.ensures)) c.at-component.ensures

pub loop-number-preserved : goal.loop-number-preserved
loop-number-preserved c =
    one_more_table c.args.app.now c.args.lists.now c.loop-number.tables.items c.push.new.self.items c.loop-number.number c.in_ok-of.field-0 c.in_ok-push.ensures.items c.in_ok-of.ensures c.loop-number.invariant

pub returns : goal.returns
returns c =
    let same : c.loop-number.number ≡ length c.args.app.now.components = omega (arith, c.component_count-number-end.ensures) in
    all_tables c.args.app.now c.args.lists.now c.loop-number.tables.items c.loop-number.number same c.loop-number.invariant
