use Rattle.std.proofs.Common.{map}
use Rattle.std.proofs.lemmas.Result.{err_from_is_err_and}
use Rattle.toml.specs.View.{view}
use Rattle.vet_base.proofs.Scripts.{first_fails, later_fails}
use Rattle.store_lists.specs.Device.{statics_of}
use Rattle.store_lists.specs.Lists.{rows_of, rows_once, all_rows}
use Rattle.store_lists.proofs.lists.all_rows.Goals as goal

pub returns-in_err-rows_once : goal.returns-in_err-rows_once
unfolding all_rows
returns-in_err-rows_once c =
    let rows = c.in_ok-rows.rows in
    let statics = c.in_ok-statics.statics in
    let stop = c.in_err-rows_once.field-0.0 in
    let p = err_from_is_err_and c.from_residual-in_err-rows_once.result c.from_residual-in_err-rows_once.ensures.1 in
    rw (p.1, p.2)
    (later_fails stop (rows_of c.args.categories (map view c.args.class_tables.now) (map view c.args.shared_tables.now) (map view c.args.method_tables.now) (map view c.args.callback_tables.now)) rows _ c.in_ok-rows.ensures.value
    (later_fails stop (statics_of rows.listed.categories (map view c.args.static_tables.now)) statics _ c.in_ok-statics.ensures
    (first_fails stop (rows_once rows statics) _ c.in_err-rows_once.ensures)))
