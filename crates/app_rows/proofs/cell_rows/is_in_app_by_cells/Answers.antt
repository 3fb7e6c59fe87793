use Rattle.std.proofs.Common.{◌≡◌, ◌↔◌, IsTrue, List, sym, ap, subst, ◌∙◌}
use Rattle.cell_rules.specs.InApp.{CellInApp}
use Rattle.fact_rows.specs.declared.field.Field.{Field}
use Rattle.fact_rows.specs.declared.parts.Parts.{Parts}
use Rattle.fact_rows.specs.Parts.{parts_of}
use Rattle.app_rows.specs.CellTests.{are_cell_fields_in}
use Rattle.app_rows.proofs.CellTestsTell.{cell_fields_tell}
use Rattle.app_rows.proofs.cell_rows.is_in_app_by_cells.Goals as goal

pub returns : goal.returns
returns c =
    let app = c.args.index.now.0 in
    let lists = c.args.index.now.1 in
    let row = c.args.row.now in
    let fields : List Field = (parts_of row).fields in
    let same : c.are_cell_fields_in.result ≡ are_cell_fields_in app lists fields =
    c.are_cell_fields_in.ensures ∙ ap (are_cell_fields_in app lists) (c.as_slice.ensures ∙ ap (λ (p : Parts). p.fields) c.parts.ensures) in
    subst (λ b. IsTrue b ↔ CellInApp app lists row) (sym same) (cell_fields_tell app lists (c.events_are_exact.ensures app lists c.requires) fields)
