-- The table of an app can be written as a certificate.
use Rattle.std.proofs.Common.{◌<◌, List, [], ◌∷◌, length, refl, arith}
use Rattle.std.specs.List.{All, AllByRecursion}
use Rattle.vet_base.proofs.Members.{all_from_in}
use Rattle.app_machine.specs.declared.app.App.{App}
use Rattle.app_machine.specs.declared.lists.Lists.{Lists}
use Rattle.fact_rows.specs.declared.field.Field.{Field}
use Rattle.fact_rows.specs.declared.field.Field.TheVariants as field
use Rattle.fact_rows.specs.declared.row.Row.{Row}
use Rattle.fact_rows.specs.declared.site.Site.{Site}
use Rattle.fact_rows.specs.declared.site.Site.TheVariants.{Made}
use Rattle.fact_rows.specs.InApp.{SiteIn, FieldIn, FieldsIn}
use Rattle.app_flow.specs.declared.flow_rows.FlowTable.{FlowTable}
use Rattle.cell_rules.specs.InApp.{CellFieldIn, CellFieldsIn}
use Rattle.flow_analyses.specs.declared.Analysis.{Analysis}
use Rattle.flow_analyses.specs.declared.Analysis.TheVariants as analyses
use Rattle.flow_analyses.specs.Analyses.{InAppBy}
use Rattle.fact_rows.specs.Parts.{parts_of}
use Rattle.cert_rows.specs.declared.sets.Set.TheVariants as set
use Rattle.cert_rows.specs.Fitting.{SiteIsKnown, FieldIsKnown, IsKnown}
use Rattle.verdict.specs.Table.{IsTable}
use Rattle.vetting_desk.specs.Sets.{set_of}

site_is_known : (app : App) (lists : Lists) (s : Site) → SiteIn app lists s → SiteIsKnown set.Paths s
site_is_known app lists (Made m pc) is = absurd is
site_is_known app lists _ is = tt

field_is_known : (app : App) (lists : Lists) (f : Field) → FieldIn app lists f → FieldIsKnown set.Paths f
field_is_known app lists (field.Exit how) is = is
field_is_known app lists (field.Cause cause) is = is
field_is_known app lists (field.Site s) is = site_is_known app lists s is
field_is_known app lists (field.Path p) is = refl
field_is_known app lists (field.Label l) is = absurd is
field_is_known app lists _ is = tt

fields_are_known : (app : App) (lists : Lists) (fields : List Field) → FieldsIn app lists fields → AllByRecursion (FieldIsKnown set.Paths) fields
fields_are_known app lists [] is = tt
fields_are_known app lists (f ∷ fs) is = (field_is_known app lists f is.0, fields_are_known app lists fs is.1)

-- the same by the second analysis
cell_site_is_known : (s : Site) → SiteIsKnown set.Cells s
cell_site_is_known (Made m pc) = refl
cell_site_is_known _ = tt

cell_field_is_known : (app : App) (lists : Lists) (f : Field) → CellFieldIn app lists f → FieldIsKnown set.Cells f
cell_field_is_known app lists (field.Exit how) is = is
cell_field_is_known app lists (field.Cause cause) is = is
cell_field_is_known app lists (field.Site s) is = cell_site_is_known s
cell_field_is_known app lists (field.Path p) is = absurd is
cell_field_is_known app lists (field.Label l) is = refl
cell_field_is_known app lists _ is = tt

cell_fields_are_known : (app : App) (lists : Lists) (fields : List Field) → CellFieldsIn app lists fields → AllByRecursion (FieldIsKnown set.Cells) fields
cell_fields_are_known app lists [] is = tt
cell_fields_are_known app lists (f ∷ fs) is = (cell_field_is_known app lists f is.0, cell_fields_are_known app lists fs is.1)

row_is_known : (analysis : Analysis) (app : App) (lists : Lists) (row : Row) → InAppBy analysis app lists row → IsKnown (set_of analysis) row
row_is_known analyses.Paths app lists row is = fields_are_known app lists (parts_of row).fields is
row_is_known analyses.Cells app lists row is = cell_fields_are_known app lists (parts_of row).fields is

pub few_rows : (table : FlowTable) → IsTable table → length table.rows < 4294967296
few_rows table is = omega (arith, is.few)

pub known_rows : (table : FlowTable) → IsTable table → All (IsKnown (set_of table.analysis)) table.rows
known_rows table is = all_from_in (IsKnown (set_of table.analysis)) table.rows (λ row there. row_is_known table.analysis is.app is.lists row (is.in_app row there))
