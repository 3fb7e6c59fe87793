-- The rows of this set that name things which the app and the lists have.
use Rattle.std.specs.Prelude.{List, [], ◌∷◌}
use Rattle.app_machine.specs.declared.lists.Lists.{Lists}
use Rattle.app_machine.specs.declared.app.App.{App}
use Rattle.fact_rows.specs.declared.site.Site.{Site}
use Rattle.fact_rows.specs.declared.site.Site.TheVariants.{Made}
use Rattle.fact_rows.specs.declared.row.Row.{Row}
use Rattle.fact_rows.specs.declared.field.Field.{Field}
use Rattle.fact_rows.specs.declared.field.Field.TheVariants as field
use Rattle.fact_rows.specs.Parts.{parts_of}
use Rattle.fact_rows.specs.InApp.{MakesAt, SiteIn, CategoryIn, FieldIn}

-- an object may be made in whatever context
abbrev pub CellSiteIn : App → Lists → Site → Type 0
CellSiteIn app lists (Made m pc) = MakesAt app m pc
CellSiteIn app lists s = SiteIn app lists s

-- labels are those of values, and there are no paths
abbrev pub CellFieldIn : App → Lists → Field → Type 0
CellFieldIn app lists (field.Site s) = CellSiteIn app lists s
CellFieldIn app lists (field.Path p) = ⊥
CellFieldIn app lists (field.Label l) = CategoryIn lists l
CellFieldIn app lists f = FieldIn app lists f

-- each of the fields
abbrev pub CellFieldsIn : App → Lists → List Field → Type 0
CellFieldsIn app lists [] = Unit {0}
CellFieldsIn app lists (f ∷ fs) = CellFieldIn app lists f × CellFieldsIn app lists fs

abbrev pub CellInApp : App → Lists → Row → Type 0
CellInApp app lists row = CellFieldsIn app lists (parts_of row).fields
