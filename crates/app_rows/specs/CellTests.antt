-- The tests by which a row is told to be in the app by the second set of rules, as the code makes them.
use Rattle.std.specs.Prelude.{Bool, false, nat_lt, List, length}
use Rattle.std.specs.List.{list_all}
use Rattle.app_machine.specs.declared.lists.Lists.{Lists}
use Rattle.app_machine.specs.declared.app.App.{App}
use Rattle.app_machine.specs.Lookups.{step_at}
use Rattle.fact_rows.specs.declared.site.Site.{Site}
use Rattle.fact_rows.specs.declared.site.Site.TheVariants.{Made}
use Rattle.fact_rows.specs.declared.field.Field.{Field}
use Rattle.fact_rows.specs.declared.field.Field.TheVariants as field
use Rattle.app_rows.specs.Tests.{step_tells, makes, is_site_in, is_field_in}

-- an object may be made in whatever context
abbrev pub is_cell_site_in : App → Lists → Site → Bool
is_cell_site_in app lists (Made m pc) = step_tells makes (step_at app m pc)
is_cell_site_in app lists s = is_site_in app lists s

-- labels are those of values, and there are no paths
abbrev pub is_cell_field_in : App → Lists → Field → Bool
is_cell_field_in app lists (field.Site s) = is_cell_site_in app lists s
is_cell_field_in app lists (field.Path p) = false
is_cell_field_in app lists (field.Label l) = nat_lt l (length lists.categories)
is_cell_field_in app lists f = is_field_in app lists f

abbrev pub are_cell_fields_in : App → Lists → List Field → Bool
are_cell_fields_in app lists fields = list_all (is_cell_field_in app lists) fields
