-- The tests of the second set answer true of what is in the app by it alone.
use Rattle.std.proofs.Common.{◌≡◌, ◌↔◌, Bool, true, IsTrue, List, [], ◌∷◌, length, refl}
use Rattle.std.proofs.lemmas.Bool.{and_parts, and_from, ltb-true, lt-ltb}
use Rattle.app_machine.specs.declared.lists.Lists.{Lists}
use Rattle.app_machine.specs.declared.app.App.{App}
use Rattle.app_model.specs.EventLaws.{EventsAreExact}
use Rattle.cell_rules.specs.InApp.{CellSiteIn, CellFieldIn, CellFieldsIn}
use Rattle.fact_rows.specs.declared.site.Site.{Site}
use Rattle.fact_rows.specs.declared.site.Site.TheVariants.{At, Param, Component, Shared, Made}
use Rattle.fact_rows.specs.declared.field.Field.{Field}
use Rattle.fact_rows.specs.declared.field.Field.TheVariants as field
use Rattle.app_rows.specs.CellTests.{is_cell_site_in, is_cell_field_in, are_cell_fields_in}
use Rattle.app_rows.proofs.TestsTell.{makes_to, makes_from, site_to, site_from, field_to, field_from}

module _ (app : App) (lists : Lists) (exact : EventsAreExact app lists) where
  cell_site_to : (s : Site) → is_cell_site_in app lists s ≡ true → CellSiteIn app lists s
  cell_site_to (Made m pc) h = makes_to app m pc h
  cell_site_to (At n) h = site_to app lists exact (At n) h
  cell_site_to (Param x i) h = site_to app lists exact (Param x i) h
  cell_site_to (Component c) h = site_to app lists exact (Component c) h
  cell_site_to (Shared i) h = site_to app lists exact (Shared i) h

  cell_site_from : (s : Site) → CellSiteIn app lists s → is_cell_site_in app lists s ≡ true
  cell_site_from (Made m pc) h = makes_from app m pc h
  cell_site_from (At n) h = site_from app lists exact (At n) h
  cell_site_from (Param x i) h = site_from app lists exact (Param x i) h
  cell_site_from (Component c) h = site_from app lists exact (Component c) h
  cell_site_from (Shared i) h = site_from app lists exact (Shared i) h

  cell_field_to : (f : Field) → is_cell_field_in app lists f ≡ true → CellFieldIn app lists f
  cell_field_to (field.Site s) h = cell_site_to s h
  cell_field_to (field.Path p) h = absurd cc
  cell_field_to (field.Label l) h = ltb-true l (length lists.categories) h
  cell_field_to (field.Node n) h = field_to app lists exact (field.Node n) h
  cell_field_to (field.Register n r) h = field_to app lists exact (field.Register n r) h
  cell_field_to (field.Activation a) h = field_to app lists exact (field.Activation a) h
  cell_field_to (field.Key k) h = field_to app lists exact (field.Key k) h
  cell_field_to (field.Category l) h = field_to app lists exact (field.Category l) h
  cell_field_to (field.Static g) h = field_to app lists exact (field.Static g) h
  cell_field_to (field.Exit how) h = field_to app lists exact (field.Exit how) h
  cell_field_to (field.Component c) h = field_to app lists exact (field.Component c) h
  cell_field_to (field.State c state) h = field_to app lists exact (field.State c state) h
  cell_field_to (field.Cause cause) h = field_to app lists exact (field.Cause cause) h
  cell_field_to (field.Use u) h = field_to app lists exact (field.Use u) h

  cell_field_from : (f : Field) → CellFieldIn app lists f → is_cell_field_in app lists f ≡ true
  cell_field_from (field.Site s) h = cell_site_from s h
  cell_field_from (field.Path p) h = absurd h
  cell_field_from (field.Label l) h = lt-ltb l (length lists.categories) h
  cell_field_from (field.Node n) h = field_from app lists exact (field.Node n) h
  cell_field_from (field.Register n r) h = field_from app lists exact (field.Register n r) h
  cell_field_from (field.Activation a) h = field_from app lists exact (field.Activation a) h
  cell_field_from (field.Key k) h = field_from app lists exact (field.Key k) h
  cell_field_from (field.Category l) h = field_from app lists exact (field.Category l) h
  cell_field_from (field.Static g) h = field_from app lists exact (field.Static g) h
  cell_field_from (field.Exit how) h = field_from app lists exact (field.Exit how) h
  cell_field_from (field.Component c) h = field_from app lists exact (field.Component c) h
  cell_field_from (field.State c state) h = field_from app lists exact (field.State c state) h
  cell_field_from (field.Cause cause) h = field_from app lists exact (field.Cause cause) h
  cell_field_from (field.Use u) h = field_from app lists exact (field.Use u) h

  cell_fields_to : (fs : List Field) → are_cell_fields_in app lists fs ≡ true → CellFieldsIn app lists fs
  cell_fields_to [] h = tt
  cell_fields_to (f ∷ fs) h =
      let parts = and_parts (is_cell_field_in app lists f) (are_cell_fields_in app lists fs) h in
      (cell_field_to f parts.0, cell_fields_to fs parts.1)

  cell_fields_from : (fs : List Field) → CellFieldsIn app lists fs → are_cell_fields_in app lists fs ≡ true
  cell_fields_from [] h = refl
  cell_fields_from (f ∷ fs) h =
      and_from (is_cell_field_in app lists f) (are_cell_fields_in app lists fs) (cell_field_from f h.0) (cell_fields_from fs h.1)

  pub cell_fields_tell : (fs : List Field) → IsTrue (are_cell_fields_in app lists fs) ↔ CellFieldsIn app lists fs
  cell_fields_tell fs = (cell_fields_to fs, cell_fields_from fs)
