-- Rows of certificates of a set are known there, and known ones that have room can be written.
use Rattle.std.proofs.Common.{List, [], ◌∷◌, get_or}
use Rattle.std.specs.List.{All, AllByRecursion}
use Rattle.fact_rows.specs.declared.field.Field.{Field}
use Rattle.fact_rows.specs.declared.field.Field.TheVariants as field
use Rattle.fact_rows.specs.declared.row.Row.{Row}
use Rattle.fact_rows.specs.Parts.{parts_of}
use Rattle.cert_rows.specs.declared.sets.Set.{Set}
use Rattle.cert_rows.specs.Fitting.{FieldIsKnown, FieldIsSmall, FieldFits, IsKnown, RowIsSmall, RowFits}

module _ (set : Set) where
  field_known : (f : Field) → FieldFits set f → FieldIsKnown set f
  field_known (field.Node n) h = tt
  field_known (field.Register n r) h = tt
  field_known (field.Activation a) h = tt
  field_known (field.Site s) h = h.0
  field_known (field.Key k) h = tt
  field_known (field.Path p) h = h.0
  field_known (field.Category l) h = tt
  field_known (field.Static g) h = tt
  field_known (field.Exit how) h = h
  field_known (field.Component c) h = tt
  field_known (field.State c state) h = tt
  field_known (field.Cause cause) h = h
  field_known (field.Use u) h = tt
  field_known (field.Label l) h = h.0

  -- the other way round, a known field that has room fits
  field_fits : (f : Field) → FieldIsKnown set f → FieldIsSmall f → FieldFits set f
  field_fits (field.Node n) known small = small
  field_fits (field.Register n r) known small = small
  field_fits (field.Activation a) known small = small
  field_fits (field.Site s) known small = (known, small)
  field_fits (field.Key k) known small = small
  field_fits (field.Path p) known small = (known, small)
  field_fits (field.Category l) known small = small
  field_fits (field.Static g) known small = small
  field_fits (field.Exit how) known small = known
  field_fits (field.Component c) known small = small
  field_fits (field.State c state) known small = small
  field_fits (field.Cause cause) known small = known
  field_fits (field.Use u) known small = small
  field_fits (field.Label l) known small = (known, small)

  fields_fit : (fs : List Field) → AllByRecursion (FieldIsKnown set) fs → AllByRecursion FieldIsSmall fs → AllByRecursion (FieldFits set) fs
  fields_fit [] known small = tt
  fields_fit (f ∷ fs) known small = (field_fits f known.0 small.0, fields_fit fs known.1 small.1)

  pub rows_fit : (rows : List Row) → All (IsKnown set) rows → All RowIsSmall rows → All (RowFits set) rows
  rows_fit rows known small = λ k d below. fields_fit (parts_of (get_or rows k d)).fields (known k d below) (small k d below)

  fields_known : (fs : List Field) → AllByRecursion (FieldFits set) fs → AllByRecursion (FieldIsKnown set) fs
  fields_known [] h = tt
  fields_known (f ∷ fs) h = (field_known f h.0, fields_known fs h.1)

  pub rows_known : (rows : List Row) → All (RowFits set) rows → All (IsKnown set) rows
  rows_known rows fit = λ k d below. fields_known (parts_of (get_or rows k d)).fields (fit k d below)
