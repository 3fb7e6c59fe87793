-- Which rows a certificate can have: each number has room in its bytes, an exit is 0 or 1, and a cause is from 1 to 3. Paths are
-- of the first set; labels that are a value's own, beside no path, and sites of what is made in whatever context of the second.
use Rattle.std.specs.Prelude.{◌≡◌, ℕ, ◌<◌, List}
use Rattle.std.specs.List.{AllByRecursion}
use Rattle.fact_rows.specs.declared.field.Field.{Field}
use Rattle.fact_rows.specs.declared.field.Field.TheVariants as field
use Rattle.fact_rows.specs.declared.row.Row.{Row}
use Rattle.fact_rows.specs.declared.site.Site.{Site}
use Rattle.fact_rows.specs.declared.site.Site.TheVariants.{Made}
use Rattle.fact_rows.specs.Order.{numbers_of_field, numbers_of_site}
use Rattle.fact_rows.specs.Parts.{parts_of}
use Rattle.access_path.specs.Order.{numbers_of_path}
use Rattle.cert_rows.specs.declared.sets.Set.{Set}
use Rattle.cert_rows.specs.declared.sets.Set.TheVariants.{Paths, Cells}

abbrev pub IsSmall : ℕ → Type 0
IsSmall n = n < 4294967296

abbrev pub AreSmall : List ℕ → Type 0
AreSmall numbers = AllByRecursion IsSmall numbers

abbrev pub SiteIsKnown : Set → Site → Type 0
SiteIsKnown set (Made m pc) = set ≡ Cells
SiteIsKnown set _ = Unit {0}

abbrev pub SiteFits : Set → Site → Type 0
SiteFits set s = SiteIsKnown set s × AreSmall (numbers_of_site s)

abbrev pub FieldIsKnown : Set → Field → Type 0
FieldIsKnown set (field.Site s) = SiteIsKnown set s
FieldIsKnown set (field.Path p) = set ≡ Paths
FieldIsKnown set (field.Exit how) = how < 2
FieldIsKnown set (field.Cause cause) = (0 < cause) × (cause < 4)
FieldIsKnown set (field.Label l) = set ≡ Cells
FieldIsKnown set _ = Unit {0}

-- each field is one of certificates of the set, whatever room its numbers take
abbrev pub IsKnown : Set → Row → Type 0
IsKnown set row = AllByRecursion (FieldIsKnown set) (parts_of row).fields

-- its numbers have room in their bytes
abbrev pub FieldIsSmall : Field → Type 0
FieldIsSmall (field.Category l) = l < 256
FieldIsSmall (field.State c state) = state < 256
FieldIsSmall (field.Exit how) = how < 256
FieldIsSmall (field.Cause cause) = cause < 256
FieldIsSmall (field.Label l) = l < 256
FieldIsSmall f = AreSmall (numbers_of_field f)

-- both
abbrev pub FieldFits : Set → Field → Type 0
FieldFits set (field.Site s) = SiteFits set s
FieldFits set (field.Path p) = (set ≡ Paths) × AreSmall (numbers_of_path p)
FieldFits set (field.Category l) = l < 256
FieldFits set (field.State c state) = state < 256
FieldFits set (field.Exit how) = how < 2
FieldFits set (field.Cause cause) = (0 < cause) × (cause < 4)
FieldFits set (field.Label l) = (set ≡ Cells) × (l < 256)
FieldFits set f = AreSmall (numbers_of_field f)

abbrev pub RowIsSmall : Row → Type 0
RowIsSmall row = AllByRecursion FieldIsSmall (parts_of row).fields

abbrev pub RowFits : Set → Row → Type 0
RowFits set row = AllByRecursion (FieldFits set) (parts_of row).fields
