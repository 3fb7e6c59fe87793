-- What the lists say of a device: whether they are strict, and the names of the platform; and of static fields that no one writes.
use Rattle.std.specs.Prelude.{ℕ, ◌==◌, ◌+◌, Bool, true, List, [], ◌∷◌, ◌++◌, length}
use Rattle.toml.specs.Data.{Data, Members}
use Rattle.vet_base.specs.Script.{Script, Value, ◌>>=◌, test, each}
use Rattle.app_machine.specs.Names.{Name}
use Rattle.app_machine.specs.declared.lists.StaticRow.{StaticRow}
use Rattle.form_fields.specs.declared.fault.Fault.{Fault}
use Rattle.form_fields.specs.declared.fault.Fault.TheVariants.{Range}
use Rattle.form_fields.specs.declared.words.Section.TheVariants as section
use Rattle.form_fields.specs.declared.words.Key.{Key}
use Rattle.form_fields.specs.declared.words.Key.TheVariants as key
use Rattle.form_fields.specs.declared.spelling.Spelling.TheVariants as spelling
use Rattle.method_fields.specs.declared.signature.MethodKey.{MethodKey}
use Rattle.store_lists.specs.declared.device.DeviceKeys.{DeviceKeys}
use Rattle.store_lists.specs.declared.device.StaticRows.{StaticRows}
use Rattle.form_fields.specs.Once.{with_new}
use Rattle.form_fields.specs.Fields.{known, text_at, maybe_texts_at, tables_at, table_in}
use Rattle.method_fields.specs.Positions.{flag_at, listed_at}
use Rattle.method_fields.specs.Signature.{type_at}

-- there are so many names
unfoldable pub are_counted : ℕ → List Name → Bool
are_counted count names = length names == count

-- beginnings of names, none of them twice and none of those before; and all with those before
unfoldable pub prefixes_at : Key → List Name → Members → Script Fault (List Name × List Name)
prefixes_at k before t = do
  names ← maybe_texts_at section.Lists k spelling.Prefix 4096 t
  _ ← test (are_counted (length before + length names) (with_new before names)) (Range section.Lists k)
  Value (names, with_new before names)

-- the keys of the top table, and the tables of the static fields
unfoldable pub device_at : Members → Script Fault (DeviceKeys × List Data)
device_at t = do
  strict ← flag_at section.Lists key.Strict t
  platform ← prefixes_at key.Platform [] t
  bundled ← prefixes_at key.Bundled platform.1 t
  statics ← tables_at section.Lists key.Static 65536 t
  Value (record { strict = strict; platform = platform.0; bundled = bundled.0 }, statics)

-- what tells the row of a static field from others
unfoldable pub static_key : StaticRow → MethodKey
static_key s = record { class = s.class; name = s.name; descriptor = s.kind; is_static = true }

-- the row of a static field, with the category that labels its value, where there is one
unfoldable pub static_at : List Name → Data → Script Fault StaticRow
static_at categories d = do
  t ← table_in section.Lists key.Static d
  _ ← known section.Static t
  class ← text_at section.Static key.Class spelling.Class t
  name ← text_at section.Static key.Name spelling.Text t
  kind ← type_at section.Static t
  source ← listed_at section.Static key.Source categories t
  Value (record { class = class; name = name; kind = kind; source = source })

-- a row more
unfoldable pub static_row : List Name → Data → StaticRows → Script Fault StaticRows
static_row categories d rows = do
  new ← static_at categories d
  Value (record { rows = rows.rows ++ new ∷ []; keys = rows.keys ++ static_key new ∷ [] })

unfoldable pub statics_of : List Name → List Data → Script Fault StaticRows
statics_of categories tables = each (static_row categories) tables (record { rows = []; keys = [] })
