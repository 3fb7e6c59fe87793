-- The manifest: the package, how many DEX files there are, the components of the app, and the classes that are named besides.
-- Android documentation, "App manifest overview": `<manifest>`, `<application>` and the elements of components.
use Rattle.std.specs.Prelude.{false, codes, List, [], Option, Some, None, if◌then◌else◌}
use Rattle.std.specs.Str.{bytes_eq}
use Rattle.toml.specs.Data.{Data, Members}
use Rattle.vet_base.specs.Script.{Script, Value, Test, ◌>>=◌, walk, each}
use Rattle.app_machine.specs.Names.{Name}
use Rattle.office_forms.specs.declared.manifest.AppManifest.{AppManifest}
use Rattle.app_machine.specs.declared.papers.Word.{Word}
use Rattle.app_machine.specs.declared.papers.Word.TheVariants.{Activity, Service, Receiver, Provider}
use Rattle.form_fields.specs.declared.fault.Fault.{Fault}
use Rattle.form_fields.specs.declared.fault.Fault.TheVariants.{Missing, Wrong}
use Rattle.form_fields.specs.declared.words.Section.TheVariants as section
use Rattle.form_fields.specs.declared.words.Key.TheVariants as key
use Rattle.form_fields.specs.declared.spelling.Spelling.TheVariants.{Text, Class}
use Rattle.form_fields.specs.Once.{once}
use Rattle.form_fields.specs.Fields.{known, text_at, maybe_text_at, maybe_texts_at, number_at, word_at, tables_at, table_in}

-- the kind of component that a word names
unfoldable pub kind_of : Name → Option Word
kind_of word =
    if bytes_eq word (codes "activity") then Some Activity
    else if bytes_eq word (codes "service") then Some Service
    else if bytes_eq word (codes "receiver") then Some Receiver
    else if bytes_eq word (codes "provider") then Some Provider
    else None

abbrev pub kind_named : Option Word → Script Fault Word
kind_named None = Test false (Wrong section.Component key.Kind) (Value Activity)
kind_named (Some kind) = Value kind

abbrev pub kind_due : Option Name → Script Fault Word
kind_due None = Test false (Missing section.Component key.Kind) (Value Activity)
kind_due (Some word) = kind_named (kind_of word)

unfoldable pub kind_at : Members → Script Fault Word
kind_at t = do
  word ← word_at section.Component key.Kind t
  kind_due word

-- a component: its kind and its class
unfoldable pub component_row : Data → Unit {0} → Script Fault ((Word × Name) × Unit {0})
component_row d _ = do
  t ← table_in section.Manifest key.Component d
  _ ← known section.Component t
  kind ← kind_at t
  class ← text_at section.Component key.Class Class t
  Value ((kind, class), tt)

unfoldable pub components_of : List Data → Script Fault (List (Word × Name) × Unit {0})
components_of tables = walk component_row tables tt

-- no class stands twice, that of the application included
abbrev pub application_once : Option Name → Script Fault (List Name)
application_once None = Value []
application_once (Some class) = once class []

unfoldable pub component_once : Word × Name → List Name → Script Fault (List Name)
component_once component seen = once component.1 seen

unfoldable pub components_once : List (Word × Name) → List Name → Script Fault (List Name)
components_once components seen = each component_once components seen

unfoldable pub classes_once : Option Name → List (Word × Name) → Script Fault (List Name)
classes_once application components = do
  seen ← application_once application
  components_once components seen

unfoldable pub manifest_form : Members → Script Fault AppManifest
manifest_form t = do
  _ ← known section.Manifest t
  name ← text_at section.Manifest key.Package Text t
  dex_files ← number_at section.Manifest key.DexFiles 1 16 t
  application ← maybe_text_at section.Manifest key.Application Class t
  tables ← tables_at section.Manifest key.Component 4096 t
  named ← maybe_texts_at section.Manifest key.Named Class 4096 t
  components ← components_of tables
  _ ← classes_once application components.0
  Value (record {
    manifest = record { «package» = name; dex_files = dex_files; application = application; components = components.0 };
    named = named;
  })
