-- The declaration: the flows that a developer declares.
use Rattle.std.specs.Prelude.{List}
use Rattle.toml.specs.Data.{Data, Members}
use Rattle.vet_base.specs.Script.{Script, Value, ◌>>=◌, walk}
use Rattle.app_machine.specs.Names.{Name}
use Rattle.app_machine.specs.declared.papers.Declaration.{Declaration}
use Rattle.form_fields.specs.declared.fault.Fault.{Fault}
use Rattle.form_fields.specs.declared.words.Section.TheVariants as section
use Rattle.form_fields.specs.declared.words.Key.TheVariants as key
use Rattle.form_fields.specs.declared.spelling.Spelling.TheVariants.{Text}
use Rattle.form_fields.specs.Fields.{known, text_at, tables_at, table_in}

-- a flow: the category of its source and that of its sink
unfoldable pub use_row : Data → Unit {0} → Script Fault ((Name × Name) × Unit {0})
use_row d _ = do
  t ← table_in section.Declaration key.Use d
  _ ← known section.Use t
  source ← text_at section.Use key.Source Text t
  sink ← text_at section.Use key.Sink Text t
  Value ((source, sink), tt)

unfoldable pub uses_of : List Data → Script Fault (List (Name × Name) × Unit {0})
uses_of uses = walk use_row uses tt

unfoldable pub declaration_form : Members → Script Fault Declaration
declaration_form t = do
  _ ← known section.Declaration t
  uses ← tables_at section.Declaration key.Use 4096 t
  pairs ← uses_of uses
  Value (record { pairs = pairs.0 })
