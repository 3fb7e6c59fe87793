-- The layouts: the methods that clicks come to, and the classes that stand in them.
use Rattle.std.specs.Prelude.{List, [], ◌++◌}
use Rattle.toml.specs.Data.{Data, Members}
use Rattle.vet_base.specs.Script.{Script, Value, ◌>>=◌, walk}
use Rattle.app_machine.specs.Names.{Name}
use Rattle.app_machine.specs.declared.papers.Layouts.{Layouts}
use Rattle.office_forms.specs.declared.layouts.Found.{Found}
use Rattle.form_fields.specs.declared.fault.Fault.{Fault}
use Rattle.form_fields.specs.declared.words.Section.TheVariants as section
use Rattle.form_fields.specs.declared.words.Key.TheVariants as key
use Rattle.form_fields.specs.declared.spelling.Spelling.TheVariants.{Text, Class}
use Rattle.form_fields.specs.Once.{names_once, with_new}
use Rattle.form_fields.specs.Fields.{known, text_at, texts_at, tables_at, table_in}

-- what the layouts so far have: their clicks, each once, and their classes
pub record Seen : Type 0 where
  pub clicks : List Name
  pub classes : List Name

abbrev pub seen_in : Found → Seen
seen_in found = record { clicks = found.clicks; classes = found.classes.items }

-- the name of a layout, and what is found with it
unfoldable pub layout_row : Data → Seen → Script Fault (Name × Seen)
layout_row d found = do
  t ← table_in section.Layouts key.Layout d
  _ ← known section.Layout t
  name ← text_at section.Layout key.Name Text t
  clicks ← texts_at section.Layout key.Clicks Text 4096 t
  classes ← texts_at section.Layout key.Classes Class 4096 t
  Value (name, record { clicks = with_new found.clicks clicks; classes = found.classes ++ classes })

unfoldable pub layouts_of : List Data → Script Fault (List Name × Seen)
layouts_of layouts = walk layout_row layouts (record { clicks = []; classes = [] })

unfoldable pub layouts_form : Members → Script Fault Layouts
layouts_form t = do
  _ ← known section.Layouts t
  tables ← tables_at section.Layouts key.Layout 4096 t
  found ← layouts_of tables
  _ ← names_once found.0
  Value (record { clicks = found.1.clicks; classes = found.1.classes })
