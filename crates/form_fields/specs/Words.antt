-- The tables of the forms, and the keys of each in the order in which they are tested.
use Rattle.std.specs.Prelude.{codes, List, [], ◌∷◌, ◌++◌}
use Rattle.app_machine.specs.Names.{Name}
use Rattle.form_fields.specs.declared.words.Section.{Section}
use Rattle.form_fields.specs.declared.words.Section.TheVariants as section
use Rattle.form_fields.specs.declared.words.Key.{Key}
use Rattle.form_fields.specs.declared.words.Key.TheVariants as key

-- a key as it stands in a table
unfoldable pub text_of : Key → Name
text_of key.AppealDays = codes "appeal_days"
text_of key.Application = codes "application"
text_of key.Bundled = codes "bundled"
text_of key.Callback = codes "callback"
text_of key.Categories = codes "categories"
text_of key.Class = codes "class"
text_of key.Classes = codes "classes"
text_of key.Clicks = codes "clicks"
text_of key.Component = codes "component"
text_of key.Copies = codes "copies"
text_of key.Default = codes "default"
text_of key.DexFiles = codes "dex_files"
text_of key.From = codes "from"
text_of key.Kind = codes "kind"
text_of key.Large = codes "large"
text_of key.Layout = codes "layout"
text_of key.Method = codes "method"
text_of key.Name = codes "name"
text_of key.Named = codes "named"
text_of key.Package = codes "package"
text_of key.Parents = codes "parents"
text_of key.Party = codes "party"
text_of key.Platform = codes "platform"
text_of key.Port = codes "port"
text_of key.Positions = codes "positions"
text_of key.Proto = codes "proto"
text_of key.Puts = codes "puts"
text_of key.Reflective = codes "reflective"
text_of key.Result = codes "result"
text_of key.Role = codes "role"
text_of key.Rows = codes "rows"
text_of key.Shared = codes "shared"
text_of key.Sink = codes "sink"
text_of key.Source = codes "source"
text_of key.Sources = codes "sources"
text_of key.Static = codes "static"
text_of key.Stores = codes "stores"
text_of key.Strict = codes "strict"
text_of key.Token = codes "token"
text_of key.Type = codes "type"
text_of key.Use = codes "use"
text_of key.Workers = codes "workers"

-- a key of an array's tables is named with the array: `use.source`
unfoldable pub prefix_of : Section → Name
prefix_of section.Manifest = []
prefix_of section.Component = codes "component."
prefix_of section.Layouts = []
prefix_of section.Layout = codes "layout."
prefix_of section.Declaration = []
prefix_of section.Use = codes "use."
prefix_of section.Lists = []
prefix_of section.Class = codes "class."
prefix_of section.Shared = codes "shared."
prefix_of section.Method = codes "method."
prefix_of section.Callback = codes "callback."
prefix_of section.Static = codes "static."
prefix_of section.Office = []
prefix_of section.Party = codes "party."

unfoldable pub keys_of : Section → List Key
keys_of section.Manifest = key.Package ∷ key.DexFiles ∷ key.Application ∷ key.Component ∷ key.Named ∷ []
keys_of section.Component = key.Kind ∷ key.Class ∷ []
keys_of section.Layouts = key.Layout ∷ []
keys_of section.Layout = key.Name ∷ key.Clicks ∷ key.Classes ∷ []
keys_of section.Declaration = key.Use ∷ []
keys_of section.Use = key.Source ∷ key.Sink ∷ []
keys_of section.Lists = key.Rows ∷ key.Categories ∷ key.Class ∷ key.Shared ∷ key.Method ∷ key.Callback ∷ key.Strict ∷ key.Platform ∷ key.Bundled ∷ key.Static ∷ key.Large ∷ []
keys_of section.Class = key.Name ∷ key.Parents ∷ key.Default ∷ []
keys_of section.Shared = key.Name ∷ key.Class ∷ []
keys_of section.Method = key.Class ∷ key.Name ∷ key.Proto ∷ key.Static ∷ key.Result ∷ key.From ∷ key.Shared ∷ key.Puts ∷ key.Stores ∷ key.Copies ∷ key.Source ∷ key.Sink ∷ key.Positions ∷ key.Reflective ∷ []
keys_of section.Callback = key.Class ∷ key.Name ∷ key.Proto ∷ key.Sources ∷ []
keys_of section.Static = key.Class ∷ key.Name ∷ key.Type ∷ key.Source ∷ []
keys_of section.Office = key.Port ∷ key.Workers ∷ key.AppealDays ∷ key.Party ∷ []
keys_of section.Party = key.Name ∷ key.Role ∷ key.Token ∷ []

-- how a report names a key
unfoldable pub name_of : Section → Key → Name
name_of s k = prefix_of s ++ text_of k
