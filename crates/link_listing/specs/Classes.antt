-- The classes of the files, each once, by name.
-- Android documentation, Dalvik Executable format: "class_def_item", "class_data_item".
use Rattle.std.specs.Prelude.{Bool, not, ◌&&◌, List, [], ◌++◌, map, filter, is_none, option_map}
use Rattle.vet_base.specs.Script.{Script, Value, ◌>>=◌, test, each}
use Rattle.dex_tables.specs.declared.dex.Dex.{Dex}
use Rattle.dex_tables.specs.declared.dex.ClassDef.{ClassDef}
use Rattle.dex_tables.specs.declared.dex.Body.{Body}
use Rattle.app_machine.specs.declared.app.Class.{Class}
use Rattle.app_machine.specs.declared.call.Proto.{Proto}
use Rattle.app_machine.specs.Names.{Name}
use Rattle.link_listing.specs.declared.fault.Fault.{Fault}
use Rattle.link_listing.specs.declared.fault.Fault.TheVariants.{TwoClasses}
use Rattle.link_listing.specs.Texts.{text_of, type_of, types_of, proto_of, method_row}
use Rattle.link_listing.specs.Flags.{is_native, is_interface}
use Rattle.link_listing.specs.Orders.{has_name, with_name}

-- a method with neither code nor the native flag
unfoldable pub is_bare : Body → Bool
is_bare body = is_none body.code && not (is_native body.flags)

unfoldable pub bare_row : Dex → Body → Name × Proto
bare_row dex body = (text_of dex (method_row dex body.index).name, proto_of dex (method_row dex body.index).proto)

unfoldable pub bare_of : Dex → List Body → List (Name × Proto)
bare_of dex bodies = map (bare_row dex) (filter is_bare bodies)

-- the class that a row of `class_defs` defines; the library classes above it are not known yet
unfoldable pub class_of : Dex → ClassDef → Class
class_of dex def = record {
  name = type_of dex def.class;
  superclass = option_map (type_of dex) def.superclass;
  interfaces = types_of dex def.interfaces;
  is_interface = is_interface def.flags;
  outer = [];
  bare = bare_of dex def.directs ++ bare_of dex def.virtuals;
}

-- one more class, whose name is new
unfoldable pub class_row : Dex → ClassDef → List (Name × Class) → Script Fault (List (Name × Class))
class_row dex def classes = do
  _ ← test (not (has_name classes (type_of dex def.class))) (TwoClasses (type_of dex def.class))
  Value (with_name classes (type_of dex def.class) (class_of dex def))

unfoldable pub dex_classes : Dex → List (Name × Class) → Script Fault (List (Name × Class))
dex_classes dex classes = each (class_row dex) dex.classes classes

-- all classes, in file order
unfoldable pub all_classes : List Dex → Script Fault (List (Name × Class))
all_classes dexes = each dex_classes dexes []
