-- What stands in the files, in file order: each class, field and method, with what the files say of it.
use Rattle.std.specs.Prelude.{ℕ, Bool, true, false, List, ◌++◌, map, flat_map}
use Rattle.std.specs.List.{enumerate_from}
use Rattle.dex_tables.specs.declared.dex.Dex.{Dex}
use Rattle.dex_tables.specs.declared.dex.ClassDef.{ClassDef}
use Rattle.dex_tables.specs.declared.dex.Member.{Member}
use Rattle.dex_tables.specs.declared.dex.Body.{Body}
use Rattle.app_machine.specs.declared.app.Class.{Class}
use Rattle.app_machine.specs.Names.{Name}
use Rattle.link_listing.specs.declared.members.Listed.{Listed}
use Rattle.link_listing.specs.Texts.{Triple, type_of}
use Rattle.link_listing.specs.Classes.{class_of}
use Rattle.link_listing.specs.MemberRows.{Fields, Methods, field_named, method_named, listed_of}

unfoldable pub class_entry : Dex → ClassDef → Name × Class
class_entry dex def = (type_of dex def.class, class_of dex def)

unfoldable pub classes_of : Dex → List (Name × Class)
classes_of dex = map (class_entry dex) dex.classes

-- all classes, with their names
unfoldable pub classes_in : List Dex → List (Name × Class)
classes_in dexes = flat_map classes_of dexes

unfoldable pub field_entry : Dex → Name → Bool → Member → Triple × Bool
field_entry dex class static member = (field_named dex class member, static)

-- the fields of one class, static ones first
unfoldable pub class_fields : Dex → ClassDef → Fields
class_fields dex def = map (field_entry dex (type_of dex def.class) true) def.statics ++ map (field_entry dex (type_of dex def.class) false) def.instances

unfoldable pub fields_of : Dex → Fields
fields_of dex = flat_map (class_fields dex) dex.classes

-- all fields, with whether they are static
unfoldable pub fields_in : List Dex → Fields
fields_in dexes = flat_map fields_of dexes

-- the method of that number among the direct or virtual ones of a class
unfoldable pub method_entry : ℕ × Dex → ℕ × ClassDef → Bool → ℕ × Body → Triple × Listed
method_entry file class is_virtual body = (
  method_named file.1 (type_of file.1 class.1.class) body.1,
  listed_of file.1 (record { dex = file.0; class = class.0; is_virtual = is_virtual; body = body.0 }) body.1,
)

-- the methods of one class, direct ones first
unfoldable pub class_methods : ℕ × Dex → ℕ × ClassDef → Methods
class_methods file class = map (method_entry file class false) (enumerate_from 0 class.1.directs) ++ map (method_entry file class true) (enumerate_from 0 class.1.virtuals)

unfoldable pub methods_of : ℕ × Dex → Methods
methods_of file = flat_map (class_methods file) (enumerate_from 0 file.1.classes)

-- all methods, each with its place
unfoldable pub methods_in : List Dex → Methods
methods_in dexes = flat_map methods_of (enumerate_from 0 dexes)
