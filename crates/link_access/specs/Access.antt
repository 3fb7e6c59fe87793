-- What the files say of the access to the members of each class.
-- Android documentation, Dalvik Executable format: "class_data_item", "encoded_field", "encoded_method".
use Rattle.std.specs.Prelude.{◌||◌, Bool, List, [], ◌++◌, map, filter, fold, is_some}
use Rattle.dex_tables.specs.declared.dex.Dex.{Dex}
use Rattle.dex_tables.specs.declared.dex.ClassDef.{ClassDef}
use Rattle.dex_tables.specs.declared.dex.Member.{Member}
use Rattle.dex_tables.specs.declared.dex.Body.{Body}
use Rattle.app_machine.specs.Names.{Name, descriptor_of}
use Rattle.link_listing.specs.Texts.{type_of, method_of, field_of}
use Rattle.link_listing.specs.Orders.{with_name}
use Rattle.link_listing.specs.Flags.{is_static, is_native, is_interface}
use Rattle.link_access.specs.declared.access.MethodAccess.{MethodAccess}
use Rattle.link_access.specs.declared.access.ClassAccess.{ClassAccess}
use Rattle.link_access.specs.Flags.{is_private, is_open}

-- with code or native
unfoldable pub may_run : Body → Bool
may_run body = is_some body.code || is_native body.flags

unfoldable pub method_access : Dex → Body → MethodAccess
method_access dex body = record {
  name = (method_of dex body.index).name;
  descriptor = descriptor_of (method_of dex body.index).proto;
  is_static = is_static body.flags;
  is_private = is_private body.flags;
  is_open = is_open body.flags;
}

unfoldable pub methods_of : Dex → List Body → List MethodAccess
methods_of dex bodies = map (method_access dex) (filter may_run bodies)

-- the name and the type of a field
unfoldable pub field_named : Dex → Member → Name × Name
field_named dex member = ((field_of dex member.index).1, (field_of dex member.index).2)

unfoldable pub fields_of : Dex → List Member → List (Name × Name)
fields_of dex members = map (field_named dex) members

unfoldable pub class_access : Dex → ClassDef → ClassAccess
class_access dex def = record {
  is_interface = is_interface def.flags;
  methods = methods_of dex def.directs ++ methods_of dex def.virtuals;
  statics = fields_of dex def.statics;
}

-- classes, each with its name
abbrev pub Accesses : Type 0
Accesses = List (Name × ClassAccess)

-- one class more, under its name
unfoldable pub with_class : Dex → Accesses → ClassDef → Accesses
with_class dex entries def = with_name entries (type_of dex def.class) (class_access dex def)

unfoldable pub with_classes : Accesses → Dex → Accesses
with_classes entries dex = fold (with_class dex) entries dex.classes

-- the classes of all files, by name
unfoldable pub accesses_in : List Dex → Accesses
accesses_in dexes = fold with_classes [] dexes
