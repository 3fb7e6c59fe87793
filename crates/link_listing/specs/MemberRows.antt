-- The fields and methods of the files, each once, by class, name and type or descriptor. A member belongs to the class in whose
-- class data it stands.
-- Android documentation, Dalvik Executable format: "class_data_item", "encoded_field", "encoded_method".
use Rattle.std.specs.Prelude.{ℕ, Bool, true, false, not, List, [], is_some}
use Rattle.vet_base.specs.Script.{Script, Value, ◌>>=◌, test, each, through}
use Rattle.dex_tables.specs.declared.dex.Dex.{Dex}
use Rattle.dex_tables.specs.declared.dex.ClassDef.{ClassDef}
use Rattle.dex_tables.specs.declared.dex.Member.{Member}
use Rattle.dex_tables.specs.declared.dex.Body.{Body}
use Rattle.app_machine.specs.Names.{Name, descriptor_of}
use Rattle.link_listing.specs.declared.fault.Fault.{Fault}
use Rattle.link_listing.specs.declared.fault.Fault.TheVariants.{TwoMembers}
use Rattle.link_listing.specs.declared.members.Listed.{Listed}
use Rattle.link_listing.specs.declared.members.Place.{Place}
use Rattle.link_listing.specs.Texts.{Triple, text_of, type_of, proto_of, field_row, method_row}
use Rattle.link_listing.specs.Flags.{is_static, is_native}
use Rattle.link_listing.specs.Orders.{has_triple, with_triple}

-- fields, each with whether it is static
abbrev pub Fields : Type 0
Fields = List (Triple × Bool)

abbrev pub Methods : Type 0
Methods = List (Triple × Listed)

unfoldable pub field_named : Dex → Name → Member → Triple
field_named dex class member = (class, text_of dex (field_row dex member.index).name, type_of dex (field_row dex member.index).kind)

unfoldable pub method_named : Dex → Name → Body → Triple
method_named dex class body = (class, text_of dex (method_row dex body.index).name, descriptor_of (proto_of dex (method_row dex body.index).proto))

unfoldable pub listed_of : Dex → Place → Body → Listed
listed_of dex place body = record {
  proto = proto_of dex (method_row dex body.index).proto;
  is_static = is_static body.flags;
  is_native = is_native body.flags;
  has_code = is_some body.code;
  place = place;
}

-- the member stands a second time
abbrev pub second : Triple → Fault
second triple = TwoMembers triple.0 triple.1

-- one more field, which is new
unfoldable pub one_field : Dex → Name → Bool → Member → Fields → Script Fault Fields
one_field dex class static member fields = do
  _ ← test (not (has_triple fields (field_named dex class member))) (second (field_named dex class member))
  Value (with_triple fields (field_named dex class member) static)

unfoldable pub some_fields : Dex → Name → Bool → List Member → Fields → Script Fault Fields
some_fields dex class static members fields = each (one_field dex class static) members fields

-- one more method, which is new
unfoldable pub one_method : Dex → Name → Place → Body → Methods → Script Fault Methods
one_method dex class place body methods = do
  _ ← test (not (has_triple methods (method_named dex class body))) (second (method_named dex class body))
  Value (with_triple methods (method_named dex class body) (listed_of dex place body))

-- the place of that number in the list of methods that begins at this one
abbrev pub place_at : Place → ℕ → Place
place_at first i = record first { body = i }

abbrev pub nth_method : Dex → Name → Place → ℕ → Body → Methods → Script Fault Methods
nth_method dex class first i body methods = one_method dex class (place_at first i) body methods

unfoldable pub some_methods : Dex → Name → Place → List Body → Methods → Script Fault Methods
some_methods dex class first bodies methods = through (nth_method dex class first) 0 bodies methods

-- the first place of a list of methods: of the file, of the row of `class_defs`, and which of its two lists
abbrev pub first_of : ℕ → ℕ → Bool → Place
first_of dex class is_virtual = record { dex = dex; class = class; is_virtual = is_virtual; body = 0 }

-- the members of one class: static fields, instance fields, direct methods, virtual methods
unfoldable pub class_members : ℕ → Dex → ℕ → ClassDef → Fields × Methods → Script Fault (Fields × Methods)
class_members d dex c def members = do
  statics ← some_fields dex (type_of dex def.class) true def.statics members.0
  fields ← some_fields dex (type_of dex def.class) false def.instances statics
  directs ← some_methods dex (type_of dex def.class) (first_of d c false) def.directs members.1
  methods ← some_methods dex (type_of dex def.class) (first_of d c true) def.virtuals directs
  Value (fields, methods)

unfoldable pub dex_members : ℕ → Dex → Fields × Methods → Script Fault (Fields × Methods)
dex_members d dex members = through (class_members d dex) 0 dex.classes members

-- all members, in file order
unfoldable pub all_members : List Dex → Script Fault (Fields × Methods)
all_members dexes = through dex_members 0 dexes ([], [])
