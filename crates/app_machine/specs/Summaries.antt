-- What the lists say of library classes and of calls of their methods.
use Rattle.std.specs.Prelude.{◌≡◌, ℕ, zero, suc, ◌+◌, Bool, true, false, IsTrue, ◌&&◌, List, [], ◌∷◌, length, map, Option, Some, None, option_map, slice_get, find, flat_map, is_some, if◌then◌else◌}
use Rattle.app_machine.specs.declared.call.Proto.{Proto}
use Rattle.app_machine.specs.declared.call.MethodRef.{MethodRef}
use Rattle.app_machine.specs.declared.app.Class.{Class}
use Rattle.app_machine.specs.declared.app.App.{App}
use Rattle.app_machine.specs.declared.summary.Gives.{Gives}
use Rattle.app_machine.specs.declared.summary.Gives.TheVariants as gives
use Rattle.app_machine.specs.declared.summary.Summary.{Summary}
use Rattle.app_machine.specs.declared.lists.FallbackWord.{FallbackWord}
use Rattle.app_machine.specs.declared.lists.FallbackWord.TheVariants as fallback
use Rattle.app_machine.specs.declared.lists.SummaryId.{SummaryId}
use Rattle.app_machine.specs.declared.lists.SummaryId.TheVariants.{Row, Fallback}
use Rattle.app_machine.specs.declared.lists.LibClass.{LibClass}
use Rattle.app_machine.specs.declared.lists.StaticRow.{StaticRow}
use Rattle.app_machine.specs.declared.lists.Lists.{Lists}
use Rattle.vet_base.specs.Members.{In, first_given, first_index}
use Rattle.app_machine.specs.Names.{Name, same_name, same_proto, is_reference, is_array, array_of, array_types, object_class}
use Rattle.app_machine.specs.Lookups.{class_named, directly_above}

-- the listed class of this name
unfoldable pub listed_class : Lists → Name → Option LibClass
listed_class lists name = find (λ (c : LibClass). same_name c.name name) lists.classes

-- the listed classes above the class, itself first
unfoldable pub listed_above : Lists → Name → List Name
listed_above lists name = elim (listed_class lists name) [ None ↦ [] | Some c ↦ c.above ]

-- the library classes of a class: the nearest above an app class, `Object` for an array, itself otherwise
unfoldable pub library_classes : App → Name → List Name
library_classes app name = elim (class_named app name) [ Some c ↦ c.outer | None ↦ if is_array name then object_class ∷ [] else name ∷ [] ]

-- the classes at which a row is looked for, in order
unfoldable pub row_walk : App → Lists → Name → List Name
row_walk app lists class = flat_map (λ name. listed_above lists name) (library_classes app class)

abbrev pub same_word : Bool → Bool → Bool
same_word true b = b
same_word false true = false
same_word false false = true

-- the number of the class's own row of the method, and of the class with its default
unfoldable pub row_of : Lists → Name → Name → Proto → Bool → Option ℕ
row_of lists class name proto is_static = first_index (λ (s : Summary). same_name s.class class && same_name s.name name && same_proto s.proto proto && same_word s.is_static is_static) lists.methods

unfoldable pub default_of : Lists → Name → Option ℕ
default_of lists class = first_index (λ (c : LibClass). same_name c.name class && is_some c.fallback) lists.classes

-- what a call of the method on the library class does: the first row on the walk, else the first default
unfoldable pub library_key : App → Lists → Name → Name → Proto → Bool → Option SummaryId
library_key app lists class name proto is_static =
    elim (first_given (λ above. row_of lists above name proto is_static) (row_walk app lists class)) [
      | Some i ↦ Some (Row i)
      | None ↦ option_map (λ i. Fallback i) (first_given (λ above. default_of lists above) (row_walk app lists class))
    ]

-- the numbers from i on, so many
abbrev pub numbers_from : ℕ → ℕ → List ℕ
numbers_from i zero = []
numbers_from i (suc n) = i ∷ numbers_from (i + 1) n

-- how many positions a call has: its parameters, and the receiver
abbrev pub position_count : Bool → Proto → ℕ
position_count is_static proto = if is_static then length proto.params else suc (length proto.params)

-- what a default says of a method: joined from all positions, and mixed besides puts every argument into the receiver
abbrev pub default_gives : FallbackWord → Bool → Proto → Gives
default_gives fallback.Blank is_static proto = gives.Blank
default_gives fallback.Joined is_static proto = gives.Joined (numbers_from 0 (position_count is_static proto))
default_gives fallback.Mixed is_static proto = gives.Joined (numbers_from 0 (position_count is_static proto))

abbrev pub default_puts : FallbackWord → Bool → Proto → List (ℕ × ℕ)
default_puts fallback.Blank is_static proto = []
default_puts fallback.Joined is_static proto = []
default_puts fallback.Mixed is_static proto = if is_static then [] else map (λ i. (i, 0)) (numbers_from 1 (length proto.params))

abbrev pub default_summary : FallbackWord → MethodRef → Bool → Summary
default_summary word at is_static = record {
  class = at.class;
  name = at.name;
  proto = at.proto;
  is_static = is_static;
  gives = default_gives word is_static at.proto;
  puts = default_puts word is_static at.proto;
  stores = [];
  copies = [];
  source = None;
  sink = None;
  reflective = false;
}

-- what the row or default says of a call of the method
unfoldable pub summary : Lists → SummaryId → MethodRef → Bool → Option Summary
summary lists (Row i) at is_static = slice_get lists.methods i
summary lists (Fallback i) at is_static = elim (slice_get lists.classes i) [ None ↦ None | Some c ↦ option_map (λ word. default_summary word at is_static) c.fallback ]

-- the row of the static field of this class, name and type
unfoldable pub listed_static : Lists → Name × Name × Name → Option StaticRow
listed_static lists field = find (λ (s : StaticRow). same_name s.class field.0 && (same_name s.name field.1 && same_name s.kind field.2)) lists.statics

abbrev pub source_of : Option StaticRow → Option ℕ
source_of None = None
source_of (Some s) = s.source

-- the category with which the lists label the value of the static of this number
unfoldable pub static_source : App → Lists → ℕ → Option ℕ
static_source app lists g = elim (slice_get app.statics g) [ None ↦ None | Some field ↦ source_of (listed_static lists field) ]

-- A class or interface is below a type: they are equal, the type is `Object`, a class or interface directly above the app
-- class is below the type, or the lists have the type above the class.
-- Java Language Specification, "Subtyping among Class and Interface Types"
pub data ClassBelow (app : App) (lists : Lists) : Name → Name → Type 0 where
  is_same : {class : Name} → ClassBelow app lists class class
  is_object : {class type : Name} →
      type ≡ object_class →
      ClassBelow app lists class type
  is_through : {class above type : Name} (c : Class) →
      class_named app class ≡ Some c →
      In above (directly_above c) →
      ClassBelow app lists above type →
      ClassBelow app lists class type
  is_listed : {class type : Name} →
      In type (listed_above lists class) →
      ClassBelow app lists class type

-- A value of the class may stand where the type is asked for: the class is below the type as a class; or it is an array, and
-- the type is one of those above all arrays; or both are arrays, of a reference type below another type.
-- Java Language Specification, "Subtyping among Array Types"
pub data Below (app : App) (lists : Lists) : Name → Name → Type 0 where
  of_class : {class type : Name} →
      ClassBelow app lists class type →
      Below app lists class type
  of_array : {class type : Name} →
      IsTrue (is_array class) →
      In type array_types →
      Below app lists class type
  of_elements : {class type : Name} →
      IsTrue (is_reference class) →
      Below app lists class type →
      Below app lists (array_of class) (array_of type)
