-- The maps of an index, each with the number of the first row or class of a key.
use Rattle.std.specs.Prelude.{◌≡◌, ℕ, Bool, ◌&&◌, List, is_some}
use Rattle.std.specs.HashMap.{HashMap, get}
use Rattle.app_machine.specs.declared.lists.LibClass.{LibClass}
use Rattle.app_machine.specs.declared.lists.StaticRow.{StaticRow}
use Rattle.app_machine.specs.declared.lists.Lists.{Lists}
use Rattle.app_machine.specs.declared.summary.Summary.{Summary}
use Rattle.app_machine.specs.Names.{same_name, same_names}
use Rattle.app_machine.specs.Summaries.{same_word}
use Rattle.app_index.specs.contracts.keys.ClassKeyPartialEq.TheImpl.{ghosts as class_key_eq}
use Rattle.app_index.specs.contracts.keys.FieldKeyPartialEq.TheImpl.{ghosts as field_key_eq}
use Rattle.app_index.specs.contracts.keys.MethodKeyPartialEq.TheImpl.{ghosts as method_key_eq}
use Rattle.app_index.specs.declared.keys.ClassKey.{ClassKey}
use Rattle.app_index.specs.declared.keys.FieldKey.{FieldKey}
use Rattle.app_index.specs.declared.keys.MethodKey.{MethodKey}
use Rattle.app_index.specs.Handed.{handed_rows}
use Rattle.vet_base.specs.Members.{first_index}

-- the map has of each key the number of the first element that the key is of
pub record HasFirst {A K S : Type 0} (same : K → K → Bool) (is_of : K → A → Bool) (numbers : HashMap K ℕ S) (xs : List A) : Type 0 where
  pub at : (q : K) → get same numbers q ≡ first_index (is_of q) xs

-- whether the row is of the method
abbrev pub is_row_of : MethodKey → Summary → Bool
is_row_of q s = same_name s.class q.class.now && same_name s.name q.name.now && (same_names s.proto.params q.params.now && same_name s.proto.ret q.ret.now) && same_word s.is_static q.is_static

-- whether the class has the name, and whether it has a default besides
abbrev pub is_named : ClassKey → LibClass → Bool
is_named q c = same_name c.name q.name.now

abbrev pub has_default : ClassKey → LibClass → Bool
has_default q c = same_name c.name q.name.now && is_some c.fallback

-- whether the row is of the field
abbrev pub is_field_of : FieldKey → StaticRow → Bool
is_field_of q s = same_name s.class q.class.now && (same_name s.name q.name.now && same_name s.kind q.kind.now)

module _ {S : Type 0} where
  abbrev pub HasMethods : HashMap MethodKey ℕ S → List Summary → Type 0
  HasMethods = HasFirst method_key_eq.eq is_row_of

  abbrev pub HasClasses : HashMap ClassKey ℕ S → List LibClass → Type 0
  HasClasses = HasFirst class_key_eq.eq is_named

  abbrev pub HasDefaults : HashMap ClassKey ℕ S → List LibClass → Type 0
  HasDefaults = HasFirst class_key_eq.eq has_default

  abbrev pub HasStatics : HashMap FieldKey ℕ S → List StaticRow → Type 0
  HasStatics = HasFirst field_key_eq.eq is_field_of

  -- the maps of the lists, and the rows that give back what the library has
  pub record HasNumbers (rows : HashMap MethodKey ℕ S) (names words : HashMap ClassKey ℕ S) (fields : HashMap FieldKey ℕ S) (back : List ℕ) (lists : Lists) : Type 0 where
    pub methods : HasMethods rows lists.methods
    pub classes : HasClasses names lists.classes
    pub defaults : HasDefaults words lists.classes
    pub statics : HasStatics fields lists.statics
    pub handed : back ≡ handed_rows lists
