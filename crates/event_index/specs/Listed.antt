-- The rows of the classes of the lists.
use Rattle.std.specs.Prelude.{◌≡◌, ◌||◌, ℕ, Bool, List, Option, Some, None, slice_get}
use Rattle.app_index.specs.Numbers.{HasFirst}
use Rattle.app_machine.specs.declared.lists.LibClass.{LibClass}
use Rattle.app_machine.specs.Names.{Name, same_name}
use Rattle.app_machine.specs.Summaries.{listed_class}
use Rattle.app_model.specs.Above.{is_among}
use Rattle.event_index.specs.contracts.keys.NameKeyPartialEq.TheImpl.{ghosts as key_eq}
use Rattle.event_index.specs.declared.keys.NameKey.{NameKey}
use Rattle.event_index.specs.declared.kinds.Kinds.{Kinds}
use Rattle.event_index.specs.declared.listed.Listed.{Listed}
use Rattle.event_index.specs.Kinds.{AreKinds, HasKinds}

-- whether the class has the name
abbrev pub is_named : NameKey → LibClass → Bool
is_named q c = same_name c.name q.name.now

-- whether the class is the type, or has it above itself
abbrev pub listed_test : LibClass → Name → Bool
listed_test c type = same_name c.name type || is_among c.above type

abbrev pub IsRowOf : Kinds → LibClass → Option (List ℕ) → Type 0
IsRowOf kinds c None = ⊥
IsRowOf kinds c (Some row) = HasKinds kinds row (listed_test c)

-- at the number of each class stands its row
pub record HasRows (kinds : Kinds) (classes : List LibClass) (rows : List (List ℕ)) : Type 0 where
  pub at : (j : ℕ) (c : LibClass) → slice_get classes j ≡ Some c → IsRowOf kinds c (slice_get rows j)

pub record IsListed (listed : Listed) : Type 0 where
  pub kinds : AreKinds listed.kinds
  pub numbers : HasFirst key_eq.eq is_named listed.numbers listed.lists.now.classes
  pub rows : HasRows listed.kinds listed.lists.now.classes listed.rows.items

-- the listed class of the name has the number
pub record IsClassAt (listed : Listed) (name : Name) (number : ℕ) : Type 0 where
  pub class : LibClass
  pub is : listed_class listed.lists.now name ≡ Some class
  pub there : slice_get listed.lists.now.classes number ≡ Some class
