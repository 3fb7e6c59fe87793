-- How the parameters of methods are asked for, and what is known of a class that is looked up once.
use Rattle.std.specs.Prelude.{◌≡◌, ◌&&◌, ℕ, Bool, true, false, List, Option, Some, None, slice_get}
use Rattle.std.specs.declared.vec.Vec.{Vec}
use Rattle.app_machine.specs.declared.app.App.{App}
use Rattle.app_machine.specs.declared.lists.Lists.{Lists}
use Rattle.app_machine.specs.declared.method.Method.{Method}
use Rattle.app_machine.specs.Events.{layout, parameter_type}
use Rattle.app_machine.specs.Names.{Name, is_reference}
use Rattle.app_model.specs.Above.{is_below, is_class_below}
use Rattle.app_model.specs.Marks.{is_marked}
use Rattle.event_index.specs.declared.asked.Asked.{Asked}
use Rattle.event_index.specs.declared.below_table.BelowTable.{BelowTable}
use Rattle.event_index.specs.declared.kinds.Kinds.{Kinds}
use Rattle.event_index.specs.Kinds.{IsColumn, IsNumberOf}
use Rattle.event_index.specs.Settled.{IsBelowTable}

-- the type of the position of an argument register in a body that an event runs
abbrev pub type_of_position : List Name → Option ℕ → Option Name
type_of_position params None = None
type_of_position params (Some i) = parameter_type params i

abbrev pub argument_type : List Name → ℕ → Option Name
argument_type params index = type_of_position params (slice_get (layout params) index)

-- a value of the class may be in an argument register of the type
abbrev pub takes_class : App → Lists → Name → Option Name → Bool
takes_class app lists class None = false
takes_class app lists class (Some type) = is_reference type && is_below app lists class type

-- so an argument register of the type is asked for: not at all, where it takes no object
abbrev pub IsAsked : Kinds → Option Name → Option Asked → Type 0
IsAsked kinds None None = Unit {0}
IsAsked kinds None (Some asked) = ⊥
IsAsked kinds (Some type) None = is_reference type ≡ false
IsAsked kinds (Some type) (Some asked) = (asked.kind.now ≡ type) × (is_reference type ≡ true) × IsColumn kinds type asked.column

-- at each index stands how its register is asked for
pub record AreAsked (kinds : Kinds) (params : List Name) (own : List (Option Asked)) : Type 0 where
  pub at : (i : ℕ) (asked : Option Asked) → slice_get own i ≡ Some asked → IsAsked kinds (argument_type params i) asked

pub record HasAsked {A : Type 0} (kinds : Kinds) (methods : List Method) (all : List (Vec (Option Asked) A)) : Type 0 where
  pub at : (n : ℕ) (m : Method) (own : Vec (Option Asked) A) → slice_get methods n ≡ Some m → slice_get all n ≡ Some own → AreAsked kinds m.at.proto.params own.items

-- the row has the types that are above the class as a class or interface
pub record TellsAbove (table : BelowTable) (class : Name) (row : List ℕ) : Type 0 where
  pub at : (type : Name) (k : ℕ) → IsNumberOf table.listed.kinds type k → is_marked row k ≡ is_class_below table.app.now table.listed.lists.now class type

-- the tables that are asked
pub record AreTables {A : Type 0} (table : BelowTable) (asked : List (Vec (Option Asked) A)) : Type 0 where
  pub below : IsBelowTable table
  pub registers : HasAsked table.listed.kinds table.app.now.methods asked
