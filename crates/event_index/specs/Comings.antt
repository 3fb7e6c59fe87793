-- Which callbacks come to objects of a class.
use Rattle.std.specs.Prelude.{◌≡◌, ◌==◌, ℕ, cond, zero, suc, List, [], ◌∷◌, ◌++◌, length, Option, Some, None, slice_get}
use Rattle.std.specs.declared.vec.Vec.{Vec}
use Rattle.app_machine.specs.declared.app.App.{App}
use Rattle.app_machine.specs.declared.app.Class.{Class}
use Rattle.app_machine.specs.declared.lists.Callback.{Callback}
use Rattle.app_machine.specs.declared.lists.Lists.{Lists}
use Rattle.app_machine.specs.Names.{Name}
use Rattle.app_model.specs.EventBodies.{handed_callback}
use Rattle.event_index.specs.declared.comings.Coming.{Coming}
use Rattle.event_index.specs.declared.kinds.Column.{Column}
use Rattle.event_index.specs.declared.kinds.Kinds.{Kinds}
use Rattle.event_index.specs.Kinds.{IsColumn}

-- the body that runs, where the callback comes
abbrev pub callback_run : Option (List (ℕ × ℕ) × ℕ) → Option ℕ
callback_run None = None
callback_run (Some called) = Some called.1

abbrev pub coming_of : ℕ → Option ℕ → List Coming
coming_of q None = []
coming_of q (Some body) = record { row = q; body = body } ∷ []

-- its body, where it is of this row
abbrev pub body_if : ℕ → Coming → Option ℕ
body_if q coming = cond (coming.row == q) (Some coming.body) None

-- of the first so many callback rows those that come to objects of the class, each with its body
abbrev pub first_comings : App → Lists → Name → ℕ → List Coming
first_comings app lists class zero = []
first_comings app lists class (suc q) = first_comings app lists class q ++ coming_of q (callback_run (handed_callback app lists q class))

abbrev pub comings : App → Lists → Name → List Coming
comings app lists class = first_comings app lists class (length lists.callbacks)

-- the callbacks that stand at the number of a class of the app are those that come to its objects
pub record HasComings {A : Type 0} (app : App) (lists : Lists) (all : List (Option (Vec Coming A))) : Type 0 where
  pub at : (i : ℕ) (c : Class) (own : Vec Coming A) → slice_get app.classes i ≡ Some c → slice_get all i ≡ Some (Some own) → own.items ≡ comings app lists c.name

-- these come to objects of the class of the number
pub record IsComing (app : App) (lists : Lists) (number : ℕ) (own : List Coming) : Type 0 where
  pub at : (c : Class) → slice_get app.classes number ≡ Some c → own ≡ comings app lists c.name

-- how the class of each callback row is asked for
pub record HasColumns (kinds : Kinds) (callbacks : List Callback) (columns : List Column) : Type 0 where
  pub at : (q : ℕ) (callback : Callback) (column : Column) → slice_get callbacks q ≡ Some callback → slice_get columns q ≡ Some column → IsColumn kinds callback.class column
