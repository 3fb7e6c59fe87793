-- Objects to which callbacks come, by the callback row.
use Rattle.std.specs.Prelude.{◌≡◌, ◌<◌, ◌==◌, ℕ, Bool, true, false, if◌then◌else◌, List, [], ◌++◌, length, filter_map, Option, Some, None, option_map, option_to_list, slice_get}
use Rattle.std.specs.declared.vec.Vec.{Vec}
use Rattle.app_machine.specs.declared.app.App.{App}
use Rattle.app_machine.specs.declared.lists.Callback.{Callback}
use Rattle.app_machine.specs.declared.lists.Lists.{Lists}
use Rattle.app_machine.specs.Names.{Name}
use Rattle.app_machine.specs.State.{World}
use Rattle.app_model.specs.EventBodies.{handed_callback}
use Rattle.event_index.specs.declared.comings.Coming.{Coming}
use Rattle.event_index.specs.Comings.{callback_run}
use Rattle.played_machine.specs.Coming.{Event, Receives}
use Rattle.runner_handed.specs.declared.adding.Reached.{Reached}

-- the object at the place, where the callback row runs a body on it
abbrev pub run_on : App → Lists → ℕ → ℕ → Option Name → Option Reached
run_on app lists q p None = None
run_on app lists q p (Some class) = option_map (λ body. record { place = p; body = body }) (callback_run (handed_callback app lists q class))

-- those of the places to which the callback row comes, where the objects have these classes
abbrev pub runs_on : App → Lists → List Name → ℕ → List ℕ → List Reached
runs_on app lists classes q places = filter_map (λ p. run_on app lists q p (slice_get classes p)) places

abbrev pub positions_of : Option Callback → List (ℕ × ℕ)
positions_of None = []
positions_of (Some callback) = callback.sources

-- the callback of the row on the object
abbrev pub reached_event : World → Lists → ℕ → Reached → Event
reached_event w lists q reached = Receives (Some reached.body) (Some reached.place) (positions_of (slice_get lists.callbacks q)) w

abbrev pub items_of : {A : Type 0} → Option (Vec Reached A) → List Reached
items_of None = []
items_of (Some row) = row.items

-- what is kept of the row
abbrev pub kept_of : {A : Type 0} → List (Vec Reached A) → ℕ → List Reached
kept_of rows q = items_of (slice_get rows q)

-- so many rows, and nothing in each
pub record AreEmpty {A : Type 0} (n : ℕ) (rows : List (Vec Reached A)) : Type 0 where
  pub long : length rows ≡ n
  pub none : (q : ℕ) → kept_of rows q ≡ []

-- the object at the place, where the callback is of the row
abbrev pub if_of_row : ℕ → ℕ → Coming → Option Reached
if_of_row q p coming = if coming.row == q then Some (record { place = p; body = coming.body }) else None

-- the object comes to the row of each of the callbacks
pub record AddsEach {A : Type 0} (p : ℕ) (comings : List Coming) (old new : List (Vec Reached A)) : Type 0 where
  pub long : length new ≡ length old
  pub rows : (q : ℕ) → q < length old → kept_of new q ≡ kept_of old q ++ filter_map (if_of_row q p) comings

pub record AddsOne {A : Type 0} (p : ℕ) (coming : Coming) (old new : List (Vec Reached A)) : Type 0 where
  pub long : length new ≡ length old
  pub rows : (q : ℕ) → q < length old → kept_of new q ≡ kept_of old q ++ option_to_list (if_of_row q p coming)

-- one more place was looked at, and the answer is no where it is that of no object
pub record LooksAt {A : Type 0} (app : App) (lists : Lists) (classes : List Name) (p : ℕ) (old new : List (Vec Reached A)) (is_object : Bool) : Type 0 where
  pub long : length new ≡ length old
  pub rows : (q : ℕ) → q < length old → kept_of new q ≡ kept_of old q ++ option_to_list (run_on app lists q p (slice_get classes p))
  pub object : is_object ≡ true → p < length classes
  pub absent : is_object ≡ false → slice_get classes p ≡ None
