-- What scripts make of small apps.
use Rattle.std.specs.Prelude.{◌≡◌, ℕ, suc, List, [], ◌∷◌, length}
use Rattle.app_machine.specs.declared.app.App.{App}
use Rattle.app_machine.specs.declared.lists.Lists.{Lists}
use Rattle.app_machine.specs.Safe.{no_summary, native}
use Rattle.app_machine.specs.State.{Arrival}
use Rattle.machine_witness.specs.Apps.{leaking_app, clear_app, native_app, small_lists}
use Rattle.played_machine.specs.Drawn.{start, drawn}
use Rattle.played_machine.specs.Local.{Playing}
use Rattle.played_machine.specs.Standing.{Stand, stands_of}

-- the last of the states
abbrev pub last_of : Playing → List Playing → Playing
last_of s [] = s
last_of s (t ∷ ts) = last_of t ts

-- the script makes so many steps, after which these labels have arrived, and the state stands here
pub record Plays (app : App) (lists : Lists) (script : List ℕ) (steps : ℕ) (arrivals : List Arrival) (stands : List Stand) : Type 0 where
  pub steps_made : length (drawn app lists script) ≡ suc steps
  pub arrived : (last_of start (drawn app lists script)).world.arrivals ≡ arrivals
  pub stands_here : stands_of app lists (last_of start (drawn app lists script)).world (last_of start (drawn app lists script)).frames ≡ stands

abbrev pub zeros_4 : List ℕ
zeros_4 = 0 ∷ 0 ∷ 0 ∷ 0 ∷ []

-- the lists without a row
abbrev pub lists_without : Lists
lists_without = record small_lists { methods = [] }

abbrev pub the_arrival : Arrival
the_arrival = record { label = 0; sink = 1; method = 0; pc = 4 }

abbrev pub stand : ℕ → ℕ → ℕ → Stand
stand cause method pc = record { cause = cause; method = method; pc = pc }

-- The activity of the leaking app is made and created, takes its id, posts it and returns: twelve bytes.
pub record SmallAppsPlay : Type 0 where
  pub leak : Plays leaking_app small_lists (0 ∷ 0 ∷ 0 ∷ 0 ∷ 0 ∷ 0 ∷ 0 ∷ 0 ∷ 0 ∷ 0 ∷ 0 ∷ 0 ∷ []) 6 (the_arrival ∷ []) []
  -- of nine bytes the last is too few for the post
  pub cut : Plays leaking_app small_lists (0 ∷ 0 ∷ 0 ∷ 0 ∷ 0 ∷ 0 ∷ 0 ∷ 0 ∷ 0 ∷ []) 4 [] []
  pub nothing : Plays leaking_app small_lists [] 0 [] []
  -- the same script leaves the clear sibling before its return
  pub clear : Plays clear_app small_lists (0 ∷ 0 ∷ 0 ∷ 0 ∷ 0 ∷ 0 ∷ 0 ∷ 0 ∷ 0 ∷ 0 ∷ 0 ∷ 0 ∷ []) 5 [] []
  -- where the post raises in place of going on, the label has arrived
  pub raises : Plays leaking_app small_lists (0 ∷ 0 ∷ 0 ∷ 0 ∷ 0 ∷ 0 ∷ 0 ∷ 0 ∷ 0 ∷ 1 ∷ 0 ∷ []) 5 (the_arrival ∷ []) []
  -- no row and no default says what the first call does
  pub stands : Plays leaking_app lists_without (0 ∷ 0 ∷ 0 ∷ []) 2 [] (stand no_summary 0 0 ∷ [])
  pub stands_at_native : Plays native_app small_lists (0 ∷ 0 ∷ 0 ∷ []) 2 [] (stand native 1 0 ∷ [])
